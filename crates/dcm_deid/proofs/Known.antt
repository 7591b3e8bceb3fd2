-- The fate of an element by what the dictionary says of it.
use Rattle.std.proofs.Common.{◌≡◌, ℕ, Bool, true, false, ◌&&◌, ◌||◌, not, ◌==◌, if◌then◌else◌, List, Option, Some, None, refl}
use Rattle.std.specs.Option.{option_map_or}
use Rattle.dcm_base.specs.declared.tag.Tag.{Tag}
use Rattle.dcm_base.specs.declared.vr.Vr.{Vr}
use Rattle.dcm_base.specs.declared.dictionary.Dictionary.TheVariants.{Standard}
use Rattle.dcm_base.specs.Tables.Representation.{is_sequence}
use Rattle.dcm_base.specs.Tables.Dictionary.{element_in, ambiguous_in, known_vr_in, first_vr, unlisted_vr, vr_in}
use Rattle.dcm_deid.specs.declared.fate.Fate.{Fate}
use Rattle.dcm_deid.specs.declared.fate.Fate.TheVariants.{Remove}
use Rattle.dcm_deid.specs.declared.fate.Options.{Options}
use Rattle.dcm_deid.specs.declared.fate.Depth.{Depth}
use Rattle.dcm_deid.specs.declared.fate.ReadAs.{ReadAs}
use Rattle.dcm_deid.specs.declared.fate.ReadAs.TheVariants.{AsBytes, AsItems}
use Rattle.dcm_deid.specs.Fate.{fate, fate_as, fate_by_vr, fate_of_known, is_removed, is_put_at}

-- of an element that the dictionary does not have
items_gone : (put zero : Bool) (f : Fate) → Remove ≡ (if put || not (not zero && false) then Remove else f)
items_gone true zero f = refl
items_gone false true f = refl
items_gone false false f = refl

bytes_gone : (opaque : Bool) (f : Fate) → Remove ≡ f → Remove ≡ (if opaque then Remove else f)
bytes_gone true f e = refl
bytes_gone false f e = e

fate_gone : (options : Options) (depth : Depth) (tag : Tag) → known_vr_in Standard tag ≡ None → Remove ≡ fate options depth tag
fate_gone options depth tag none = rw none (items_gone (is_put_at options depth tag) (tag.element == 0) (fate_of_known options tag))

pub unknown_goes : (options : Options) (depth : Depth) (read : ReadAs) (tag : Tag) → known_vr_in Standard tag ≡ None → Remove ≡ fate_as options depth read tag
unfolding fate_as
unknown_goes options depth AsItems tag none = fate_gone options depth tag none
unknown_goes options depth AsBytes tag none =
    bytes_gone (is_sequence (vr_in Standard tag)) (fate options depth tag) (fate_gone options depth tag none)

-- of one that it has
items_fate : (put zero : Bool) (f : Fate) → (if zero || (false || put) then Remove else f) ≡ (if put || not (not zero && true) then Remove else f)
items_fate true true f = refl
items_fate true false f = refl
items_fate false true f = refl
items_fate false false f = refl

bytes_fate : (opaque put zero : Bool) (f : Fate) → (if zero || (opaque || put) then Remove else f) ≡ (if opaque then Remove else (if put || not (not zero && true) then Remove else f))
bytes_fate true put true f = refl
bytes_fate true put false f = refl
bytes_fate false put zero f = items_fate put zero f

abbrev table_fate : Options → Tag → Vr → Fate
table_fate options tag vr = fate_by_vr options tag vr

-- the representation of one that it has is the one by which an implicit head is read
first_known : (a b : Option (Vr × List ℕ)) (other vr : Vr) → first_vr a b ≡ Some vr → option_map_or (λ e. e.0) a (option_map_or (λ e. e.0) b other) ≡ vr
first_known None None other vr is = cc
first_known None (Some e) other vr is = cc
first_known (Some e) b other vr is = cc

vr_known : (tag : Tag) (vr : Vr) → known_vr_in Standard tag ≡ Some vr → vr_in Standard tag ≡ vr
unfolding vr_in
vr_known tag vr is = first_known (element_in Standard tag) (ambiguous_in Standard tag) (unlisted_vr tag) vr is

pub known_fate : (options : Options) (depth : Depth) (read : ReadAs) (tag : Tag) (vr : Vr) → known_vr_in Standard tag ≡ Some vr
    → (if is_removed options depth read tag vr then Remove else table_fate options tag vr) ≡ fate_as options depth read tag
unfolding fate_as
known_fate options depth AsItems tag vr is = rw (is, vr_known tag vr is) (items_fate (is_put_at options depth tag) (tag.element == 0) (table_fate options tag vr))
known_fate options depth AsBytes tag vr is = rw (is, vr_known tag vr is) (bytes_fate (is_sequence vr) (is_put_at options depth tag) (tag.element == 0) (table_fate options tag vr))

pub chosen : (b : Bool) (f : Fate) → b ≡ true → Remove ≡ (if b then Remove else f)
chosen b f e = rw e refl

pub not_chosen : (b : Bool) (f : Fate) → b ≡ false → f ≡ (if b then Remove else f)
not_chosen b f e = rw e refl
