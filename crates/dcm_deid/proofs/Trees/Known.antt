-- What stays is known.
use Rattle.std.proofs.Common.{◌≡◌, refl, Bool, true, false}
use Rattle.std.specs.Prelude.{◌≢◌, ◌||◌, not, if◌then◌else◌}
use Rattle.dcm_base.specs.declared.tag.Tag.{Tag}
use Rattle.dcm_base.specs.declared.dictionary.Dictionary.TheVariants.{Standard}
use Rattle.dcm_base.specs.Tables.Representation.{is_sequence}
use Rattle.dcm_base.specs.Tables.Dictionary.{vr_in}
use Rattle.dcm_deid.specs.declared.fate.Fate.{Fate}
use Rattle.dcm_deid.specs.declared.fate.Fate.TheVariants.{Remove}
use Rattle.dcm_deid.specs.declared.fate.Options.{Options}
use Rattle.dcm_deid.specs.declared.fate.Depth.{Depth}
use Rattle.dcm_deid.specs.declared.fate.ReadAs.{ReadAs}
use Rattle.dcm_deid.specs.declared.fate.ReadAs.TheVariants.{AsBytes, AsItems}
use Rattle.dcm_deid.specs.Fate.{is_put_at, is_known, fate_of_known, fate, fate_as}

known_if : (p k : Bool) (f : Fate) → (if p || not k then Remove else f) ≢ Remove → k ≡ true
known_if p true f h = refl
known_if true false f h = absurd (h refl)
known_if false false f h = absurd (h refl)

stays_if : (q : Bool) (f : Fate) → (if q then Remove else f) ≢ Remove → (q ≡ false) × (f ≢ Remove)
stays_if true f h = absurd (h refl)
stays_if false f h = (refl, h)

known_fate : (options : Options) (depth : Depth) (tag : Tag) → fate options depth tag ≢ Remove → is_known tag ≡ true
known_fate options depth tag h = known_if (is_put_at options depth tag) (is_known tag) (fate_of_known options tag) h

pub known : (options : Options) (depth : Depth) (form : ReadAs) (tag : Tag) → fate_as options depth form tag ≢ Remove → is_known tag ≡ true
unfolding fate_as
known options depth AsItems tag h = known_fate options depth tag h
known options depth AsBytes tag h = known_fate options depth tag (stays_if (is_sequence (vr_in Standard tag)) (fate options depth tag) h).1

pub transparent : (options : Options) (depth : Depth) (tag : Tag) → fate_as options depth AsBytes tag ≢ Remove → is_sequence (vr_in Standard tag) ≡ false
unfolding fate_as
transparent options depth tag h = (stays_if (is_sequence (vr_in Standard tag)) (fate options depth tag) h).0
