-- Which tags the standard calls sequences: no element is one that it leaves between two value representations.
use Rattle.std.proofs.Common.{◌≡◌, ℕ, Bool, true, false, ◌==◌, if◌then◌else◌, List, [], ◌∷◌, Option, Some, None, option_map, refl, sym, ◌∙◌, ap, ◌⊎◌, inl, inr}
use Rattle.std.specs.List.{find, list_all}
use Rattle.std.specs.Option.{option_map_or}
use Rattle.std.specs.Prelude.{not}
use Rattle.dcm_lemmas.proofs.Truth.{and_first, and_second, not_true}
use Rattle.dcm_base.specs.declared.tag.Tag.{Tag}
use Rattle.dcm_base.specs.declared.vr.Vr.{Vr}
use Rattle.dcm_base.specs.declared.vr.Vr.TheVariants.{SQ, US, UN, UL, LO}
use Rattle.dcm_base.specs.declared.dictionary.Dictionary.{Dictionary}
use Rattle.dcm_base.specs.declared.dictionary.Dictionary.TheVariants.{Standard, Signed}
use Rattle.dcm_base.specs.Tables.Representation.{is_sequence}
use Rattle.dcm_base.specs.Bytes.Spelling.{read_in}
use Rattle.dcm_base.specs.Tables.Tag.{tag_number}
use Rattle.dcm_base.specs.Tables.Dictionary.{Element, ambiguous, ambiguous_in, element_in, elements_in, is_group_length, is_private_creator, numbered, signed_vr, unlisted_vr, vr_in}

-- the first representation of two, or one that is no sequence
abbrev vr_or : Option (Vr × List ℕ) → Vr → Vr
vr_or o other = option_map_or (λ e. e.0) o other

pub no_other : (v : Vr) → (v ≡ SQ → ⊥) → is_sequence v ≡ false
no_other SQ differs = absurd (differs refl)
no_other _ differs = refl

signed_alike : (v : Vr) → is_sequence (signed_vr v) ≡ is_sequence v
signed_alike US = refl
signed_alike _ = refl

ambiguous_are_none : list_all (λ (e : Element). not (is_sequence e.1)) ambiguous ≡ true
unfolding ambiguous
ambiguous_are_none = refl

row_of : Option Element → Option (Vr × List ℕ)
row_of o = option_map (λ e. (e.1, e.2)) o

module _ (n : ℕ) (other : Vr) (none : is_sequence other ≡ false) where
  here_or_later : (b : Bool) (e : Element) (rest : Option Element) → is_sequence e.1 ≡ false
      → is_sequence (vr_or (option_map (λ e. (e.1, e.2)) rest) other) ≡ false
      → is_sequence (vr_or (option_map (λ e. (e.1, e.2)) (if b then Some e else rest)) other) ≡ false
  here_or_later true e rest here later = here
  here_or_later false e rest here later = later

  none_found : (es : List Element) → list_all (λ (e : Element). not (is_sequence e.1)) es ≡ true
      → is_sequence (vr_or (numbered es n) other) ≡ false
  none_found [] all = none
  none_found (e ∷ es) all =
      here_or_later (e.0 == n) e (find (λ e. e.0 == n) es) (not_true _ (and_first _ _ all))
      (none_found es (and_second _ _ all))

signed_row : (o : Option (Vr × List ℕ)) (other : Vr)
    → is_sequence (vr_or (option_map (λ e. (signed_vr e.0, e.1)) o) other) ≡ is_sequence (vr_or o other)
signed_row None other = refl
signed_row (Some e) other = signed_alike e.0

unlisted_by : (a b : Bool) → is_sequence (if a then UL else if b then LO else UN) ≡ false
unlisted_by true b = refl
unlisted_by false true = refl
unlisted_by false false = refl

or_other : (o : Option (Vr × List ℕ)) (other : Vr) → is_sequence other ≡ false
    → is_sequence (vr_or o UN) ≡ is_sequence (vr_or o other)
or_other None other none = sym none
or_other (Some e) other none = refl

ambiguous_is_none : (t : Tag) → is_sequence (vr_or (ambiguous_in Standard t) (unlisted_vr t)) ≡ false
ambiguous_is_none t =
    none_found (tag_number t) (unlisted_vr t) (unlisted_by (is_group_length t) (is_private_creator t)) ambiguous
    ambiguous_are_none

-- a tag is a sequence by the standard where its element is one, whether pixels are signed or not
pub standard_sequence : (t : Tag) → is_sequence (vr_or (element_in Standard t) UN) ≡ is_sequence (vr_in Standard t)
unfolding vr_in
standard_sequence t = or_other (element_in Standard t) _ (ambiguous_is_none t)

pub signed_sequence : (t : Tag) → is_sequence (vr_or (element_in Standard t) UN) ≡ is_sequence (vr_in Signed t)
unfolding vr_in element_in elements_in
signed_sequence t =
    or_other (element_in Standard t) _
    (signed_row (numbered ambiguous (tag_number t)) (unlisted_vr t) ∙ ambiguous_is_none t)

-- so UN is read as the tag's sequence where the standard has one
pub unknown_is_read : (d : Dictionary) (t : Tag) (b : Bool) → (d ≡ Standard) ⊎ (d ≡ Signed)
    → b ≡ is_sequence (vr_or (element_in Standard t) UN) → (if b then SQ else UN) ≡ read_in d t UN
unknown_is_read d t b (inl is) p =
    ap (λ b. if b then SQ else UN) (p ∙ standard_sequence t) ∙ ap (λ d. read_in d t UN) (sym is)
unknown_is_read d t b (inr is) p =
    ap (λ b. if b then SQ else UN) (p ∙ signed_sequence t) ∙ ap (λ d. read_in d t UN) (sym is)
