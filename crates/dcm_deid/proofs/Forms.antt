-- What an element opens, in its own syntax and in that of what is put.
use Rattle.std.proofs.Common.{◌≡◌, ◌⊎◌, inl, inr, ℕ, refl, ap, sym, ◌∙◌}
use Rattle.dcm_base.proofs.DataSets.Alike.{read_sequence as as_sq}
use Rattle.dcm_base.specs.declared.tag.Tag.{Tag}
use Rattle.dcm_base.specs.declared.vr.Vr.{Vr}
use Rattle.dcm_base.specs.declared.vr.Vr.TheVariants.{SQ, UN, OB, OW}
use Rattle.dcm_base.specs.declared.syntax.Syntax.{Syntax}
use Rattle.dcm_base.specs.declared.syntax.Syntax.TheVariants.{Implicit as implicit_in, Little as little_in, Big as big_in}
use Rattle.dcm_base.specs.declared.dictionary.Dictionary.{Dictionary}
use Rattle.dcm_base.specs.declared.dictionary.Dictionary.TheVariants.{Extract, Standard, Signed}
use Rattle.dcm_base.specs.Tables.Syntax.{Little}
use Rattle.dcm_base.specs.declared.length.Length.{Length}
use Rattle.dcm_base.specs.declared.length.Length.TheVariants.{Known, Undefined}
use Rattle.dcm_base.specs.declared.form.Form.TheVariants.{Value as a_value, Sequence as a_sequence}
use Rattle.dcm_base.specs.Bytes.Spelling.{form, read_in, read_as}

-- what no dictionary reads otherwise
pub read_sq : (d : Dictionary) (tag : Tag) → read_in d tag SQ ≡ SQ
read_sq Extract tag = refl
read_sq Standard tag = refl
read_sq Signed tag = refl

no_value : (s : Syntax) (n : ℕ) → form s SQ (Known n) ≡ a_value → ⊥
unfolding form
no_value s n e = cc

-- a value, in explicit little endian
pub value_alone : (s : Syntax) (tag : Tag) (vr : Vr) (n k : ℕ) → form s (read_as s tag vr) (Known n) ≡ a_value → form Little (read_as Little tag vr) (Known k) ≡ a_value
unfolding form
value_alone s tag SQ n k e = absurd (no_value s n (sym (ap (λ (v : Vr). form s v (Known n)) (as_sq s tag)) ∙ e))
value_alone s tag _ n k e = refl

known_sequence : (s : Syntax) (vr : Vr) (n : ℕ) → form s vr (Known n) ≡ a_sequence → form s vr Undefined ≡ a_sequence
unfolding form
known_sequence s SQ n e = refl
known_sequence s _ n e = cc

-- a sequence, without its length
pub undefined_sequence : (s : Syntax) (vr : Vr) (declared : Length) → form s vr declared ≡ a_sequence → form s vr Undefined ≡ a_sequence
undefined_sequence s vr (Known n) e = known_sequence s vr n e
undefined_sequence s vr Undefined e = e

is_sequence_vr : (s : Syntax) (vr : Vr) → form s vr Undefined ≡ a_sequence → (vr ≡ SQ) ⊎ (vr ≡ UN)
unfolding form
is_sequence_vr s SQ e = inl refl
is_sequence_vr s UN e = inr refl
is_sequence_vr (implicit_in d) OB e = cc
is_sequence_vr (little_in d) OB e = cc
is_sequence_vr (big_in d) OB e = cc
is_sequence_vr (implicit_in d) OW e = cc
is_sequence_vr (little_in d) OW e = cc
is_sequence_vr (big_in d) OW e = cc
is_sequence_vr s _ e = cc

-- a representation but UN is read as it is
read_sequence : (d : Dictionary) (tag : Tag) (vr : Vr) → (read_in d tag vr ≡ SQ) ⊎ (read_in d tag vr ≡ UN) → form Little vr Undefined ≡ a_sequence
unfolding form
read_sequence d tag SQ e = refl
read_sequence d tag UN e = refl
read_sequence Extract tag _ (inl e) = cc
read_sequence Extract tag _ (inr e) = cc
read_sequence Standard tag _ (inl e) = cc
read_sequence Standard tag _ (inr e) = cc
read_sequence Signed tag _ (inl e) = cc
read_sequence Signed tag _ (inr e) = cc

implicit_sequence : (vr : Vr) → (vr ≡ SQ) ⊎ (vr ≡ UN) → form Little vr Undefined ≡ a_sequence
implicit_sequence vr e = read_sequence Extract (record { group = 0; element = 0 }) vr e

-- a sequence, in explicit little endian
pub sequence_alone : (s : Syntax) (tag : Tag) (vr : Vr) (declared : Length) → form s (read_as s tag vr) declared ≡ a_sequence → form Little (read_as Little tag vr) Undefined ≡ a_sequence
sequence_alone (implicit_in d) tag vr declared e = implicit_sequence vr (is_sequence_vr (implicit_in d) vr (undefined_sequence (implicit_in d) vr declared e))
sequence_alone (little_in d) tag vr declared e = read_sequence d tag vr (is_sequence_vr (little_in d) (read_in d tag vr) (undefined_sequence (little_in d) (read_in d tag vr) declared e))
sequence_alone (big_in d) tag vr declared e = read_sequence d tag vr (is_sequence_vr (big_in d) (read_in d tag vr) (undefined_sequence (big_in d) (read_in d tag vr) declared e))
