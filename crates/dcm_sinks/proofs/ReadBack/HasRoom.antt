-- A data set that a target syntax has room for.
use Rattle.std.proofs.Common.{◌≡◌, ◌≢◌, ◌∙◌, refl, sym, ap, ℕ, suc, ◌<◌, List, [], ◌∷◌, length}
use Rattle.std.specs.Prelude.{true}
use Rattle.dcm_base.specs.declared.vr.Vr.{Vr}
use Rattle.dcm_base.specs.declared.vr.Vr.TheVariants.{SQ, UN, OB, OW}
use Rattle.dcm_base.specs.declared.dictionary.Dictionary.{Dictionary}
use Rattle.dcm_base.specs.declared.syntax.Syntax.TheVariants.{Implicit as implicit_in, Little as little_in, Big as big_in}
use Rattle.dcm_base.specs.Tables.Dictionary.{vr_in}
use Rattle.dcm_base.specs.Tables.Syntax.{dictionary_of, read_by}
use Rattle.dcm_base.proofs.DataSets.Alike.{unsigned, Alike, unsigned_sequence, sequence_alike, read_alike, after_leaf_alike}
use Rattle.dcm_base.specs.declared.tag.Tag.{Tag}
use Rattle.dcm_base.specs.declared.syntax.Syntax.{Syntax}
use Rattle.dcm_base.specs.declared.length.Length.TheVariants.{Known, Undefined}
use Rattle.dcm_base.specs.Tree.Tree.{Trees, no_tree, leaf, sequence, fragments, Items, no_item, item}
use Rattle.dcm_base.specs.Tables.Number.{IsTag}
use Rattle.dcm_base.specs.Reading.Place.{is_data}
use Rattle.dcm_base.specs.declared.form.Form.TheVariants.{Value as a_value, Sequence as a_sequence, FragmentList as a_fragment_list}
use Rattle.dcm_base.specs.Bytes.Spelling.{form, read_as, read_in, after, dictionary_after}
use Rattle.dcm_base.specs.Conversion.Recode.{even}
use Rattle.dcm_base.specs.Conversion.Normal.{normal_vr, normal_sequence_vr, UnlessGroupLength}
use Rattle.dcm_base.specs.Reading.Bars.{holds_fragments}

-- the tag of an element of a data set
abbrev pub IsElement : Tag → Type 0
IsElement t = IsTag t × (is_data t ≡ true)

-- each length is a known one
abbrev pub AreShort : List (List ℕ) → Type 0
AreShort [] = Unit {0}
AreShort (v ∷ values) = (length v < 0xFFFFFFFF) × AreShort values

-- n sequences and fragment lists stand around it
unfoldable mutual
  pub Ready : Syntax → ℕ → Trees → Type 0
  Ready s n no_tree = Unit {0}
  Ready s n (leaf t vr v rest) = UnlessGroupLength t (IsElement t × (length v < 0xFFFFFFFF) × (form s (read_as s t (normal_vr s t vr (length v))) (Known (even (length v))) ≡ a_value)) × Ready s n rest
  Ready s n (sequence t vr size items rest) = UnlessGroupLength t (IsElement t × (n < 64) × (form s (normal_sequence_vr s t) Undefined ≡ a_sequence) × ReadyItems s (suc n) items) × Ready s n rest
  Ready s n (fragments t vr values rest) = UnlessGroupLength t (IsElement t × (n < 64) × (holds_fragments s ≡ true) × (form s vr Undefined ≡ a_fragment_list) × AreShort values) × Ready s n rest

  pub ReadyItems : Syntax → ℕ → Items → Type 0
  ReadyItems s n no_item = Unit {0}
  ReadyItems s n (item size set rest) = Ready s n set × ReadyItems s n rest

-- ---- by a dictionary that differs by the sign alone

known_form : (s r : Syntax) (vr : Vr) (n : ℕ) → form s vr (Known n) ≡ form r vr (Known n)
unfolding form
known_form s r SQ n = refl
known_form s r vr n = refl

known_value : (s : Syntax) (vr : Vr) (n : ℕ) → form s vr (Known n) ≡ a_value → vr ≢ SQ
unfolding form
known_value s SQ n e = absurd (cc)
known_value s vr n e = λ k. cc

value_known : (s : Syntax) (vr : Vr) (n : ℕ) → vr ≢ SQ → form s vr (Known n) ≡ a_value
unfolding form
value_known s SQ n h = absurd (h refl)
value_known s vr n h = refl

value_by : (s : Syntax) (d : Dictionary) (t : Tag) (vr : Vr) (n m : ℕ) → Alike d (dictionary_of s) → form s (read_as s t (normal_vr s t vr n)) (Known m) ≡ a_value → form (read_by d s) (read_as (read_by d s) t (normal_vr (read_by d s) t vr n)) (Known m) ≡ a_value
value_by (implicit_in e) d t vr n m same h =
    value_known (implicit_in d) (vr_in d t) m (λ k. known_value (implicit_in e) (vr_in e t) m h (unsigned_sequence (vr_in e t) (sym (same t).0 ∙ ap unsigned k)))
value_by (little_in e) d t vr n m same h =
    let v : Vr = normal_vr (little_in e) t vr n in
    known_form (little_in d) (little_in e) (read_in d t v) m ∙ ap (λ (x : Vr). form (little_in e) x (Known m)) (read_alike d e t v same) ∙ h
value_by (big_in e) d t vr n m same h =
    let v : Vr = normal_vr (big_in e) t vr n in
    known_form (big_in d) (big_in e) (read_in d t v) m ∙ ap (λ (x : Vr). form (big_in e) x (Known m)) (read_alike d e t v same) ∙ h

sequence_by : (s : Syntax) (d : Dictionary) (t : Tag) → Alike d (dictionary_of s) → form s (normal_sequence_vr s t) Undefined ≡ a_sequence → form (read_by d s) (normal_sequence_vr (read_by d s) t) Undefined ≡ a_sequence
unfolding form
sequence_by (implicit_in e) d t same h = sequence_alike e d (vr_in e t) (vr_in d t) (sym (same t).0) h
sequence_by (little_in e) d t same h = refl
sequence_by (big_in e) d t same h = refl

fragments_by : (s : Syntax) (d : Dictionary) (vr : Vr) → form s vr Undefined ≡ form (read_by d s) vr Undefined
unfolding form
fragments_by (implicit_in e) d SQ = refl
fragments_by (implicit_in e) d UN = refl
fragments_by (implicit_in e) d vr = refl
fragments_by (little_in e) d SQ = refl
fragments_by (little_in e) d UN = refl
fragments_by (little_in e) d OB = refl
fragments_by (little_in e) d OW = refl
fragments_by (little_in e) d vr = refl
fragments_by (big_in e) d SQ = refl
fragments_by (big_in e) d UN = refl
fragments_by (big_in e) d vr = refl

holds_by : (s : Syntax) (d : Dictionary) → holds_fragments s ≡ true → holds_fragments (read_by d s) ≡ true
holds_by (implicit_in e) d h = h
holds_by (little_in e) d h = refl
holds_by (big_in e) d h = h

mutual
  unfolding Ready

  pub ready_by : (s : Syntax) (d : Dictionary) (n : ℕ) (x : Trees) → Alike d (dictionary_of s) → Ready s n x → Ready (read_by d s) n x
  ready_by s d n no_tree same h = tt
  ready_by s d n (leaf t vr v rest) same h =
      (λ e. let k = h.0 e in (k.0, k.1, value_by s d t vr (length v) (even (length v)) same k.2), ready_by s d n rest same h.1)
  ready_by s d n (sequence t vr size items rest) same h =
      (λ e. let k = h.0 e in (k.0, k.1, sequence_by s d t same k.2, ready_items_by s d (suc n) items same k.3), ready_by s d n rest same h.1)
  ready_by s d n (fragments t vr values rest) same h =
      (λ e. let k = h.0 e in (k.0, k.1, holds_by s d k.2, sym (fragments_by s d vr) ∙ k.3, k.4), ready_by s d n rest same h.1)

  pub ready_items_by : (s : Syntax) (d : Dictionary) (n : ℕ) (x : Items) → Alike d (dictionary_of s) → ReadyItems s n x → ReadyItems (read_by d s) n x
  ready_items_by s d n no_item same h = tt
  ready_items_by s d n (item size set rest) same h = (ready_by s d n set same h.0, ready_items_by s d n rest same h.1)

-- so it is after a leaf
pub ready_after : (s : Syntax) (t : Tag) (vr : Vr) (v : List ℕ) (n : ℕ) (x : Trees) → Ready s n x → Ready (after s t vr v) n x
ready_after s t vr v n x h = ready_by s (dictionary_after (dictionary_of s) t vr v) n x (after_leaf_alike s t vr v) h
