-- Whether PatientID of a whole data set names nobody is known from what is left of it, with pseudonyms.
use Rattle.std.proofs.Common.{◌≡◌, ◌∙◌, ap, sym, refl, ℤ, List, ℕ, Bool, true, false, Option, Some, if◌then◌else◌}
use Rattle.std.specs.Prelude.{◌&&◌}
use Rattle.dcm_base.specs.declared.tag.Tag.{Tag}
use Rattle.dcm_base.specs.declared.vr.Vr.{Vr}
use Rattle.dcm_base.specs.Lines.Ascending.{Ascend}
use Rattle.dcm_base.specs.Reading.Bars.{PATIENT_ID}
use Rattle.dcm_base.specs.Tables.Tag.{below, same_tag}
use Rattle.dcm_base.specs.Tables.Transfer.{without_pads}
use Rattle.dcm_base.specs.Tree.Tree.{Trees, no_tree, leaf, sequence, fragments, Items}
use Rattle.dcm_base.proofs.Dictionaries.TagOrder.{below_other_way, tag_is}
use Rattle.dcm_uid.specs.Pseudonym.{patient}
use Rattle.dcm_deid.specs.declared.fate.Fate.{Fate}
use Rattle.dcm_deid.specs.declared.fate.Fate.TheVariants.{Remove, Empty, Replace, Anew, Keep}
use Rattle.dcm_deid.specs.declared.fate.NewValue.TheVariants.{Pseudonym}
use Rattle.dcm_deid.specs.declared.fate.Options.{Options}
use Rattle.dcm_deid.specs.declared.fate.Depth.TheVariants.{Outermost}
use Rattle.dcm_deid.specs.declared.fate.ReadAs.TheVariants.{AsBytes, AsItems}
use Rattle.dcm_deid.specs.Alike.{Alike, moving, struck, value_left}
use Rattle.dcm_deid.specs.Deidentify.{fragments_by, leaf_by, sequence_by}
use Rattle.dcm_deid.specs.Fate.{fate_as}
use Rattle.dcm_deid.specs.MadeNew.{left_of}
use Rattle.dcm_deid.specs.Saying.{read_whole}
use Rattle.dcm_deid.specs.Unnamed.{is_nobody, names_nobody, trees_unnamed, value_unnamed}
use Rattle.dcm_deid.proofs.PatientAtoms.{first_tag_only, still_above}
use Rattle.dcm_deid.proofs.Research.{get_pseudonyms}

-- the first PatientID of what is left has no value, or there is none
abbrev left_unnamed : Trees → Bool
left_unnamed no_tree = true
left_unnamed (leaf tag vr value rest) = if same_tag tag PATIENT_ID then is_nobody value else left_unnamed rest
left_unnamed (sequence tag vr declared items rest) = left_unnamed rest
left_unnamed (fragments tag vr parts rest) = left_unnamed rest

other_leaf : (fate : Fate) (tag : Tag) (vr : Vr) (value : List ℕ) (rest : Trees) → same_tag tag PATIENT_ID ≡ false → left_unnamed (leaf_by fate tag vr value rest) ≡ left_unnamed rest
other_leaf Remove tag vr value rest e = refl
other_leaf Empty tag vr value rest e = ap (λ (c : Bool). if c then is_nobody value else left_unnamed rest) e
other_leaf Replace tag vr value rest e = ap (λ (c : Bool). if c then is_nobody value else left_unnamed rest) e
other_leaf (Anew made) tag vr value rest e = ap (λ (c : Bool). if c then is_nobody value else left_unnamed rest) e
other_leaf Keep tag vr value rest e = ap (λ (c : Bool). if c then is_nobody value else left_unnamed rest) e

no_sequence : (fate : Fate) (tag : Tag) (vr : Vr) (items : Items) (rest : Trees) → left_unnamed (sequence_by fate tag vr items rest) ≡ left_unnamed rest
no_sequence Remove tag vr items rest = refl
no_sequence Empty tag vr items rest = refl
no_sequence Replace tag vr items rest = refl
no_sequence (Anew made) tag vr items rest = refl
no_sequence Keep tag vr items rest = refl

no_list : (fate : Fate) (tag : Tag) (vr : Vr) (parts : List (List ℕ)) (rest : Trees) → left_unnamed (fragments_by fate tag vr parts rest) ≡ left_unnamed rest
no_list Remove tag vr parts rest = refl
no_list Empty tag vr parts rest = refl
no_list Replace tag vr parts rest = refl
no_list (Anew made) tag vr parts rest = refl
no_list Keep tag vr parts rest = refl

module _ (options : Options) (asked : options.pseudonyms ≡ true) where
  abbrev left : Trees → Bool
  left x = left_unnamed (struck options Outermost x)

  abbrev value : Fate → Vr → List ℕ → List ℕ
  value fate vr v = value_left (left_of options) fate vr v

  -- nothing that comes above PatientID is one
  none_above : (t : Tag) (x : Trees) → Ascend (Some t) x → below t PATIENT_ID ≡ false → left x ≡ true
  none_above t no_tree a e = refl
  none_above t (leaf u vr v rest) a e =
      other_leaf (fate_as options Outermost AsBytes u) u vr (value (fate_as options Outermost AsBytes u) vr v) (struck options Outermost rest) (first_tag_only t u (same_tag u PATIENT_ID) refl a.0 e)
      ∙ none_above u rest a.1 (still_above t u (below u PATIENT_ID) refl a.0 e)
  none_above t (sequence u vr declared items rest) a e = no_sequence (fate_as options Outermost AsItems u) u vr _ (struck options Outermost rest) ∙ none_above u rest a.2 (still_above t u (below u PATIENT_ID) refl a.0 e)
  none_above t (fragments u vr parts rest) a e = no_list (fate_as options Outermost AsBytes u) u vr parts (struck options Outermost rest) ∙ none_above u rest a.1 (still_above t u (below u PATIENT_ID) refl a.0 e)

  -- what is left of PatientID is whom it names
  patient_left : (fate : Fate) (tag : Tag) (vr : Vr) (v : List ℕ) (rest : Trees) → fate ≡ Anew Pseudonym → same_tag tag PATIENT_ID ≡ true → left_unnamed (leaf_by fate tag vr (value fate vr v) rest) ≡ is_nobody (patient v)
  unfolding patient left_of
  patient_left fate tag vr v rest is e =
      ap (λ (f : Fate). left_unnamed (leaf_by f tag vr (value f vr v) rest)) is
      ∙ ap (λ (c : Bool). if c then is_nobody (left_of options Pseudonym (without_pads v)) else left_unnamed rest) e

  leaf_left : (tag : Tag) (vr : Vr) (v : List ℕ) (rest : Trees) → trees_unnamed rest true ≡ left rest → Ascend (Some tag) rest → (less same : Bool) → below tag PATIENT_ID ≡ less → same_tag tag PATIENT_ID ≡ same
      → trees_unnamed (leaf tag vr v rest) true ≡ left (leaf tag vr v rest)
  leaf_left tag vr v rest more a true same e is =
      ap (λ (c : Bool). if c then trees_unnamed rest true else value_unnamed tag v) e
      ∙ more
      ∙ sym (other_leaf (fate_as options Outermost AsBytes tag) tag vr (value (fate_as options Outermost AsBytes tag) vr v) (struck options Outermost rest) (below_other_way tag PATIENT_ID e))
  leaf_left tag vr v rest more a false true e is =
      ap (λ (c : Bool). if c then trees_unnamed rest true else value_unnamed tag v) e
      ∙ ap (λ (c : Bool). if c then is_nobody (patient v) else true) is
      ∙ sym (patient_left (fate_as options Outermost AsBytes tag) tag vr v (struck options Outermost rest) (ap (fate_as options Outermost AsBytes) (tag_is tag PATIENT_ID is) ∙ get_pseudonyms options Outermost AsBytes asked) is)
  leaf_left tag vr v rest more a false false e is =
      ap (λ (c : Bool). if c then trees_unnamed rest true else value_unnamed tag v) e
      ∙ ap (λ (c : Bool). if c then is_nobody (patient v) else true) is
      ∙ sym (other_leaf (fate_as options Outermost AsBytes tag) tag vr (value (fate_as options Outermost AsBytes tag) vr v) (struck options Outermost rest) is ∙ none_above tag rest a e)

  list_left : (tag : Tag) (rest : Trees) → trees_unnamed rest true ≡ left rest → Ascend (Some tag) rest → (less : Bool) → below tag PATIENT_ID ≡ less → (if below tag PATIENT_ID then trees_unnamed rest true else true) ≡ left rest
  list_left tag rest more a true e = ap (λ (c : Bool). if c then trees_unnamed rest true else true) e ∙ more
  list_left tag rest more a false e = ap (λ (c : Bool). if c then trees_unnamed rest true else true) e ∙ sym (none_above tag rest a e)

  by_left : (last : Option Tag) (x : Trees) → Ascend last x → trees_unnamed x true ≡ left x
  by_left last no_tree a = refl
  by_left last (leaf tag vr v rest) a = leaf_left tag vr v rest (by_left (Some tag) rest a.1) a.1 (below tag PATIENT_ID) (same_tag tag PATIENT_ID) refl refl
  by_left last (sequence tag vr declared items rest) a = list_left tag rest (by_left (Some tag) rest a.2) a.2 (below tag PATIENT_ID) refl ∙ sym (no_sequence (fate_as options Outermost AsItems tag) tag vr _ (struck options Outermost rest))
  by_left last (fragments tag vr parts rest) a = list_left tag rest (by_left (Some tag) rest a.1) a.1 (below tag PATIENT_ID) refl ∙ sym (no_list (fate_as options Outermost AsBytes tag) tag vr parts (struck options Outermost rest))

-- so data sets that differ only in what is taken do not differ in that, where pseudonyms are asked for
pub same_unnamed : (options : Options) (d e : ℤ) (one other last before : Option Tag) (f g : Trees) (asked : Bool) → options.pseudonyms ≡ asked → Ascend last f → Ascend before g → Alike options Outermost d e f g
    → (asked && names_nobody (read_whole one f)) ≡ (asked && names_nobody (read_whole other g))
unfolding names_nobody
same_unnamed options d e one other last before f g true is a b alike = by_left (moving options d) is last f a ∙ ap left_unnamed alike.same_left ∙ sym (by_left (moving options e) is before g b)
same_unnamed options d e one other last before f g false is a b alike = refl
