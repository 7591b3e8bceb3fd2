-- The bar where a patient is looked for, by the atoms so far.
use Rattle.std.proofs.Common.{◌≡◌, ◌∙◌, ap, refl, ℕ, zero, suc, List, [], ◌∷◌, length, Option, Some, None, Bool, true, false, cond}
use Rattle.std.specs.Prelude.{fold, if◌then◌else◌}
use Rattle.dcm_editor.proofs.ReadBack.IdentityBar.{barred_alike, passed_above}
use Rattle.dcm_lemmas.proofs.Numbers.{nothing_added}
use Rattle.dcm_base.specs.declared.fault.Fault.{Fault}
use Rattle.dcm_base.specs.declared.fault.Fault.TheVariants.{NotAscending, IdentityStays, NoPatientId}
use Rattle.dcm_base.specs.declared.syntax.Syntax.{Syntax}
use Rattle.dcm_base.specs.declared.tag.Tag.{Tag}
use Rattle.dcm_base.specs.Reading.Bars.{is_above, innermost_reached, holds_identity, items_open, reaches_patient, patient_fault, patient_bar}
use Rattle.dcm_base.specs.Reading.Stop.{HeadBar, is_early_bar}
use Rattle.dcm_base.specs.Steps.Atoms.{Atom, Shows}
use Rattle.dcm_base.specs.Tree.Front.{Front}
use Rattle.dcm_stream.specs.Ascending.{reached_after, innermost}
use Rattle.dcm_stream.proofs.Steps.Ascending.{ascending_bars, front_items}
use Rattle.dcm_editor.proofs.ReadBack.Rises.{KeepsOrder}

abbrev one_less : ℕ → ℕ
one_less zero = zero
one_less (suc n) = n

abbrev reached : List Atom → List (Option Tag)
reached atoms = fold reached_after (None ∷ []) atoms

abbrev pub patient : List Atom → HeadBar
patient atoms tag vr declared = if is_above tag (innermost (reached atoms)) then patient_fault (one_less (length (reached atoms))) tag else Some NotAscending

pub never : (a b c : Bool) → is_early_bar (cond a (cond b (Some IdentityStays) (cond c (Some NoPatientId) None)) (Some NotAscending)) ≡ false
never true true c = refl
never true false true = refl
never true false false = refl
never false b c = refl

items_are : (f : Front) (atoms : List Atom) → Shows f atoms → one_less (length (reached atoms)) ≡ items_open f
items_are f atoms shows = ap one_less (front_items f atoms [] shows) ∙ nothing_added (items_open f)

pub patient_in_order : KeepsOrder patient patient_bar
patient_in_order = record {
  same = record {
    agree = λ f atoms shows tag vr declared.
        barred_alike (is_above tag (innermost (reached atoms))) (is_above tag (innermost_reached f)) (patient_fault (one_less (length (reached atoms))) tag) (ascending_bars.agree f atoms shows tag vr declared)
        ∙ ap (λ (n : ℕ). cond {A = Option Fault} (is_above tag (innermost_reached f)) (patient_fault n tag) (Some NotAscending)) (items_are f atoms shows);
    never_early = λ f tag vr declared. never (is_above tag (innermost_reached f)) (holds_identity tag) (reaches_patient (items_open f) tag);
  };
  late = λ atoms tag vr declared. never (is_above tag (innermost (reached atoms))) (holds_identity tag) (reaches_patient (one_less (length (reached atoms))) tag);
  above = λ atoms tag vr declared. passed_above (is_above tag (innermost (reached atoms))) (patient_fault (one_less (length (reached atoms))) tag);
}
