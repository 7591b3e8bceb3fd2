-- The sink that notes whom PatientID names is, apart from that, the one that it passes all on to.
use Rattle.std.proofs.Common.{◌≡◌, ◌∙◌, ap, sym, refl, subst, ℕ, List, [], ◌∷◌, ◌++◌, fold, Option, Some, None, Result, Ok, Err}
use Rattle.std.specs.Prelude.{OnOk, Bool, true, false, ◌&&◌}
use Rattle.dcm_devices.specs.Device.{Puts}
use Rattle.dcm_base.specs.Steps.Atoms.{Atom, Shows, is_closed}
use Rattle.dcm_base.specs.Steps.Steps.{outputs}
use Rattle.dcm_base.specs.Tree.Front.{Front}
use Rattle.dcm_sinks.specs.Laws.{StaysShallow}
use Rattle.dcm_deid.specs.Patient.{PatientState, patient_begun, patient_next}
use Rattle.dcm_deid.specs.Unnamed.{names_nobody}
use Rattle.dcm_deid.specs.WithPatient.{is_unnamed, noted, noting, noting_step, noting_writes}
use Rattle.dcm_deid.proofs.PatientTold.{nobody_steps}

-- what is noted of atoms
pub noted_some : (p : PatientState) (atoms : List Atom) → fold noted (Some p) atoms ≡ Some (fold patient_next p atoms)
noted_some p [] = refl
noted_some p (a ∷ atoms) = noted_some (patient_next p a) atoms

pub noted_none : (atoms : List Atom) → fold noted None atoms ≡ None
noted_none [] = refl
noted_none (a ∷ atoms) = noted_none atoms

module _ {S : Type 0} (step : S → Atom → S) (writes : S → Atom → List ℕ) where
  pub noting_fold : (p : Option PatientState) (s : S) (atoms : List Atom) → fold (noting_step step) (p, s) atoms ≡ (fold noted p atoms, fold step s atoms)
  noting_fold p s [] = refl
  noting_fold p s (a ∷ atoms) = noting_fold (noted p a) (step s a) atoms

  pub noting_outputs : (p : Option PatientState) (s : S) (atoms : List Atom) → outputs (noting_step step) (noting_writes writes) (p, s) atoms ≡ outputs step writes s atoms
  noting_outputs p s [] = refl
  noting_outputs p s (a ∷ atoms) = ap (λ (bytes : List ℕ). writes s a ++ bytes) (noting_outputs (noted p a) (step s a) atoms)

  pair_alike : (a b : Option PatientState) (c d : S) → a ≡ b → c ≡ d → ◌≡◌ {A = Option PatientState × S} (a, c) (b, d)
  pair_alike a b c d p q = cc

  -- after a call that went on
  pub state_after : {A E : Type 0} (p q : Option PatientState) (old new : S) (atoms : List Atom) (r : Result A E) → q ≡ fold noted p atoms → OnOk r (new ≡ fold step old atoms) → OnOk r (◌≡◌ {A = Option PatientState × S} (q, new) (fold (noting_step step) (p, old) atoms))
  state_after p q old new atoms (Ok x) is on = pair_alike q (fold noted p atoms) new (fold step old atoms) is on ∙ sym (noting_fold p old atoms)
  state_after p q old new atoms (Err x) is on = tt

  -- what was written
  pub put_after : {A E : Type 0} (p : Option PatientState) (old : S) (atoms : List Atom) (held holds : Option (List ℕ)) (r : Result A E) → Puts held holds (outputs step writes old atoms) r → Puts held holds (outputs (noting_step step) (noting_writes writes) (p, old) atoms) r
  put_after p old atoms held holds r put = subst (λ (bytes : List ℕ). Puts held holds bytes r) (sym (noting_outputs p old atoms)) put

-- where that was asked, and where not
pub unnamed_steps : (asked : Bool) (f : Front) (atoms : List Atom) → StaysShallow 0 atoms → Shows f atoms → is_unnamed (fold noted (noting asked) atoms) (is_closed f) ≡ (asked && names_nobody f)
unnamed_steps true f atoms h shown = ap (λ (p : Option PatientState). is_unnamed p (is_closed f)) (noted_some patient_begun atoms) ∙ nobody_steps f atoms h shown
unnamed_steps false f atoms h shown = ap (λ (p : Option PatientState). is_unnamed p (is_closed f)) (noted_none atoms)
