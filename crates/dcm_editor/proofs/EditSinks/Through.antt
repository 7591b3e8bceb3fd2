-- The edit sink before another sink, over many atoms.
use Rattle.std.proofs.Common.{◌≡◌, ℕ, List, [], ◌∷◌, ◌++◌, fold, refl, sym, ◌∙◌, ap}
use Rattle.dcm_lemmas.proofs.Lists.{fold_append}
use Rattle.dcm_base.specs.Steps.Atoms.{Atom}
use Rattle.dcm_base.specs.Steps.Steps.{outputs}
use Rattle.dcm_base.proofs.Writes.Runs.{outputs-append}
use Rattle.dcm_editor.specs.EditSink.{State, next, passed}
use Rattle.dcm_editor.specs.Through.{through_step, through_writes}

module _ {T : Type 0} (step : T → Atom → T) (writes : T → Atom → List ℕ) where
  -- the state of both
  pub through_fold : (s : State) (t : T) (atoms : List Atom) → fold (through_step step) (s, t) atoms ≡ (fold next s atoms, fold step t (outputs next passed s atoms))
  through_fold s t [] = refl
  through_fold s t (a ∷ atoms) = through_fold (next s a) (fold step t (passed s a)) atoms ∙ ap (λ (u : T). (fold next (next s a) atoms, u)) (sym (fold_append step t (passed s a) (outputs next passed (next s a) atoms)))

  -- what the other one writes
  pub through_outputs : (s : State) (t : T) (atoms : List Atom) → outputs (through_step step) (through_writes step writes) (s, t) atoms ≡ outputs step writes t (outputs next passed s atoms)
  through_outputs s t [] = refl
  through_outputs s t (a ∷ atoms) =
      ap (λ (bytes : List ℕ). outputs step writes t (passed s a) ++ bytes) (through_outputs (next s a) (fold step t (passed s a)) atoms)
      ∙ sym (outputs-append step writes t (passed s a) (outputs next passed (next s a) atoms))
