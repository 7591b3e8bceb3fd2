-- The sink before another one, over many atoms.
use Rattle.std.proofs.Common.{◌≡◌, ℕ, List, [], ◌∷◌, ◌++◌, fold, refl, sym, ◌∙◌, ap, subst, Option, Result, Ok, Err}
use Rattle.std.specs.Prelude.{OnOk}
use Rattle.std.specs.Io.KnownBytes.{append_known}
use Rattle.dcm_lemmas.proofs.Lists.{fold_append}
use Rattle.dcm_devices.specs.Device.{Puts, AppendsFront}
use Rattle.dcm_base.specs.Steps.Atoms.{Atom}
use Rattle.dcm_base.specs.Steps.Steps.{outputs, Goes}
use Rattle.dcm_base.proofs.Writes.Runs.{outputs-append}
use Rattle.dcm_deid.specs.DeidentifySink.{State, next, passed}
use Rattle.dcm_deid.specs.Through.{through_step, through_writes}

module _ {T : Type 0} (step : T → Atom → T) (writes : T → Atom → List ℕ) where
  -- the state of both
  pub through_fold : (s : State) (t : T) (atoms : List Atom) → fold (through_step step) (s, t) atoms ≡ (fold next s atoms, fold step t (outputs next passed s atoms))
  through_fold s t [] = refl
  through_fold s t (a ∷ atoms) = through_fold (next s a) (fold step t (passed s a)) atoms ∙ ap (λ (u : T). (fold next (next s a) atoms, u)) (sym (fold_append step t (passed s a) (outputs next passed (next s a) atoms)))

  -- what the other one writes
  pub through_outputs : (s : State) (t : T) (atoms : List Atom) → outputs (through_step step) (through_writes step writes) (s, t) atoms ≡ outputs step writes t (outputs next passed s atoms)
  through_outputs s t [] = refl
  through_outputs s t (a ∷ atoms) =
      ap (λ (bytes : List ℕ). outputs step writes t (passed s a) ++ bytes) (through_outputs (next s a) (fold step t (passed s a)) atoms)
      ∙ sym (outputs-append step writes t (passed s a) (outputs next passed (next s a) atoms))

  pair_alike : (a b : State) (c d : T) → a ≡ b → c ≡ d → ◌≡◌ {A = State × T} (a, c) (b, d)
  pair_alike a b c d p q = cc

  -- both parts of the state, after a call that went on
  pub state_after : {A E : Type 0} (s t : State) (atoms : List Atom) (old new : T) (held holds : Option (List ℕ)) (r : Result A E) → OnOk r (t ≡ fold next s atoms)
      → Goes step writes old held new holds (outputs next passed s atoms) r → OnOk r (◌≡◌ {A = State × T} (t, new) (fold (through_step step) (s, old) atoms))
  state_after s t atoms old new held holds (Ok x) on taken = pair_alike t (fold next s atoms) new (fold step old (outputs next passed s atoms)) on taken.0 ∙ sym (through_fold s old atoms)
  state_after s t atoms old new held holds (Err x) on taken = tt

  -- what was written
  pub put_after : {A E : Type 0} (s : State) (atoms : List Atom) (old new : T) (held holds : Option (List ℕ)) (r : Result A E) → Goes step writes old held new holds (outputs next passed s atoms) r
      → Puts held holds (outputs (through_step step) (through_writes step writes) (s, old) atoms) r
  put_after s atoms old new held holds (Ok x) taken = taken.1 ∙ ap (append_known held) (sym (through_outputs s old atoms))
  put_after s atoms old new held holds (Err x) taken = subst (λ (bytes : List ℕ). AppendsFront held holds bytes) (sym (through_outputs s old atoms)) taken

-- the state after a call that went on, whatever the key
pub went_on : {A E : Type 0} (P : Type 0) (Q : List ℕ → Type 0) (key : List ℕ) (r : Result A E) → OnOk r ((k : List ℕ) → Q k) → OnOk r (Q key)
went_on P Q key (Ok x) h = h key
went_on P Q key (Err x) h = tt
