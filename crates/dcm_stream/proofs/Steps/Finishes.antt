-- The end of an input.
use Rattle.std.proofs.Common.{◌≡◌, sym, ap, subst, refl, ℕ, ◌+◌, List, [], ◌∷◌, length, Bool, true, false, cond, Option, None, Result, Ok, Err}
use Rattle.std.specs.Prelude.{fold, IsErrAnd}
use Rattle.std.specs.Io.KnownBytes.{append_known}
use Rattle.dcm_lemmas.proofs.Options.{known_nothing}
use Rattle.dcm_base.specs.declared.fault.Fault.TheVariants.{EndsEarly}
use Rattle.dcm_base.specs.Steps.Atoms.{Atom, ends}
use Rattle.dcm_devices.specs.Device.{AppendsFront}
use Rattle.dcm_base.specs.Steps.Steps.{outputs, Goes}
use Rattle.dcm_base.specs.Reading.Stop.{Stop, complete, refused}
use Rattle.dcm_stream.specs.declared.cursor.Cursor.{Cursor}
use Rattle.dcm_stream.specs.Halts.{Halt}
use Rattle.dcm_base.specs.declared.stopped.Stopped.TheVariants.{Refused, Output}
use Rattle.dcm_stream.specs.Reading.{finish, end_shows}
use Rattle.dcm_stream.specs.Machine.{reading, may_end, went, EndsWith}

pub at_end : (p : Cursor) (t : Bool) → may_end p ≡ t → finish (reading p None) ≡ cond t complete (refused EndsEarly (p.position + length p.head.items))
unfolding finish
at_end p t e = ap (λ (x : Bool). cond x complete (refused EndsEarly (p.position + length p.head.items))) e

module _ {S : Type 0} (step : S → Atom → S) (writes : S → Atom → List ℕ) where
  -- the input ends too early
  pub early_answer : (T : Type 0) (p : Cursor) (at : ℕ) (halt : Halt) → may_end p ≡ false → halt ≡ Refused (record { fault = EndsEarly; at = at }) → at ≡ p.position + length p.head.items → EndsWith {T = T} (finish (reading p None)) (Err halt)
  early_answer T p at halt e h f =
      subst (λ (z : Stop). EndsWith {T = T} z (Err halt)) (sym (at_end p false e)) (subst (λ (x : Halt). EndsWith {T = T} (refused EndsEarly (p.position + length p.head.items)) (Err x)) (sym h) (refl, f))

  pub early_goes : (T : Type 0) (p : Cursor) (at : ℕ) (halt : Halt) (s : S) (held : Option (List ℕ)) → may_end p ≡ false → halt ≡ Refused (record { fault = EndsEarly; at = at })
      → Goes step writes s held s held (end_shows (finish (reading p None))) (went {T = T} (Err halt))
  early_goes T p at halt s held e h =
      subst (λ (z : Stop). Goes step writes s held s held (end_shows z) (went {T = T} (Err halt))) (sym (at_end p false e))
      (subst (λ (x : Halt). Goes step writes s held s held [] (went {T = T} (Err x))) (sym h) (refl, sym (known_nothing held)))

  -- it ends without fault
  pub ends_answer : (T : Type 0) (p : Cursor) (r : Result T Halt) → may_end p ≡ true → IsErrAnd r (λ h. h ≡ Output) → EndsWith (finish (reading p None)) r
  ends_answer T p (Ok x) e h = absurd h
  ends_answer T p (Err halt) e h = subst (λ (z : Stop). EndsWith {T = T} z (Err halt)) (sym (at_end p true e)) (subst (λ (x : Halt). EndsWith {T = T} complete (Err x)) (sym h) tt)

  pub ends_goes : (T : Type 0) (p : Cursor) (r : Result T Halt) (s : S) (held : Option (List ℕ)) (t : S) (holds : Option (List ℕ)) → may_end p ≡ true → IsErrAnd r (λ h. h ≡ Output) → AppendsFront held holds (outputs step writes s (ends ∷ []))
      → Goes step writes s held t holds (end_shows (finish (reading p None))) (went r)
  ends_goes T p (Ok x) s held t holds e h f = absurd h
  ends_goes T p (Err halt) s held t holds e h f =
      subst (λ (z : Stop). Goes step writes s held t holds (end_shows z) (went {T = T} (Err halt))) (sym (at_end p true e))
      (subst (λ (x : Halt). Goes step writes s held t holds (ends ∷ []) (went {T = T} (Err x))) (sym h) f)

  pub whole_goes : (p : Cursor) (s : S) (held : Option (List ℕ)) (t : S) (holds : Option (List ℕ)) → may_end p ≡ true → t ≡ fold step s (ends ∷ []) → holds ≡ append_known held (outputs step writes s (ends ∷ []))
      → (t ≡ fold step s (end_shows (finish (reading p None)))) × (holds ≡ append_known held (outputs step writes s (end_shows (finish (reading p None)))))
  whole_goes p s held t holds e a b = rw (at_end p true e) (a, b)

  pub whole_answer : (T : Type 0) (p : Cursor) (x : T) → may_end p ≡ true → EndsWith {T = T} (finish (reading p None)) (Ok x)
  whole_answer T p x e = subst (λ (z : Stop). EndsWith {T = T} z (Ok x)) (sym (at_end p true e)) tt
