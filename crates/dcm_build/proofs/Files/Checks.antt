-- What a check lets through, and what it stops.
use Rattle.std.proofs.Common.{◌≡◌, ◌∙◌, ap, ◌++◌, sym, subst, refl, ℕ, List, [], Bool, true, false, cond, Option, Some, None, Result, Ok, Err}
use Rattle.std.specs.Prelude.{OnOk, IsErrAnd}
use Rattle.std.specs.Io.KnownBytes.{append_known}
use Rattle.dcm_lemmas.proofs.Options.{known_nothing, known_twice}
use Rattle.dcm_base.specs.declared.fault.LineFault.{LineFault}
use Rattle.dcm_devices.specs.Device.{AppendsFront, Puts}
use Rattle.dcm_devices.proofs.Writes.Puts.{puts_behind, front_longer}
use Rattle.dcm_base.specs.Lines.Line.{Step, Meaning, one}
use Rattle.dcm_build.specs.Halts.{LineHalt}
use Rattle.dcm_base.specs.declared.stopped.Stopped.TheVariants.{Refused, Output}
use Rattle.dcm_build.specs.Building.{BuildState, tells, in_group, placed, placed_writes, shows, shows_writes, meaning_taken, meaning_writes}
use Rattle.dcm_build.specs.NewFile.{LineAt, Comes}

-- nothing is written of an element of the meta group
pub none_written : (t : Bool) (xs : List ℕ) (held : Option (List ℕ)) → t ≡ true → held ≡ append_known held (cond t [] xs)
none_written true xs held e = sym (known_nothing held)
none_written false xs held e = absurd (cc)

pub in_set : {T E : Type 0} (r : Result T E) (t : Bool) (new meta set : LineAt → BuildState) → t ≡ false → OnOk r ((at : LineAt) → new at ≡ set at) → OnOk r ((at : LineAt) → new at ≡ cond t (meta at) (set at))
in_set r t new meta set e h = subst (λ u. OnOk r ((at : LineAt) → new at ≡ cond u (meta at) (set at))) (sym e) h

-- a check that fails
pub refused_at : (T : Type 0) (o : Option LineFault) (s x : BuildState) (bytes : List ℕ) (held : Option (List ℕ)) (fault : LineFault) → o ≡ Some fault
    → Comes {T = T} held held s (elim o [ Some f ↦ tells f s | None ↦ x ]) (elim o [ Some f ↦ [] | None ↦ bytes ]) (Err (Refused fault))
refused_at T o s x bytes held fault e =
    subst (λ (o : Option LineFault). Comes {T = T} held held s (elim o [ Some f ↦ tells f s | None ↦ x ]) (elim o [ Some f ↦ [] | None ↦ bytes ]) (Err (Refused fault))) (sym e) (refl, sym (known_nothing held))

-- no check fails
pub passed_at : {T : Type 0} (o : Option LineFault) (s x new : BuildState) (bytes : List ℕ) (held holds : Option (List ℕ)) (r : Result T LineHalt) → o ≡ None
    → Comes held holds new x bytes r → Comes held holds new (elim o [ Some f ↦ tells f s | None ↦ x ]) (elim o [ Some f ↦ [] | None ↦ bytes ]) r
passed_at {T} o s x new bytes held holds r e h =
    subst (λ (o : Option LineFault). Comes {T = T} held holds new (elim o [ Some f ↦ tells f s | None ↦ x ]) (elim o [ Some f ↦ [] | None ↦ bytes ]) r) (sym e) h

-- where the meta group does not end
pub none_put : (t : Bool) (xs : List ℕ) (held : Option (List ℕ)) → t ≡ false → held ≡ append_known held (cond t xs [])
none_put false xs held e = sym (known_nothing held)
none_put true xs held e = absurd (cc)

-- where it ends
pub ends_in_group : {T E : Type 0} (r : Result T E) (t : Bool) (new s over : LineAt → BuildState) → t ≡ true → OnOk r ((at : LineAt) → new at ≡ over at) → OnOk r ((at : LineAt) → new at ≡ cond t (over at) (s at))
ends_in_group r t new s over e h = subst (λ u. OnOk r ((at : LineAt) → new at ≡ cond u (over at) (s at))) (sym e) h

pub group_put : {T E : Type 0} (r : Result T E) (t : Bool) (bytes : List ℕ) (held holds : Option (List ℕ)) → t ≡ true → Puts held holds bytes r → Puts held holds (cond t bytes []) r
group_put r t bytes held holds e h = subst (λ u. Puts held holds (cond u bytes []) r) (sym e) h

-- behind what went out
pub comes_behind : {T : Type 0} (held mid holds : Option (List ℕ)) (new x : BuildState) (first bytes : List ℕ) (r : Result T LineHalt) → mid ≡ append_known held first → Comes mid holds new x bytes r → Comes held holds new x (first ++ bytes) r
comes_behind held mid holds new x first bytes (Ok y) went h = (h.0, h.1 ∙ ap (λ known. append_known known bytes) went ∙ known_twice held first bytes)
comes_behind held mid holds new x first bytes (Err (Refused fault)) went h = (h.0, h.1 ∙ ap (λ known. append_known known bytes) went ∙ known_twice held first bytes)
comes_behind held mid holds new x first bytes (Err Output) went h = puts_behind {T = ℕ} {E = ℕ} held mid holds first bytes (Err 0) went h

pub shown_after : {T : Type 0} (step : Step) (o : Option LineFault) (s t m n new : BuildState) (first : List ℕ) (held mid holds : Option (List ℕ)) (r : Result T LineHalt) → o ≡ None → m ≡ in_group step s → n ≡ in_group step t → mid ≡ append_known held first
    → Comes mid holds new (placed step m) (placed_writes step n) r
    → Comes held holds new (elim o [ Some f ↦ tells f s | None ↦ placed step (in_group step s) ]) (elim o [ Some f ↦ [] | None ↦ first ++ placed_writes step (in_group step t) ]) r
shown_after step o s t m n new first held mid holds r none e f went h =
    passed_at o s (placed step (in_group step s)) new (first ++ placed_writes step (in_group step t)) held holds r none
    (comes_behind held mid holds new (placed step (in_group step s)) first (placed_writes step (in_group step t)) r went
    (subst (λ (z : BuildState). Comes mid holds new (placed step (in_group step s)) (placed_writes step z) r) f
    (subst (λ (z : BuildState). Comes mid holds new (placed step z) (placed_writes step n) r) e h)))

pub failed_shown : {T : Type 0} (o : Option LineFault) (s x new : BuildState) (first more : List ℕ) (held holds : Option (List ℕ)) (r : Result T LineHalt) → o ≡ None → IsErrAnd r (λ h. h ≡ Output) → AppendsFront held holds first
    → Comes held holds new (elim o [ Some f ↦ tells f s | None ↦ x ]) (elim o [ Some f ↦ [] | None ↦ first ++ more ]) r
failed_shown o s x new first more held holds (Ok y) none e front = absurd e
failed_shown {T} o s x new first more held holds (Err h) none e front =
    passed_at {T = T} o s x new (first ++ more) held holds (Err h) none (subst (λ (h : LineHalt). Comes {T = T} held holds new x (first ++ more) (Err h)) (sym e) (front_longer more front))

-- what a line means
pub means_step : {T : Type 0} (m : Meaning) (step : Step) (s t new : BuildState) (held holds : Option (List ℕ)) (r : Result T LineHalt) → one step ≡ m
    → Comes held holds new (shows step s) (shows_writes step t) r → Comes held holds new (meaning_taken m s) (meaning_writes m t) r
means_step {T} m step s t new held holds r e h = subst (λ (m : Meaning). Comes {T = T} held holds new (meaning_taken m s) (meaning_writes m t) r) e h
