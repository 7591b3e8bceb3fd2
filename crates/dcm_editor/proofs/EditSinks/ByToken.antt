-- An element with its whole value, which a sink takes by its tokens.
use Rattle.std.proofs.Common.{List, [], ◌∷◌, ◌++◌, Result, Ok, Err}
use Rattle.std.specs.Prelude.{IsErr}
use Rattle.dcm_base.specs.Steps.Atoms.{Atom}
use Rattle.dcm_devices.specs.declared.device.WriteFailed.{WriteFailed}
use Rattle.dcm_stream.specs.declared.sink.Sink.{Ghosts}
use Rattle.dcm_stream.specs.Sinks.{Took}
use Rattle.dcm_stream.proofs.Runs.Taking.{took_then, took_failed}

abbrev pub Answer : Type 0
Answer = Result (Unit {0}) WriteFailed

abbrev pub TookAs : {X : Type 0} → Ghosts X → (old new : X) → List Atom → Answer → Type 0
TookAs sink old new atoms r = Took {T = Unit {0}} {E = WriteFailed} sink old new atoms r

module _ {X : Type 0} (sink : Ghosts X) where
  -- its head, and a beginning of its value
  pub value_failed : {x : Unit {0}} {e : WriteFailed} (old mid new : X) (head : Atom) (value : List Atom) (end : Atom) (r : Answer) → TookAs sink old mid (head ∷ []) (Ok x) → IsErr r → TookAs sink mid new value (Err e) → TookAs sink old new (head ∷ (value ++ end ∷ [])) r
  value_failed {x} {e} old mid new head value end r opened is held =
      took_then sink (Unit {0}) WriteFailed {x = x} old mid new (head ∷ []) (value ++ end ∷ []) r opened
      (took_failed sink (Unit {0}) WriteFailed {e = e} mid new value (end ∷ []) r is held)

  -- its head, its value and its end
  pub all_taken : {x y : Unit {0}} (old mid near new : X) (head : Atom) (value : List Atom) (end : Atom) (r : Answer) → TookAs sink old mid (head ∷ []) (Ok x) → TookAs sink mid near value (Ok y) → TookAs sink near new (end ∷ []) r → TookAs sink old new (head ∷ (value ++ end ∷ [])) r
  all_taken {x} {y} old mid near new head value end r opened held closed =
      took_then sink (Unit {0}) WriteFailed {x = x} old mid new (head ∷ []) (value ++ end ∷ []) r opened
      (took_then sink (Unit {0}) WriteFailed {x = y} mid near new value (end ∷ []) r held closed)
