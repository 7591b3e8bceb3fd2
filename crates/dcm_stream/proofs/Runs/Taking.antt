-- What a sink takes in parts.
use Rattle.std.proofs.Common.{◌≡◌, ℕ, List, [], ◌∷◌, ◌++◌, refl, sym, ap, ◌∙◌}
use Rattle.std.specs.Prelude.{fold, Result, Ok, Err, OnOk, IsErr, Bool}
use Rattle.dcm_base.specs.Steps.Atoms.{Atom}
use Rattle.dcm_base.specs.Steps.Steps.{outputs}
use Rattle.dcm_base.proofs.Writes.Runs.{goes_of, goes_on, goes_failed, goes_nowhere}
use Rattle.dcm_devices.specs.Device.{Puts, Tells}
use Rattle.dcm_stream.specs.declared.sink.Sink.{Ghosts}
use Rattle.dcm_stream.specs.Sinks.{Took, Keeps}

tells_then : (A B : Type 0) {T E : Type 0} (old mid new : Bool) (x : A) (r : Result T E) → Tells {T = A} {E = B} old mid (Ok x) → Tells mid new r → Tells old new r
tells_then A B old mid new x (Ok y) a b = b ∙ a
tells_then A B old mid new x (Err e) a b = b

tells_failed : (A B : Type 0) {T E : Type 0} (old new : Bool) (e : B) (r : Result T E) → IsErr r → Tells {T = A} {E = B} old new (Err e) → Tells old new r
tells_failed A B old new e (Ok y) is a = cc
tells_failed A B old new e (Err f) is a = a

module _ {X : Type 0} (sink : Ghosts X) where
  -- one token, by the four clauses of a sink
  pub took_token : {T E : Type 0} (old new : X) (atoms : List Atom) (r : Result T E) → OnOk r (sink.state new ≡ fold sink.step (sink.state old) atoms)
      → Puts (sink.contents old) (sink.contents new) (outputs sink.step sink.writes (sink.state old) atoms) r → Tells (sink.has_failed old) (sink.has_failed new) r → Keeps sink old new → Took sink old new atoms r
  took_token old new atoms r state bytes failed kept = record {
    takes = goes_of sink.step sink.writes (sink.state old) (sink.contents old) (sink.state new) (sink.contents new) atoms r state bytes;
    failed = failed;
    kept = kept;
  }

  -- nothing
  pub took_nothing : {T E : Type 0} (old : X) (x : T) → Took {T = T} {E = E} sink old old [] (Ok x)
  took_nothing {T} {E} old x = record {
    takes = goes_nowhere sink.step sink.writes E (sink.state old) (sink.contents old) x;
    failed = refl;
    kept = refl;
  }

  -- one part and then another
  pub took_then : (A B : Type 0) {T E : Type 0} {x : A} (old mid new : X) (first rest : List Atom) (r : Result T E) → Took {T = A} {E = B} sink old mid first (Ok x) → Took sink mid new rest r → Took sink old new (first ++ rest) r
  took_then A B {x = x} old mid new first rest r a b = record {
    takes = goes_on sink.step sink.writes (sink.state old) (sink.contents old) (sink.state mid) (sink.contents mid) (sink.state new) (sink.contents new) first rest r a.takes.0 a.takes.1 b.takes;
    failed = tells_then A B (sink.has_failed old) (sink.has_failed mid) (sink.has_failed new) x r a.failed b.failed;
    kept = b.kept ∙ a.kept;
  }

  -- a failure in the first part
  pub took_failed : (A B : Type 0) {T E : Type 0} {e : B} (old new : X) (first rest : List Atom) (r : Result T E) → IsErr r → Took {T = A} {E = B} sink old new first (Err e) → Took sink old new (first ++ rest) r
  took_failed A B {e = e} old new first rest r is a = record {
    takes = goes_failed sink.step sink.writes (sink.state old) (sink.contents old) (sink.state new) (sink.contents new) first rest r is a.takes;
    failed = tells_failed A B (sink.has_failed old) (sink.has_failed new) e r is a.failed;
    kept = a.kept;
  }
