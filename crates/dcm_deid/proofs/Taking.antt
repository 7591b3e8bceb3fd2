-- What a sink takes in parts, where each call answers nothing but whether its writer failed.
use Rattle.std.proofs.Common.{◌≡◌, ℕ, List, [], ◌++◌, Bool, true, sym, subst}
use Rattle.std.specs.Prelude.{fold, Result, Ok, Err, OnOk, IsErr}
use Rattle.std.proofs.lemmas.List.{append-nil}
use Rattle.dcm_devices.specs.declared.device.WriteFailed.{WriteFailed}
use Rattle.dcm_devices.specs.Device.{Puts, Tells}
use Rattle.dcm_base.specs.Steps.Atoms.{Atom}
use Rattle.dcm_base.specs.Steps.Steps.{outputs}
use Rattle.dcm_stream.specs.declared.sink.Sink.{Ghosts}
use Rattle.dcm_stream.specs.Sinks.{Took, Keeps}
use Rattle.dcm_stream.specs.Tokens.{atoms_of}
use Rattle.dcm_stream.specs.declared.token.Token.{Token}
use Rattle.dcm_deid.specs.declared.deidentifier.Deidentifier.{Deidentifier}
use Rattle.dcm_deid.specs.declared.fate.Options.{Options}
use Rattle.dcm_deid.specs.Deidentifying.{GoesOn, passed_of}
use Rattle.dcm_deid.specs.DeidentifySink.{atoms_if}
use Rattle.dcm_stream.proofs.Runs.Taking.{took_token, took_then, took_failed}

abbrev pub Answer : Type 0
Answer = Result (Unit {0}) WriteFailed

abbrev pub TookAs : {X : Type 0} → Ghosts X → (old new : X) → List Atom → Answer → Type 0
TookAs sink old new atoms r = Took {T = Unit {0}} {E = WriteFailed} sink old new atoms r

module _ {X : Type 0} (sink : Ghosts X) where
  -- one token
  pub token : (old new : X) (atoms : List Atom) (r : Answer) → OnOk r (sink.state new ≡ fold sink.step (sink.state old) atoms)
      → Puts (sink.contents old) (sink.contents new) (outputs sink.step sink.writes (sink.state old) atoms) r → Tells (sink.has_failed old) (sink.has_failed new) r → Keeps sink old new → TookAs sink old new atoms r
  token old new atoms r state bytes failed kept = took_token sink old new atoms r state bytes failed kept

  -- one part and then another
  pub on : {x : Unit {0}} {r : Answer} (old mid new : X) (first rest : List Atom) → TookAs sink old mid first (Ok x) → TookAs sink mid new rest r → TookAs sink old new (first ++ rest) r
  on {x} {r} old mid new first rest a b = took_then sink (Unit {0}) WriteFailed {x = x} old mid new first rest r a b

  -- a failure in the first part
  pub failed : {e : WriteFailed} (old new : X) (first rest : List Atom) (r : Answer) → IsErr r → TookAs sink old new first (Err e) → TookAs sink old new (first ++ rest) r
  failed {e} old new first rest r is a = took_failed sink (Unit {0}) WriteFailed {e = e} old new first rest r is a

  -- a failure in all of it
  pub all_failed : {e : WriteFailed} (old new : X) (atoms : List Atom) (r : Answer) → IsErr r → TookAs sink old new atoms (Err e) → TookAs sink old new atoms r
  all_failed {e} old new atoms r is a = subst (λ (xs : List Atom). TookAs sink old new xs r) (append-nil atoms) (failed {e = e} old new atoms [] r is a)

  -- what is due
  pub given : (old new : X) (atoms : List Atom) (r : Answer) (b : Bool) → true ≡ b → TookAs sink old new atoms r → TookAs sink old new (atoms_if b atoms) r
  given old new atoms r b is a = subst (λ (t : Bool). TookAs sink old new (atoms_if t atoms) r) is a

  -- a token of a known kind is where it is passed on
  pub passed_by : (old new : X) (options : Options) (key : List ℕ) (d : Deidentifier) (t known : Token) (r : Answer) → t ≡ known
      → TookAs sink old new (passed_of options key d (atoms_of known)) r → TookAs sink old new (passed_of options key d (atoms_of t)) r
  passed_by old new options key d t known r same took = subst (λ (x : Token). TookAs sink old new (passed_of options key d (atoms_of x)) r) (sym same) took

-- and where it goes on
pub goes_on_by : (r : Answer) (options : Options) (old new : Deidentifier) (t known : Token) → t ≡ known → OnOk r (GoesOn options old new (atoms_of known)) → OnOk r (GoesOn options old new (atoms_of t))
goes_on_by r options old new t known same state = subst (λ (x : Token). OnOk r (GoesOn options old new (atoms_of x))) (sym same) state
