-- Texts before a line, in parts.
use Rattle.std.proofs.Common.{◌≡◌, ◌∙◌, ap, subst, ℕ, List, ◌++◌, Bool, true}
use Rattle.std.specs.Prelude.{Result, Ok, Err, OnOk, IsErr}
use Rattle.std.specs.Io.KnownBytes.{append_known}
use Rattle.dcm_devices.specs.Device.{Tells, AppendsFront}
use Rattle.dcm_devices.proofs.Writes.Puts.{front_longer, puts_behind, puts_err}
use Rattle.dcm_sinks.specs.declared.dump.line_sink.LineSink.{Ghosts}
use Rattle.dcm_named.specs.Naming.{PutText}

pub tells_on : (A B : Type 0) {T E : Type 0} (old mid new : Bool) (x : A) (r : Result T E) → Tells {T = A} {E = B} old mid (Ok x) → Tells mid new r → Tells old new r
tells_on A B old mid new x (Ok y) a b = b ∙ a
tells_on A B old mid new x (Err e) a b = b

pub tells_err : (A B : Type 0) {T E : Type 0} (old new : Bool) (e : B) (r : Result T E) → IsErr r → Tells {T = A} {E = B} old new (Err e) → Tells old new r
tells_err A B old new e (Ok y) is a = cc
tells_err A B old new e (Err f) is a = a

pub state_on : {S T E : Type 0} (a b c : S) (r : Result T E) → b ≡ a → OnOk r (c ≡ b) → OnOk r (c ≡ a)
state_on a b c (Ok x) e h = h ∙ e
state_on a b c (Err x) e h = tt

pub no_state : {T E : Type 0} (P : Type 0) (r : Result T E) → IsErr r → OnOk r P
no_state P (Ok x) is = cc
no_state P (Err x) is = tt

-- what holds in any case
pub state_too : {P T E : Type 0} (r : Result T E) → P → OnOk r P
state_too (Ok x) h = h
state_too (Err x) h = tt

module _ {X : Type 0} (lines : Ghosts X) where
  -- one text and then another
  pub put_on : (A B : Type 0) {T E : Type 0} (old mid new : X) (first rest : List ℕ) (x : A) (r : Result T E) → PutText {T = A} {E = B} lines old mid first (Ok x) → PutText lines mid new rest r → PutText lines old new (first ++ rest) r
  put_on A B old mid new first rest x r a b = record {
    state = state_on (lines.state old) (lines.state mid) (lines.state new) r a.state b.state;
    bytes = puts_behind (lines.contents old) (lines.contents mid) (lines.contents new) first rest r a.bytes b.bytes;
    failed = tells_on A B (lines.has_failed old) (lines.has_failed mid) (lines.has_failed new) x r a.failed b.failed;
    kept = b.kept ∙ a.kept;
  }

  -- the first one fails
  pub put_failed : (A B : Type 0) {T E : Type 0} (old new : X) (first rest : List ℕ) (e : B) (r : Result T E) → IsErr r → PutText {T = A} {E = B} lines old new first (Err e) → PutText lines old new (first ++ rest) r
  put_failed A B old new first rest e r is a = record {
    state = no_state (lines.state new ≡ lines.state old) r is;
    bytes = puts_err (lines.contents old) (lines.contents new) (first ++ rest) r is (front_longer rest a.bytes);
    failed = tells_err A B (lines.has_failed old) (lines.has_failed new) e r is a.failed;
    kept = a.kept;
  }

  -- one text, by the clauses of the call
  pub put_ok : {T : Type 0} (E : Type 0) (old new : X) (given text : List ℕ) (x : T) → given ≡ text → lines.state new ≡ lines.state old → lines.contents new ≡ append_known (lines.contents old) given → lines.has_failed new ≡ lines.has_failed old → lines.kept new ≡ lines.kept old
      → PutText {T = T} {E = E} lines old new text (Ok x)
  put_ok E old new given text x same state bytes failed kept = record { state = state; bytes = bytes ∙ ap (append_known (lines.contents old)) same; failed = failed; kept = kept }

  pub put_err : {E : Type 0} (T : Type 0) (old new : X) (given text : List ℕ) (e : E) → given ≡ text → AppendsFront (lines.contents old) (lines.contents new) given → lines.has_failed new ≡ true → lines.kept new ≡ lines.kept old
      → PutText {T = T} {E = E} lines old new text (Err e)
  put_err T old new given text e same bytes failed kept = record { state = tt; bytes = subst (AppendsFront (lines.contents old) (lines.contents new)) same bytes; failed = failed; kept = kept }
