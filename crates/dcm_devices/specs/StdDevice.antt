-- What a device over a reader or a writer of the standard library answers: what one call on that answered.
use Rattle.std.specs.Prelude.{◌≡◌, ℕ, ◌<◌, List, ◌++◌, length, slice_index, Option, Some, None, Result, Ok, Err}
use Rattle.std.specs.Prelude.{MatchResult, IfOk, IfErr, OnOk, OnErr}
use Rattle.std.specs.IoError.{error_kind}
use Rattle.std.specs.declared.io.ErrorKind.TheVariants.{OutOfMemory}
use Rattle.std.specs.declared.io.Error.{Error}
use Rattle.dcm_devices.specs.declared.device.ReadFailed.{ReadFailed}
use Rattle.dcm_devices.specs.declared.device.WriteFailed.{WriteFailed}

-- nothing is known of what a call on a reader may answer, and leave in the buffer and of the reader
abbrev pub any_read : {T : Type 0} → T → Result ℕ Error → List ℕ → T → Type 0
any_read before r buffer after = Unit {0}

-- nor of what one on a writer may answer and leave, that writes these bytes
abbrev pub any_write : {T : Type 0} → T → List ℕ → Result ℕ Error → T → Type 0
any_write before bytes r after = Unit {0}

-- or flushes
abbrev pub any_flush : {T : Type 0} → T → Result (Unit {0}) Error → T → Type 0
any_flush before r after = Unit {0}

-- all bytes were added behind those before; or, where there is no room for them, none
abbrev pub TakesAll : (before bytes : List ℕ) → Result ℕ Error → (after : List ℕ) → Type 0
TakesAll before bytes r after = IfOk r (λ n. n ≡ length bytes) × OnOk r (after ≡ before ++ bytes)
    × IfErr r (λ e. error_kind e ≡ OutOfMemory) × OnErr r (after ≡ before)

-- what a call gave, if anything, are bytes
abbrev pub IsOfBytes : Option (List ℕ) → Type 0
IsOfBytes None = Unit {0}
IsOfBytes (Some bytes) = (i : ℕ) → slice_index bytes i < 256

-- the reader was called once. Its answer is given, and the device fails only where it was an error
abbrev pub ReadOnce : {T : Type 0} → (may_read : T → Result ℕ Error → List ℕ → T → Type 0)
    → (before : T) → Result ℕ ReadFailed → (buffer : List ℕ) → (after : T) → Type 0
ReadOnce may_read before r buffer after = MatchResult r (λ n. may_read before (Ok n) buffer after)
    (λ _. (e : Error) × may_read before (Err e) buffer after)

-- the writer was called once with the bytes. The device fails only where it answered an error, or took no byte
abbrev pub WrittenOnce : {T : Type 0} → (may_write : T → List ℕ → Result ℕ Error → T → Type 0)
    → (before : T) → (bytes : List ℕ) → Result ℕ WriteFailed → (after : T) → Type 0
WrittenOnce may_write before bytes r after = MatchResult r (λ n. may_write before bytes (Ok n) after)
    (λ _. (answer : Result ℕ Error) × may_write before bytes answer after × IfOk answer (λ n. n ≡ 0))

-- the writer was flushed once. The device fails only where it answered an error
abbrev pub FlushedOnce : {T : Type 0} → (may_flush : T → Result (Unit {0}) Error → T → Type 0)
    → (before : T) → Result (Unit {0}) WriteFailed → (after : T) → Type 0
FlushedOnce may_flush before r after = MatchResult r (λ _. may_flush before (Ok tt) after)
    (λ _. (e : Error) × may_flush before (Err e) after)
