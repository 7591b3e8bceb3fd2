-- Which devices a program opens, and why it does not.
use Rattle.std.specs.Prelude.{◌≡◌, ◌≢◌, ◌&&◌, ℕ, ◌==◌, nat_lt, List, map, codes, Vec, Option, Some, None, Result}
use Rattle.std.specs.Prelude.{Ok, Err, if◌then◌else◌, Bool, true, false, not}
use Rattle.std.specs.Option.{is_some, option_or}
use Rattle.std.specs.IoError.{error_kind}
use Rattle.std.specs.Str.{IsUtf8}
use Rattle.std.specs.declared.io.Error.{Error}
use Rattle.std.specs.declared.io.ErrorKind.{ErrorKind}
use Rattle.std.specs.declared.io.ErrorKind.TheVariants as kinds
use Rattle.dcm_files.specs.declared.opened.FileKind.{FileKind}
use Rattle.dcm_files.specs.declared.opened.FileKind.TheVariants.{Regular, Directory, Unknown}
use Rattle.dcm_files.specs.declared.opened.Opened.{Opened}
use Rattle.dcm_files.specs.declared.opened.Unopened.{Unopened}
use Rattle.dcm_files.specs.declared.opened.Unopened.TheVariants.{Input, Output, Same, There, Memory}

-- the path of a standard stream
abbrev pub standard : List ℕ
standard = codes "-"

-- what the calls of a program that opens its devices may answer, and what they may leave of the system: no other call
-- leads from a system to a later one
pub record MayDo (S I O : Type 0) : Type 1 where
  -- the words of the command line after the program's name; none where memory for them was refused
  pub words : S → Option (List (List ℕ)) → S → Type 0
  pub stdin : S → Opened I → S → Type 0
  -- of a path that is read
  pub opens : S → List ℕ → Result (Opened I) Error → S → Type 0
  -- takes an input back, as the program leaves it
  pub releases : S → I → S → Type 0
  pub stdout : S → Result (Opened O) Error → S → Type 0
  -- of a path that is written
  pub creates : S → List ℕ → Result (Opened O) Error → S → Type 0
  -- of a path: what is there
  pub looks : S → List ℕ → Result (Option FileKind) Error → S → Type 0
  -- of a path that is written, and at which nothing was
  pub makes : S → List ℕ → Result (Opened O) Error → S → Type 0
  -- of a path: whether the file there is locked, or another run has locked it
  pub seizes : S → List ℕ → Result Bool Error → S → Type 0
  -- of a path: whether the file that was made or locked last is there
  pub holds : S → List ℕ → Bool → S → Type 0
  -- the mode of the regular file at a path, where one is there, goes to the file at another one
  pub keeps : S → (from to : List ℕ) → Result (Unit {0}) Error → S → Type 0
  -- from a path to another one
  pub moves : S → (from to : List ℕ) → Result (Unit {0}) Error → S → Type 0
  pub removes : S → List ℕ → Result (Unit {0}) Error → S → Type 0
  -- takes an output back, as the program leaves it; an error says that bytes of it are lost
  pub closes : S → O → Result (Unit {0}) Error → S → Type 0

-- nothing is known of the system
abbrev pub anything : {S I O : Type 0} → MayDo S I O
anything = record {
  words = λ before r after. Unit {0};
  stdin = λ before d after. Unit {0};
  opens = λ before path r after. Unit {0};
  releases = λ before d after. Unit {0};
  stdout = λ before r after. Unit {0};
  creates = λ before path r after. Unit {0};
  looks = λ before path r after. Unit {0};
  makes = λ before path r after. Unit {0};
  seizes = λ before path r after. Unit {0};
  holds = λ before path r after. Unit {0};
  keeps = λ before from to r after. Unit {0};
  moves = λ before from to r after. Unit {0};
  removes = λ before path r after. Unit {0};
  closes = λ before d r after. Unit {0};
}

-- the words that were given, as bytes
abbrev pub words_given : {A B E : Type 0} → Result (Vec (Vec ℕ A) B) E → Option (List (List ℕ))
words_given (Ok words) = Some (map (λ w. w.items) words.items)
words_given (Err e) = None

-- an output is closed, and nobody asks how that went
pub record Closes {S I O : Type 0} (may : MayDo S I O) (before : S) (output : O) (after : S) : Type 0 where
  pub answer : Result (Unit {0}) Error
  pub call : may.closes before output answer after

-- what the opening of an input gives
pub data OpensInput {S I O : Type 0} (may : MayDo S I O) (path : List ℕ) (before : S) (r : Result (Opened I) Error)
    (after : S) : Type 0 where
  stream : (d : Opened I) → path ≡ standard → may.stdin before d after → r ≡ Ok d → OpensInput may path before r after
  no_text : (e : Error) → path ≢ standard → ¬ (IsUtf8 path) → error_kind e ≡ kinds.InvalidFilename → r ≡ Err e
      → after ≡ before → OpensInput may path before r after
  refused : (e : Error) → path ≢ standard → IsUtf8 path → may.opens before path (Err e) after → r ≡ Err e
      → OpensInput may path before r after
  -- nothing is read of a directory
  directory : (d : Opened I) (e : Error) (had : S) → path ≢ standard → IsUtf8 path → may.opens before path (Ok d) had
      → d.kind ≡ Directory → may.releases had d.device after
      → error_kind e ≡ kinds.IsADirectory → r ≡ Err e → OpensInput may path before r after
  opened : (d : Opened I) → path ≢ standard → IsUtf8 path → may.opens before path (Ok d) after → d.kind ≢ Directory
      → r ≡ Ok d → OpensInput may path before r after

-- why an input and an output are not used together: they are one regular file; or they may be, and the output holds
-- bytes
abbrev pub clash : FileKind → FileKind → Option Unopened
clash (Regular device number size) (Regular d n other) = if device == d && number == n then Some Same else None
clash Unknown (Regular device number size) = if nat_lt 0 size then Some Output else None
clash _ _ = None

-- whether it is a regular file that holds bytes
abbrev pub holds_bytes : FileKind → Bool
holds_bytes (Regular device number size) = nat_lt 0 size
holds_bytes _ = false

-- such a file stays, unless it is to be overwritten
abbrev pub stays : (overwrites : Bool) → FileKind → Option Unopened
stays overwrites kind = if holds_bytes kind && not overwrites then Some There else None

-- why what is there is not written
abbrev pub barred : (overwrites : Bool) → (input there : FileKind) → Option Unopened
barred overwrites input there = option_or (clash input there) (stays overwrites there)

abbrev pub barred_at : (overwrites : Bool) → (input : FileKind) → (there : Option FileKind) → Option Unopened
barred_at overwrites input None = None
barred_at overwrites input (Some there) = barred overwrites input there

-- it is the file that was read earlier, or may be
abbrev pub was_read : (earlier : Option FileKind) → FileKind → Bool
was_read None kind = false
was_read (Some earlier) kind = is_some (clash earlier kind)

-- why a job is not begun after an error of this kind, on opening its input or its output
pub record IsCause (kind : ErrorKind) (which cause : Unopened) : Type 0 where
  pub memory : kind ≡ kinds.OutOfMemory → cause ≡ Memory
  pub other : kind ≢ kinds.OutOfMemory → cause ≡ which

-- the opening of standard output: it is closed again where it is a file that was read
pub data OpensStream {S I O : Type 0} (may : MayDo S I O) (input : FileKind) (earlier : Option FileKind)
    (before : S) (r : Result (Opened O) Unopened) (after : S) : Type 0 where
  no_stdout : (e : Error) (u : Unopened) → may.stdout before (Err e) after → IsCause (error_kind e) Output u
      → r ≡ Err u → OpensStream may input earlier before r after
  was_read_earlier : (o : Opened O) (has_output : S) → may.stdout before (Ok o) has_output
      → was_read earlier o.kind ≡ true
      → Closes may has_output o.device after → r ≡ Err Output → OpensStream may input earlier before r after
  clashed : (o : Opened O) (cause : Unopened) (has_output : S) → may.stdout before (Ok o) has_output
      → was_read earlier o.kind ≡ false → clash input o.kind ≡ Some cause → Closes may has_output o.device after
      → r ≡ Err cause → OpensStream may input earlier before r after
  opened : (o : Opened O) → may.stdout before (Ok o) after → was_read earlier o.kind ≡ false → clash input o.kind ≡ None
      → r ≡ Ok o → OpensStream may input earlier before r after

-- that of a path at which nothing was seen that bars it: it is closed again, as it was opened, where it is barred now
pub data CreatesOutput {S I O : Type 0} (may : MayDo S I O) (path : List ℕ) (overwrites : Bool) (input : FileKind)
    (before : S) (r : Result (Opened O) Unopened) (after : S) : Type 0 where
  not_created : (e : Error) (u : Unopened) → may.creates before path (Err e) after → IsCause (error_kind e) Output u
      → r ≡ Err u → CreatesOutput may path overwrites input before r after
  barred_open : (o : Opened O) (cause : Unopened) (has_output : S) → may.creates before path (Ok o) has_output
      → barred overwrites input o.kind ≡ Some cause → Closes may has_output o.device after
      → r ≡ Err cause → CreatesOutput may path overwrites input before r after
  created : (o : Opened O) → may.creates before path (Ok o) after → barred overwrites input o.kind ≡ None
      → r ≡ Ok o → CreatesOutput may path overwrites input before r after

-- that of a path: what is there is looked at first, and where that bars it, nothing is opened
pub data OpensFile {S I O : Type 0} (may : MayDo S I O) (path : List ℕ) (overwrites : Bool) (input : FileKind)
    (before : S) (r : Result (Opened O) Unopened) (after : S) : Type 0 where
  no_path : ¬ (IsUtf8 path) → r ≡ Err Output → after ≡ before → OpensFile may path overwrites input before r after
  not_seen : (e : Error) (u : Unopened) → IsUtf8 path → may.looks before path (Err e) after
      → IsCause (error_kind e) Output u → r ≡ Err u → OpensFile may path overwrites input before r after
  barred_there : (there : Option FileKind) (cause : Unopened) → IsUtf8 path → may.looks before path (Ok there) after
      → barred_at overwrites input there ≡ Some cause → r ≡ Err cause
      → OpensFile may path overwrites input before r after
  not_barred : (there : Option FileKind) (has_looked : S) → IsUtf8 path → may.looks before path (Ok there) has_looked
      → barred_at overwrites input there ≡ None → CreatesOutput may path overwrites input has_looked r after
      → OpensFile may path overwrites input before r after

-- that of an output, after an input of this kind was opened
pub data OpensOutput {S I O : Type 0} (may : MayDo S I O) (path : List ℕ) (overwrites : Bool) (input : FileKind)
    (before : S) (r : Result (Opened O) Unopened) (after : S) : Type 0 where
  to_stream : path ≡ standard → OpensStream may input None before r after
      → OpensOutput may path overwrites input before r after
  to_file : path ≢ standard → OpensFile may path overwrites input before r after
      → OpensOutput may path overwrites input before r after

-- what the opening of both gives: the input is opened, and then the output
pub data OpensDevices {S I O : Type 0} (may : MayDo S I O) (input output : List ℕ) (overwrites : Bool) (before : S)
    (r : Result (Opened I × Opened O) Unopened) (after : S) : Type 0 where
  no_input : (e : Error) (u : Unopened) → OpensInput may input before (Err e) after → IsCause (error_kind e) Input u
      → r ≡ Err u → OpensDevices may input output overwrites before r after
  no_output : (i : Opened I) (u : Unopened) (has_input tried : S) → OpensInput may input before (Ok i) has_input
      → OpensOutput may output overwrites i.kind has_input (Err u) tried → may.releases tried i.device after
      → r ≡ Err u → OpensDevices may input output overwrites before r after
  both : (i : Opened I) (o : Opened O) (has_input : S) → OpensInput may input before (Ok i) has_input
      → OpensOutput may output overwrites i.kind has_input (Ok o) after → r ≡ Ok (i, o)
      → OpensDevices may input output overwrites before r after
