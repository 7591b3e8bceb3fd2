-- An output that has its name only once it is whole.
use Rattle.std.specs.Prelude.{◌≡◌, ◌≢◌, ℕ, nat_le, length, List, ◌++◌, codes, Bool, true, false, if◌then◌else◌, Option}
use Rattle.std.specs.Prelude.{Some, None}
use Rattle.std.specs.Prelude.{Result, Ok, Err}
use Rattle.std.specs.Option.{option_or}
use Rattle.std.specs.IoError.{error_kind}
use Rattle.std.specs.Str.{IsUtf8}
use Rattle.std.specs.declared.io.Error.{Error}
use Rattle.std.specs.declared.io.ErrorKind.{ErrorKind}
use Rattle.std.specs.declared.io.ErrorKind.TheVariants as kinds
use Rattle.dcm_files.specs.declared.opened.FileKind.{FileKind}
use Rattle.dcm_files.specs.declared.opened.FileKind.TheVariants.{Regular}
use Rattle.dcm_files.specs.declared.opened.Opened.{Opened}
use Rattle.dcm_files.specs.declared.opened.Unopened.{Unopened}
use Rattle.dcm_files.specs.declared.opened.Unopened.TheVariants.{Input, Output, Part}
use Rattle.dcm_files.specs.Devices.{MayDo, IsCause, OpensInput, OpensStream, clash, stays, was_read, standard}

-- ---- paths

-- the path at which an output is written until it is whole
abbrev pub part_of : (output : List ℕ) → List ℕ
part_of output = output ++ codes ".part"

-- the most bytes of a path (PATH_MAX of Linux)
abbrev pub LONGEST_PATH : ℕ
LONGEST_PATH = 4096

abbrev pub is_short : (output : List ℕ) → Bool
is_short output = nat_le (length output) LONGEST_PATH

-- ---- what is not replaced

abbrev pub is_regular : FileKind → Bool
is_regular (Regular device number size) = true
is_regular _ = false

-- a file that was read earlier
abbrev pub read_earlier : (earlier : Option FileKind) → FileKind → Option Unopened
read_earlier earlier kind = if was_read earlier kind then Some Output else None

-- what is no regular file
abbrev pub irregular : FileKind → Option Unopened
irregular kind = if is_regular kind then None else Some Output

-- why no file is put in the place of what is there, if none is: it was read, as the input or earlier; or it holds bytes,
-- and is not to be overwritten; or it is no regular file
abbrev pub unreplaced : (overwrites : Bool) → (there : Option FileKind) → (input : FileKind)
    → (earlier : Option FileKind) → Option Unopened
unreplaced overwrites None input earlier = None
unreplaced overwrites (Some kind) input earlier =
    option_or (clash input kind)
    (option_or (read_earlier earlier kind) (option_or (stays overwrites kind) (irregular kind)))

-- ---- what the opening of such an output gives

-- a path that is no text, or is too long
pub data BadPath (path : List ℕ) (e : Error) : Type 0 where
  no_text : ¬ (IsUtf8 path) → error_kind e ≡ kinds.InvalidFilename → BadPath path e
  too_long : is_short path ≡ false → error_kind e ≡ kinds.InvalidFilename → BadPath path e

-- of a path what is there is looked at, and no part is made: why
pub data FindsNoPart {S I O : Type 0} (may : MayDo S I O) (output : List ℕ) (overwrites : Bool) (input : FileKind)
    (earlier : Option FileKind) (before : S) (u : Unopened) (after : S) : Type 0 where
  no_output_text : ¬ (IsUtf8 output) → u ≡ Output → after ≡ before
      → FindsNoPart may output overwrites input earlier before u after
  not_seen : (e : Error) → IsUtf8 output → may.looks before output (Err e) after → IsCause (error_kind e) Output u
      → FindsNoPart may output overwrites input earlier before u after
  not_replaced : (there : Option FileKind) → IsUtf8 output → may.looks before output (Ok there) after
      → unreplaced overwrites there input earlier ≡ Some u
      → FindsNoPart may output overwrites input earlier before u after
  output_too_long : (there : Option FileKind) → IsUtf8 output → may.looks before output (Ok there) after
      → unreplaced overwrites there input earlier ≡ None → is_short output ≡ false → u ≡ Output
      → FindsNoPart may output overwrites input earlier before u after

-- a part may be made, since its output may be put in the place of what is there
pub record FindsPart {S I O : Type 0} (may : MayDo S I O) (output : List ℕ) (overwrites : Bool) (input : FileKind)
    (earlier : Option FileKind) (before after : S) : Type 0 where
  pub there : Option FileKind
  pub text : IsUtf8 output
  pub fits : is_short output ≡ true
  pub looked : may.looks before output (Ok there) after
  pub replaces : unreplaced overwrites there input earlier ≡ None

-- why a part was not made, after an error of this kind: it is there, or another reason
pub record IsPartCause (kind : ErrorKind) (cause : Unopened) : Type 0 where
  pub there : kind ≡ kinds.AlreadyExists → cause ≡ Part
  pub other : kind ≢ kinds.AlreadyExists → IsCause kind Output cause

-- a part is made at its path
pub data MakesPart {S I O : Type 0} (may : MayDo S I O) (part : List ℕ) (before : S) (r : Result (Opened O) Unopened)
    (after : S) : Type 0 where
  no_part_text : ¬ (IsUtf8 part) → r ≡ Err Output → after ≡ before → MakesPart may part before r after
  not_made : (e : Error) (u : Unopened) → IsUtf8 part → may.makes before part (Err e) after
      → IsPartCause (error_kind e) u → r ≡ Err u → MakesPart may part before r after
  has_made : (o : Opened O) → IsUtf8 part → may.makes before part (Ok o) after → r ≡ Ok o
      → MakesPart may part before r after

-- of a path: what is there is looked at, and then a part is made
pub data OpensPart {S I O : Type 0} (may : MayDo S I O) (output : List ℕ) (overwrites : Bool) (input : FileKind)
    (earlier : Option FileKind) (before : S) (r : Result (Opened O) Unopened) (after : S) : Type 0 where
  not_found : (u : Unopened) → FindsNoPart may output overwrites input earlier before u after
      → r ≡ Err u → OpensPart may output overwrites input earlier before r after
  found : (has_looked : S) → FindsPart may output overwrites input earlier before has_looked
      → MakesPart may (part_of output) has_looked r after → OpensPart may output overwrites input earlier before r after

-- of an output that has its name only once it is whole
pub data OpensWhole {S I O : Type 0} (may : MayDo S I O) (output : List ℕ) (overwrites : Bool) (input : FileKind)
    (earlier : Option FileKind) (before : S) (r : Result (Opened O) Unopened) (after : S) : Type 0 where
  stream : output ≡ standard → OpensStream may input earlier before r after
      → OpensWhole may output overwrites input earlier before r after
  part : output ≢ standard → OpensPart may output overwrites input earlier before r after
      → OpensWhole may output overwrites input earlier before r after

-- of both: the input is opened, and then the output
pub data OpensWholeDevices {S I O : Type 0} (may : MayDo S I O) (input output : List ℕ) (overwrites : Bool)
    (earlier : Option FileKind) (before : S) (r : Result (Opened I × Opened O) Unopened) (after : S) : Type 0 where
  no_input : (e : Error) (u : Unopened) → OpensInput may input before (Err e) after → IsCause (error_kind e) Input u
      → r ≡ Err u → OpensWholeDevices may input output overwrites earlier before r after
  no_output : (i : Opened I) (u : Unopened) (has_input tried : S) → OpensInput may input before (Ok i) has_input
      → OpensWhole may output overwrites i.kind earlier has_input (Err u) tried → may.releases tried i.device after
      → r ≡ Err u → OpensWholeDevices may input output overwrites earlier before r after
  both : (i : Opened I) (o : Opened O) (has_input : S) → OpensInput may input before (Ok i) has_input
      → OpensWhole may output overwrites i.kind earlier has_input (Ok o) after → r ≡ Ok (i, o)
      → OpensWholeDevices may input output overwrites earlier before r after

-- ---- what is done with it at the end

-- a part is removed
pub data RemovesPart {S I O : Type 0} (may : MayDo S I O) (output : List ℕ) (before : S)
    (r : Result (Unit {0}) Error) (after : S) : Type 0 where
  no_path : (e : Error) → BadPath output e → r ≡ Err e → after ≡ before → RemovesPart may output before r after
  removed : may.removes before (part_of output) r after → RemovesPart may output before r after

-- a part gets the mode of the file that it replaces, where one is there, and is then moved to its name
pub data MovesPart {S I O : Type 0} (may : MayDo S I O) (output : List ℕ) (before : S)
    (r : Result (Unit {0}) Error) (after : S) : Type 0 where
  no_path : (e : Error) → BadPath output e → r ≡ Err e → after ≡ before → MovesPart may output before r after
  not_kept : (e : Error) → may.keeps before output (part_of output) (Err e) after → r ≡ Err e
      → MovesPart may output before r after
  moved : (has_mode : S) → may.keeps before output (part_of output) (Ok _) has_mode
      → may.moves has_mode (part_of output) output r after → MovesPart may output before r after

-- a stream is left as it is; a part that is not whole is removed; one that is whole is moved to its name, and removed
-- where that fails
pub data EndsPart {S I O : Type 0} (may : MayDo S I O) (output : List ℕ) (is_whole : Bool) (before : S)
    (r : Result (Unit {0}) Error) (after : S) : Type 0 where
  stream : output ≡ standard → r ≡ Ok _ → after ≡ before → EndsPart may output is_whole before r after
  removed : output ≢ standard → is_whole ≡ false → RemovesPart may output before r after
      → EndsPart may output is_whole before r after
  moved : output ≢ standard → is_whole ≡ true → MovesPart may output before (Ok _) after → r ≡ Ok _
      → EndsPart may output is_whole before r after
  not_moved : (e : Error) (removing : Result (Unit {0}) Error) (tried : S) → output ≢ standard → is_whole ≡ true
      → MovesPart may output before (Err e) tried → RemovesPart may output tried removing after → r ≡ Err e
      → EndsPart may output is_whole before r after
