-- What opening an input and an output over files in memory gave.
use Rattle.std.proofs.Common.{◌≡◌, ◌≢◌, ◌∙◌, ap, sym, subst, refl, ◌⊎◌, inl, inr, ℕ, List, length, bytes_eq, if◌then◌else◌, Bool, true, false, Option, None, Some, Result, Ok, Err}
use Rattle.std.specs.Option.{option_map, option_or, is_some}
use Rattle.std.specs.Str.{IsUtf8, is_utf8}
use Rattle.std.specs.IoError.{error_kind}
use Rattle.std.specs.declared.io.Error.{Error}
use Rattle.std.specs.declared.io.ErrorKind.{ErrorKind}
use Rattle.std.specs.declared.io.ErrorKind.TheVariants as kinds
use Rattle.std.proofs.lemmas.Slice.Eq.{bytes_eq-Decides}
use Rattle.std.proofs.lemmas.Str.{IsUtf8-from_is_utf8, is_utf8-from_IsUtf8}
use Rattle.dcm_lemmas.proofs.Choice.{if_true}
use Rattle.dcm_lemmas.proofs.Truth.{is_false}
use Rattle.dcm_devices.specs.declared.memory.MemIn.{MemIn}
use Rattle.dcm_devices.specs.declared.memory.MemOut.{MemOut}
use Rattle.dcm_devices.specs.declared.memory.Measured.{Measured}
use Rattle.dcm_files.specs.declared.memory.MemFile.{MemFile}
use Rattle.dcm_files.specs.declared.memory.MemSystem.{MemSystem}
use Rattle.dcm_files.specs.declared.opened.FileKind.{FileKind}
use Rattle.dcm_files.specs.declared.opened.FileKind.TheVariants.{Regular, Directory, Other}
use Rattle.dcm_files.specs.declared.opened.Opened.{Opened}
use Rattle.dcm_files.specs.declared.opened.Unopened.{Unopened}
use Rattle.dcm_files.specs.declared.opened.Unopened.TheVariants.{Input, Output as OfOutput}
use Rattle.dcm_files.specs.Devices as devices
use Rattle.dcm_files.specs.Devices.{OpensInput, OpensOutput, OpensStream, OpensFile, CreatesOutput, IsCause, standard, clash, barred, barred_at, was_read}
use Rattle.dcm_files.specs.Memory.{file_named, kind_of, kind_written, GivesFile, GivesRoom, may_do}
use Rattle.dcm_cli.specs.InMemory.{bytes_at, number_at, is_one_file, of_input, stays}

-- ---- paths

pub no_both : (b : Bool) → b ≡ false → b ≡ true → ⊥
no_both b n y = let no : false ≡ true = sym n ∙ y in cc

pub is_other : (path : List ℕ) → path ≢ standard → bytes_eq path standard ≡ false
is_other path other = is_false (bytes_eq path standard) (λ e. other ((bytes_eq-Decides path standard).0 e))

pub is_text : (path : List ℕ) → IsUtf8 path → is_utf8 path ≡ true
is_text path text = is_utf8-from_IsUtf8 path text

pub is_no_text : (path : List ℕ) → (IsUtf8 path → ⊥) → is_utf8 path ≡ false
is_no_text path bad = is_false (is_utf8 path) (λ e. bad (IsUtf8-from_is_utf8 path e))

-- what a choice is
module _ {T : Type 0} where
  pub text_chosen : (a b : Bool) (x y z : T) → a ≡ false → b ≡ true → (if a then x else if b then y else z) ≡ y
  text_chosen true b x y z f t = absurd (no_both true f refl)
  text_chosen false true x y z f t = refl
  text_chosen false false x y z f t = absurd (no_both false refl t)

  pub no_text_chosen : (a b : Bool) (x y z : T) → a ≡ false → b ≡ false → (if a then x else if b then y else z) ≡ z
  no_text_chosen true b x y z f t = absurd (no_both true f refl)
  no_text_chosen false true x y z f t = absurd (no_both true t refl)
  no_text_chosen false false x y z f t = refl

  pub other_chosen : (a : Bool) (x y : T) → a ≡ false → (if a then x else y) ≡ y
  other_chosen true x y f = absurd (no_both true f refl)
  other_chosen false x y f = refl

-- ---- what opening gave

-- an input with this number: a file's, or none
abbrev pub IsInput : Option ℕ → FileKind → Type 0
IsInput None kind = kind ≡ Other
IsInput (Some n) kind = (held : ℕ) × (kind ≡ Regular 0 n held)

abbrev pub IsFound : Option (List ℕ) → Option ℕ → Result (Opened MemIn) Error → Type 0
IsFound bytes number (Ok d) = (bytes ≡ Some d.device.rest.now) × IsInput number d.kind
IsFound bytes number (Err x) = (bytes ≡ None) × (error_kind x ≢ kinds.OutOfMemory)

abbrev pub bytes_of : Option MemFile → Option (List ℕ)
bytes_of f = option_map (λ f. f.bytes.now) f

abbrev pub number_of : Option MemFile → Option ℕ
number_of f = option_map (λ f. f.number) f

pub no_memory_fault : (x : Error) (k : ErrorKind) → error_kind x ≡ k → k ≢ kinds.OutOfMemory → error_kind x ≢ kinds.OutOfMemory
no_memory_fault x k is differs e = differs (sym is ∙ e)

pub found : (f : Option MemFile) (r : Result (Opened MemIn) Error) → GivesFile f r → IsFound (bytes_of f) (number_of f) r
found (Some f) (Ok d) g = (ap Some (sym g.0), (length f.bytes.now, g.1))
found (Some f) (Err x) g = absurd g
found None (Ok d) g = absurd g
found None (Err x) g = (refl, no_memory_fault x kinds.NotFound g (λ e. cc))

pub no_directory : (f : Option MemFile) (d : Opened MemIn) → GivesFile f (Ok d) → d.kind ≡ Directory → ⊥
no_directory (Some f) d g is = let no : kind_of f ≡ Directory = sym g.1 ∙ is in cc
no_directory None d g is = absurd g

module _ (s : MemSystem) where
  -- at a path that is a text
  pub found_at : (path : List ℕ) (r : Result (Opened MemIn) Error) → path ≢ standard → IsUtf8 path → GivesFile (file_named s.files.now path) r → IsFound (bytes_at s path) (number_at s path) r
  found_at path r other text gave =
      let o = is_other path other in
      subst (λ (b : Option (List ℕ)). IsFound b (number_at s path) r) (sym (text_chosen (bytes_eq path standard) (is_utf8 path) (Some s.stdin.now) (bytes_of (file_named s.files.now path)) None o (is_text path text)))
      (subst (λ (n : Option ℕ). IsFound (bytes_of (file_named s.files.now path)) n r) (sym (other_chosen (bytes_eq path standard) None (number_of (file_named s.files.now path)) o)) (found (file_named s.files.now path) r gave))

  pub input_opened : (path : List ℕ) (r : Result (Opened MemIn) Error) (mid : MemSystem) → OpensInput may_do path s r mid → IsFound (bytes_at s path) (number_at s path) r × (mid ≡ s)
  input_opened path r mid (devices.stream d is gave are) = (
    subst (IsFound (bytes_at s path) (number_at s path)) (sym are)
        (ap (bytes_at s) is ∙ ap Some (sym gave.0), subst (λ (n : Option ℕ). IsInput n d.kind) (sym (ap (number_at s) is)) gave.1),
    gave.2,
  )
  input_opened path r mid (devices.no_text x other bad kind are same) = (
    subst (IsFound (bytes_at s path) (number_at s path)) (sym are) (
      no_text_chosen (bytes_eq path standard) (is_utf8 path) (Some s.stdin.now) (bytes_of (file_named s.files.now path)) None (is_other path other) (is_no_text path bad),
      no_memory_fault x kinds.InvalidFilename kind (λ e. cc),
    ),
    same,
  )
  input_opened path r mid (devices.refused x other text gave are) =
      (subst (IsFound (bytes_at s path) (number_at s path)) (sym are) (found_at path (Err x) other text gave.0), gave.1)
  input_opened path r mid (devices.directory d x had other text gave kind released was are) =
      absurd (no_directory (file_named s.files.now path) d gave.0 kind)
  input_opened path r mid (devices.opened d other text gave kind are) =
      (subst (IsFound (bytes_at s path) (number_at s path)) (sym are) (found_at path (Ok d) other text gave.0), gave.1)

-- ---- one file

-- an output: it may be a new file
abbrev pub IsOutput : Option ℕ → FileKind → Type 0
IsOutput None kind = (kind ≡ Other) ⊎ (kind ≡ Regular 1 0 0)
IsOutput (Some n) kind = (held : ℕ) × (kind ≡ Regular 0 n held)

-- they clash exactly where they are one file
pub clash_at : (a b : Option ℕ) (k l : FileKind) → IsInput a k → IsOutput b l → clash k l ≡ of_input (is_one_file a b)
clash_at None b k l i o = ap (λ (x : FileKind). clash x l) i
clash_at (Some n) None k l i (inl o) = ap (λ (x : FileKind). clash x l) i.1 ∙ ap (clash (Regular 0 n i.0)) o
clash_at (Some n) None k l i (inr o) = ap (λ (x : FileKind). clash x l) i.1 ∙ ap (clash (Regular 0 n i.0)) o
clash_at (Some n) (Some m) k l i o = ap (λ (x : FileKind). clash x l) i.1 ∙ ap (clash (Regular 0 n i.0)) o.1

pub no_one : (a : Option ℕ) → is_one_file a None ≡ false
no_one None = refl
no_one (Some n) = refl

-- ---- why an output is not opened

module _ (a : Option ℕ) (overwrites : Bool) (input : FileKind) (is_input : IsInput a input) where
  abbrev by_file : Option MemFile → Option Unopened
  by_file f = option_or (of_input (is_one_file a (number_of f))) (stays overwrites f)

  barred_seen : (f : Option MemFile) → barred_at overwrites input (option_map kind_of f) ≡ by_file f
  barred_seen None = sym (ap (λ x. option_or (of_input x) None) (no_one a))
  barred_seen (Some g) = ap (λ c. option_or c (stays overwrites (Some g))) (clash_at a (Some g.number) input (kind_of g) is_input (length g.bytes.now, refl))

  barred_written : (f : Option MemFile) → barred overwrites input (kind_written f) ≡ by_file f
  barred_written None = ap (λ c. option_or c None) (clash_at a None input (Regular 1 0 0) is_input (inr refl))
  barred_written (Some g) = barred_seen (Some g)

-- of a path, by what is there
module _ (s : MemSystem) (output : List ℕ) (by : (number : Option ℕ) → Option Unopened) where
  abbrev pub why : Option Unopened
  why = if bytes_eq output standard then None else if is_utf8 output then by (number_at s output) else Some OfOutput

  pub why_stream : output ≡ standard → why ≡ None
  why_stream is = if_true (bytes_eq output standard) None (if is_utf8 output then by (number_at s output) else Some OfOutput) ((bytes_eq-Decides output standard).1 is)

  why_other : output ≢ standard → why ≡ (if is_utf8 output then by (number_at s output) else Some OfOutput)
  why_other other = other_chosen (bytes_eq output standard) None (if is_utf8 output then by (number_at s output) else Some OfOutput) (is_other output other)

  pub why_file : output ≢ standard → IsUtf8 output → why ≡ by (number_of (file_named s.files.now output))
  why_file other text =
      why_other other
      ∙ if_true (is_utf8 output) (by (number_at s output)) (Some OfOutput) (is_text output text)
      ∙ ap by (other_chosen (bytes_eq output standard) None (number_of (file_named s.files.now output)) (is_other output other))

  pub why_no_text : output ≢ standard → (IsUtf8 output → ⊥) → why ≡ Some OfOutput
  why_no_text other bad = why_other other ∙ other_chosen (is_utf8 output) (by (number_at s output)) (Some OfOutput) (is_no_text output bad)

-- ---- what opening an output gave

-- of an output that is not opened for this reason, if it is not
abbrev pub IsMade : (why : Option Unopened) → (room : Option MemOut) → Result (Opened Measured) Unopened → Type 0
IsMade why room (Ok d) = (why ≡ None) × (room ≡ Some d.device.out)
IsMade why room (Err u) = (why ≡ Some u) ⊎ ((why ≡ None) × (room ≡ None) × (u ≡ OfOutput))

pub room_given : (why : Option Unopened) (room : Option MemOut) (kind : FileKind) (d : Opened Measured) → why ≡ None → GivesRoom room kind (Ok d) → IsMade why room (Ok d)
room_given why (Some m) kind d is g = (is, ap Some (sym g.0))
room_given why None kind d is g = absurd g

pub no_room : (room : Option MemOut) (kind : FileKind) (x : Error) → GivesRoom room kind (Err x) → (room ≡ None) × (error_kind x ≡ kinds.StorageFull)
no_room (Some m) kind x g = absurd g
no_room None kind x g = (refl, g)

-- the device of a room has its kind
pub kind_made : (room : Option MemOut) (kind : FileKind) (d : Opened Measured) → GivesRoom room kind (Ok d) → d.kind ≡ kind
kind_made (Some m) kind d g = g.1
kind_made None kind d g = absurd g

-- why no room was given
pub no_room_left : (why : Option Unopened) (room : Option MemOut) (kind : FileKind) (x : Error) (u : Unopened) → why ≡ None → GivesRoom room kind (Err x) → IsCause (error_kind x) OfOutput u → IsMade why room (Err u)
no_room_left why room kind x u none gave cause =
    let full = no_room room kind x gave in
    inr (none, full.0, cause.other (no_memory_fault x kinds.StorageFull full.1 (λ e. cc)))

-- ---- standard output

-- a file that was read earlier, with this number
abbrev pub IsEarlier : Option ℕ → Option FileKind → Type 0
IsEarlier number None = number ≡ None
IsEarlier number (Some kind) = IsInput number kind

-- none is a stream
stream_apart : (a : Option ℕ) (k : FileKind) → IsInput a k → clash k Other ≡ None
stream_apart None k i = ap (λ (x : FileKind). clash x Other) i
stream_apart (Some n) k i = ap (λ (x : FileKind). clash x Other) i.1

stream_unread : (b : Option ℕ) (earlier : Option FileKind) → IsEarlier b earlier → was_read earlier Other ≡ false
stream_unread b None i = refl
stream_unread b (Some k) i = ap (λ (x : Option Unopened). is_some x) (stream_apart b k i)

pub stream_made : (s : MemSystem) (why : Option Unopened) (a b : Option ℕ) (input : FileKind) (earlier : Option FileKind) → IsInput a input → IsEarlier b earlier → why ≡ None
    → (r : Result (Opened Measured) Unopened) (after : MemSystem) → OpensStream may_do input earlier s r after → IsMade why s.room r × (after.written ≡ s.written)
stream_made s why a b input earlier is_input is_earlier none r after (devices.no_stdout x u gave cause are) =
    (subst (IsMade why s.room) (sym are) (no_room_left why s.room Other x u none gave.0 cause), ap (λ (z : MemSystem). z.written) gave.1)
stream_made s why a b input earlier is_input is_earlier none r after (devices.was_read_earlier o had gave was closes are) =
    absurd (no_both (was_read earlier o.kind) (ap (was_read earlier) (kind_made s.room Other o gave.0) ∙ stream_unread b earlier is_earlier) was)
stream_made s why a b input earlier is_input is_earlier none r after (devices.clashed o cause had gave unread was closes are) =
    absurd (let no : None ≡ Some cause = sym (ap (clash input) (kind_made s.room Other o gave.0) ∙ stream_apart a input is_input) ∙ was in cc)
stream_made s why a b input earlier is_input is_earlier none r after (devices.opened o gave unread free are) =
    (subst (IsMade why s.room) (sym are) (room_given why s.room Other o none gave.0), ap (λ (z : MemSystem). z.written) gave.1)

-- ---- an output that is written as it is opened

-- what is seen at a path
pub seen : (s : MemSystem) (output : List ℕ) (there : Option FileKind) (had : MemSystem) → may_do.looks s output (Ok there) had → (there ≡ option_map kind_of (file_named s.files.now output)) × (had ≡ s)
seen s output there had looks = (let e : Ok there ≡ Ok (option_map kind_of (file_named s.files.now output)) = looks.0 in cc, looks.1)

module _ (s : MemSystem) (output : List ℕ) (overwrites : Bool) (a : Option ℕ) (input : FileKind) (is_input : IsInput a input) where
  abbrev file : Option MemFile
  file = file_named s.files.now output

  abbrev by : (number : Option ℕ) → Option Unopened
  by number = option_or (of_input (is_one_file a number)) (stays overwrites file)

  abbrev because : Option Unopened
  because = why s output by

  abbrev Made : MemSystem → Result (Opened Measured) Unopened → Type 0
  Made after r = IsMade because s.room r × (after.written ≡ s.written)

  -- the reason, by what was seen
  because_seen : (there : Option FileKind) (had : MemSystem) (x : Option Unopened) → may_do.looks s output (Ok there) had → barred_at overwrites input there ≡ x → by (number_of file) ≡ x
  because_seen there had x looks is = sym (barred_seen a overwrites input is_input file) ∙ ap (barred_at overwrites input) (sym (seen s output there had looks).0) ∙ is

  created : because ≡ None → by (number_of file) ≡ None → (r : Result (Opened Measured) Unopened) (after : MemSystem) → CreatesOutput may_do output overwrites input s r after → Made after r
  created none free r after (devices.not_created x u gave cause are) =
      subst (Made after) (sym are) (no_room_left because s.room (kind_written file) x u none gave.0 cause, ap (λ (z : MemSystem). z.written) gave.1)
  created none free r after (devices.barred_open o cause had gave was closes are) =
      absurd (let no : None ≡ Some cause = sym (ap (barred overwrites input) (kind_made s.room (kind_written file) o gave.0) ∙ barred_written a overwrites input is_input file ∙ free) ∙ was in cc)
  created none free r after (devices.created o gave is are) =
      subst (Made after) (sym are) (room_given because s.room (kind_written file) o none gave.0, ap (λ (z : MemSystem). z.written) gave.1)

  file_made : output ≢ standard → (r : Result (Opened Measured) Unopened) (after : MemSystem) → OpensFile may_do output overwrites input s r after → Made after r
  file_made other r after (devices.no_path bad are same) = subst (Made after) (sym are) (inl (why_no_text s output by other bad), ap (λ (z : MemSystem). z.written) same)
  file_made other r after (devices.not_seen x u text looks cause are) = absurd (let no : Err x ≡ Ok (option_map kind_of file) = looks.0 in cc)
  file_made other r after (devices.barred_there there cause text looks is are) =
      subst (Made after) (sym are) (inl (why_file s output by other text ∙ because_seen there after (Some cause) looks is), ap (λ (z : MemSystem). z.written) looks.1)
  file_made other r after (devices.not_barred there had text looks is creates) =
      let free = because_seen there had None looks is in
      created (why_file s output by other text ∙ free) free r after (subst (λ (z : MemSystem). CreatesOutput may_do output overwrites input z r after) looks.1 creates)

  pub output_made : (r : Result (Opened Measured) Unopened) (after : MemSystem) → OpensOutput may_do output overwrites input s r after → Made after r
  output_made r after (devices.to_stream is opens) = stream_made s because a None input None is_input refl (why_stream s output by is) r after opens
  output_made r after (devices.to_file other opens) = file_made other r after opens

-- ---- both devices

-- why they were not opened, and the output that was closed before
pub data NotOpened (bytes : Option (List ℕ)) (why : Option Unopened) (room before : Option MemOut) (u : Unopened) (after : Option MemOut) : Type 0 where
  by_input : bytes ≡ None → u ≡ Input → after ≡ before → NotOpened bytes why room before u after
  by_output : (bs : List ℕ) → bytes ≡ Some bs → (why ≡ Some u) ⊎ ((why ≡ None) × (room ≡ None) × (u ≡ OfOutput)) → after ≡ before → NotOpened bytes why room before u after

pub record BothOpened (bytes : Option (List ℕ)) (why : Option Unopened) (room : Option MemOut) (i : Opened MemIn) (o : Opened Measured) : Type 0 where
  pub bytes_are : bytes ≡ Some i.device.rest.now
  pub can_is : why ≡ None
  pub room_is : room ≡ Some o.device.out

abbrev pub DevicesAre : Option (List ℕ) → (why : Option Unopened) → (room before : Option MemOut) → Result (Opened MemIn × Opened Measured) Unopened → (after : Option MemOut) → Type 0
DevicesAre bytes why room before (Ok x) after = BothOpened bytes why room x.0 x.1
DevicesAre bytes why room before (Err u) after = NotOpened bytes why room before u after
