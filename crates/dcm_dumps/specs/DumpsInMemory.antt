-- What words that ask for dumps of several files come to over files in memory: the heading and the dump of each file, in
-- the order of the names, each as if its file were alone.
use Rattle.std.specs.Prelude.{◌≡◌, ◌≤◌, ℕ, max, List, [], ◌∷◌, ◌++◌, length, Bool, true, false, Option, Some, None}
use Rattle.std.specs.Prelude.{Result, Ok, Err}
use Rattle.dcm_devices.specs.Memory.{written, room_of}
use Rattle.dcm_devices.specs.declared.memory.MemOut.{MemOut}
use Rattle.dcm_files.specs.declared.memory.MemSystem.{MemSystem}
use Rattle.dcm_names.specs.Names.{names_of}
use Rattle.dcm_names.specs.NamedLines.{unopened_line}
use Rattle.dcm_words.specs.Words.{Job}
use Rattle.dcm_table_words.specs.Table.{Name, file, list}
use Rattle.dcm_cli.specs.declared.ending.Remarks.{Remarks}
use Rattle.dcm_cli.specs.declared.ending.Verdict.{Verdict}
use Rattle.dcm_cli.specs.InMemory.{Fits, Took}
use Rattle.dcm_cli.specs.Run.{Answered, Remarked}
use Rattle.dcm_cli.specs.Status.{DEVICE, DONE}
use Rattle.dcm_each.specs.Each.{listed_path}
use Rattle.dcm_each.specs.InMemory.{file_of, AreReadWhole}
use Rattle.dcm_dumps.specs.declared.plan.DumpsUsage.{DumpsUsage}
use Rattle.dcm_dumps.specs.Words.{Dumps, meant_dumps, total_of}
use Rattle.dcm_dumps.specs.Heading.{heading}
use Rattle.dcm_dumps.specs.Dumps.{next_number, remark_lines, verdict_lines, verdict_status}
use Rattle.dcm_dumps.specs.DumpsProgram.{usage_line, usage_status}

-- ---- dumps

-- what names come to: the text, the lines on standard error, and the greatest status
pub record Texts : Type 0 where
  pub text : List ℕ
  pub lines : List ℕ
  pub status : ℕ

abbrev pub no_texts : Texts
no_texts = record { text = []; lines = []; status = DONE }

-- these, and then those
abbrev pub and_texts : Texts → Texts → Texts
and_texts a b = record { text = a.text ++ b.text; lines = a.lines ++ b.lines; status = max a.status b.status }

-- where in the run a name comes: how many names were before it, and whether no heading was
pub record Place : Type 0 where
  pub number : ℕ
  pub is_first : Bool

abbrev pub at_first : Place
at_first = record { number = 0; is_first = true }

-- after a name without a heading, and after one with a heading
abbrev pub passed : Place → Place
passed p = record { number = next_number p.number; is_first = p.is_first }

abbrev pub headed : Place → Place
headed p = record { number = next_number p.number; is_first = false }

-- what one after another of a list comes to, from a place to a later one
abbrev pub AllCome : {X : Type 0} → (Place → X → Texts → Place → Type 0) → Place → List X → Texts → Place → Type 0
AllCome Comes from [] t to = (t ≡ no_texts) × (to ≡ from)
AllCome Comes from (x ∷ xs) t to = (mid : Place) × (first : Texts) × (later : Texts) × Comes from x first mid
    × AllCome Comes mid xs later to × (t ≡ and_texts first later)

-- ---- one file

-- how each file is shown, and how many names there are
pub record Showing : Type 0 where
  pub job : Job
  pub total : Option ℕ

-- a file or a list cannot be opened
abbrev pub unopened : (name : List ℕ) → Texts
unopened name = record { text = []; lines = unopened_line name; status = DEVICE }

-- a heading, and the text of a file with this verdict, of which this is remarked
abbrev pub shown : Showing → Place → (name text : List ℕ) → Verdict → Remarks → Texts
shown h from name text verdict remarks = record {
  text = heading from.is_first (next_number from.number) h.total name ++ text;
  lines = remark_lines name remarks ++ verdict_lines name verdict;
  status = verdict_status verdict;
}

-- a file comes to the dump that its bytes give; one that cannot be opened has none
abbrev pub FileComes : Showing → Place → (name : List ℕ) → Option (List ℕ) → Texts → Place → Type 0
FileComes h from name None t to = (t ≡ unopened name) × (to ≡ passed from)
FileComes h from name (Some bytes) t to =
    (text : List ℕ) × (verdict : Verdict) × (remarks : Remarks) × Answered h.job bytes text verdict
    × Remarked h.job bytes remarks × (t ≡ shown h from name text verdict remarks) × (to ≡ headed from)

-- ---- names

-- a name in a list, where `-` is the file of that name
abbrev pub ListedComes : MemSystem → Showing → Place → (name : List ℕ) → Texts → Place → Type 0
ListedComes s h from name t to = FileComes h from name (file_of s name (listed_path name)) t to

-- a list comes to the dumps of its names
abbrev pub ListComes : MemSystem → Showing → Place → (path : List ℕ) → Option (List ℕ) → Texts → Place → Type 0
ListComes s h from path None t to = (t ≡ unopened path) × (to ≡ from)
ListComes s h from path (Some bytes) t to = AllCome (ListedComes s h) from (names_of bytes true) t to

-- a name among the words, where `-` is standard input
abbrev pub NameComes : MemSystem → Showing → Place → Name → Texts → Place → Type 0
NameComes s h from (file path) t to = FileComes h from path (file_of s path path) t to
NameComes s h from (list path) t to = ListComes s h from path (file_of s path path) t to

-- ---- words

-- what words come to: the text, where an output is opened; the lines on standard error; and the status
pub record DumpsOutcome : Type 0 where
  pub text : Option (List ℕ)
  pub lines : List ℕ
  pub status : ℕ

-- nothing is opened
abbrev pub refused : DumpsUsage → DumpsOutcome
refused u = record { text = None; lines = usage_line u; status = usage_status u }

abbrev pub dumped : Texts → DumpsOutcome
dumped t = record { text = Some t.text; lines = t.lines; status = t.status }

abbrev pub showing : Dumps → Showing
showing d = record { job = d.job; total = total_of d.names }

abbrev pub TextsCome : MemSystem → Dumps → Texts → Type 0
TextsCome s d t = (last : Place) × AllCome (NameComes s (showing d)) at_first d.names t last

-- by what the words mean
abbrev pub DumpsComeBy : MemSystem → Result Dumps DumpsUsage → DumpsOutcome → Type 0
DumpsComeBy s (Err u) o = o ≡ refused u
DumpsComeBy s (Ok d) o = (t : Texts) × TextsCome s d t × (o ≡ dumped t)

-- what words that ask for dumps of several files come to over files in memory
abbrev pub DumpsCome : (words : List (List ℕ)) → MemSystem → DumpsOutcome → Type 0
DumpsCome words s o = DumpsComeBy s (meant_dumps words) o

-- ---- what obeying them leaves

-- there is room for the text
abbrev pub HasRoomFor : Option (List ℕ) → (room : Option MemOut) → Type 0
HasRoomFor None room = Unit {0}
HasRoomFor (Some text) room = Fits text room

-- the text was written, all of it, and then the output was closed; or none was opened
abbrev pub IsDumped : Option (List ℕ) → MemSystem → (output : Option MemOut) → Type 0
IsDumped None s output = output ≡ s.written
IsDumped (Some text) s output = Took text s.room output

-- what was written, the status, and the lines where there is room for them
pub record LeavesDumps (o : DumpsOutcome) (s : MemSystem) (errors_before : MemOut) (output : Option MemOut)
    (errors_after : MemOut) (status : ℕ) : Type 0 where
  pub output_is : IsDumped o.text s output
  pub lines_are : length o.lines ≤ room_of errors_before → written errors_after ≡ written errors_before ++ o.lines
  pub status_is : status ≡ o.status

-- each list of the dumps that words mean has at most as many bytes as are read of one
abbrev pub ListsAreReadWhole : (words : List (List ℕ)) → MemSystem → Type 0
ListsAreReadWhole words s = (d : Dumps) → meant_dumps words ≡ Ok d → AreReadWhole s d.names

-- what the words come to, where there is room for it
abbrev pub DumpsInMemory : (words : List (List ℕ)) → MemSystem → (errors_before : MemOut) → (output : Option MemOut)
    → (errors_after : MemOut) → (status : ℕ) → Type 0
DumpsInMemory words s errors_before output errors_after status =
    (o : DumpsOutcome) → DumpsCome words s o → HasRoomFor o.text s.room
    → LeavesDumps o s errors_before output errors_after status
