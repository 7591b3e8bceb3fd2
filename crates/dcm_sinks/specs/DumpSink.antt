-- A dump that is written atom by atom.
use Rattle.std.specs.Prelude.{ℕ, Bool, true, false, nat_lt, if◌then◌else◌, List, [], ◌∷◌, ◌++◌, length, codes, Option}
use Rattle.std.specs.Prelude.{None}
use Rattle.dcm_base.specs.declared.tag.Tag.{Tag}
use Rattle.dcm_base.specs.declared.vr.Vr.{Vr}
use Rattle.dcm_base.specs.declared.vr.Vr.TheVariants.{OB}
use Rattle.dcm_base.specs.declared.syntax.Syntax.{Syntax}
use Rattle.dcm_base.specs.Tables.Syntax.{Little}
use Rattle.dcm_base.specs.declared.mode.Mode.{Mode}
use Rattle.dcm_base.specs.declared.mode.Mode.TheVariants.{Short, Full}
use Rattle.dcm_base.specs.declared.length.Length.{Length}
use Rattle.dcm_base.specs.declared.length.Length.TheVariants.{Known}
use Rattle.dcm_base.specs.Tables.Tag.{item_tag}
use Rattle.dcm_base.specs.Tables.Representation.{letters}
use Rattle.dcm_base.specs.declared.form.Form.{Form}
use Rattle.dcm_base.specs.declared.form.Form.TheVariants.{Value as a_value, Sequence as a_sequence}
use Rattle.dcm_base.specs.declared.form.Form.TheVariants.{FragmentList as a_fragment_list, Nothing as no_form}
use Rattle.dcm_base.specs.Bytes.Spelling.{form, read_as}
use Rattle.dcm_base.specs.Steps.Atoms.{Atom, opens, value_byte, closes_leaf, opens_item, closes_item, closes_sequence}
use Rattle.dcm_base.specs.Steps.Atoms.{opens_fragment, ends}
use Rattle.dcm_base.specs.Dump.Dump.{line_start, line, open_line, sequence_line, item_line, sequence_end_line}
use Rattle.dcm_base.specs.Dump.Dump.{item_end_line}
use Rattle.dcm_base.specs.declared.dictionary.Dictionary.{Dictionary}
use Rattle.dcm_head.specs.declared.head.Head.{Head}
use Rattle.dcm_stream.specs.declared.token.Bar.{Bar}
use Rattle.dcm_stream.specs.Reading.{size_of}
use Rattle.dcm_value.specs.Display.{at_once}
use Rattle.dcm_value.specs.Progress.{Progress, started, opening, opened, step, writes, finishes, multiplicity}
use Rattle.dcm_sinks.specs.declared.dump.lines.Owner.{Owner}
use Rattle.dcm_sinks.specs.declared.dump.lines.Owner.TheVariants.{Element, Fragment}
use Rattle.dcm_sinks.specs.Layout.{line_rest}
use Rattle.dcm_base.specs.declared.level.TheConstants.{MOST_OPEN}
use Rattle.dcm_sinks.specs.Lengths.{innermost, outer}

pub data OpenValue : Type 0 where
  no_value : OpenValue
  open_value : (owner : Owner) (progress : Progress) → OpenValue

pub record DumpState : Type 0 where
  pub dictionary : Dictionary
  pub mode : Mode
  -- what the heads of the open sequences and items say of their lengths, the innermost first
  pub lengths : List Length
  pub value : OpenValue
  -- no data set gives such atoms: nothing more is written
  pub is_lost : Bool

abbrev pub dump_start : Dictionary → Mode → DumpState
dump_start d mode = record { dictionary = d; mode = mode; lengths = []; value = no_value; is_lost = false }

-- a line up to its display, and after it
abbrev pub owner_tag : Owner → Tag
owner_tag (Element tag vr) = tag
owner_tag Fragment = item_tag

abbrev pub owner_letters : Owner → List ℕ
owner_letters (Element tag vr) = letters vr
owner_letters Fragment = codes "pi"

abbrev pub owner_start : ℕ → Owner → List ℕ
owner_start level owner = line_start level (owner_tag owner) (owner_letters owner)

-- how many values there are, where the text counted so many: a fragment is one
abbrev pub count_of : Owner → ℕ → ℕ
count_of (Element tag vr) counted = counted
count_of Fragment counted = 1

abbrev pub owner_rest : Dictionary → Owner → Progress → List ℕ
owner_rest d owner p = line_rest d (owner_tag owner) (Known p.size) (count_of owner (multiplicity p))

-- in Full a line is begun at once
abbrev pub early_start : Mode → List ℕ → List ℕ
early_start Short start = []
early_start Full start = start

-- in Short a line is begun only where its display is known
abbrev pub late_start : Mode → List ℕ → List ℕ
late_start Short start = start
late_start Full start = []

-- an element or fragment begins
abbrev pub begin : DumpState → Owner → Progress → DumpState
begin s owner p = record s { value = open_value owner (opened p) }

abbrev pub begin_writes : DumpState → Owner → Progress → List ℕ
begin_writes s owner p = open_line s.mode (owner_start (length s.lengths) owner) (at_once p.display.mode (opening p))

-- a sequence or item begins, and ends
abbrev pub deeper : DumpState → Length → DumpState
deeper s declared = if nat_lt (length s.lengths) MOST_OPEN then record s { lengths = declared ∷ s.lengths }
    else record s { is_lost = true }

abbrev pub dump_opens : Form → DumpState → Tag → Vr → Length → Syntax → DumpState
dump_opens a_value s tag vr declared syntax = begin s (Element tag vr) (started vr syntax (size_of declared) s.mode)
dump_opens a_sequence s tag vr declared syntax = deeper s declared
dump_opens a_fragment_list s tag vr declared syntax = deeper s declared
dump_opens no_form s tag vr declared syntax = s

abbrev pub dump_opens_writes : Form → DumpState → Tag → Vr → Length → Syntax → List ℕ
dump_opens_writes a_value s tag vr declared syntax =
    begin_writes s (Element tag vr) (started vr syntax (size_of declared) s.mode)
dump_opens_writes a_sequence s tag vr declared syntax = sequence_line s.dictionary (length s.lengths) tag vr declared
dump_opens_writes a_fragment_list s tag vr declared syntax =
    line s.dictionary (length s.lengths) tag (letters vr) (codes "(PixelSequence)") declared 1
dump_opens_writes no_form s tag vr declared syntax = []

-- one byte of a value
abbrev pub takes_byte : DumpState → OpenValue → ℕ → DumpState
takes_byte s no_value b = s
takes_byte s (open_value owner p) b = if nat_lt p.seen p.size then record s { value = open_value owner (step p b) }
    else record s { is_lost = true }

abbrev pub byte_writes : OpenValue → ℕ → List ℕ
byte_writes no_value b = []
byte_writes (open_value owner p) b = if nat_lt p.seen p.size then writes p b else []

abbrev pub close_writes : Dictionary → Mode → ℕ → OpenValue → List ℕ
close_writes d mode level no_value = []
close_writes d mode level (open_value owner p) = late_start mode (owner_start level owner) ++ finishes p
    ++ owner_rest d owner p

abbrev pub live_step : DumpState → Atom → DumpState
live_step s (opens tag vr declared syntax) =
    dump_opens (form syntax (read_as syntax tag vr) declared) s tag vr declared syntax
live_step s (value_byte b) = takes_byte s s.value b
live_step s closes_leaf = record s { value = no_value }
live_step s (opens_item declared) = deeper s declared
live_step s closes_item = record s { lengths = outer s.lengths }
live_step s closes_sequence = record s { lengths = outer s.lengths }
live_step s (opens_fragment size) = begin s Fragment (started OB Little size s.mode)
live_step s ends = s

abbrev pub live_writes : DumpState → Atom → List ℕ
live_writes s (opens tag vr declared syntax) =
    dump_opens_writes (form syntax (read_as syntax tag vr) declared) s tag vr declared syntax
live_writes s (value_byte b) = byte_writes s.value b
live_writes s closes_leaf = close_writes s.dictionary s.mode (length s.lengths) s.value
live_writes s (opens_item declared) = item_line s.dictionary (length s.lengths) declared
live_writes s closes_item = item_end_line s.dictionary (length (outer s.lengths)) (innermost s.lengths)
live_writes s closes_sequence = sequence_end_line s.dictionary (length (outer s.lengths)) (innermost s.lengths)
live_writes s (opens_fragment size) = begin_writes s Fragment (started OB Little size s.mode)
live_writes s ends = []

abbrev pub dump_step : DumpState → Atom → DumpState
dump_step s a = if s.is_lost then s else live_step s a

abbrev pub dump_writes : DumpState → Atom → List ℕ
dump_writes s a = if s.is_lost then [] else live_writes s a

abbrev pub bars_nothing : DumpState → Head → Option Bar
bars_nothing s head = None

-- an atom of which nothing is shown leaves all as it is
abbrev pub as_before : DumpState → Atom → DumpState
as_before s a = s
