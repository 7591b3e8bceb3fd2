-- A dump whose texts are shown by characters, atom by atom, while these sets are in force.
use Rattle.std.specs.Prelude.{ℕ, nat_lt, not, ◌||◌, Bool, true, false, if◌then◌else◌, List, [], ◌++◌, length}
use Rattle.std.specs.List.{list_all}
use Rattle.dcm_base.specs.declared.tag.Tag.{Tag}
use Rattle.dcm_base.specs.declared.vr.Vr.{Vr}
use Rattle.dcm_base.specs.declared.syntax.Syntax.{Syntax}
use Rattle.dcm_base.specs.declared.mode.Mode.{Mode}
use Rattle.dcm_base.specs.declared.length.Length.{Length}
use Rattle.dcm_base.specs.declared.length.Length.TheVariants.{Known}
use Rattle.dcm_base.specs.declared.dictionary.Dictionary.{Dictionary}
use Rattle.dcm_base.specs.declared.form.Form.{Form}
use Rattle.dcm_base.specs.declared.form.Form.TheVariants.{Value as a_value, Sequence as a_sequence}
use Rattle.dcm_base.specs.declared.form.Form.TheVariants.{FragmentList as a_fragment_list, Nothing as no_form}
use Rattle.dcm_base.specs.Bytes.Spelling.{form, read_as}
use Rattle.dcm_base.specs.Dump.Dump.{open_line}
use Rattle.dcm_base.specs.Dump.ValueText.{unpadded}
use Rattle.dcm_base.specs.Steps.Atoms.{Atom, opens, value_byte, closes_leaf, opens_item, closes_item, closes_sequence}
use Rattle.dcm_base.specs.Steps.Atoms.{opens_fragment, ends}
use Rattle.dcm_stream.specs.Reading.{size_of}
use Rattle.dcm_text.specs.declared.sets.Sets.{Sets}
use Rattle.dcm_value.specs.DecodedProgress.{DecodedProgress, started, opened, opening_writes, step, writes, finishes}
use Rattle.dcm_value.specs.DecodedProgress.{multiplicity}
use Rattle.dcm_value.specs.Plain.{is_ascii_byte}
use Rattle.dcm_sinks.specs.declared.dump.lines.Owner.{Owner}
use Rattle.dcm_sinks.specs.declared.dump.lines.Owner.TheVariants.{Element}
use Rattle.dcm_sinks.specs.Layout.{line_rest}
use Rattle.dcm_sinks.specs.DecodedDump.{is_decoded}
use Rattle.dcm_sinks.specs.DumpSink.{DumpState, no_value, dump_start, dump_step, dump_writes, owner_tag, owner_start}
use Rattle.dcm_sinks.specs.DumpSink.{late_start}

pub data OpenText : Type 0 where
  no_text : OpenText
  open_text : (owner : Owner) (progress : DecodedProgress) → OpenText

-- the dump, as far as it shows no texts, and the text that is being shown
pub record TextState : Type 0 where
  pub lines : DumpState
  pub text : OpenText

abbrev pub text_start : Dictionary → Mode → TextState
text_start d mode = record { lines = dump_start d mode; text = no_text }

-- whether an element is shown by characters
abbrev pub is_text : (is_lost : Bool) → Form → Vr → Bool
is_text true f vr = false
is_text false a_value vr = is_decoded vr
is_text false a_sequence vr = false
is_text false a_fragment_list vr = false
is_text false no_form vr = false

abbrev pub opens_text : TextState → Tag → Vr → Length → Syntax → Bool
opens_text s tag vr declared syntax = is_text s.lines.is_lost (form syntax (read_as syntax tag vr) declared) vr

-- a whole value that is shown as it would be without characters, whatever is in force
abbrev pub is_as_before : Vr → List ℕ → Bool
is_as_before vr value = not (is_decoded vr) || list_all is_ascii_byte (unpadded vr value)

-- a text begins
abbrev pub begin_text : TextState → Owner → DecodedProgress → TextState
begin_text s owner p = record { lines = record s.lines { value = no_value }; text = open_text owner (opened p) }

abbrev pub begin_text_writes : TextState → Owner → DecodedProgress → List ℕ
begin_text_writes s owner p =
    open_line s.lines.mode (owner_start (length s.lines.lengths) owner) (opening_writes p)

-- anything else is shown as without characters
abbrev pub passes : TextState → Atom → TextState
passes s a = record { lines = dump_step s.lines a; text = no_text }

abbrev pub text_opens : Bool → Sets → TextState → Tag → Vr → Length → Syntax → TextState
text_opens true sets s tag vr declared syntax =
    begin_text s (Element tag vr) (started vr sets (size_of declared) s.lines.mode)
text_opens false sets s tag vr declared syntax = passes s (opens tag vr declared syntax)

abbrev pub text_opens_writes : Bool → Sets → TextState → Tag → Vr → Length → Syntax → List ℕ
text_opens_writes true sets s tag vr declared syntax =
    begin_text_writes s (Element tag vr) (started vr sets (size_of declared) s.lines.mode)
text_opens_writes false sets s tag vr declared syntax = dump_writes s.lines (opens tag vr declared syntax)

-- one byte of a value: no data set gives more of them than its size
abbrev pub takes_byte : DumpState → OpenText → ℕ → TextState
takes_byte lines no_text b = record { lines = dump_step lines (value_byte b); text = no_text }
takes_byte lines (open_text owner p) b =
    record { lines = lines; text = open_text owner (if nat_lt p.seen p.size then step p b else p) }

abbrev pub byte_writes : DumpState → OpenText → ℕ → List ℕ
byte_writes lines no_text b = dump_writes lines (value_byte b)
byte_writes lines (open_text owner p) b = if nat_lt p.seen p.size then writes p b else []

-- the end of a value
abbrev pub closes : DumpState → OpenText → TextState
closes lines no_text = record { lines = dump_step lines closes_leaf; text = no_text }
closes lines (open_text owner p) = record { lines = lines; text = no_text }

abbrev pub text_rest : Dictionary → Owner → DecodedProgress → List ℕ
text_rest d owner p = line_rest d (owner_tag owner) (Known p.size) (multiplicity p)

abbrev pub close_writes : DumpState → OpenText → List ℕ
close_writes lines no_text = dump_writes lines closes_leaf
close_writes lines (open_text owner p) = late_start lines.mode (owner_start (length lines.lengths) owner) ++ finishes p
    ++ text_rest lines.dictionary owner p

abbrev pub text_step : Sets → TextState → Atom → TextState
text_step sets s (opens tag vr declared syntax) =
    text_opens (opens_text s tag vr declared syntax) sets s tag vr declared syntax
text_step sets s (value_byte b) = takes_byte s.lines s.text b
text_step sets s closes_leaf = closes s.lines s.text
text_step sets s (opens_item declared) = passes s (opens_item declared)
text_step sets s closes_item = passes s closes_item
text_step sets s closes_sequence = passes s closes_sequence
text_step sets s (opens_fragment size) = passes s (opens_fragment size)
text_step sets s ends = passes s ends

abbrev pub text_writes : Sets → TextState → Atom → List ℕ
text_writes sets s (opens tag vr declared syntax) =
    text_opens_writes (opens_text s tag vr declared syntax) sets s tag vr declared syntax
text_writes sets s (value_byte b) = byte_writes s.lines s.text b
text_writes sets s closes_leaf = close_writes s.lines s.text
text_writes sets s (opens_item declared) = dump_writes s.lines (opens_item declared)
text_writes sets s closes_item = dump_writes s.lines closes_item
text_writes sets s closes_sequence = dump_writes s.lines closes_sequence
text_writes sets s (opens_fragment size) = dump_writes s.lines (opens_fragment size)
text_writes sets s ends = dump_writes s.lines ends
