-- What jobs make of a data set, by sinks.
use Rattle.std.proofs.Common.{◌≡◌, ◌⊎◌, ℕ, ◌≤◌, List, [], ◌++◌, false, Option, Some, None, refl}
use Rattle.std.specs.Prelude.{fold}
use Rattle.dcm_base.specs.declared.fault.Fault.{Fault}
use Rattle.dcm_base.specs.declared.mode.Mode.{Mode}
use Rattle.dcm_base.specs.declared.syntax.Syntax.{Syntax}
use Rattle.dcm_base.specs.Steps.Atoms.{Atom, front_atoms, is_closed}
use Rattle.dcm_base.specs.Reading.Bars.{no_bar, target_bar}
use Rattle.dcm_base.specs.Dump.Dump.{dump_front}
use Rattle.dcm_base.specs.Tree.Front.{Front}
use Rattle.dcm_base.specs.Reading.Reads.{INPUT_LIMIT, Reads, ended}
use Rattle.dcm_base.specs.Conversion.Recode.{recode}
use Rattle.dcm_base.specs.Steps.Steps.{outputs}
use Rattle.dcm_base.specs.Reading.Stop.{Bar, HeadBar, Stop, refused}
use Rattle.dcm_base.proofs.Writes.Runs.{outputs-append}
use Rattle.dcm_base.specs.declared.dictionary.Dictionary.{Dictionary}
use Rattle.dcm_head.specs.declared.head.Head.{Head}
use Rattle.dcm_stream.specs.declared.token.Bar.{Bar as SinkBar}
use Rattle.dcm_stream.specs.Driven.{bars_by, driven, driven_output, EndsAs, RefusesAs, WaitsAs}
use Rattle.dcm_stream.specs.Follows.{BarsAs, GoesOn, HaltsAt, Answered}
use Rattle.dcm_stream.specs.Machine.{steps, steps_write}
use Rattle.dcm_stream.specs.Reading.{Reading, start_of, finish, end_shows, read_all}
use Rattle.dcm_stream.proofs.Runs.Inputs.{bars_none, driven_is, output_is, ends_by, refuses_by, waits_by}
use Rattle.dcm_stream.proofs.Steps.Follows.{follows, answers}
use Rattle.dcm_editor.proofs.EditSinks.DrivesEdits.{BarsShallowAs, driven_same, output_same}
use Rattle.dcm_editor.proofs.ReadBack.Rises.{KeepsOrder}
use Rattle.dcm_sinks.specs.DumpSink.{DumpState, dump_start, dump_step, dump_writes, bars_nothing}
use Rattle.dcm_sinks.specs.DecodedDump.{decoded_front}
use Rattle.dcm_sinks.specs.DecodedSink.{DecodedState, decoded_start, decoded_step, decoded_writes, bars_no_head}
use Rattle.dcm_sinks.specs.InForce.{EMPTY}
use Rattle.dcm_sinks.proofs.DecodedDumps.Reads.{reads_whole as decoded_reads_whole, reads_so_far as decoded_reads_so_far}
use Rattle.dcm_sinks.specs.DumpSink.{as_before}
use Rattle.dcm_sinks.specs.DecodedSink.{passed_over}
use Rattle.dcm_words.specs.Words.{Named}
use Rattle.dcm_words.specs.declared.job.Texts.{Texts}
use Rattle.dcm_words.specs.declared.job.Texts.TheVariants.{Bytes, Characters}
use Rattle.dcm_named.specs.Filter.{Place, place_start}
use Rattle.dcm_named.specs.Named.{by_bytes, by_characters, named_front}
use Rattle.dcm_named.specs.NamedSink.{named_step, named_writes, bars_nothing as named_bars_nothing}
use Rattle.dcm_named.proofs.NamedReads.{reads_whole as named_reads_whole, reads_so_far as named_reads_so_far}
use Rattle.dcm_cli.specs.Answer.{asked_of}
use Rattle.dcm_sinks.specs.EncodeSink.{EncodeState, encode_bar, encode_start, encode_step, encode_writes}
use Rattle.dcm_sinks.proofs.Dumps.Reads.{reads_whole, reads_so_far}
use Rattle.dcm_sinks.proofs.Conversions.Reads.{encode_bars, reads_whole as encode_reads_whole, reads_so_far as encode_reads_so_far}

-- a machine with a sink over the bytes of a data set: what the definitions read of them, and what the sink makes of its atoms
pub record Drives {S : Type 0} (bars : S → Head → Option SinkBar) (step : S → Atom → S) (writes : S → Atom → List ℕ) (bar : Bar) (first : S) (s : Syntax) (start : ℕ) (bytes : List ℕ) : Type 0 where
  pub reading : Reading
  pub atoms : List Atom
  pub driven_is : driven bars step first s start bytes ≡ (reading, fold step first atoms)
  pub output_is : driven_output bars step writes first s start bytes ≡ outputs step writes first atoms
  pub answered : Answered bar s start bytes reading atoms
  pub followed : GoesOn bar s start bytes reading atoms ⊎ HaltsAt bar s start bytes reading atoms

-- a sink that keeps a bar, and makes this text of all that is read of a data set, and of what was read of it so far
pub record Maker (bar : Bar) (text : Front → List ℕ) : Type 1 where
  pub State : Type 0
  pub bars : State → Head → Option SinkBar
  pub step : State → Atom → State
  pub writes : State → Atom → List ℕ
  pub first : State
  pub drives : (s : Syntax) (start : ℕ) (bytes : List ℕ) → start ≤ INPUT_LIMIT → Drives bars step writes bar first s start bytes
  pub whole : (s : Syntax) (start : ℕ) (bytes : List ℕ) (f : Front) (stop : Stop) → start ≤ INPUT_LIMIT → Reads bar s start bytes f stop → outputs step writes first (front_atoms s f) ≡ text f
  pub so_far : (s : Syntax) (start : ℕ) (bytes : List ℕ) (f : Front) (stop : Stop) → start ≤ INPUT_LIMIT → is_closed f ≡ false → Reads bar s start bytes (ended stop f) stop → outputs step writes first (front_atoms s f) ≡ text f

-- it was driven over the bytes of a data set: the states, the output, what the input's end adds to it, and what more bytes add
module _ {bar : Bar} {text : Front → List ℕ} (m : Maker bar text) (s : Syntax) (start : ℕ) (bytes : List ℕ) where
  abbrev pub made : Reading × m.State
  made = driven m.bars m.step m.first s start bytes

  abbrev pub made_output : List ℕ
  made_output = driven_output m.bars m.step m.writes m.first s start bytes

  abbrev pub last_output : List ℕ
  last_output = outputs m.step m.writes made.1 (end_shows (finish made.0))

  abbrev pub more_made : List ℕ → List ℕ
  more_made rest = outputs (steps m.bars m.step) (steps_write m.bars m.step m.writes) made rest

  module _ (le : start ≤ INPUT_LIMIT) where
    -- the input ends with the bytes, or the machine is halted, or it is not
    pub ends_as : EndsAs m.bars m.step m.writes bar m.first s start bytes
    ends_as = let d = m.drives s start bytes le in ends_by m.bars m.step m.writes bar m.first s start bytes d.reading d.atoms d.driven_is d.output_is d.answered

    pub refuses_as : (fault : Fault) (offset : ℕ) → made.0.halt ≡ Some (refused fault offset) → RefusesAs m.bars m.step m.writes bar m.first s start bytes fault offset
    refuses_as fault offset is = let d = m.drives s start bytes le in refuses_by m.bars m.step m.writes bar m.first s start bytes d.reading d.atoms fault offset d.driven_is d.output_is is d.followed

    pub waits_as : made.0.halt ≡ None → WaitsAs m.bars m.step m.writes bar m.first s start bytes
    waits_as is = let d = m.drives s start bytes le in waits_by m.bars m.step m.writes bar m.first s start bytes d.reading d.atoms d.driven_is d.output_is is d.followed

pub made_behind : {bar : Bar} {text : Front → List ℕ} (m : Maker bar text) (s : Syntax) (start : ℕ) (read rest : List ℕ) → made_output m s start (read ++ rest) ≡ made_output m s start read ++ more_made m s start read rest
made_behind m s start read rest = outputs-append (steps m.bars m.step) (steps_write m.bars m.step m.writes) (start_of s start, m.first) read rest

-- a sink whose bar is one of the definitions'
pub drives_by : {S : Type 0} (bars : S → Head → Option SinkBar) (step : S → Atom → S) (writes : S → Atom → List ℕ) (bar : Bar) (first : S) → BarsAs (bars_by bars step first) bar
    → (s : Syntax) (start : ℕ) (bytes : List ℕ) → start ≤ INPUT_LIMIT → Drives bars step writes bar first s start bytes
drives_by bars step writes bar first same s start bytes le = record {
  reading = (read_all (bars_by bars step first) s start bytes).0;
  atoms = (read_all (bars_by bars step first) s start bytes).1;
  driven_is = driven_is bars step writes first s start bytes;
  output_is = output_is bars step writes first s start bytes;
  answered = answers (bars_by bars step first) bar same s start bytes le;
  followed = follows (bars_by bars step first) bar same s start bytes le;
}

-- a sink that bars what a bar does, tags that do not ascend among it, where no more than 64 sequences and fragment lists are open at a time
pub drives_as : (told : List Atom → HeadBar) (bar : Bar) → KeepsOrder told bar → {S : Type 0} (bars : S → Head → Option SinkBar) (step : S → Atom → S) (writes : S → Atom → List ℕ) (first : S) → BarsShallowAs bar bars step first
    → (s : Syntax) (start : ℕ) (bytes : List ℕ) → start ≤ INPUT_LIMIT → Drives bars step writes bar first s start bytes
drives_as told bar k bars step writes first shallow s start bytes le = record {
  reading = (read_all told s start bytes).0;
  atoms = (read_all told s start bytes).1;
  driven_is = driven_same told bar k s start bars step writes first shallow bytes le;
  output_is = output_same told bar k s start bars step writes first shallow bytes le;
  answered = answers told bar k.same s start bytes le;
  followed = follows told bar k.same s start bytes le;
}

-- the dump
abbrev pub dumper : (d : Dictionary) (mode : Mode) → Maker no_bar (dump_front d mode 0)
dumper d mode = record {
  State = DumpState;
  bars = bars_nothing;
  step = dump_step;
  writes = dump_writes;
  first = dump_start d mode;
  drives = drives_by bars_nothing dump_step dump_writes no_bar (dump_start d mode) (bars_none bars_nothing dump_step dump_writes (dump_start d mode) (λ atoms head. refl));
  whole = reads_whole d mode;
  so_far = reads_so_far d mode;
}

-- the dump by characters
abbrev pub decoder : (d : Dictionary) (mode : Mode) → Maker no_bar (decoded_front d mode EMPTY 0)
decoder d mode = record {
  State = DecodedState;
  bars = bars_no_head;
  step = decoded_step;
  writes = decoded_writes;
  first = decoded_start d mode;
  drives = drives_by bars_no_head decoded_step decoded_writes no_bar (decoded_start d mode) (bars_none bars_no_head decoded_step decoded_writes (decoded_start d mode) (λ atoms head. refl));
  whole = decoded_reads_whole d mode;
  so_far = decoded_reads_so_far d mode;
}

-- the dump of named elements
abbrev pub named_by_bytes : (d : Dictionary) (mode : Mode) (n : Named) → Maker no_bar (named_front (asked_of Bytes d mode n) EMPTY [])
named_by_bytes d mode n = record {
  State = Place × DumpState;
  bars = named_bars_nothing;
  step = named_step dump_step as_before;
  writes = named_writes dump_writes;
  first = (place_start n.tags n.ways mode, dump_start d mode);
  drives = drives_by named_bars_nothing (named_step dump_step as_before) (named_writes dump_writes) no_bar (place_start n.tags n.ways mode, dump_start d mode)
      (bars_none named_bars_nothing (named_step dump_step as_before) (named_writes dump_writes) (place_start n.tags n.ways mode, dump_start d mode) (λ atoms head. refl));
  whole = named_reads_whole by_bytes n.tags n.ways d mode;
  so_far = named_reads_so_far by_bytes n.tags n.ways d mode;
}

abbrev pub named_by_characters : (d : Dictionary) (mode : Mode) (n : Named) → Maker no_bar (named_front (asked_of Characters d mode n) EMPTY [])
named_by_characters d mode n = record {
  State = Place × DecodedState;
  bars = named_bars_nothing;
  step = named_step decoded_step passed_over;
  writes = named_writes decoded_writes;
  first = (place_start n.tags n.ways mode, decoded_start d mode);
  drives = drives_by named_bars_nothing (named_step decoded_step passed_over) (named_writes decoded_writes) no_bar (place_start n.tags n.ways mode, decoded_start d mode)
      (bars_none named_bars_nothing (named_step decoded_step passed_over) (named_writes decoded_writes) (place_start n.tags n.ways mode, decoded_start d mode) (λ atoms head. refl));
  whole = named_reads_whole by_characters n.tags n.ways d mode;
  so_far = named_reads_so_far by_characters n.tags n.ways d mode;
}

abbrev pub namer : (texts : Texts) (d : Dictionary) (mode : Mode) (n : Named) → Maker no_bar (named_front (asked_of texts d mode n) EMPTY [])
namer Bytes d mode n = named_by_bytes d mode n
namer Characters d mode n = named_by_characters d mode n

-- the conversion
abbrev pub encoder : (target : Syntax) → Maker (target_bar target) (recode target)
encoder target = record {
  State = EncodeState;
  bars = encode_bar;
  step = encode_step;
  writes = encode_writes;
  first = encode_start target;
  drives = drives_by encode_bar encode_step encode_writes (target_bar target) (encode_start target) (encode_bars target);
  whole = encode_reads_whole target;
  so_far = encode_reads_so_far target;
}
