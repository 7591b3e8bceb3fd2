-- What the laws of the dump of texts speak of.
use Rattle.std.specs.Prelude.{◌≡◌, ℕ, ◌≤◌, List, false, fold}
use Rattle.dcm_base.specs.declared.dictionary.Dictionary.{Dictionary}
use Rattle.dcm_base.specs.declared.mode.Mode.{Mode}
use Rattle.dcm_base.specs.declared.syntax.Syntax.{Syntax}
use Rattle.dcm_base.specs.Dump.Dump.{dump_front}
use Rattle.dcm_base.specs.Reading.Bars.{no_bar}
use Rattle.dcm_base.specs.Reading.Reads.{INPUT_LIMIT, Reads, ended}
use Rattle.dcm_base.specs.Reading.Stop.{Stop}
use Rattle.dcm_base.specs.Steps.Atoms.{Atom, Shows, front_atoms, is_closed}
use Rattle.dcm_base.specs.Steps.Steps.{outputs}
use Rattle.dcm_base.specs.Tree.Front.{Front}
use Rattle.dcm_text.specs.declared.sets.Sets.{Sets}
use Rattle.dcm_text.specs.Laws.{is_plain}
use Rattle.dcm_sinks.specs.InForce.{EMPTY}
use Rattle.dcm_sinks.specs.DecodedDump.{decoded_front}
use Rattle.dcm_sinks.specs.DecodedSink.{decoded_start, decoded_step, decoded_writes}
use Rattle.dcm_sinks.specs.Laws.{StaysShallow}
use Rattle.dcm_sinks.specs.Unknown.{has_unknown}
use Rattle.dcm_sinks.specs.PlainTexts.{FrontOf, is_low}

-- what the sink writes of the atoms of a data set is its dump by characters
abbrev pub DecodedDumpsShown : Type 0
DecodedDumpsShown =
    (d : Dictionary) (mode : Mode) (f : Front) (atoms : List Atom) → StaysShallow 0 atoms → Shows f atoms
    → outputs decoded_step decoded_writes (decoded_start d mode) atoms ≡ decoded_front d mode EMPTY 0 f

-- what it writes of all that is read of an input is that
abbrev pub DecodedDumpsWhole : Type 0
DecodedDumpsWhole =
    (d : Dictionary) (mode : Mode) (s : Syntax) (start : ℕ) (bytes : List ℕ) (f : Front) (stop : Stop)
    → start ≤ INPUT_LIMIT
    → Reads no_bar s start bytes f stop
    → outputs decoded_step decoded_writes (decoded_start d mode) (front_atoms s f) ≡ decoded_front d mode EMPTY 0 f

-- what it writes of what was read of an input so far is that
abbrev pub DecodedDumpsSoFar : Type 0
DecodedDumpsSoFar =
    (d : Dictionary) (mode : Mode) (s : Syntax) (start : ℕ) (bytes : List ℕ) (f : Front) (stop : Stop)
    → start ≤ INPUT_LIMIT
    → is_closed f ≡ false → Reads no_bar s start bytes (ended stop f) stop
    → outputs decoded_step decoded_writes (decoded_start d mode) (front_atoms s f) ≡ decoded_front d mode EMPTY 0 f

-- where all texts are ASCII, and designate nothing by what they are read by, the dump is the one without characters: ESC
-- may be in a text, unless code extensions are in force there and the text is one that they concern
abbrev pub DecodedOfAscii : Type 0
DecodedOfAscii = (d : Dictionary) (mode : Mode) (sets : Sets) (level : ℕ) (f : Front) → FrontOf is_plain sets f
    → decoded_front d mode sets level f ≡ dump_front d mode level f

-- so it is where no text has an ESC, whatever is in force
abbrev pub DecodedOfLow : Type 0
DecodedOfLow = (d : Dictionary) (mode : Mode) (sets : Sets) (level : ℕ) (f : Front) → FrontOf is_low sets f
    → decoded_front d mode sets level f ≡ dump_front d mode level f

-- after the atoms of a data set the sink knows whether a value in it names what is not known
abbrev pub UnknownShown : Type 0
UnknownShown = (d : Dictionary) (mode : Mode) (f : Front) (atoms : List Atom) → Shows f atoms
    → (fold decoded_step (decoded_start d mode) atoms).force.unknown ≡ has_unknown f

-- so it is with all that is read of an input
abbrev pub UnknownWhole : Type 0
UnknownWhole =
    (d : Dictionary) (mode : Mode) (s : Syntax) (start : ℕ) (bytes : List ℕ) (f : Front) (stop : Stop)
    → start ≤ INPUT_LIMIT → Reads no_bar s start bytes f stop
    → (fold decoded_step (decoded_start d mode) (front_atoms s f)).force.unknown ≡ has_unknown f

-- and with what was read of it so far
abbrev pub UnknownSoFar : Type 0
UnknownSoFar =
    (d : Dictionary) (mode : Mode) (s : Syntax) (start : ℕ) (bytes : List ℕ) (f : Front) (stop : Stop)
    → start ≤ INPUT_LIMIT → is_closed f ≡ false → Reads no_bar s start bytes (ended stop f) stop
    → (fold decoded_step (decoded_start d mode) (front_atoms s f)).force.unknown ≡ has_unknown (ended stop f)
