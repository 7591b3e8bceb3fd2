-- What the laws of named elements speak of.
use Rattle.std.specs.Prelude.{◌≡◌, ℕ, ◌≤◌, Bool, List, [], false}
use Rattle.dcm_base.specs.declared.dictionary.Dictionary.{Dictionary}
use Rattle.dcm_base.specs.declared.mode.Mode.{Mode}
use Rattle.dcm_base.specs.declared.syntax.Syntax.{Syntax}
use Rattle.dcm_base.specs.declared.tag.Tag.{Tag}
use Rattle.dcm_base.specs.Reading.Bars.{no_bar}
use Rattle.dcm_base.specs.Reading.Reads.{INPUT_LIMIT, Reads, ended}
use Rattle.dcm_base.specs.Reading.Stop.{Stop}
use Rattle.dcm_base.specs.Steps.Atoms.{Atom, Shows, front_atoms, is_closed}
use Rattle.dcm_base.specs.Steps.Steps.{outputs}
use Rattle.dcm_base.specs.Tree.Front.{Front}
use Rattle.dcm_sinks.specs.DecodedSink.{decoded_start, decoded_step, decoded_writes, passed_over}
use Rattle.dcm_sinks.specs.DumpSink.{dump_start, dump_step, dump_writes, as_before}
use Rattle.dcm_sinks.specs.InForce.{EMPTY}
use Rattle.dcm_sinks.specs.Laws.{StaysShallow}
use Rattle.dcm_named.specs.Filter.{place_start}
use Rattle.dcm_named.specs.Named.{Asked, Texts, by_bytes, by_characters, named_front}
use Rattle.dcm_named.specs.NamedSink.{named_step, named_writes}

-- what is asked for, with texts shown so
abbrev pub asked : Texts → List Tag → (ways : Bool) → Dictionary → Mode → Asked
asked texts tags ways d mode = record { tags = tags; ways = ways; texts = texts; dictionary = d; mode = mode }

-- what the filter writes of atoms, before either sink of lines
abbrev pub written : Texts → List Tag → (ways : Bool) → Dictionary → Mode → List Atom → List ℕ
written by_bytes tags ways d mode atoms =
    outputs (named_step dump_step as_before) (named_writes dump_writes) (place_start tags ways mode, dump_start d mode) atoms
written by_characters tags ways d mode atoms =
    outputs (named_step decoded_step passed_over) (named_writes decoded_writes)
    (place_start tags ways mode, decoded_start d mode) atoms

-- of the atoms of a data set that is the lines of what is named in it
abbrev pub NamedShown : Type 0
NamedShown =
    (texts : Texts) (tags : List Tag) (ways : Bool) (d : Dictionary) (mode : Mode) (f : Front) (atoms : List Atom)
    → StaysShallow 0 atoms → Shows f atoms
    → written texts tags ways d mode atoms ≡ named_front (asked texts tags ways d mode) EMPTY [] f

-- and so of all that is read of an input
abbrev pub NamedWhole : Type 0
NamedWhole =
    (texts : Texts) (tags : List Tag) (ways : Bool) (d : Dictionary) (mode : Mode) (s : Syntax) (start : ℕ)
    (bytes : List ℕ) (f : Front) (stop : Stop) → start ≤ INPUT_LIMIT → Reads no_bar s start bytes f stop
    → written texts tags ways d mode (front_atoms s f) ≡ named_front (asked texts tags ways d mode) EMPTY [] f

-- and of what was read of it so far
abbrev pub NamedSoFar : Type 0
NamedSoFar =
    (texts : Texts) (tags : List Tag) (ways : Bool) (d : Dictionary) (mode : Mode) (s : Syntax) (start : ℕ)
    (bytes : List ℕ) (f : Front) (stop : Stop) → start ≤ INPUT_LIMIT → is_closed f ≡ false
    → Reads no_bar s start bytes (ended stop f) stop
    → written texts tags ways d mode (front_atoms s f) ≡ named_front (asked texts tags ways d mode) EMPTY [] f
