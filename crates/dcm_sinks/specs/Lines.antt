-- `Lines` in the definitions.
use Rattle.std.specs.Prelude.{ℕ, List, length, Option, None, Some}
use Rattle.dcm_base.specs.declared.vr.Vr.{Vr}
use Rattle.dcm_base.specs.declared.syntax.Syntax.{Syntax}
use Rattle.dcm_base.specs.declared.length.Length.{Length}
use Rattle.dcm_base.specs.Steps.Atoms.{Atom}
use Rattle.dcm_base.specs.Dump.Dump.{line}
use Rattle.dcm_base.specs.Tables.Representation.{letters}
use Rattle.dcm_base.specs.Steps.Steps.{outputs}
use Rattle.dcm_base.specs.declared.dictionary.Dictionary.{Dictionary}
use Rattle.dcm_head.specs.declared.head.Head.{Head}
use Rattle.dcm_value.specs.Progress.{Progress, started}
use Rattle.dcm_value.specs.ValueText.{progress}
use Rattle.dcm_sinks.specs.declared.dump.lines.Lines.{Lines}
use Rattle.dcm_sinks.specs.declared.dump.lines.Owner.{Owner}
use Rattle.dcm_sinks.specs.DumpSink.{DumpState, OpenValue, no_value, open_value, dump_step, dump_writes}

-- the value that is being shown, if one is
abbrev pub value_of : Option Owner → Progress → OpenValue
value_of None text = no_value
value_of (Some owner) text = open_value owner text

abbrev pub state : Lines → DumpState
state l = record {
  dictionary = l.dictionary;
  mode = l.mode;
  lengths = l.lengths;
  value = value_of l.owner (progress l.text);
  is_lost = l.is_lost;
}

-- a value of this size, of which nothing came yet
abbrev pub started_in : Lines → Vr → Syntax → ℕ → Progress
started_in l vr syntax size = started vr syntax size l.mode

-- what is written over atoms
abbrev pub shows : DumpState → List Atom → List ℕ
shows s atoms = outputs dump_step dump_writes s atoms

-- the line of a sequence or a fragment list that begins
abbrev pub list_line : Dictionary → List Length → Head → List ℕ → List ℕ
list_line d lengths head display = line d (length lengths) head.tag (letters head.vr) display head.length 1
