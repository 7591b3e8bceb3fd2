-- `TextLines` in the definitions.
use Rattle.std.specs.Prelude.{ℕ, List, Option, None, Some}
use Rattle.dcm_base.specs.Steps.Atoms.{Atom}
use Rattle.dcm_base.specs.Steps.Steps.{outputs}
use Rattle.dcm_text.specs.declared.sets.Sets.{Sets}
use Rattle.dcm_value.specs.DecodedProgress.{DecodedProgress}
use Rattle.dcm_value.specs.DecodedText.{decoded_progress}
use Rattle.dcm_sinks.specs.declared.dump.lines.Owner.{Owner}
use Rattle.dcm_sinks.specs.declared.dump.lines.texts.TextLines.{TextLines}
use Rattle.dcm_sinks.specs.Lines.{state as lines_state}
use Rattle.dcm_sinks.specs.TextDump.{OpenText, no_text, open_text, TextState, text_step, text_writes}

-- the text that is being shown, if one is
abbrev pub text_of : Option Owner → DecodedProgress → OpenText
text_of None text = no_text
text_of (Some owner) text = open_text owner text

abbrev pub state : TextLines → TextState
state l = record { lines = lines_state l.lines; text = text_of l.owner (decoded_progress l.text) }

-- what is written over atoms
abbrev pub shows : Sets → TextState → List Atom → List ℕ
shows sets s atoms = outputs (text_step sets) (text_writes sets) s atoms
