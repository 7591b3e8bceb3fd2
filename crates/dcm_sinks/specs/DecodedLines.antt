-- A sink of decoded texts in the definitions.
use Rattle.dcm_sinks.specs.declared.dump.lines.texts.TextLines.{TextLines}
use Rattle.dcm_sinks.specs.SettingValue.{ForceState}
use Rattle.dcm_sinks.specs.TextLines.{state}
use Rattle.dcm_sinks.specs.DecodedSink.{DecodedState}

abbrev pub state_of : TextLines → ForceState → DecodedState
state_of lines force = record { shown = state lines; force = force }
