-- A dump whose texts are shown by characters, atom by atom.
use Rattle.std.specs.Prelude.{ℕ, List, Option, None}
use Rattle.dcm_base.specs.declared.mode.Mode.{Mode}
use Rattle.dcm_base.specs.declared.dictionary.Dictionary.{Dictionary}
use Rattle.dcm_base.specs.Steps.Atoms.{Atom}
use Rattle.dcm_head.specs.declared.head.Head.{Head}
use Rattle.dcm_stream.specs.declared.token.Bar.{Bar}
use Rattle.dcm_sinks.specs.SettingValue.{ForceState, force_start, force_step}
use Rattle.dcm_sinks.specs.TextDump.{TextState, text_start, text_step, text_writes}

pub record DecodedState : Type 0 where
  pub shown : TextState
  pub force : ForceState

abbrev pub decoded_start : Dictionary → Mode → DecodedState
decoded_start d mode = record { shown = text_start d mode; force = force_start }

abbrev pub decoded_step : DecodedState → Atom → DecodedState
decoded_step s a = record { shown = text_step s.force.sets s.shown a; force = force_step s.force a }

abbrev pub decoded_writes : DecodedState → Atom → List ℕ
decoded_writes s a = text_writes s.force.sets s.shown a

abbrev pub bars_no_head : DecodedState → Head → Option Bar
bars_no_head s head = None

-- after an atom of which nothing is shown, but which goes on with what is in force
abbrev pub passed_over : DecodedState → Atom → DecodedState
passed_over s a = record s { force = force_step s.force a }
