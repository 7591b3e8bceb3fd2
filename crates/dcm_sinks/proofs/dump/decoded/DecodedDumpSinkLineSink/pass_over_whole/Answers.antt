use Rattle.std.proofs.Common.{◌∙◌, ap}
use Rattle.dcm_sinks.specs.DecodedLines.{state_of}
use Rattle.dcm_sinks.specs.SettingValue.{ForceState}
use Rattle.dcm_stream.specs.Tokens.{whole_atoms}
use Rattle.dcm_sinks.proofs.DecodedDumps.PassedOver.{force_goes_on}
use Rattle.dcm_sinks.proofs.dump.decoded.DecodedDumpSinkLineSink.pass_over_whole.Goals as goal

pub returns-clause-state : goal.returns-clause-state
returns-clause-state g c =
    let d = c.args.self.now in
    ap (λ (f : ForceState). state_of d.lines f) c.take_whole.ensures ∙ force_goes_on (state_of d.lines d.in_force) (whole_atoms c.args.head c.args.syntax c.args.value.now)
