use Rattle.std.proofs.Common.{ap, ◌∙◌, subst, List, ℕ}
use Rattle.dcm_base.specs.Steps.Steps.{outputs}
use Rattle.dcm_devices.specs.Device.{Puts}
use Rattle.dcm_stream.specs.Tokens.{whole_atoms}
use Rattle.dcm_text.specs.declared.sets.Sets.{Sets}
use Rattle.dcm_sinks.specs.DecodedLines.{state_of}
use Rattle.dcm_sinks.specs.DecodedSink.{DecodedState}
use Rattle.dcm_sinks.specs.TextDump.{text_step, text_writes}
use Rattle.dcm_sinks.proofs.DecodedDumps.Pairs.{paired, whole_step, whole_shown}
use Rattle.dcm_sinks.proofs.DecodedDumps.TextLines.{then_ok}
use Rattle.dcm_sinks.proofs.dump.decoded.DecodedDumpSinkSink.take_whole.Goals as goal

pub returns-clause-state : goal.returns-clause-state
returns-clause-state g c =
    let s : DecodedState = state_of c.args.self.now.lines c.args.self.now.in_force in
    then_ok c.take_whole-written.result c.take_whole-written.ensures.state (λ e. paired s (whole_atoms c.args.head c.args.syntax c.args.value.now) c.sets-sets.result.now _ _ c.sets-sets.ensures e c.take_whole.ensures ∙ whole_step s c.args.head c.args.syntax c.args.value.now)

pub returns-clause-bytes : goal.returns-clause-bytes
returns-clause-bytes g c =
    let s : DecodedState = state_of c.args.self.now.lines c.args.self.now.in_force in
    subst (λ (bytes : List ℕ). Puts (g.W.DeviceOut.contents c.args.self.now.out.now) (g.W.DeviceOut.contents c.take_whole-written.new.out) bytes c.take_whole-written.result)
    (ap (λ (x : Sets). outputs (text_step x) (text_writes x) s.shown (whole_atoms c.args.head c.args.syntax c.args.value.now)) c.sets-sets.ensures ∙ whole_shown s c.args.head c.args.syntax c.args.value.now)
    c.take_whole-written.ensures.wrote.bytes
