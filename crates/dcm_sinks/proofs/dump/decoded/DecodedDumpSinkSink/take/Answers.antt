use Rattle.std.proofs.Common.{ap, ◌∙◌, subst, List, ℕ}
use Rattle.dcm_base.specs.Steps.Steps.{outputs}
use Rattle.dcm_devices.specs.Device.{Puts}
use Rattle.dcm_stream.specs.Tokens.{atoms_of}
use Rattle.dcm_text.specs.declared.sets.Sets.{Sets}
use Rattle.dcm_sinks.specs.DecodedLines.{state_of}
use Rattle.dcm_sinks.specs.DecodedSink.{DecodedState}
use Rattle.dcm_sinks.specs.TextDump.{text_step, text_writes}
use Rattle.dcm_sinks.proofs.DecodedDumps.Pairs.{paired, token_step, token_shown}
use Rattle.dcm_sinks.proofs.DecodedDumps.TextLines.{then_ok}
use Rattle.dcm_sinks.proofs.dump.decoded.DecodedDumpSinkSink.take.Goals as goal

pub returns-clause-state : goal.returns-clause-state
returns-clause-state g c =
    let s : DecodedState = state_of c.args.self.now.lines c.args.self.now.in_force in
    then_ok c.take-written.result c.take-written.ensures.state (λ e. paired s (atoms_of c.args.token) c.sets.result.now _ _ c.sets.ensures e c.take.ensures ∙ token_step s c.args.token)

pub returns-clause-bytes : goal.returns-clause-bytes
returns-clause-bytes g c =
    let s : DecodedState = state_of c.args.self.now.lines c.args.self.now.in_force in
    subst (λ (bytes : List ℕ). Puts (g.W.DeviceOut.contents c.args.self.now.out.now) (g.W.DeviceOut.contents c.take-written.new.out) bytes c.take-written.result)
    (ap (λ (x : Sets). outputs (text_step x) (text_writes x) s.shown (atoms_of c.args.token)) c.sets.ensures ∙ token_shown s c.args.token)
    c.take-written.ensures.wrote.bytes
