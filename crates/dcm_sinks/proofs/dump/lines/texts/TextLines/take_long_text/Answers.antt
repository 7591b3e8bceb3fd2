use Rattle.std.proofs.Common.{rules, ap, sym, ◌∙◌, subst, List, ℕ}
use Rattle.dcm_devices.specs.Device.{Puts}
use Rattle.dcm_sinks.specs.TextLines.{state}
use Rattle.dcm_sinks.proofs.DecodedDumps.TextBytes.{out_of_text}
use Rattle.dcm_sinks.proofs.DecodedDumps.TextLines.{then_ok}
use Rattle.dcm_sinks.proofs.DecodedDumps.TextRuns.{as_before_step, as_before_shown}
use Rattle.dcm_sinks.proofs.dump.lines.texts.TextLines.take_long_text.Goals as goal

pub returns-then-is_as_before-clause-state : goal.returns-then-is_as_before-clause-state
returns-then-is_as_before-clause-state g c =
    let a = c.args in
    let before = sym c.is_as_before.ensures ∙ c.if-is_as_before.true in
    then_ok c.take_whole.result c.take_whole.ensures.state
    (λ e. ap out_of_text e ∙ sym (as_before_step a.sets.now (state a.self.now) a.head a.syntax a.value.now c.requires before))

pub returns-then-is_as_before-clause-wrote : goal.returns-then-is_as_before-clause-wrote
returns-then-is_as_before-clause-wrote g c =
    let a = c.args in
    let before = sym c.is_as_before.ensures ∙ c.if-is_as_before.true in
    record {
      bytes = subst (λ (bytes : List ℕ). Puts (g.W.DeviceOut.contents a.out.now) (g.W.DeviceOut.contents c.take_whole.new.out) bytes c.take_whole.result)
          (sym (as_before_shown a.sets.now (state a.self.now) a.head a.syntax a.value.now c.requires before)) c.take_whole.ensures.wrote.bytes;
      failed = search rules;
    }
