use Rattle.std.proofs.Common.{rules, refl, ◌∙◌}
use Rattle.dcm_cli.proofs.Passes.Readers.{writer}
use Rattle.dcm_cli.proofs.Runs.Obeying.{nothing_told}
use Rattle.dcm_dumps.specs.Dumps.{failed_before, not_flushed}
use Rattle.dcm_dumps.proofs.dumps.end_dump.Goals as goal

pub returns-in-Output-clause-ends : goal.returns-in-Output-clause-ends
returns-in-Output-clause-ends g c = failed_before _ c.in-Output.is refl (nothing_told (writer g.E.Device g.E.DeviceOut) c.args.errors.now) refl

pub returns-in_err-flush_out : goal.returns-in_err-flush_out
returns-in_err-flush_out g c = record {
  ends = not_flushed c.in_err-flush_out.field-0.0 c.in_default.not-Output c.in_err-flush_out.ensures.bytes c.in_err-flush_out.ensures.failed
      (c.in_err-flush_out.ensures.room.0 ∙ c.in_err-flush_out.ensures.room.1) (nothing_told (writer g.E.Device g.E.DeviceOut) c.args.errors.now) (search rules);
  within = search rules;
}
