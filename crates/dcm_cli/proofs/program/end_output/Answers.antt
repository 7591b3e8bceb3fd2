use Rattle.std.proofs.Common.{sym, ◌∙◌, inl, inr}
use Rattle.dcm_cli.proofs.Passes.Readers.{writer}
use Rattle.dcm_cli.proofs.Runs.Obeying.{end_failed, end_kept, nothing_told}
use Rattle.dcm_cli.proofs.program.end_output.Goals as goal
use Rattle.dcm_cli.proofs.program.end_output.Goals.{else-is_whole-via-then-is_whole+else-is_err, else-is_whole-via-else-is_whole}

pub returns-then-is_err-clause-ends : goal.returns-then-is_err-clause-ends
returns-then-is_err-clause-ends g c =
    end_failed g.S.System.may_do c.args.output.now c.args.ran _ c.args.system.now _ c.end_part-ended.result c.end_part-ended.ensures
    (sym c.is_err.ensures.value ∙ c.if-is_err.true) c.if-is_whole.true c.tell_output.ensures

pub returns-clause-ends : goal.returns-clause-ends
returns-clause-ends g c =
    end_kept g.S.System.may_do c.args.output.now c.args.ran _ c.args.system.now _ c.end_part-ended.result c.end_part-ended.ensures
    (elim c.else-is_whole.branch [
      | else-is_whole-via-then-is_whole+else-is_err w ↦ inr (w.if-is_whole.true, sym w.is_err.ensures.value ∙ w.if-is_err.false)
      | else-is_whole-via-else-is_whole w ↦ inl w.if-is_whole.false
    ])
    (nothing_told (writer g.E.Device g.E.DeviceOut) c.args.errors.now)
