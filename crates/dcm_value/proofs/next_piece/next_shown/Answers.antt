use Rattle.std.proofs.Common.{◌≤◌, length, rules}
use Rattle.dcm_value.proofs.Displays.WholeSteps.{run_follows}
use Rattle.dcm_value.proofs.next_piece.next_shown.Goals as goal

pub returns-else-is_empty-clause-next : goal.returns-else-is_empty-clause-next
returns-else-is_empty-clause-next c =
    let some : 1 ≤ length c.pass_shown-run.result.now = search rules in
    run_follows c.args.pieces.now c.pass_shown-run.new.self c.pass_shown-run.result c.pass_shown-run.ensures.passed c.pass_shown-run.ensures.bytes
    some
