use Rattle.std.proofs.Common.{sym, subst}
use Rattle.dcm_cli.specs.Searching.{Ends}
use Rattle.dcm_cli.proofs.Passes.Ended.{machine_ends}
use Rattle.dcm_cli.proofs.first.end.Goals as goal

pub returns : goal.returns
returns g c =
    subst (λ r. Ends g.S.Sink c.args.sink.now c.finish.new.sink c.args.machine.now c.finish.new.self r) (sym c.told.ensures)
    (machine_ends g.S.Sink c.args.sink.now c.finish.new.sink c.args.machine.now c.finish.new.self c.requires c.finish.result
    (record { takes = c.finish.ensures.finished.takes; failed = c.finish.ensures.finished.failed; kept = c.finish.ensures.finished.kept })
    c.finish.ensures.answer c.finish.ensures.reading (λ e. (c.finish.ensures.halted e).0))
