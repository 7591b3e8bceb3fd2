use Rattle.std.proofs.Common.{◌++◌}
use Rattle.dcm_deid.specs.DeidentifySink as spec
use Rattle.dcm_deid.proofs.Taking.{on, failed}
use Rattle.dcm_deid.proofs.said.put_said.Goals as goal

pub returns-in_err-put_removed_due : goal.returns-in_err-put_removed_due
returns-in_err-put_removed_due g c = (failed g.S.Sink (c.args.sink.now) (c.put_removed_due.new.sink) (spec.removed_due c.args.options.now c.args.gap.last c.args.gap.next) ((spec.method_due c.args.options.now c.args.gap.last c.args.gap.next) ++ ((spec.codes_due c.args.options.now c.args.gap.last c.args.gap.next) ++ (spec.dates_due c.args.options.now c.args.gap.last c.args.gap.next))) c.from_residual.result c.from_residual.ensures.0 c.in_err-put_removed_due.ensures)

pub returns-in_err-put_method_due : goal.returns-in_err-put_method_due
returns-in_err-put_method_due g c = (on g.S.Sink (c.args.sink.now) (c.put_removed_due.new.sink) (c.put_method_due.new.sink) (spec.removed_due c.args.options.now c.args.gap.last c.args.gap.next) ((spec.method_due c.args.options.now c.args.gap.last c.args.gap.next) ++ ((spec.codes_due c.args.options.now c.args.gap.last c.args.gap.next) ++ (spec.dates_due c.args.options.now c.args.gap.last c.args.gap.next))) c.in_ok-put_removed_due.ensures (failed g.S.Sink (c.put_removed_due.new.sink) (c.put_method_due.new.sink) (spec.method_due c.args.options.now c.args.gap.last c.args.gap.next) ((spec.codes_due c.args.options.now c.args.gap.last c.args.gap.next) ++ (spec.dates_due c.args.options.now c.args.gap.last c.args.gap.next)) c.from_residual-in_err-put_method_due.result c.from_residual-in_err-put_method_due.ensures.0 c.in_err-put_method_due.ensures))

pub returns-in_err-put_codes_due : goal.returns-in_err-put_codes_due
returns-in_err-put_codes_due g c = (on g.S.Sink (c.args.sink.now) (c.put_removed_due.new.sink) (c.put_codes_due.new.sink) (spec.removed_due c.args.options.now c.args.gap.last c.args.gap.next) ((spec.method_due c.args.options.now c.args.gap.last c.args.gap.next) ++ ((spec.codes_due c.args.options.now c.args.gap.last c.args.gap.next) ++ (spec.dates_due c.args.options.now c.args.gap.last c.args.gap.next))) c.in_ok-put_removed_due.ensures (on g.S.Sink (c.put_removed_due.new.sink) (c.put_method_due.new.sink) (c.put_codes_due.new.sink) (spec.method_due c.args.options.now c.args.gap.last c.args.gap.next) ((spec.codes_due c.args.options.now c.args.gap.last c.args.gap.next) ++ (spec.dates_due c.args.options.now c.args.gap.last c.args.gap.next)) c.in_ok-put_method_due.ensures (failed g.S.Sink (c.put_method_due.new.sink) (c.put_codes_due.new.sink) (spec.codes_due c.args.options.now c.args.gap.last c.args.gap.next) (spec.dates_due c.args.options.now c.args.gap.last c.args.gap.next) c.from_residual-in_err-put_codes_due.result c.from_residual-in_err-put_codes_due.ensures.0 c.in_err-put_codes_due.ensures)))

pub returns : goal.returns
returns g c = (on g.S.Sink (c.args.sink.now) (c.put_removed_due.new.sink) (c.put_dates_due.new.sink) (spec.removed_due c.args.options.now c.args.gap.last c.args.gap.next) ((spec.method_due c.args.options.now c.args.gap.last c.args.gap.next) ++ ((spec.codes_due c.args.options.now c.args.gap.last c.args.gap.next) ++ (spec.dates_due c.args.options.now c.args.gap.last c.args.gap.next))) c.in_ok-put_removed_due.ensures (on g.S.Sink (c.put_removed_due.new.sink) (c.put_method_due.new.sink) (c.put_dates_due.new.sink) (spec.method_due c.args.options.now c.args.gap.last c.args.gap.next) ((spec.codes_due c.args.options.now c.args.gap.last c.args.gap.next) ++ (spec.dates_due c.args.options.now c.args.gap.last c.args.gap.next)) c.in_ok-put_method_due.ensures (on g.S.Sink (c.put_method_due.new.sink) (c.put_codes_due.new.sink) (c.put_dates_due.new.sink) (spec.codes_due c.args.options.now c.args.gap.last c.args.gap.next) (spec.dates_due c.args.options.now c.args.gap.last c.args.gap.next) c.in_ok-put_codes_due.ensures c.put_dates_due.ensures)))
