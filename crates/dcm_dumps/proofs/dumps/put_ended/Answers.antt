use Rattle.std.proofs.Common.{◌++◌, rules}
use Rattle.dcm_devices.proofs.Writes.Puts.{front_longer, puts_behind, puts_err}
use Rattle.dcm_dumps.specs.Dumps.{ending_lines, remark_lines}
use Rattle.dcm_dumps.proofs.dumps.put_ended.Goals as goal

pub returns-in_err-put_unknown : goal.returns-in_err-put_unknown
returns-in_err-put_unknown g c = record {
  bytes = puts_err _ _ (remark_lines c.args.name.now c.args.ended.remarks ++ ending_lines c.args.name.now c.args.ended.ending) _ c.from_residual.ensures.0 (front_longer (ending_lines c.args.name.now c.args.ended.ending) c.in_err-put_unknown.ensures.bytes);
  failed = search rules;
}

pub returns : goal.returns
returns g c = record {
  bytes = puts_behind _ _ _ (remark_lines c.args.name.now c.args.ended.remarks) (ending_lines c.args.name.now c.args.ended.ending) _ c.in_ok-put_unknown.ensures.bytes c.put_ending.ensures.bytes;
  failed = search rules;
}
