use Rattle.std.proofs.Common.{◌++◌, List, ℕ, rules}
use Rattle.dcm_devices.proofs.Writes.Puts.{front_longer, puts_behind, puts_err}
use Rattle.dcm_cli.specs.ErrorLines.{emptied_lines, nobody_lines, unknown_lines}
use Rattle.dcm_cli.proofs.run.put_all_remarks.Goals as goal

pub returns-in_err-put_nobody : goal.returns-in_err-put_nobody
returns-in_err-put_nobody g c =
    let others : List ℕ = unknown_lines c.args.remarks.unknown ++ emptied_lines c.args.remarks.emptied in
    record {
      bytes = puts_err _ _ (nobody_lines c.args.remarks.unnamed ++ others) _ c.from_residual.ensures.0 (front_longer others c.in_err-put_nobody.ensures.bytes);
      failed = search rules;
    }

pub returns-in_err-put_unknown : goal.returns-in_err-put_unknown
returns-in_err-put_unknown g c =
    let last : List ℕ = emptied_lines c.args.remarks.emptied in
    record {
      bytes = puts_behind _ _ _ (nobody_lines c.args.remarks.unnamed) (unknown_lines c.args.remarks.unknown ++ last) _ c.in_ok-put_nobody.ensures.bytes
          (puts_err _ _ (unknown_lines c.args.remarks.unknown ++ last) _ c.from_residual-in_err-put_unknown.ensures.0 (front_longer last c.in_err-put_unknown.ensures.bytes));
      failed = search rules;
    }

pub returns : goal.returns
returns g c = record {
  bytes = puts_behind _ _ _ (nobody_lines c.args.remarks.unnamed) (unknown_lines c.args.remarks.unknown ++ emptied_lines c.args.remarks.emptied) _ c.in_ok-put_nobody.ensures.bytes
      (puts_behind _ _ _ (unknown_lines c.args.remarks.unknown) (emptied_lines c.args.remarks.emptied) _ c.in_ok-put_unknown.ensures.bytes c.put_emptied.ensures.bytes);
  failed = search rules;
}
