use Rattle.std.proofs.Common.{rules}
use Rattle.dcm_devices.proofs.Writes.Puts.{puts_behind}
use Rattle.dcm_names.specs.NamedLines.{emptied_lines, nobody_lines}
use Rattle.dcm_trees.proofs.lines.put_all_remarks.Goals as goal

pub returns : goal.returns
returns g c = record {
  bytes = puts_behind _ _ _ (nobody_lines c.args.name.now c.args.remarks.unnamed) (emptied_lines c.args.name.now c.args.remarks.emptied) _ c.in_ok-put_nobody.ensures.bytes c.put_emptied.ensures.bytes;
  failed = search rules;
}
