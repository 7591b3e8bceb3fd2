use Rattle.std.proofs.Common.{rules, codes}
use Rattle.dcm_table.proofs.Texts.{two_failed}
use Rattle.dcm_trees.specs.Row as spec
use Rattle.dcm_trees.proofs.row.put_last.Goals as goal

pub returns-in_err-put_cell : goal.returns-in_err-put_cell
returns-in_err-put_cell g c = record {
  bytes = two_failed _ _ (spec.cell c.args.word.now) (codes "\n") _ c.from_residual.ensures.0 c.in_err-put_cell.ensures.bytes;
  failed = search rules;
}
