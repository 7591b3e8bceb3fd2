use Rattle.std.proofs.Common.{rules, codes}
use Rattle.std.specs.Option.{option_map}
use Rattle.dcm_table.proofs.Texts.{three_failed_first, three_failed_second, three_went}
use Rattle.dcm_trees.specs.Row as spec
use Rattle.dcm_trees.proofs.row.put_row.Goals as goal

pub returns-in_err-put_cell : goal.returns-in_err-put_cell
returns-in_err-put_cell g c = record {
  bytes = three_failed_first _ _ (spec.cell c.args.name.now) (codes ",") (spec.rest (option_map (λ o. o.now) c.args.output) c.args.word.now) _ c.from_residual.ensures.0 c.in_err-put_cell.ensures.bytes;
  failed = search rules;
}

pub returns-in_err-put_all : goal.returns-in_err-put_all
returns-in_err-put_all g c = record {
  bytes = three_failed_second _ _ _ (spec.cell c.args.name.now) (codes ",") (spec.rest (option_map (λ o. o.now) c.args.output) c.args.word.now) _ c.from_residual-in_err-put_all.ensures.0 c.in_ok-put_cell.ensures.bytes c.in_err-put_all.ensures.wrote.bytes;
  failed = search rules;
}

pub returns : goal.returns
returns g c = record {
  bytes = three_went _ _ _ _ (spec.cell c.args.name.now) (codes ",") (spec.rest (option_map (λ o. o.now) c.args.output) c.args.word.now) _ c.in_ok-put_cell.ensures.bytes c.in_ok-put_all.ensures.wrote.bytes c.put_rest.ensures.bytes;
  failed = search rules;
}
