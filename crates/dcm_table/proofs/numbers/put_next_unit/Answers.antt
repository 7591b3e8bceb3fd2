use Rattle.std.proofs.Common.{rules, codes, [], ◌∷◌}
use Rattle.dcm_table.specs.Parts.{some_bytes}
use Rattle.dcm_table.specs.Row as spec
use Rattle.dcm_table.proofs.PartsOut.{out_then, out_failed, bytes_went, bytes_broke}
use Rattle.dcm_table.proofs.numbers.put_next_unit.Goals as goal

pub returns-in_err-put_all : goal.returns-in_err-put_all
returns-in_err-put_all g c = record {
  bytes = out_failed _ _ (some_bytes (codes "\\") ∷ []) (spec.unit_part c.args.vr c.args.unit.now ∷ []) _ c.from_residual.ensures.0 (bytes_broke _ _ _ c.in_err-put_all.ensures.wrote.bytes);
  failed = search rules;
}

pub returns : goal.returns
returns g c = record {
  bytes = out_then _ _ _ (some_bytes (codes "\\") ∷ []) (spec.unit_part c.args.vr c.args.unit.now ∷ []) _ (bytes_went _ _ _ c.in_ok-put_all.ensures.wrote.bytes) c.put_unit.ensures.bytes;
  failed = search rules;
}
