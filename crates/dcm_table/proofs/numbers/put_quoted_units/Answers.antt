use Rattle.std.proofs.Common.{rules, codes}
use Rattle.dcm_table.proofs.PartsOut.{between_failed_first, between_failed, between_went}
use Rattle.dcm_table.proofs.numbers.put_quoted_units.Goals as goal

pub returns-in_err-put_all : goal.returns-in_err-put_all
returns-in_err-put_all g c = record {
  bytes = between_failed_first _ _ (codes "\"") (codes "\"") _ _ c.from_residual.ensures.0 c.in_err-put_all.ensures.wrote.bytes;
  failed = search rules;
}

pub returns-in_err-put_joined : goal.returns-in_err-put_joined
returns-in_err-put_joined g c = record {
  bytes = between_failed _ _ _ (codes "\"") (codes "\"") _ _ c.from_residual-in_err-put_joined.ensures.0 c.in_ok-put_all.ensures.wrote.bytes c.in_err-put_joined.ensures.bytes;
  failed = search rules;
}

pub returns : goal.returns
returns g c = record {
  bytes = between_went _ _ _ _ (codes "\"") (codes "\"") _ _ c.in_ok-put_all.ensures.wrote.bytes c.in_ok-put_joined.ensures.bytes c.put_all-2.ensures.wrote.bytes;
  failed = search rules;
}
