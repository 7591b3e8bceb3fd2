use Rattle.std.proofs.Common.{rules, ap}
use Rattle.dcm_devices.proofs.Writes.PartsOut.{part_failed, parts_put}
use Rattle.dcm_table.specs.Quoted.{quoted}
use Rattle.dcm_table.specs.Row as spec
use Rattle.dcm_table.proofs.row.put_header_cell.Goals as goal
use Rattle.std.proofs.Common.{refl}

pub returns-in_err-put_all : goal.returns-in_err-put_all
returns-in_err-put_all g c = record {
  bytes = part_failed _ _ spec.comma _ _ _ _ c.from_residual.ensures.0 refl refl c.in_err-put_all.ensures.wrote.bytes;
  failed = search rules;
}

pub returns : goal.returns
returns g c = record {
  bytes = parts_put _ _ _ spec.comma _ _ _ _ _ refl (ap quoted c.header.ensures) refl c.in_ok-put_all.ensures.wrote.bytes c.put_quoted.ensures.bytes;
  failed = search rules;
}
