use Rattle.std.proofs.Common.{rules, subst, codes, List, ◌≡◌}
use Rattle.std.specs.Prelude.{flat_map}
use Rattle.std.specs.Io.KnownBytes.{append_known}
use Rattle.dcm_devices.specs.Device.{AppendsFront}
use Rattle.dcm_table.specs.Quoted.{quoted}
use Rattle.dcm_table.specs.Row as spec
use Rattle.dcm_table.specs.Columns.{list_of}
use Rattle.dcm_table.specs.declared.column.Column.{Column}
use Rattle.dcm_table.proofs.Texts.{three_failed_first, three_failed_second, three_went}
use Rattle.dcm_table.proofs.row.put_header.Goals as goal

pub returns-in_err-put_quoted : goal.returns-in_err-put_quoted
returns-in_err-put_quoted g c = record {
  bytes = three_failed_first _ _ (quoted (codes "File")) (flat_map spec.header_cell (list_of c.args.columns.now)) spec.newline _ c.from_residual.ensures.0 c.in_err-put_quoted.ensures.bytes;
  failed = search rules;
}

pub returns-in_err-put_header_cells : goal.returns-in_err-put_header_cells
returns-in_err-put_header_cells g c = record {
  bytes = three_failed_second _ _ _ (quoted (codes "File")) (flat_map spec.header_cell (list_of c.args.columns.now)) spec.newline _ c.from_residual-in_err-put_header_cells.ensures.0 c.in_ok-put_quoted.ensures.bytes
      (subst (λ (x : List Column). AppendsFront (g.W.DeviceOut.contents c.put_quoted.new.out) (g.W.DeviceOut.contents c.put_header_cells.new.out) (flat_map spec.header_cell x)) c.as_slice.ensures.value c.in_err-put_header_cells.ensures.bytes);
  failed = search rules;
}

pub returns : goal.returns
returns g c = record {
  bytes = three_went _ _ _ _ (quoted (codes "File")) (flat_map spec.header_cell (list_of c.args.columns.now)) spec.newline _ c.in_ok-put_quoted.ensures.bytes
      (subst (λ (x : List Column). g.W.DeviceOut.contents c.put_header_cells.new.out ≡ append_known (g.W.DeviceOut.contents c.put_quoted.new.out) (flat_map spec.header_cell x)) c.as_slice.ensures.value c.in_ok-put_header_cells.ensures.bytes)
      c.put_all.ensures.wrote.bytes;
  failed = search rules;
}
