use Rattle.std.proofs.Common.{◌≡◌, ◌+◌, refl, rules, subst, arith, take, drop, Option}
use Rattle.std.specs.Prelude.{flat_map, option_to_list}
use Rattle.std.specs.Io.KnownBytes.{append_known}
use Rattle.dcm_base.specs.declared.tag.Tag.{Tag}
use Rattle.dcm_devices.specs.Device.{AppendsFront}
use Rattle.dcm_names.specs.NamedLines.{too_long_line}
use Rattle.dcm_table.specs.Row.{reported}
use Rattle.dcm_tables.specs.Rows.{long_lines}
use Rattle.dcm_tables.proofs.LinesOut.{none_so_far, more_so_far, failed_so_far, next_lines}
use Rattle.dcm_tables.proofs.rows.put_long_lines.Goals as goal

pub loop-column-init : goal.loop-column-init
loop-column-init g c = record { out = none_so_far _ _; fine = refl }

pub loop-column-preserved : goal.loop-column-preserved
loop-column-preserved g c =
    let name = c.args.name.now in
    let slots = c.args.cells.now.slots in
    let column = c.loop-column.column in
    record {
      out = more_so_far (g.E.DeviceOut.contents c.put_column_line.new.errors) (flat_map (too_long_line name) (option_to_list (reported slots column))) (long_lines name (take (column + 1) slots) (drop (column + 1) slots)) c.loop-column.invariant.out
          (next_lines name slots column (omega (arith, c.loop-column-test.true, c.len-column-end.ensures)))
          (subst (λ (tag : Option Tag). g.E.DeviceOut.contents c.put_column_line.new.errors ≡ append_known (g.E.DeviceOut.contents c.loop-column.errors) (flat_map (too_long_line name) (option_to_list tag))) c.reported.ensures c.in_ok-put_column_line.ensures.bytes);
      fine = search rules;
    }

pub returns-in_err-put_column_line : goal.returns-in_err-put_column_line
returns-in_err-put_column_line g c =
    let name = c.args.name.now in
    let slots = c.args.cells.now.slots in
    let column = c.loop-column.column in
    record {
      bytes = failed_so_far (g.E.DeviceOut.contents c.put_column_line.new.errors) (flat_map (too_long_line name) (option_to_list (reported slots column))) (long_lines name (take (column + 1) slots) (drop (column + 1) slots)) c.from_residual.result c.loop-column.invariant.out
          (next_lines name slots column (omega (arith, c.loop-column-test.true, c.len-column-end.ensures)))
          c.from_residual.ensures.0
          (subst (λ (tag : Option Tag). AppendsFront (g.E.DeviceOut.contents c.loop-column.errors) (g.E.DeviceOut.contents c.put_column_line.new.errors) (flat_map (too_long_line name) (option_to_list tag))) c.reported.ensures c.in_err-put_column_line.ensures.bytes);
      failed = search rules;
    }
