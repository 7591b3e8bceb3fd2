use Rattle.std.proofs.Common.{◌++◌, append_assoc, rules, [], subst, sym, Bool, List, ℕ}
use Rattle.dcm_devices.specs.Device.{Puts}
use Rattle.dcm_devices.proofs.Writes.Puts.{puts_behind}
use Rattle.dcm_names.specs.NamedLines.{unknown_lines}
use Rattle.dcm_table.proofs.Texts.{two_failed}
use Rattle.dcm_tables.specs.Rows.{end_lines, long_lines, unknown_told}
use Rattle.dcm_tables.proofs.LinesOut.{last_lines}
use Rattle.dcm_tables.proofs.rows.put_file_lines.Goals as goal

pub returns-in_err-put_long_lines : goal.returns-in_err-put_long_lines
returns-in_err-put_long_lines g c =
    let name = c.args.name.now in
    let told : Bool = unknown_told c.args.form c.args.cells.now.unknown in
    let longs : List ℕ = long_lines name [] c.args.cells.now.slots in
    record {
      bytes = subst (λ (lines : List ℕ). Puts (g.E.DeviceOut.contents c.args.errors.now) (g.E.DeviceOut.contents c.put_long_lines.new.errors) lines c.from_residual.result) (sym (append_assoc longs (unknown_lines name told) (end_lines name c.args.«end»)))
          (two_failed _ _ longs (last_lines name told c.args.«end») _ c.from_residual.ensures.0 c.in_err-put_long_lines.ensures.bytes);
      failed = search rules;
    }

pub returns : goal.returns
returns g c =
    let name = c.args.name.now in
    let told : Bool = unknown_told c.args.form c.args.cells.now.unknown in
    let longs : List ℕ = long_lines name [] c.args.cells.now.slots in
    record {
      bytes = subst (λ (lines : List ℕ). Puts (g.E.DeviceOut.contents c.args.errors.now) (g.E.DeviceOut.contents c.put_last_lines.new.errors) lines c.put_last_lines.result) (sym (append_assoc longs (unknown_lines name told) (end_lines name c.args.«end»)))
          (puts_behind _ _ _ longs (last_lines name told c.args.«end») _ c.in_ok-put_long_lines.ensures.bytes
          (subst (λ (said : Bool). Puts (g.E.DeviceOut.contents c.put_long_lines.new.errors) (g.E.DeviceOut.contents c.put_last_lines.new.errors) (last_lines name said c.args.«end») c.put_last_lines.result) c.tells_unknown.ensures c.put_last_lines.ensures.bytes));
      failed = search rules;
    }
