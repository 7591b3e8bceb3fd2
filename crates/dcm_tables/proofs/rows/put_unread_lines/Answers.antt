use Rattle.std.proofs.Common.{◌≡◌, rules, subst, Bool, Option}
use Rattle.std.specs.Io.KnownBytes.{append_known}
use Rattle.dcm_devices.specs.Device.{AppendsFront}
use Rattle.dcm_devices.proofs.Writes.Puts.{puts_behind}
use Rattle.dcm_table.proofs.Texts.{two_failed}
use Rattle.dcm_names.specs.NamedLines.{unknown_lines, unread_line}
use Rattle.dcm_tables.specs.Rows.{unknown_told}
use Rattle.dcm_tables.proofs.rows.put_unread_lines.Goals as goal

pub returns-in_err-put_unknown : goal.returns-in_err-put_unknown
returns-in_err-put_unknown g c =
    let told : Bool = unknown_told c.args.form c.args.cells.now.unknown in
    record {
      bytes = two_failed _ _ (unknown_lines c.args.name.now told) (unread_line c.args.name.now c.args.read) _ c.from_residual.ensures.0
          (subst (λ (b : Bool). AppendsFront (g.E.DeviceOut.contents c.args.errors.now) (g.E.DeviceOut.contents c.put_unknown.new.errors) (unknown_lines c.args.name.now b)) c.tells_unknown.ensures c.in_err-put_unknown.ensures.bytes);
      failed = search rules;
    }

pub returns : goal.returns
returns g c =
    let told : Bool = unknown_told c.args.form c.args.cells.now.unknown in
    record {
      bytes = puts_behind _ _ _ (unknown_lines c.args.name.now told) (unread_line c.args.name.now c.args.read) _
          (subst (λ (b : Bool). g.E.DeviceOut.contents c.put_unknown.new.errors ≡ append_known (g.E.DeviceOut.contents c.args.errors.now) (unknown_lines c.args.name.now b)) c.tells_unknown.ensures c.in_ok-put_unknown.ensures.bytes)
          c.put_unread.ensures.bytes;
      failed = search rules;
    }
