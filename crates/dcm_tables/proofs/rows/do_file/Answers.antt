use Rattle.std.proofs.Common.{rules, refl, ap, Ok}
use Rattle.dcm_cli.proofs.Passes.Readers.{writer}
use Rattle.dcm_cli.proofs.Runs.Obeying.{nothing_told}
use Rattle.dcm_tables.specs.Rows.{written, not_written, not_read}
use Rattle.dcm_each.proofs.Names.{told}
use Rattle.dcm_tables.proofs.rows.do_file.Goals as goal

pub returns-in-Unread-clause-does : goal.returns-in-Unread-clause-does
returns-in-Unread-clause-does g c =
    not_read c.read_file_with.new.cells c.in-Unread.read c.in-Unread.ensures.reads refl
    (told (writer g.E.Device g.E.DeviceOut) c.args.errors.now c.put_unread_lines.new.errors _ c.put_unread_lines.result c.put_unread_lines.ensures) refl

pub returns-in_ok-put_row-in-Read-clause-does : goal.returns-in_ok-put_row-in-Read-clause-does
returns-in_ok-put_row-in-Read-clause-does g c =
    written c.read_file_with.new.cells c.in-Read.«end» c.in-Read.ensures.reads c.in_ok-put_row-in-Read.ensures.bytes c.in_ok-put_row-in-Read.ensures.failed
    (told (writer g.E.Device g.E.DeviceOut) c.args.errors.now c.put_file_lines.new.errors _ c.put_file_lines.result c.put_file_lines.ensures) (ap Ok c.file_status.ensures.value)

pub returns-in_err-put_row-in-Read-clause-does : goal.returns-in_err-put_row-in-Read-clause-does
returns-in_err-put_row-in-Read-clause-does g c =
    not_written c.read_file_with.new.cells c.in-Read.«end» _ c.in-Read.ensures.reads c.in_err-put_row-in-Read.ensures.bytes c.in_err-put_row-in-Read.ensures.failed
    (nothing_told (writer g.E.Device g.E.DeviceOut) c.args.errors.now) (search rules)
