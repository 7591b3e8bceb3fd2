use Rattle.std.proofs.Common.{◌∙◌, ap, refl, rules, List}
use Rattle.dcm_base.specs.declared.tag.Tag.{Tag}
use Rattle.dcm_table.specs.Columns.{tags_of}
use Rattle.dcm_table.specs.TableSink.{cleared}
use Rattle.dcm_table.proofs.EachSlot.{same_begun}
use Rattle.dcm_table_words.specs.Plans.{names_as}
use Rattle.dcm_cli.specs.Change.{change_of}
use Rattle.dcm_cli.proofs.Passes.Readers.{members, writer}
use Rattle.dcm_cli.proofs.Runs.Obeying.{nothing_told}
use Rattle.dcm_tables.specs.Table.{headed, not_headed}
use Rattle.dcm_tables.proofs.WorkRows.{rows_done}
use Rattle.dcm_tables.proofs.table.write_table.Goals as goal

pub returns-clause-writes : goal.returns-clause-writes
returns-clause-writes g c =
    let r = members g.S.Input.Device g.S.Input.DeviceIn in
    let w = writer g.W.Device g.W.DeviceOut in
    let tags : List Tag = tags_of c.args.shared.now.columns.now in
    headed c.put_header_where.new.out c.in_ok-put_header_where.ensures.bytes c.in_ok-put_header_where.ensures.failed
    (rows_done r w tags c.args.shared.now.form g.S.System.may_do (names_as c.args.names) (change_of (writer g.E.Device g.E.DeviceOut) c.args.errors.now c.do_all.new.errors)
    _ (c.do_all.new.work, c.do_all.new.out) c.args.system.now c.do_all.result c.do_all.new.system
    (ap cleared c.requires.cells ∙ same_begun tags, refl) c.do_all.ensures.does)

pub returns-in_err-put_header_where-clause-writes : goal.returns-in_err-put_header_where-clause-writes
returns-in_err-put_header_where-clause-writes g c =
    not_headed c.in_err-put_header_where.field-0.0 c.in_err-put_header_where.ensures.bytes c.in_err-put_header_where.ensures.failed (nothing_told (writer g.E.Device g.E.DeviceOut) c.args.errors.now) refl (search rules)
