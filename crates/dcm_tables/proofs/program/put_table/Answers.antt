use Rattle.std.proofs.Common.{refl}
use Rattle.dcm_table_words.specs.Plans.{names_as}
use Rattle.dcm_cli.specs.Change.{change_of}
use Rattle.dcm_cli.proofs.Passes.Readers.{members, writer}
use Rattle.dcm_tables.specs.Table.{WritesTable}
use Rattle.dcm_tables.specs.TableProgram.{put, not_put}
use Rattle.dcm_tables.proofs.Made.{alike}
use Rattle.dcm_each.proofs.Names.{follows}
use Rattle.dcm_tables.proofs.program.put_table.Goals as goal

pub returns-in-Ok-clause-puts : goal.returns-in-Ok-clause-puts
returns-in-Ok-clause-puts g c =
    put c.write_table-written.new.out c.in-Ok.reached _ _
    (alike (λ columns form r. WritesTable g.S.System.may_do (members g.S.Input.Device g.S.Input.DeviceIn) (writer g.W.Device g.W.DeviceOut) columns form c.args.plan.now.has_header (names_as c.args.plan.now.names)
    (change_of (writer g.E.Device g.E.DeviceOut) c.args.errors.now c.write_table-written.new.errors) c.args.out.now c.write_table-written.new.out c.args.system.now r c.write_table-written.new.system)
    c.requires.columns c.form_of.ensures c.in-Ok.is c.write_table-written.ensures.writes)
    c.flush_table.ensures.flushes (record { begins = (refl, refl); meets = (refl, refl); ends = (refl, refl) })

pub returns-in-Err-clause-puts : goal.returns-in-Err-clause-puts
returns-in-Err-clause-puts g c =
    not_put _ (change_of (writer g.E.Device g.E.DeviceOut) c.args.errors.now c.write_table-written.new.errors) (change_of (writer g.E.Device g.E.DeviceOut) c.write_table-written.new.errors c.tell_output.new.errors)
    (alike (λ columns form r. WritesTable g.S.System.may_do (members g.S.Input.Device g.S.Input.DeviceIn) (writer g.W.Device g.W.DeviceOut) columns form c.args.plan.now.has_header (names_as c.args.plan.now.names)
    (change_of (writer g.E.Device g.E.DeviceOut) c.args.errors.now c.write_table-written.new.errors) c.args.out.now c.write_table-written.new.out c.args.system.now r c.write_table-written.new.system)
    c.requires.columns c.form_of.ensures c.in-Err.is c.write_table-written.ensures.writes)
    c.tell_output.ensures refl (follows (writer g.E.Device g.E.DeviceOut) c.args.errors.now c.write_table-written.new.errors c.tell_output.new.errors)
