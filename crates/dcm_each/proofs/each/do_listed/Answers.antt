use Rattle.dcm_cli.specs.Change.{change_of}
use Rattle.dcm_cli.proofs.Passes.Readers.{members, writer}
use Rattle.dcm_each.proofs.Names.{listed}
use Rattle.dcm_each.proofs.each.do_listed.Goals as goal

pub returns-clause-does : goal.returns-clause-does
returns-clause-does g c = λ name held.
    listed g.S.System.may_do g.K.FileWork.work (change_of (writer g.E.Device g.E.DeviceOut) c.args.errors.now c.do_at.new.errors)
    (c.args.work.now, c.args.out.now) (c.do_at.new.work, c.do_at.new.out) c.args.system.now c.do_at.result c.do_at.new.system
    c.is_openable.result name c.name-name.result.now c.listed_path-path.result.now (c.is_openable.ensures name held) (c.name-name.ensures name held) c.listed_path-path.ensures c.do_at.ensures.does
