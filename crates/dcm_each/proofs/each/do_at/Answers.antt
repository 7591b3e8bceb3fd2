use Rattle.std.proofs.Common.{refl, subst}
use Rattle.dcm_cli.specs.Change.{change_of}
use Rattle.dcm_cli.proofs.Passes.Readers.{members, writer}
use Rattle.dcm_each.specs.Each.{not_opened, done_at}
use Rattle.dcm_each.proofs.Names.{told}
use Rattle.dcm_each.proofs.each.do_at.Goals as goal

pub returns-in_default-clause-does : goal.returns-in_default-clause-does
returns-in_default-clause-does g c =
    not_opened c.in_default.ensures (told (writer g.E.Device g.E.DeviceOut) c.args.errors.now c.put_unopened.new.errors _ c.put_unopened.result c.put_unopened.ensures) c.pass.ensures refl

pub returns-clause-does : goal.returns-clause-does
returns-clause-does g c =
    done_at c.in-Some.opened c.do_file-ends.new.input c.open_at.new.system c.in-Some.ensures
    (subst (λ device. g.K.FileWork.work.does c.args.name.now (change_of (writer g.E.Device g.E.DeviceOut) c.args.errors.now c.do_file-ends.new.errors) (c.args.work.now, c.args.out.now) (c.do_file-ends.new.self, c.do_file-ends.new.out) (record { device = device; kind = c.in-Some.opened.kind }) c.do_file-ends.result c.do_file-ends.new.input)
    c.new-input.ensures c.do_file-ends.ensures.does)
    (subst (λ input. g.S.System.may_do.releases c.open_at.new.system input c.release.new.self) c.into_device.ensures c.release.ensures)
