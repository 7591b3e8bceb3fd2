use Rattle.std.proofs.Common.{refl, subst, Bool, None, Some}
use Rattle.dcm_cli.specs.Change.{change_of}
use Rattle.dcm_cli.proofs.Passes.Readers.{members, writer}
use Rattle.dcm_each.specs.Each.{DoesListed, DoesNames, OpensAt, no_list, list_done}
use Rattle.dcm_each.proofs.Names.{told}
use Rattle.dcm_each.proofs.each.do_list.Goals as goal

pub returns-in_default-clause-does : goal.returns-in_default-clause-does
returns-in_default-clause-does g c =
    no_list
    (subst (λ (b : Bool). OpensAt g.S.System.may_do b c.args.list.now c.args.system.now None c.open_at.new.system) c.can_be_opened.ensures c.in_default.ensures)
    (told (writer g.E.Device g.E.DeviceOut) c.args.errors.now c.put_unopened.new.errors _ c.put_unopened.result c.put_unopened.ensures) refl refl

pub returns-clause-does : goal.returns-clause-does
returns-clause-does g c =
    list_done c.in-Some.opened c.do_names-ends.new.input c.open_at.new.system c.do_names-ends.new.system
    (subst (λ (b : Bool). OpensAt g.S.System.may_do b c.args.list.now c.args.system.now (Some c.in-Some.opened) c.open_at.new.system) c.can_be_opened.ensures c.in-Some.ensures)
    (subst (λ input. DoesNames (members g.S.Input.Device g.S.Input.DeviceIn) (DoesListed g.S.System.may_do g.K.FileWork.work) c.args.list.now (change_of (writer g.E.Device g.E.DeviceOut) c.args.errors.now c.do_names-ends.new.errors) (c.args.work.now, c.args.out.now) (c.do_names-ends.new.work, c.do_names-ends.new.out) input c.do_names-ends.new.input c.open_at.new.system c.do_names-ends.result c.do_names-ends.new.system)
    c.new-input.ensures c.do_names-ends.ensures.does)
    (subst (λ input. g.S.System.may_do.releases c.do_names-ends.new.system input c.release.new.self) c.into_device.ensures c.release.ensures)
