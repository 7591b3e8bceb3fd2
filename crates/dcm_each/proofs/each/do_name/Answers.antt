use Rattle.std.proofs.Common.{sym, subst, Bool}
use Rattle.dcm_table_words.specs.Plans.{name_as}
use Rattle.dcm_table_words.specs.declared.plan.Name.{Name}
use Rattle.dcm_cli.specs.Change.{change_of}
use Rattle.dcm_cli.proofs.Passes.Readers.{members, writer}
use Rattle.dcm_each.specs.Each.{DoesAt, DoesName}
use Rattle.dcm_each.proofs.each.do_name.Goals as goal

pub returns-in-File-clause-does : goal.returns-in-File-clause-does
returns-in-File-clause-does g c =
    subst (λ (n : Name). DoesName g.S.System.may_do (members g.S.Input.Device g.S.Input.DeviceIn) g.K.FileWork.work (name_as n) (change_of (writer g.E.Device g.E.DeviceOut) c.args.errors.now c.do_at.new.errors) (c.args.work.now, c.args.out.now) (c.do_at.new.work, c.do_at.new.out) c.args.system.now c.do_at.result c.do_at.new.system)
    (sym c.in-File.is)
    (subst (λ (b : Bool). DoesAt g.S.System.may_do g.K.FileWork.work c.in-File.path.now c.in-File.path.now b (change_of (writer g.E.Device g.E.DeviceOut) c.args.errors.now c.do_at.new.errors) (c.args.work.now, c.args.out.now) (c.do_at.new.work, c.do_at.new.out) c.args.system.now c.do_at.result c.do_at.new.system)
    c.can_be_opened-is_openable.ensures c.do_at.ensures.does)

pub returns-in-List-clause-does : goal.returns-in-List-clause-does
returns-in-List-clause-does g c =
    subst (λ (n : Name). DoesName g.S.System.may_do (members g.S.Input.Device g.S.Input.DeviceIn) g.K.FileWork.work (name_as n) (change_of (writer g.E.Device g.E.DeviceOut) c.args.errors.now c.do_list.new.errors) (c.args.work.now, c.args.out.now) (c.do_list.new.work, c.do_list.new.out) c.args.system.now c.do_list.result c.do_list.new.system)
    (sym c.in-List.is) c.do_list.ensures.does
