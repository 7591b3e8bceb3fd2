use Rattle.std.proofs.Common.{subst, refl}
use Rattle.dcm_cli.specs.Change.{change_of}
use Rattle.dcm_cli.proofs.Passes.Readers.{members, writer}
use Rattle.dcm_each.proofs.Names.{follows}
use Rattle.dcm_dumps.specs.DumpsProgram.{ShowsMeant, not_put}
use Rattle.dcm_dumps.specs.Plans.{dumps_as}
use Rattle.dcm_dumps.proofs.program.put_dumps.Goals as goal

pub returns-in-Err-clause-puts : goal.returns-in-Err-clause-puts
returns-in-Err-clause-puts g c =
    not_put _ (change_of (writer g.E.Device g.E.DeviceOut) c.args.errors.now c.show_dumps.new.errors) (change_of (writer g.E.Device g.E.DeviceOut) c.show_dumps.new.errors c.tell_output.new.errors)
    (subst (λ r. ShowsMeant g.S.System.may_do (members g.S.Input.Device g.S.Input.DeviceIn) (writer g.W.Device g.W.DeviceOut) (dumps_as c.args.plan) c.args.output
    (change_of (writer g.E.Device g.E.DeviceOut) c.args.errors.now c.show_dumps.new.errors) c.args.out.now c.show_dumps.new.out c.args.system.now r c.show_dumps.new.system) c.in-Err.is c.show_dumps.ensures.shows)
    c.tell_output.ensures refl (follows (writer g.E.Device g.E.DeviceOut) c.args.errors.now c.show_dumps.new.errors c.tell_output.new.errors)
