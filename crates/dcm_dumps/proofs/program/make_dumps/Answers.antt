use Rattle.std.proofs.Common.{subst, rules}
use Rattle.dcm_cli.specs.Change.{change_of}
use Rattle.dcm_cli.proofs.Passes.Readers.{members, writer}
use Rattle.dcm_dumps.specs.DumpsProgram.{PutsDumps, ShowsMeant, no_stdout, made}
use Rattle.dcm_dumps.specs.Plans.{dumps_as}
use Rattle.dcm_dumps.proofs.program.make_dumps.Goals as goal

pub returns-in-Err-clause-makes : goal.returns-in-Err-clause-makes
returns-in-Err-clause-makes g c =
    no_stdout _ _ (subst (λ r. g.S.System.may_do.stdout c.args.system.now r c.stdout.new.self) c.in-Err.is c.stdout.ensures)
    c.unopened.ensures c.tell_unopened.ensures.line c.tell_unopened.ensures.status

pub returns-clause-makes : goal.returns-clause-makes
returns-clause-makes g c =
    made c.in-Ok.output c.put_dumps-status.new.out c.stdout.new.self c.put_dumps-status.new.system
    (subst (λ r. g.S.System.may_do.stdout c.args.system.now r c.stdout.new.self) c.in-Ok.is c.stdout.ensures)
    (subst (λ x. PutsDumps (ShowsMeant g.S.System.may_do (members g.S.Input.Device g.S.Input.DeviceIn) (writer g.S.Output.Device g.S.Output.DeviceOut) (dumps_as c.args.plan) c.in-Ok.output.kind)
    (change_of (writer g.E.Device g.E.DeviceOut) c.args.errors.now c.put_dumps-status.new.errors) x c.put_dumps-status.new.out c.stdout.new.self c.put_dumps-status.result c.put_dumps-status.new.system) c.new-out.ensures c.put_dumps-status.ensures.puts)
    (record { answer = c.close.result; call = search rules })
