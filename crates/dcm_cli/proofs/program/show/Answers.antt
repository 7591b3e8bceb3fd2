use Rattle.std.proofs.Common.{subst, rules}
use Rattle.dcm_cli.specs.Program.{no_stdout, shows}
use Rattle.dcm_cli.proofs.Passes.Readers.{writer}
use Rattle.dcm_cli.proofs.Runs.Texts.{over_output}
use Rattle.dcm_cli.proofs.program.show.Goals as goal

pub returns-in-Err-clause-shows : goal.returns-in-Err-clause-shows
returns-in-Err-clause-shows g c =
    no_stdout c.in-Err.e c.unopened.result
    (subst (λ r. g.S.System.may_do.stdout c.args.system.now r c.stdout.new.self) c.in-Err.is c.stdout.ensures)
    c.unopened.ensures c.tell_unopened.ensures.line c.tell_unopened.ensures.status

pub returns-clause-shows : goal.returns-clause-shows
returns-clause-shows g c =
    shows c.in-Ok.output c.put_text-status.new.out c.stdout.new.self
    (subst (λ r. g.S.System.may_do.stdout c.args.system.now r c.stdout.new.self) c.in-Ok.is c.stdout.ensures)
    (over_output (writer g.S.Output.Device g.S.Output.DeviceOut) _ _ _ _ _ _ _ c.text.ensures c.new-out.ensures c.put_text-status.ensures.put)
    (record { answer = c.close.result; call = search rules })
