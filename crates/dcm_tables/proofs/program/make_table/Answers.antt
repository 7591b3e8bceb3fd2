use Rattle.std.proofs.Common.{subst, rules}
use Rattle.dcm_table_words.specs.Plans.{table_as}
use Rattle.dcm_cli.specs.Change.{change_of}
use Rattle.dcm_cli.proofs.Passes.Readers.{members, writer}
use Rattle.dcm_tables.specs.TableProgram.{PutsTable, WritesMeant, no_stdout, made}
use Rattle.dcm_tables.proofs.program.make_table.Goals as goal

pub returns-in-Err-clause-makes : goal.returns-in-Err-clause-makes
returns-in-Err-clause-makes g c =
    no_stdout _ _ (subst (λ r. g.S.System.may_do.stdout c.args.system.now r c.stdout.new.self) c.in-Err.is c.stdout.ensures)
    c.unopened.ensures c.tell_unopened.ensures.line c.tell_unopened.ensures.status

pub returns-clause-makes : goal.returns-clause-makes
returns-clause-makes g c =
    made c.in-Ok-stdout.output c.put_table-status.new.out c.stdout.new.self c.put_table-status.new.system
    (subst (λ r. g.S.System.may_do.stdout c.args.system.now r c.stdout.new.self) c.in-Ok-stdout.is c.stdout.ensures)
    (subst (λ x. PutsTable (writer g.S.Output.Device g.S.Output.DeviceOut) (WritesMeant g.S.System.may_do (members g.S.Input.Device g.S.Input.DeviceIn) (writer g.S.Output.Device g.S.Output.DeviceOut) (table_as c.args.plan.now))
    (change_of (writer g.E.Device g.E.DeviceOut) c.args.errors.now c.put_table-status.new.errors) x c.put_table-status.new.out c.stdout.new.self c.put_table-status.result c.put_table-status.new.system) c.new-out.ensures c.put_table-status.ensures.puts)
    (record { answer = c.close.result; call = search rules })
