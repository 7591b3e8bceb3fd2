use Rattle.std.proofs.Common.{subst, map, refl}
use Rattle.dcm_table_words.specs.Table.{meant_table}
use Rattle.dcm_table_words.specs.Plans.{table_as, GivesTable}
use Rattle.dcm_tables.specs.TableProgram.{refused, tabled}
use Rattle.dcm_cli.proofs.Passes.Readers.{writer}
use Rattle.dcm_each.proofs.Names.{told}
use Rattle.dcm_tables.proofs.program.obey_table.Goals as goal

pub returns-in-Ok-clause-obeys : goal.returns-in-Ok-clause-obeys
returns-in-Ok-clause-obeys g c =
    tabled (table_as c.in-Ok.plan) (subst (λ r. GivesTable r (meant_table (map (λ w. w.now) c.args.words.now))) c.in-Ok.is c.table_plan.ensures)
    c.make_table.ensures.makes

pub returns-in-Err-clause-obeys : goal.returns-in-Err-clause-obeys
returns-in-Err-clause-obeys g c =
    refused c.in-Err.usage (subst (λ r. GivesTable r (meant_table (map (λ w. w.now) c.args.words.now))) c.in-Err.is c.table_plan.ensures)
    (told (writer g.E.Device g.E.DeviceOut) _ _ _ c.put_usage.result c.put_usage.ensures) refl refl
