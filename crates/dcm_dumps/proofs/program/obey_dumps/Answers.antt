use Rattle.std.proofs.Common.{subst, map, refl}
use Rattle.dcm_dumps.specs.DumpsProgram.{refused, showed}
use Rattle.dcm_dumps.specs.Plans.{dumps_as, GivesDumps}
use Rattle.dcm_dumps.specs.Words.{meant_dumps}
use Rattle.dcm_dumps.proofs.program.obey_dumps.Goals as goal

pub returns-in-Ok-clause-obeys : goal.returns-in-Ok-clause-obeys
returns-in-Ok-clause-obeys g c =
    showed (dumps_as c.in-Ok.plan) (subst (λ r. GivesDumps r (meant_dumps (map (λ w. w.now) c.args.words.now))) c.in-Ok.is c.dumps_plan.ensures)
    c.make_dumps.ensures.makes

pub returns-in-Err-clause-obeys : goal.returns-in-Err-clause-obeys
returns-in-Err-clause-obeys g c =
    refused c.in-Err.usage (subst (λ r. GivesDumps r (meant_dumps (map (λ w. w.now) c.args.words.now))) c.in-Err.is c.dumps_plan.ensures)
    c.tell_usage.ensures.line c.tell_usage.ensures.status refl
