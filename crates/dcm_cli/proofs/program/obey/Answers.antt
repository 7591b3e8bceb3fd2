use Rattle.std.proofs.Common.{◌∙◌, sym, subst, map, refl}
use Rattle.dcm_words.specs.Words.{meant}
use Rattle.dcm_words.specs.Plans.{planned as plan_of, Gives, GivesUnlessMemory}
use Rattle.dcm_cli.specs.Program.{asks, worked}
use Rattle.dcm_cli.proofs.Runs.Texts.{none_of}
use Rattle.dcm_cli.proofs.Runs.Obeying.{refuse}
use Rattle.dcm_cli.proofs.program.obey.Goals as goal

pub returns-in-Some-clause-obeys : goal.returns-in-Some-clause-obeys
returns-in-Some-clause-obeys g c = asks c.in-Some.topic (sym c.asked.ensures ∙ c.in-Some.is) c.show.ensures.shows

pub returns-in-Ok-clause-obeys : goal.returns-in-Ok-clause-obeys
returns-in-Ok-clause-obeys g c =
    worked (plan_of c.in-Ok.planned) (sym c.asked.ensures ∙ none_of c.asked.result c.in_default.not-Some)
    (subst (λ r. GivesUnlessMemory r (meant (map (λ w. w.now) c.args.words.now))) c.in-Ok.is c.plan.ensures.meant)
    c.work_on.ensures.works

pub returns-in-Err-clause-obeys : goal.returns-in-Err-clause-obeys
returns-in-Err-clause-obeys g c =
    let words = map (λ w. w.now) c.args.words.now in
    refuse _ _ _ words _ _ _ _ (sym c.asked.ensures ∙ none_of c.asked.result c.in_default.not-Some) c.in-Err.usage
    (subst (λ r. GivesUnlessMemory r (meant words)) c.in-Err.is c.plan.ensures.meant)
    (λ other. subst (λ r. Gives r (meant words)) c.in-Err.is (c.plan.ensures.memory other))
    c.tell.ensures.line c.tell.ensures.status refl
