use Rattle.std.proofs.Common.{sym, ◌∙◌, subst}
use Rattle.dcm_words.specs.Plans.{PathsAre, job_of}
use Rattle.dcm_words.specs.declared.words.Paths.{Paths}
use Rattle.dcm_words.proofs.WordLemmas.{AreWrong, empty_first, empty_second, not_two}
use Rattle.dcm_words.proofs.plans.plan_with_two.Goals as goal
use Rattle.dcm_words.proofs.plans.plan_with_two.Goals.{in_default-via-in-Two+then-not-is_empty+else-not-is_empty-2, in_default-via-in-Two+else-not-is_empty, in_default-via-in_default}

pub returns-in_default : goal.returns-in_default
returns-in_default g c = λ ps are. elim c.in_default.branch [
  | in_default-via-in-Two+then-not-is_empty+else-not-is_empty-2 w ↦ (
      let two = subst (λ (p : Paths). PathsAre p ps) w.in-Two.is are in
      subst (AreWrong c.args.overwrites (job_of c.args.job)) (sym two) (empty_second c.args.overwrites (job_of c.args.job) w.in-Two.input.now w.in-Two.output.now (sym w.is_empty-then-not-is_empty.ensures ∙ w.if-not-is_empty-2.false)))
  | in_default-via-in-Two+else-not-is_empty w ↦ (
      let two = subst (λ (p : Paths). PathsAre p ps) w.in-Two.is are in
      subst (AreWrong c.args.overwrites (job_of c.args.job)) (sym two) (empty_first c.args.overwrites (job_of c.args.job) w.in-Two.input.now w.in-Two.output.now (sym w.is_empty.ensures ∙ w.if-not-is_empty.false)))
  | in_default-via-in_default w ↦ not_two c.args.overwrites (job_of c.args.job) c.args.paths ps w.in_default.not-Two are
]
