use Rattle.std.proofs.Common.{Global, Option, refl, sym, subst}
use Rattle.dcm_words.specs.Plans.{named_as}
use Rattle.dcm_cli.proofs.Passes.NamedJobs.{of_named}
use Rattle.dcm_base.specs.declared.dictionary.Dictionary.{Dictionary}
use Rattle.dcm_base.specs.declared.mode.Mode.{Mode}
use Rattle.dcm_base.specs.declared.syntax.Syntax.{Syntax}
use Rattle.dcm_words.specs.declared.job.Texts.{Texts}
use Rattle.dcm_words.specs.declared.job.Texts.TheVariants.{Bytes, Characters}
use Rattle.dcm_words.specs.Words.{dump_as}
use Rattle.dcm_words.specs.declared.job.Job.{Job}
use Rattle.dcm_words.specs.Plans.{job_of}
use Rattle.dcm_cli.specs.Calls.{WorksOn}
use Rattle.dcm_cli.specs.Run.{IsMeant}
use Rattle.dcm_cli.proofs.Passes.Readers.{members, writer}
use Rattle.dcm_cli.proofs.Passes.Remarked.{works_on}
use Rattle.dcm_cli.proofs.run.work.Goals as goal

-- a dump needs nothing
dump_meant : (texts : Texts) (d : Dictionary) (mode : Mode) (bare : Option Syntax) → IsMeant (dump_as texts d mode bare)
dump_meant Bytes d mode bare = tt
dump_meant Characters d mode bare = tt

pub returns-in-Dump-clause-worked : goal.returns-in-Dump-clause-worked
returns-in-Dump-clause-worked g c =
    subst (λ (job : Job Global). WorksOn (members g.R.Device g.R.DeviceIn) (writer g.W.Device g.W.DeviceOut) (job_of job) c.args.input.now c.dump.new.input c.args.out.now c.dump.new.out c.dump.result) (sym c.in-Dump.is) c.dump.ensures

pub returns-in-Convert-clause-worked : goal.returns-in-Convert-clause-worked
returns-in-Convert-clause-worked g c =
    let d = c.in-Convert.what in
    subst (λ (job : Job Global). WorksOn (members g.R.Device g.R.DeviceIn) (writer g.W.Device g.W.DeviceOut) (job_of job) c.args.input.now c.convert.new.input c.args.out.now c.convert.new.out c.remarking_nothing.result) (sym c.in-Convert.is)
    (works_on (members g.R.Device g.R.DeviceIn) (writer g.W.Device g.W.DeviceOut) _ c.args.input.now c.convert.new.input c.args.out.now c.convert.new.out c.convert.result c.remarking_nothing.result (λ input. refl, λ p. refl) c.convert.ensures c.remarking_nothing.ensures)

pub returns-in-Build-clause-worked : goal.returns-in-Build-clause-worked
returns-in-Build-clause-worked g c =
    let d = c.in-Build.what in
    subst (λ (job : Job Global). WorksOn (members g.R.Device g.R.DeviceIn) (writer g.W.Device g.W.DeviceOut) (job_of job) c.args.input.now c.build.new.input c.args.out.now c.build.new.out c.remarking_nothing-in-Build.result) (sym c.in-Build.is)
    (works_on (members g.R.Device g.R.DeviceIn) (writer g.W.Device g.W.DeviceOut) _ c.args.input.now c.build.new.input c.args.out.now c.build.new.out c.build.result c.remarking_nothing-in-Build.result (λ input. refl, λ p. refl) c.build.ensures c.remarking_nothing-in-Build.ensures)

pub returns-in-Modify-clause-worked : goal.returns-in-Modify-clause-worked
returns-in-Modify-clause-worked g c =
    let d = c.in-Modify.what in
    subst (λ (job : Job Global). WorksOn (members g.R.Device g.R.DeviceIn) (writer g.W.Device g.W.DeviceOut) (job_of job) c.args.input.now c.modify.new.input c.args.out.now c.modify.new.out c.remarking_nothing-in-Modify.result) (sym c.in-Modify.is)
    (works_on (members g.R.Device g.R.DeviceIn) (writer g.W.Device g.W.DeviceOut) _ c.args.input.now c.modify.new.input c.args.out.now c.modify.new.out c.modify.result c.remarking_nothing-in-Modify.result (λ input. refl, λ p. refl) c.modify.ensures.worked c.remarking_nothing-in-Modify.ensures)

pub returns-in-Modify-clause-meant : goal.returns-in-Modify-clause-meant
returns-in-Modify-clause-meant g c = subst (λ (job : Job Global). IsMeant (job_of job)) (sym c.in-Modify.is) c.modify.ensures.meant

pub returns-in-Dump-clause-meant : goal.returns-in-Dump-clause-meant
returns-in-Dump-clause-meant g c = subst (λ (job : Job Global). IsMeant (job_of job)) (sym c.in-Dump.is) (let d = c.in-Dump.what in of_named IsMeant (named_as d.named) d.texts d.dictionary d.mode d.bare (dump_meant d.texts d.dictionary d.mode d.bare) tt)

pub returns-in-Convert-clause-meant : goal.returns-in-Convert-clause-meant
returns-in-Convert-clause-meant g c = subst (λ (job : Job Global). IsMeant (job_of job)) (sym c.in-Convert.is) tt

pub returns-in-Build-clause-meant : goal.returns-in-Build-clause-meant
returns-in-Build-clause-meant g c = subst (λ (job : Job Global). IsMeant (job_of job)) (sym c.in-Build.is) tt

pub returns-in-Deidentify-clause-worked : goal.returns-in-Deidentify-clause-worked
returns-in-Deidentify-clause-worked g c =
    subst (λ (job : Job Global). WorksOn (members g.R.Device g.R.DeviceIn) (writer g.W.Device g.W.DeviceOut) (job_of job) c.args.input.now c.deidentify.new.input c.args.out.now c.deidentify.new.out c.deidentify.result) (sym c.in-Deidentify.is) c.deidentify.ensures

pub returns-in-Deidentify-clause-meant : goal.returns-in-Deidentify-clause-meant
returns-in-Deidentify-clause-meant g c = subst (λ (job : Job Global). IsMeant (job_of job)) (sym c.in-Deidentify.is) tt
