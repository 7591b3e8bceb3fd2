use Rattle.std.proofs.Common.{refl, ◌∙◌}
use Rattle.dcm_words.specs.Plans.{dump_job}
use Rattle.dcm_table_words.specs.Plans.{names_as}
use Rattle.dcm_cli.specs.Change.{change_of}
use Rattle.dcm_cli.proofs.Passes.Readers.{members, writer}
use Rattle.dcm_dumps.specs.Dumps.{nothing_shown}
use Rattle.dcm_dumps.specs.Words.{total_of}
use Rattle.dcm_dumps.specs.Work.{shown}
use Rattle.dcm_dumps.proofs.WorkDumps.{dumps_done}
use Rattle.dcm_dumps.proofs.dumps.show_dumps.Goals as goal

pub returns-clause-shows : goal.returns-clause-shows
returns-clause-shows g c = (
  shown (c.do_all.new.work, c.do_all.new.out),
  refl,
  dumps_done (members g.S.Input.Device g.S.Input.DeviceIn) (writer g.W.Device g.W.DeviceOut) (record { job = dump_job c.args.plan.dump; output = c.args.output; total = total_of (names_as c.args.plan.names) }) g.S.System.may_do
      (names_as c.args.plan.names) (change_of (writer g.E.Device g.E.DeviceOut) c.args.errors.now c.do_all.new.errors) (c.new-work.result, c.args.out.now) (c.do_all.new.work, c.do_all.new.out) (nothing_shown c.args.out.now) c.args.system.now c.do_all.result c.do_all.new.system
      (c.new-work.ensures.manner ∙ (λ i. record { job = dump_job c.args.plan.dump; output = c.args.output; total = c.total_of.ensures i }))
      (λ i. record { out = c.args.out.now; number = c.new-work.ensures.number i; is_first = c.new-work.ensures.first i })
      c.do_all.ensures.does,
)
