use Rattle.std.proofs.Common.{rules, refl}
use Rattle.dcm_words.specs.Plans.{dump_job}
use Rattle.dcm_cli.specs.Change.{change_of}
use Rattle.dcm_cli.proofs.Passes.Readers.{members, writer}
use Rattle.dcm_cli.proofs.Runs.Obeying.{nothing_told}
use Rattle.dcm_dumps.specs.Dumps.{not_headed}
use Rattle.dcm_dumps.specs.Heading.{heading}
use Rattle.dcm_dumps.proofs.Shows.{file_shown}
use Rattle.dcm_dumps.proofs.dumps.DumpWork.show.Goals as goal

pub returns-in_err-put_heading-clause-shows : goal.returns-in_err-put_heading-clause-shows
returns-in_err-put_heading-clause-shows g c =
    not_headed c.in_err-put_heading.field-0.0 c.in_err-put_heading.ensures.bytes c.in_err-put_heading.ensures.failed refl (nothing_told (writer g.E.Device g.E.DeviceOut) c.args.errors.now) (search rules)

pub returns-clause-shows : goal.returns-clause-shows
returns-clause-shows g c =
    let self = c.args.self.now in
    file_shown (members g.I.Device g.I.DeviceIn) (writer g.W.Device g.W.DeviceOut) (dump_job self.dump) (heading self.is_first self.number self.total c.args.name.now) c.args.name.now
    (change_of (writer g.E.Device g.E.DeviceOut) c.args.errors.now c.end_dump.new.errors) c.args.out.now c.put_heading.new.out c.dump_with-ended.new.out c.end_dump.new.out c.args.input.now c.dump_with-ended.new.input
    c.dump_with-ended.result c.end_dump.result c.in_ok-put_heading.ensures.bytes c.in_ok-put_heading.ensures.failed c.dump_with-ended.ensures c.end_dump.ensures.ends
