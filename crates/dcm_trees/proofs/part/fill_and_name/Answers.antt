use Rattle.std.proofs.Common.{rules}
use Rattle.dcm_trees.specs.Part as spec
use Rattle.dcm_cli.proofs.Passes.Readers.{writer}
use Rattle.dcm_trees.proofs.Jobs.{told_as}
use Rattle.dcm_trees.proofs.part.fill_and_name.Goals as goal

pub returns-then-is_written : goal.returns-then-is_written
returns-then-is_written g c =
    let ended = c.fill-ended.result in
    let on = c.fill-ended.ensures in
    spec.has_done ended.ending c.fill-ended.new.system c.tell_ended-fate.new.errors on.fills (search rules)
    (told_as (writer g.E.Device g.E.DeviceOut) c.args.name.now ended.ending on.fills.remarks ended.remarks c.args.errors.now c.tell_ended-fate.new.errors on.remarks_are c.tell_ended-fate.ensures.line) (search rules)

pub returns : goal.returns
returns g c =
    let ended = c.fill-ended.result in
    let on = c.fill-ended.ensures in
    spec.not_done ended.ending c.fill-ended.new.system on.fills (search rules)
    (told_as (writer g.E.Device g.E.DeviceOut) c.args.name.now ended.ending on.fills.remarks ended.remarks c.args.errors.now c.tell_ended-fate.new.errors on.remarks_are c.tell_ended-fate.ensures.line)
    c.remove_part.ensures c.tell_ended-fate.ensures.fate
