use Rattle.std.proofs.Common.{rules, ◌≡◌, subst}
use Rattle.dcm_words.specs.Plans.{named_as}
use Rattle.dcm_words.specs.Words.{Job, dump_as, dump_named, dump_of}
use Rattle.dcm_cli.specs.Calls.{WorksOn}
use Rattle.dcm_cli.proofs.Passes.Readers.{members, writer}
use Rattle.dcm_cli.proofs.dump.dump_with.Goals as goal

pub returns-then-is_empty : goal.returns-then-is_empty
returns-then-is_empty g c =
    let d = c.args.dump in
    let same : dump_as d.texts d.dictionary d.mode d.bare ≡ dump_of (named_as d.named) d.texts d.dictionary d.mode d.bare = search rules in
    subst (λ (job : Job). WorksOn (members g.R.Device g.R.DeviceIn) (writer g.W.Device g.W.DeviceOut) job c.args.input.now c.dump_all.new.input c.args.out.now c.dump_all.new.out c.dump_all.result)
    same c.dump_all.ensures

pub returns : goal.returns
returns g c =
    let d = c.args.dump in
    let same : dump_named d.texts d.dictionary d.mode d.bare (named_as d.named) ≡ dump_of (named_as d.named) d.texts d.dictionary d.mode d.bare = search rules in
    subst (λ (job : Job). WorksOn (members g.R.Device g.R.DeviceIn) (writer g.W.Device g.W.DeviceOut) job c.args.input.now c.named_with.new.input c.args.out.now c.named_with.new.out c.named_with.result)
    same c.named_with.ensures
