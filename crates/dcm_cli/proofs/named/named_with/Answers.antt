use Rattle.std.proofs.Common.{sym, subst, refl}
use Rattle.dcm_words.specs.Plans.{named_as}
use Rattle.dcm_words.specs.Words.{dump_named}
use Rattle.dcm_words.specs.declared.job.Texts.{Texts}
use Rattle.dcm_words.specs.declared.job.Texts.TheVariants.{Bytes}
use Rattle.dcm_cli.specs.Calls.{WorksOn}
use Rattle.dcm_cli.proofs.Passes.Readers.{members, writer}
use Rattle.dcm_cli.proofs.Passes.Remarked.{works_on}
use Rattle.dcm_cli.proofs.named.named_with.Goals as goal

pub returns-in-Bytes : goal.returns-in-Bytes
returns-in-Bytes g c =
    let d = c.args.dump in
    subst (λ (texts : Texts). WorksOn (members g.R.Device g.R.DeviceIn) (writer g.W.Device g.W.DeviceOut) (dump_named texts d.dictionary d.mode d.bare (named_as d.named)) c.args.input.now c.named_by_bytes.new.input c.args.out.now c.named_by_bytes.new.out c.remarking_nothing.result)
    (sym c.in-Bytes.is)
    (works_on (members g.R.Device g.R.DeviceIn) (writer g.W.Device g.W.DeviceOut) (dump_named Bytes d.dictionary d.mode d.bare (named_as d.named)) c.args.input.now c.named_by_bytes.new.input c.args.out.now c.named_by_bytes.new.out c.named_by_bytes.result c.remarking_nothing.result
    (λ input. refl, λ p. refl) c.named_by_bytes.ensures c.remarking_nothing.ensures)

pub returns-in-Characters : goal.returns-in-Characters
returns-in-Characters g c =
    let d = c.args.dump in
    subst (λ (texts : Texts). WorksOn (members g.R.Device g.R.DeviceIn) (writer g.W.Device g.W.DeviceOut) (dump_named texts d.dictionary d.mode d.bare (named_as d.named)) c.args.input.now c.named_by_characters.new.input c.args.out.now c.named_by_characters.new.out c.named_by_characters.result)
    (sym c.in-Characters.is) c.named_by_characters.ensures
