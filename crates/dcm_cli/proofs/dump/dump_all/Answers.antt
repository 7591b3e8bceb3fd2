use Rattle.std.proofs.Common.{sym, subst, refl}
use Rattle.dcm_words.specs.Words.{dump, dump_as}
use Rattle.dcm_words.specs.declared.job.Texts.{Texts}
use Rattle.dcm_cli.specs.Calls.{WorksOn}
use Rattle.dcm_cli.proofs.Passes.Readers.{members, writer}
use Rattle.dcm_cli.proofs.Passes.Remarked.{works_on}
use Rattle.dcm_cli.proofs.dump.dump_all.Goals as goal

pub returns-in-Bytes : goal.returns-in-Bytes
returns-in-Bytes g c =
    let d = c.args.dump in
    subst (λ (texts : Texts). WorksOn (members g.R.Device g.R.DeviceIn) (writer g.W.Device g.W.DeviceOut) (dump_as texts d.dictionary d.mode d.bare) c.args.input.now c.dump_by_bytes.new.input c.args.out.now c.dump_by_bytes.new.out c.remarking_nothing.result)
    (sym c.in-Bytes.is)
    (works_on (members g.R.Device g.R.DeviceIn) (writer g.W.Device g.W.DeviceOut) (dump d.dictionary d.mode d.bare) c.args.input.now c.dump_by_bytes.new.input c.args.out.now c.dump_by_bytes.new.out c.dump_by_bytes.result c.remarking_nothing.result (λ input. refl, λ p. refl)
    c.dump_by_bytes.ensures c.remarking_nothing.ensures)

pub returns-in-Characters : goal.returns-in-Characters
returns-in-Characters g c =
    let d = c.args.dump in
    subst (λ (texts : Texts). WorksOn (members g.R.Device g.R.DeviceIn) (writer g.W.Device g.W.DeviceOut) (dump_as texts d.dictionary d.mode d.bare) c.args.input.now c.decode_with.new.input c.args.out.now c.decode_with.new.out c.decode_with.result)
    (sym c.in-Characters.is) c.decode_with.ensures
