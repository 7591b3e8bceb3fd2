use Rattle.std.proofs.Common.{sym, subst, Option}
use Rattle.dcm_base.specs.declared.syntax.Syntax.{Syntax}
use Rattle.dcm_words.specs.Words.{dump_decoded}
use Rattle.dcm_cli.specs.Calls.{WorksOn}
use Rattle.dcm_cli.proofs.Passes.Readers.{members, writer}
use Rattle.dcm_cli.proofs.decode.decode_with.Goals as goal

pub returns-in-None : goal.returns-in-None
returns-in-None g c =
    subst (λ (bare : Option Syntax). WorksOn (members g.R.Device g.R.DeviceIn) (writer g.W.Device g.W.DeviceOut) (dump_decoded c.args.dump.dictionary c.args.dump.mode bare) c.args.input.now c.decode_file.new.input c.args.out.now c.decode_file.new.out c.decode_file.result)
    (sym c.in-None.is) c.decode_file.ensures

pub returns-in-Some : goal.returns-in-Some
returns-in-Some g c =
    subst (λ (bare : Option Syntax). WorksOn (members g.R.Device g.R.DeviceIn) (writer g.W.Device g.W.DeviceOut) (dump_decoded c.args.dump.dictionary c.args.dump.mode bare) c.args.input.now c.decode_set.new.input c.args.out.now c.decode_set.new.out c.decode_set.result)
    (sym c.in-Some.is) c.decode_set.ensures
