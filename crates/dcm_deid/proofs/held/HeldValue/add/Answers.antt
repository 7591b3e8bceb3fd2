use Rattle.std.proofs.Common.{◌∙◌, refl, sym, ap, fold, [], slice_index_or}
use Rattle.std.proofs.lemmas.List.{take_all}
use Rattle.dcm_base.proofs.Writes.Runs.{fold_more}
use Rattle.dcm_deid.specs.DeidentifySink as spec
use Rattle.dcm_deid.specs.DeidentifySink.{Held}
use Rattle.dcm_deid.specs.Deidentifying.{held}
use Rattle.dcm_deid.proofs.held.HeldValue.add.Goals as goal

pub loop-byte-init : goal.loop-byte-init
loop-byte-init c = refl

pub loop-byte-preserved : goal.loop-byte-preserved
loop-byte-preserved c =
    c.add_byte.ensures ∙ ap (λ (h : Held). spec.held_with h (slice_index_or c.args.bytes.now c.loop-byte.byte-index 0)) c.loop-byte.invariant
    ∙ sym (fold_more spec.held_with (λ h b. []) (held c.args.self.now) c.args.bytes.now c.loop-byte.byte-index 0 c.loop-byte-test.true)

pub returns : goal.returns
returns c = c.loop-byte.invariant ∙ ap (fold spec.held_with (held c.args.self.now)) (take_all c.loop-byte.byte-index c.args.bytes.now c.loop-byte-test.false)
