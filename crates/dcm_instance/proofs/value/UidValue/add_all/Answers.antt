use Rattle.std.proofs.Common.{◌∙◌, refl, sym, ap, fold, ℕ, List, [], slice_index_or}
use Rattle.std.proofs.lemmas.List.{take_all}
use Rattle.dcm_base.proofs.Writes.Runs.{fold_more}
use Rattle.dcm_instance.specs.UidSink.{Held, Value, held_with}
use Rattle.dcm_instance.proofs.value.UidValue.add_all.Goals as goal

pub loop-byte-init : goal.loop-byte-init
loop-byte-init c = refl

pub loop-byte-preserved : goal.loop-byte-preserved
loop-byte-preserved c =
    c.add_byte.ensures
    ∙ ap (λ (v : Value). let x : Value = record { progress = v.progress; held = held_with v.held (slice_index_or c.args.bytes.now c.loop-byte.byte-index 0) } in x) c.loop-byte.invariant
    ∙ ap (λ (h : Held). let x : Value = record { progress = c.args.self.now.progress; held = h } in x) (sym (fold_more held_with (λ h b. []) c.args.self.now.held c.args.bytes.now c.loop-byte.byte-index 0 c.loop-byte-test.true))

pub returns : goal.returns
returns c =
    c.loop-byte.invariant
    ∙ ap (λ (bs : List ℕ). let x : Value = record { progress = c.args.self.now.progress; held = fold held_with c.args.self.now.held bs } in x) (take_all c.loop-byte.byte-index c.args.bytes.now c.loop-byte-test.false)
