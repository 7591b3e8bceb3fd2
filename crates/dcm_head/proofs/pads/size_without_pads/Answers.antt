use Rattle.std.proofs.Common.{◌≡◌, ◌∙◌, length, take, ℕ, sym, ap, arith}
use Rattle.std.proofs.lemmas.List.{take_all}
use Rattle.dcm_base.specs.Tables.Transfer.{without_pads}
use Rattle.dcm_head.proofs.MetaGroups.Transfers.{pads_taken, taken_no_pad, nothing_left}
use Rattle.dcm_head.proofs.pads.size_without_pads.Goals as goal

pub loop-n-init : goal.loop-n-init
loop-n-init c = record { within = omega arith; same = ap without_pads (sym (take_all (length c.args.value.now) c.args.value.now (omega arith))) }

pub loop-n-preserved : goal.loop-n-preserved
loop-n-preserved c = record {
  within = omega (arith, c.loop-n.invariant.within);
  same = c.loop-n.invariant.same ∙ pads_taken c.args.value.now c.loop-n.n c.loop-n-test.true c.loop-n.invariant.within (sym c.is_pad.ensures ∙ c.if-is_pad.true);
}

pub returns-else-is_pad-clause-size : goal.returns-else-is_pad-clause-size
returns-else-is_pad-clause-size c =
    sym (ap length c.loop-n.invariant.same ∙ taken_no_pad c.args.value.now c.loop-n.n c.loop-n-test.true c.loop-n.invariant.within (sym c.is_pad.ensures ∙ c.if-is_pad.false))

pub returns-after-loop-n-clause-size : goal.returns-after-loop-n-clause-size
returns-after-loop-n-clause-size c =
    let zero_is : c.loop-n.n ≡ 0 = omega arith in
    zero_is ∙ sym (ap length (c.loop-n.invariant.same ∙ ap (λ (k : ℕ). without_pads (take k c.args.value.now)) zero_is ∙ nothing_left))
