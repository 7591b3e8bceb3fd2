use Rattle.std.proofs.Common.{rules, ◌≡◌, ◌∙◌, ap, sym, arith, ℕ, ◌+◌, ◌-◌, take}
use Rattle.dcm_trees.specs.Beginning as spec
use Rattle.dcm_trees.proofs.Ends.{one_left, none_left, nothing_left}
use Rattle.dcm_trees.proofs.beginning.without_end.Goals as goal
use Rattle.dcm_trees.proofs.beginning.without_end.Goals.{else-loop-end-test, then-loop-end-test+then-not-is_left_out}

pub loop-end-preserved : goal.loop-end-preserved
loop-end-preserved c =
    let last : c.loop-end.end ≡ (c.loop-end.end - 1) + 1 = omega (arith, c.loop-end-test.true) in
    record {
      whole = c.loop-end.invariant.whole ∙ ap (λ (end : ℕ). spec.without_end c.args.slashes (take end c.args.path.now)) last
          ∙ one_left c.args.slashes c.args.path.now (c.loop-end.end - 1) (omega (arith, c.loop-end-test.true, c.loop-end.invariant.within)) (sym c.is_left_out.ensures ∙ c.if-not-is_left_out.false);
      within = omega (arith, c.loop-end.invariant.within);
    }

pub returns : goal.returns
returns c =
    c.split_at.ensures.front ∙ sym (c.loop-end.invariant.whole ∙ (elim c.loop-end-test.branch [
      | else-loop-end-test w ↦ ap (λ (end : ℕ). spec.without_end c.args.slashes (take end c.args.path.now)) {x = c.loop-end.end} {y = 0} (omega (arith, w.loop-end-test)) ∙ nothing_left c.args.slashes ∙ ap (λ (end : ℕ). take end c.args.path.now) {x = 0} {y = c.loop-end.end} (omega (arith, w.loop-end-test))
      | then-loop-end-test+then-not-is_left_out w ↦
          let last : c.loop-end.end ≡ (c.loop-end.end - 1) + 1 = omega (arith, w.loop-end-test) in
          ap (λ (end : ℕ). spec.without_end c.args.slashes (take end c.args.path.now)) last
          ∙ none_left c.args.slashes c.args.path.now (c.loop-end.end - 1) (omega (arith, w.loop-end-test, c.loop-end.invariant.within)) (search rules)
          ∙ ap (λ (end : ℕ). take end c.args.path.now) (sym last)
    ]))
