use Rattle.std.proofs.Common.{rules, refl, subst, ℕ, ◌≡◌, arith, replicate, ◌-◌, ◌+◌, ◌∷◌, []}
use Rattle.dcm_json.proofs.Written.{SoFar, none_yet, one_more, next_failed, all_out, one_left, none_left}
use Rattle.dcm_json.proofs.values.put_spaces.Goals as goal

pub loop-space-init : goal.loop-space-init
loop-space-init g c =
    let all : c.args.count ≡ c.args.count - 0 = omega arith in
    let old = g.W.DeviceOut.contents c.args.out.now in
    record { out = subst (λ (n : ℕ). SoFar old old (replicate c.args.count 32) (replicate n 32)) all (none_yet old _); failed = refl }

pub returns-in_err-put_all : goal.returns-in_err-put_all
returns-in_err-put_all g c = record {
  bytes = next_failed _ (32 ∷ []) (replicate (c.args.count - (c.loop-space._space + 1)) 32) _ c.loop-space.invariant.out
      (one_left c.args.count c.loop-space._space (omega (arith, c.loop-space-test.true))) c.from_residual.ensures.0 c.in_err-put_all.ensures.wrote.bytes;
  failed = search rules;
}

pub loop-space-preserved : goal.loop-space-preserved
loop-space-preserved g c = record {
  out = one_more _ (32 ∷ []) _ c.loop-space.invariant.out
      (one_left c.args.count c.loop-space._space (omega (arith, c.loop-space-test.true))) c.in_ok-put_all.ensures.wrote.bytes;
  failed = search rules;
}

pub returns : goal.returns
returns g c = record {
  bytes = all_out c.loop-space.invariant.out (none_left c.args.count c.loop-space._space (omega (arith, c.loop-space-test.false)));
  failed = search rules;
}
