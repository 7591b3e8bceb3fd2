use Rattle.std.proofs.Common.{rules, ◌≡◌, ◌<◌, ◌*◌, ◌/◌, ◌∙◌, ap, sym, arith, length, ℕ}
use Rattle.std.proofs.Math.Nat.{mul-div_cancel}
use Rattle.dcm_value.proofs.unit_buffer.UnitBuffer.feed.Goals as goal

pub returns-clause-others : goal.returns-clause-others
returns-clause-others g c =
    let k : ℕ = c.args.size in
    let n : ℕ = length c.split_at.result.1.now / k in
    let some : 0 < k = let held = c.requires.held in omega arith in
    let long : length c.split_at-2.result.0.now ≡ n * k = search rules in
    ap (λ m. m / k * k) long ∙ ap (λ m. m * k) (mul-div_cancel n some) ∙ sym long
