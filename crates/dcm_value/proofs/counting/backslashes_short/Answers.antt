use Rattle.std.proofs.Common.{rules, ◌≡◌, ◌+◌, ◌*◌, ◌/◌, ◌==◌, ◌-◌, ◌∙◌, ap, sym, arith, ℕ, List, length, take, drop}
use Rattle.std.specs.Prelude.{count_by}
use lib.Lanes.{chunk}
use Rattle.std.proofs.lemmas.List.{drop-drop, length-take}
use Rattle.std.proofs.lemmas.List.Sums.{count_by-le-length}
use Rattle.dcm_value.proofs.Displays.TextLanes.{count_more, count_all, last_lanes}
use Rattle.dcm_value.proofs.counting.backslashes_short.Goals as goal

pub loop-block-preserved : goal.loop-block-preserved
loop-block-preserved c =
    let block : ℕ = c.loop-block.block in
    let v : List ℕ = c.args.bytes.now in
    let goes : 8 * (block + 1) ≡ 8 * block + 8 = omega arith in
    let more = count_more (λ b. b == 92) v (8 * block) 8 in
    record {
      count = ap (λ n. n + c.backslashes_in.result) c.loop-block.invariant.count ∙ ap (λ n. count_by (λ b. b == 92) (take (8 * block) v) + n) c.backslashes_in.ensures.count ∙ sym more ∙ ap (λ n. count_by (λ b. b == 92) (take n v)) (sym goes);
      bound = omega (arith, c.loop-block.invariant.bound, c.backslashes_in.ensures.bound);
    }

pub returns-clause-count : goal.returns-clause-count
returns-clause-count c =
    let v : List ℕ = c.args.bytes.now in
    let n : ℕ = length v - 8 in
    let blocks : ℕ = (length v - 1) / 8 in
    let all : c.loop-block.block ≡ blocks = omega arith in
    let m : ℕ = 8 * blocks in
    let front : length c.split_at.result.0.now ≡ n = search (rules, length-take n v) in
    let skipped : ℕ = m - length c.split_at.result.0.now in
    let goes : n + skipped ≡ m = omega arith in
    let rest : drop skipped (chunk 0 8 c.split_at.result.1.now) ≡ drop m v =
    ap (drop skipped) (last_lanes v c.split_at.result.1.now n c.split_at.ensures.back (omega arith)) ∙ drop-drop skipped n v ∙ ap (λ k. drop k v) goes in
    let last : c.backslashes_behind.result ≡ count_by (λ b. b == 92) (drop m v) = c.backslashes_behind.ensures.count ∙ ap (count_by (λ b. b == 92)) rest in
    ap (λ k. k + c.backslashes_behind.result) (c.loop-block.invariant.count ∙ ap (λ k. count_by (λ b. b == 92) (take (8 * k) v)) all)
    ∙ ap (λ k. count_by (λ b. b == 92) (take m v) + k) last
    ∙ sym (count_all (λ b. b == 92) v m)

pub returns-clause-bound : goal.returns-clause-bound
returns-clause-bound c = omega (arith, returns-clause-count c, count_by-le-length (λ b. b == 92) c.args.bytes.now)
