use Rattle.std.proofs.Common.{◌≡◌, ◌+◌, ◌*◌, ◌==◌, ◌∙◌, ap, sym, arith, ℕ, List, take}
use Rattle.std.specs.Prelude.{count_by}
use Rattle.std.proofs.lemmas.List.Sums.{count_by-le-length}
use Rattle.std.proofs.lemmas.List.{take_all}
use Rattle.dcm_value.proofs.Displays.TextLanes.{count_more}
use Rattle.dcm_value.proofs.counting.backslashes_of_blocks.Goals as goal

pub loop-block-preserved : goal.loop-block-preserved
loop-block-preserved c =
    let block : ℕ = c.loop-block.block in
    let v : List ℕ = c.args.bytes.now in
    let goes : 64 * (block + 1) ≡ 64 * block + 64 = omega arith in
    let more = count_more (λ b. b == 92) v (64 * block) 64 in
    record {
      count = ap (λ n. n + c.backslashes_in.result) c.loop-block.invariant.count ∙ ap (λ n. count_by (λ b. b == 92) (take (64 * block) v) + n) c.backslashes_in.ensures.count ∙ sym more ∙ ap (λ n. count_by (λ b. b == 92) (take n v)) (sym goes);
      bound = omega (arith, c.loop-block.invariant.bound, c.backslashes_in.ensures.bound);
    }

pub returns-clause-count : goal.returns-clause-count
returns-clause-count c =
    let v : List ℕ = c.args.bytes.now in
    c.loop-block.invariant.count ∙ ap (count_by (λ b. b == 92)) (take_all (64 * c.loop-block.block) v (omega arith))

pub returns-clause-bound : goal.returns-clause-bound
returns-clause-bound c = omega (arith, returns-clause-count c, count_by-le-length (λ b. b == 92) c.args.bytes.now)
