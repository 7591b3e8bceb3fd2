use Rattle.std.proofs.Common.{◌==◌, ◌≡◌, ◌∙◌, ◌/◌, ◌^◌, eqb, ap, arith, w8, drop, length}
use lib.Count.{ones}
use Rattle.std.proofs.lemmas.Simd.{bitmask_splat}
use Rattle.std.proofs.lemmas.List.{length-drop}
use Rattle.std.proofs.lemmas.List.Sums.{count_by-le-length}
use Rattle.dcm_value.proofs.Displays.TextLanes.{ones_behind}
use Rattle.dcm_value.proofs.counting.backslashes_behind.Goals as goal

pub returns-clause-count : goal.returns-clause-count
returns-clause-count c =
    ap (λ n. ones (n / 2 ^ c.args.skipped)) (bitmask_splat w8 eqb c.args.bytes 8 92 c.fits-bytes.0 (omega arith)) ∙ ones_behind (λ b. b == 92) c.args.skipped c.args.bytes

pub returns-clause-bound : goal.returns-clause-bound
returns-clause-bound c =
    let count = ap (λ n. ones (n / 2 ^ c.args.skipped)) (bitmask_splat w8 eqb c.args.bytes 8 92 c.fits-bytes.0 (omega arith)) ∙ ones_behind (λ b. b == 92) c.args.skipped c.args.bytes in
    let long : length c.args.bytes ≡ 8 = c.fits-bytes.0 in
    rw count (omega (arith, count_by-le-length (λ b. b == 92) (drop c.args.skipped c.args.bytes), length-drop c.args.skipped c.args.bytes, long))
