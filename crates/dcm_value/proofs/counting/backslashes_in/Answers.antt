use Rattle.std.proofs.Common.{◌==◌, ◌≡◌, ℕ, eqb, ap, ◌∙◌, arith, w8, length}
use lib.Count.{ones}
use Rattle.std.proofs.lemmas.Simd.{bitmask_splat, ones-mask_l}
use Rattle.std.proofs.lemmas.List.Sums.{count_by-le-length}
use Rattle.dcm_value.proofs.counting.backslashes_in.Goals as goal

pub returns-clause-count : goal.returns-clause-count
returns-clause-count g c = ap ones (bitmask_splat w8 eqb c.args.bytes g.row.LANES 92 c.fits-bytes.0 c.requires) ∙ ones-mask_l (λ b. b == 92) c.args.bytes

pub returns-clause-bound : goal.returns-clause-bound
returns-clause-bound g c =
    let lanes : ℕ = g.row.LANES in
    let count = ap ones (bitmask_splat w8 eqb c.args.bytes lanes 92 c.fits-bytes.0 c.requires) ∙ ones-mask_l (λ b. b == 92) c.args.bytes in
    let long : length c.args.bytes ≡ lanes = c.fits-bytes.0 in
    rw count (omega (arith, count_by-le-length (λ b. b == 92) c.args.bytes, long))
