use Rattle.std.proofs.Common.{w8, ℕ, ◌-◌, ◌^◌, ◌%◌, ◌∙◌, ap, cond, map}
use Rattle.std.specs.Prelude.{nat_lt}
use Rattle.std.proofs.lemmas.Simd.{bitmask_splat}
use lib.Lanes.{mask_l, top}
use mir.Val.{hbits, bits}
use Rattle.dcm_value.proofs.Displays.TextLanes.{mask_any, turned_round, is_set}
use Rattle.dcm_value.proofs.escapes.has_high.Goals as goal

pub returns : goal.returns
returns g c =
    let above : ℕ → ℕ → ℕ = λ a b. cond (nat_lt a b) (2 ^ bits w8 - 1) 0 in
    ap (λ l. is_set (mask_l (map (top (hbits w8)) l) % 2 ^ 64)) (turned_round above g.row.LANES 126 c.args.bytes)
    ∙ mask_any (λ x y. nat_lt y x) c.args.bytes _ 126 (bitmask_splat w8 (λ x y. nat_lt y x) c.args.bytes g.row.LANES 126 c.fits-bytes.0 c.requires)
