use Rattle.std.proofs.Common.{◌≡◌, ℕ, List, ltb, eqb, cond, map, replicate, bit_or, refl}
use Rattle.std.proofs.lemmas.Simd.{zip2_splat, zip2_splat_left}
use lib.Lanes.{zip2}
use Rattle.dcm_text.proofs.AsciiFronts.{joined, counted}
use Rattle.dcm_text.proofs.ascii.ascii_of_eight.Goals as goal

pub returns : goal.returns
returns c =
    let v : List ℕ = c.args.bytes in
    let long = c.fits-bytes.0 in
    let below : ℕ → ℕ → ℕ = λ a b. cond (ltb a b) 255 0 in
    let same : ℕ → ℕ → ℕ = λ a b. cond (eqb a b) 255 0 in
    let outside : ℕ → ℕ = λ x. bit_or (below x 32) (below 126 x) in
    let escaped : ℕ → ℕ = λ x. bit_or (same x 37) (same x 93) in
    let lanes : List ℕ = zip2 bit_or (zip2 bit_or (zip2 below v (replicate 8 32)) (zip2 below (replicate 8 126) v))
    (zip2 bit_or (zip2 same v (replicate 8 37)) (zip2 same v (replicate 8 93))) in
    let is : lanes ≡ map (λ x. bit_or (outside x) (escaped x)) v =
    joined bit_or outside escaped v
    (joined bit_or (λ x. below x 32) (λ x. below 126 x) v (zip2_splat below v 8 32 long) (zip2_splat_left below 126 8 v long))
    (joined bit_or (λ x. same x 37) (λ x. same x 93) v (zip2_splat same v 8 37 long) (zip2_splat same v 8 93 long))
    in
    counted v lanes c.lowest_set.result long c.fits-bytes.1 c.lowest_set.ensures (λ x. bit_or (outside x) (escaped x)) is refl
