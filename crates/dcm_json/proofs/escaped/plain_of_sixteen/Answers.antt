use Rattle.std.proofs.Common.{◌≡◌, arith, ℕ, List, ltb, eqb, cond, map, replicate, bit_or, refl}
use Rattle.std.proofs.lemmas.Simd.{zip2_splat}
use lib.Lanes.{zip2}
use Rattle.dcm_text.proofs.AsciiFronts.{joined}
use Rattle.dcm_json.proofs.PlainFronts.{counted, size_within}
use Rattle.dcm_json.proofs.escaped.plain_of_sixteen.Goals as goal

pub returns-clause-value : goal.returns-clause-value
returns-clause-value c =
    let v : List ℕ = c.args.bytes in
    let long = c.fits-bytes.0 in
    let below : ℕ → ℕ → ℕ = λ a b. cond (ltb a b) 255 0 in
    let same : ℕ → ℕ → ℕ = λ a b. cond (eqb a b) 255 0 in
    let controls : ℕ → ℕ = λ x. below x 32 in
    let escaped : ℕ → ℕ = λ x. bit_or (same x 34) (same x 92) in
    let lanes : List ℕ = zip2 bit_or (zip2 below v (replicate 16 32)) (zip2 bit_or (zip2 same v (replicate 16 34)) (zip2 same v (replicate 16 92))) in
    let is : lanes ≡ map (λ x. bit_or (controls x) (escaped x)) v =
    joined bit_or controls escaped v
    (zip2_splat below v 16 32 long)
    (joined bit_or (λ x. same x 34) (λ x. same x 92) v (zip2_splat same v 16 34 long) (zip2_splat same v 16 92 long))
    in
    counted v lanes c.lowest_set.result long c.fits-bytes.1 c.lowest_set.ensures (λ x. bit_or (controls x) (escaped x)) is refl

pub returns-clause-most : goal.returns-clause-most
returns-clause-most c = omega (arith, returns-clause-value c, size_within c.args.bytes, c.fits-bytes.0)
