use Rattle.std.proofs.Common.{◌≡◌, ◌∙◌, ◌-◌, ◌+◌, ◌≤◌, ◌++◌, ap, ℕ, List, length, take, min, arith}
use Rattle.dcm_lemmas.proofs.Options.{went_well}
use Rattle.dcm_stream.specs.Reading.{Sign}
use Rattle.dcm_stream.proofs.Containers.SignBytes.{kept_least}
use Rattle.dcm_stream.proofs.sign.OpenSign.read.Goals as goal

-- there is room for what is kept
pub returns : goal.returns
returns c =
    let held = c.args.self.now.first.items in
    let bytes = c.args.bytes.now in
    let size : c.len.result ≡ length held = c.len.ensures.value in
    let few : length held ≤ 8 = omega (arith, c.len.ensures.value, c.len.ensures.fits) in
    let long : length c.split_at.result.0.now ≡ c.min-n.result = c.split_at.ensures.front_len in
    let fits : length held + length c.split_at.result.0.now ≤ 8 = omega (arith, long, c.min-n.ensures, size, few) in
    let extended = went_well c.try_extend_from_slice.result c.try_extend_from_slice.ensures.ok (c.try_extend_from_slice.ensures.variant.1 fits) in
    ap (λ (xs : List ℕ). let sign : Sign = record { vr = c.args.self.now.vr; first = xs } in sign)
    (extended ∙ ap (λ (xs : List ℕ). held ++ xs) (c.split_at.ensures.front ∙ ap (λ (n : ℕ). take n bytes) (c.min-n.ensures ∙ ap (λ (n : ℕ). min (length bytes) (8 - n)) size)) ∙ kept_least held bytes few)
