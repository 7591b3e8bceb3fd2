use Rattle.std.proofs.Common.{◌≡◌, ◌<◌, ◌≤◌, ◌+◌, ◌++◌, ◌∙◌, ap, sym, arith, append_assoc, ℕ, List, length, take, get_or, refl}
use Rattle.std.proofs.lemmas.Simd.{length-chunk}
use lib.Lanes.{chunk, put_chunk}
use Rattle.dcm_base.specs.Dump.ValueText.{escape, escaped}
use Rattle.dcm_value.proofs.Displays.StoredTexts.{front_stored, escaped_one}
use Rattle.dcm_value.proofs.escapes.write_next.Goals as goal

pub returns-then-plain-eq-STORED_LANES-clause-text : goal.returns-then-plain-eq-STORED_LANES-clause-text
returns-then-plain-eq-STORED_LANES-clause-text c =
    let v : List ℕ = c.args.bytes.now in
    let lanes : List ℕ = chunk 0 16 v in
    front_stored c.args.end c.plain_of_sixteen-plain.result c.args.text.now v lanes (omega (arith, c.requires.room)) (length-chunk 0 16 v (omega (arith, c.requires.long))) refl c.plain_of_sixteen-plain.ensures.value c.plain_of_sixteen-plain.ensures.most

pub returns-clause-text : goal.returns-clause-text
returns-clause-text c =
    let v : List ℕ = c.args.bytes.now in
    let lanes : List ℕ = chunk 0 16 v in
    let n : ℕ = c.plain_of_sixteen-plain.result in
    let front = front_stored c.args.end n c.args.text.now v lanes (omega (arith, c.requires.room)) (length-chunk 0 16 v (omega (arith, c.requires.long))) refl c.plain_of_sixteen-plain.ensures.value c.plain_of_sixteen-plain.ensures.most in
    let byte : ℕ = get_or v n 0 in
    let within : n < length v = omega (arith, c.requires.long, c.plain_of_sixteen-plain.ensures.most, c.if-plain-eq-STORED_LANES.false) in
    c.write_escaped.ensures.text
    ∙ ap (λ (xs : List ℕ). xs ++ escape byte) front
    ∙ append_assoc (take c.args.end c.args.text.now) (escaped (take n v)) (escape byte)
    ∙ ap (λ (xs : List ℕ). take c.args.end c.args.text.now ++ xs) (sym (escaped_one n byte v within refl))
