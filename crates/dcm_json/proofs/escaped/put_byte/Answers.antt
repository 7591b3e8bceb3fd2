use Rattle.std.proofs.Common.{arith, List, ℕ, ap, ◌∙◌, ◌∷◌, [], get_or}
use Rattle.dcm_json.proofs.Escapes.{escaped_by_letter, escaped_as_itself, escaped_by_number}
use Rattle.dcm_json.proofs.Written.{wrote_as}
use Rattle.dcm_json.proofs.escaped.put_byte.Goals as goal

pub returns-then-letter-ne0 : goal.returns-then-letter-ne0
returns-then-letter-ne0 g c =
    wrote_as _ (escaped_by_letter c.args.byte c.letter_of-letter.result c.letter_of-letter.ensures (omega (arith, c.if-letter-ne0.true))) c.put_all.ensures.wrote

pub returns-then-byte-ge-SPACE : goal.returns-then-byte-ge-SPACE
returns-then-byte-ge-SPACE g c =
    wrote_as _ (escaped_as_itself c.args.byte c.letter_of-letter.result c.letter_of-letter.ensures (omega (arith, c.if-letter-ne0.false)) (omega (arith, c.if-byte-ge-SPACE.true))) c.put_all-then-byte-ge-SPACE.ensures.wrote

pub returns : goal.returns
returns g c =
    wrote_as _ (ap (λ (x : List ℕ). 92 ∷ 117 ∷ 48 ∷ 48 ∷ get_or x 0 0 ∷ get_or x 1 0 ∷ []) c.digits.ensures ∙ escaped_by_number c.args.byte c.letter_of-letter.result c.letter_of-letter.ensures (omega (arith, c.if-letter-ne0.false)) (omega (arith, c.if-byte-ge-SPACE.false))) c.put_all-2.ensures.wrote
