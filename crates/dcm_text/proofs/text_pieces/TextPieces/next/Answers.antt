use Rattle.std.proofs.Common.{List, ℕ, ◌∷◌, true, drop, sym, ap, ◌∙◌, arith}
use Rattle.dcm_text.specs.Decoding.{decoded_from}
use Rattle.dcm_text.proofs.Pieces.{found_sized, one_piece, none_left}
use Rattle.dcm_text.proofs.text_pieces.TextPieces.next.Goals as goal

pub split_at-requires : goal.split_at-requires
split_at-requires c =
    let p = c.args.self.now in
    (found_sized true p.sets p.kind p.halves p.rest.now c.in-Some.found (sym c.in-Some.ensures)).1

pub returns-in-Some-clause-left : goal.returns-in-Some-clause-left
returns-in-Some-clause-left c =
    let p = c.args.self.now in
    let f = c.in-Some.found in
    one_piece p.sets p.kind p.halves p.rest.now f (sym c.in-Some.ensures)
    ∙ ap (λ (bs : List ℕ). (bs, f.meaning) ∷ decoded_from p.sets p.kind f.halves (drop f.size p.rest.now)) (sym c.split_at.ensures.front)
    ∙ ap (λ (rest : List ℕ). (c.split_at.result.0.now, f.meaning) ∷ decoded_from p.sets p.kind f.halves rest) (sym c.split_at.ensures.back)

pub returns-in-Some-clause-some : goal.returns-in-Some-clause-some
returns-in-Some-clause-some c =
    let p = c.args.self.now in
    let s = found_sized true p.sets p.kind p.halves p.rest.now c.in-Some.found (sym c.in-Some.ensures) in
    omega (arith, s.0, c.split_at.ensures.front_len)

pub returns-in-Some-clause-few : goal.returns-in-Some-clause-few
returns-in-Some-clause-few c =
    let p = c.args.self.now in
    let s = found_sized true p.sets p.kind p.halves p.rest.now c.in-Some.found (sym c.in-Some.ensures) in
    omega (arith, s.2, c.split_at.ensures.front_len)

pub returns-in-None-clause-left : goal.returns-in-None-clause-left
returns-in-None-clause-left c =
    let p = c.args.self.now in
    none_left p.sets p.kind p.halves p.rest.now (sym c.in-None.ensures)
