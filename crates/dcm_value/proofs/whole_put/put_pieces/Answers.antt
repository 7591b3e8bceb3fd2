use Rattle.std.proofs.Common.{rules, refl, ◌≡◌, ◌≤◌, ◌++◌, ◌∷◌, [], List, ℕ, length, codes, ap, ◌∙◌, arith}
use Rattle.std.specs.Prelude.{flat_map}
use Rattle.dcm_text.specs.Shown.{dumped_piece}
use Rattle.dcm_text.specs.Decoding.{Piece}
use Rattle.dcm_text.specs.TextPieces.{pieces_left}
use Rattle.dcm_devices.proofs.Writes.Puts.{puts_err}
use Rattle.dcm_devices.proofs.Writes.PartsOut.{part_failed, parts_put}
use Rattle.dcm_value.proofs.Displays.OutInBlocks.{front_and_others}
use Rattle.dcm_value.proofs.whole_put.put_pieces.Goals as goal

pub returns-in_err-put_all-2-clause-wrote : goal.returns-in_err-put_all-2-clause-wrote
returns-in_err-put_all-2-clause-wrote g c =
    let front : List ℕ = c.show_front-front.new.shown.items in
    let rest : List Piece = pieces_left c.show_front-front.new.pieces in
    let begun : c.push.new.self.items ≡ 91 ∷ [] = c.push.ensures.items ∙ ap (λ (x : List ℕ). x ++ 91 ∷ []) c.new-shown.ensures in
    let long : 66 ≤ length front = omega (arith, c.len.ensures.value, c.if-len-lt-UNCUT.false) in
    record {
      bytes = part_failed _ _ front _ (flat_map dumped_piece rest ++ codes "]") _ c.from_residual-in_err-put_all-2.result
          c.from_residual-in_err-put_all-2.ensures.0 c.as_slice-2.ensures.value
          (front_and_others front c.push.new.self.items rest (pieces_left c.args.pieces.now) c.show_front-front.ensures.shown begun long)
          c.in_err-put_all-2.ensures.wrote.bytes;
      failed = search rules;
    }

pub returns-in_err-others-clause-wrote : goal.returns-in_err-others-clause-wrote
returns-in_err-others-clause-wrote g c =
    let front : List ℕ = c.show_front-front.new.shown.items in
    let rest : List Piece = pieces_left c.show_front-front.new.pieces in
    let begun : c.push.new.self.items ≡ 91 ∷ [] = c.push.ensures.items ∙ ap (λ (x : List ℕ). x ++ 91 ∷ []) c.new-shown.ensures in
    let long : 66 ≤ length front = omega (arith, c.len.ensures.value, c.if-len-lt-UNCUT.false) in
    let others : List ℕ = flat_map dumped_piece rest ++ codes "]" in
    record {
      bytes = parts_put _ _ _ front _ others others _ c.from_residual-in_err-others.result c.as_slice-2.ensures.value refl
          (front_and_others front c.push.new.self.items rest (pieces_left c.args.pieces.now) c.show_front-front.ensures.shown begun long)
          c.in_ok-put_all-2.ensures.wrote.bytes
          (puts_err _ _ _ c.from_residual-in_err-others.result c.from_residual-in_err-others.ensures.0 c.in_err-others.ensures.wrote.bytes);
      failed = search rules;
    }
