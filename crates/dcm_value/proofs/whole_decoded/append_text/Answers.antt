use Rattle.std.proofs.Common.{◌≡◌, ◌≤◌, ◌<◌, ◌+◌, List, ℕ, [], ◌∷◌, ◌++◌, cond, length, codes, take, ap, sym, ◌∙◌, arith, append_assoc}
use Rattle.std.specs.Prelude.{◌||◌, flat_map, nat_le}
use Rattle.std.proofs.lemmas.List.{length-append}
use Rattle.dcm_base.specs.declared.mode.Mode.{Mode}
use Rattle.dcm_base.specs.declared.mode.Mode.TheVariants.{Short}
use Rattle.dcm_base.specs.Dump.ValueText.{is_single, padded}
use Rattle.dcm_text.specs.Decoding.{Piece}
use Rattle.dcm_text.specs.Shown.{dumped_piece}
use Rattle.dcm_text.specs.TextPieces.{pieces_left}
use Rattle.dcm_value.specs.Decoded.{cut_size}
use Rattle.dcm_value.specs.DecodedDisplay.{bracketed_pieces, decoded_shortened, is_short}
use Rattle.dcm_value.proofs.Displays.DecodedShort.{long_not}
use Rattle.dcm_value.proofs.Displays.WholeTexts.{cut_shown}
use Rattle.dcm_value.proofs.whole_decoded.append_text.Goals as goal

-- what is shown in front, what is left, and the bracket are the display
whole : (front shown : List ℕ) (rest all : List Piece) → front ++ flat_map dumped_piece rest ≡ shown ++ flat_map dumped_piece all
    → shown ≡ 91 ∷ [] → front ++ (flat_map dumped_piece rest ++ codes "]") ≡ bracketed_pieces all
whole front shown rest all e f =
    sym (append_assoc front (flat_map dumped_piece rest) (codes "]"))
    ∙ ap (λ (x : List ℕ). x ++ codes "]") (e ∙ ap (λ (x : List ℕ). x ++ flat_map dumped_piece all) f)

pub returns-in-Short-clause-items : goal.returns-in-Short-clause-items
returns-in-Short-clause-items g c =
    let line : List ℕ = c.args.line.now.items in
    let front : List ℕ = c.show_front-front.new.shown.items in
    let all : List Piece = pieces_left c.args.pieces.now in
    let rest : List Piece = pieces_left c.show_front-front.new.pieces in
    let begun : c.push.new.self.items ≡ 91 ∷ [] = c.push.ensures.items ∙ ap (λ (x : List ℕ). x ++ 91 ∷ []) c.new-shown.ensures in
    let long : 66 ≤ length front = omega (arith, c.len.ensures.value, c.if-len-lt-UNCUT.false) in
    let display = whole front c.push.new.self.items rest all c.show_front-front.ensures.shown begun in (
      c.append_cut.ensures.items
          ∙ ap (λ (d : List ℕ). line ++ (take (cut_size d) d ++ codes "...")) c.as_slice-in-Short.ensures.value
          ∙ ap (λ (x : List ℕ). line ++ x) (cut_shown front (flat_map dumped_piece rest) long)
          ∙ ap (λ (d : List ℕ). line ++ padded (decoded_shortened Short d)) display
          ∙ ap (λ (m : Mode). line ++ padded (decoded_shortened m (bracketed_pieces all))) (sym c.in-Short.is),
      c.count_all.ensures ∙ ap (λ (n : ℕ). cond (is_single c.args.vr) 1 (1 + n)) c.show_front-front.ensures.count,
    )

pub returns-in-Full-clause-known : goal.returns-in-Full-clause-known
returns-in-Full-clause-known g c =
    let front : List ℕ = c.show_front-front.new.shown.items in
    let all : List Piece = pieces_left c.args.pieces.now in
    let rest : List Piece = pieces_left c.show_front-front.new.pieces in
    let begun : c.push.new.self.items ≡ 91 ∷ [] = c.push.ensures.items ∙ ap (λ (x : List ℕ). x ++ 91 ∷ []) c.new-shown.ensures in
    let long : 66 ≤ length front = omega (arith, c.len.ensures.value, c.if-len-lt-UNCUT.false) in
    let display = whole front c.push.new.self.items rest all c.show_front-front.ensures.shown begun in
    let size : 66 < length (bracketed_pieces all) =
    omega (
      arith,
      long,
      ap length display,
      length-append front (flat_map dumped_piece rest ++ codes "]"),
      length-append (flat_map dumped_piece rest) (codes "]"),
    ) in
    sym (ap (λ (m : Mode). is_short m || nat_le (length (bracketed_pieces all)) 66) c.in-Full.is
    ∙ long_not (length (bracketed_pieces all)) size)
