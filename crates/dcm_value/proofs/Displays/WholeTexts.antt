-- A whole text by Specific Character Set, piece by piece.
use Rattle.std.proofs.Common.{◌≡◌, ◌≤◌, ◌<◌, ℕ, ◌+◌, ◌-◌, Bool, true, cond, List, ◌++◌, length, take, replicate, codes, ap, sym, ◌∙◌, arith, append-nil}
use Rattle.std.specs.Prelude.{not, nat_lt, flat_map, slice_index}
use Rattle.std.specs.List.{list_all}
use Rattle.std.proofs.Math.ListN.{get_or-append}
use Rattle.std.proofs.lemmas.Bool.Decides.{nat_tests}
use Rattle.std.proofs.lemmas.Grind.{flat_map-append}
use Rattle.std.proofs.lemmas.List.{length-append, length-take, take-take, take-append-le}
use Rattle.std.proofs.lemmas.List.Sums.{sum_by-append}
use Rattle.dcm_base.specs.Dump.ValueText.{padded}
use Rattle.dcm_base.specs.declared.mode.Mode.TheVariants.{Short}
use Rattle.dcm_text.specs.declared.text_pieces.TextPieces.{TextPieces}
use Rattle.dcm_text.specs.Decoding.{Piece}
use Rattle.dcm_text.specs.Shown.{dumped_piece}
use Rattle.dcm_text.specs.TextPieces.{pieces_left}
use Rattle.dcm_value.specs.declared.next_piece.Next.{Next}
use Rattle.dcm_value.specs.Plain.{is_ascii_byte, ascii_size}
use Rattle.dcm_value.specs.Decoded.{goes_on, is_backslash, backslashes, cut_size}
use Rattle.dcm_value.specs.DecodedDisplay.{decoded_shortened}
use Rattle.dcm_value.specs.NextPiece.{Follows, bytes_of, shown_of, count_of}
use Rattle.dcm_value.proofs.Displays.DecodedEndings.{cut_bounds}
use Rattle.dcm_text.proofs.AsciiFronts.{ascii_front}

-- the ASCII in front of a window of a text
pub front_plain : (rest window : List ℕ) (k size : ℕ) → window ≡ take k rest → size ≡ ascii_size window → size ≤ k
    → list_all is_ascii_byte (take size rest) ≡ true
front_plain rest window k size w s l =
    ap (list_all is_ascii_byte) (sym (ap (take size) w ∙ take-take size k rest l))
    ∙ ap (λ n. list_all is_ascii_byte (take n window)) s ∙ ascii_front window

-- what is shown, and the backslashes, of what is next and of what is left then
pub left_shown : (old new : TextPieces) (next : Next) → Follows old new next
    → flat_map dumped_piece (pieces_left old) ≡ shown_of next ++ flat_map dumped_piece (pieces_left new)
left_shown old new next f =
    ap (flat_map dumped_piece) f.left ∙ flat_map-append dumped_piece f.pieces (pieces_left new)
    ∙ ap (λ (x : List ℕ). x ++ flat_map dumped_piece (pieces_left new)) f.shown

pub left_counted : (old new : TextPieces) (next : Next) → Follows old new next
    → backslashes (pieces_left old) ≡ count_of next + backslashes (pieces_left new)
left_counted old new next f =
    ap backslashes f.left ∙ sum_by-append (λ (x : Piece). cond (is_backslash x.1) 1 0) f.pieces (pieces_left new)
    ∙ ap (λ (n : ℕ). n + backslashes (pieces_left new)) f.count

pub left_fewer : (old new : TextPieces) (next : Next) → Follows old new next
    → length old.rest.now ≡ length (bytes_of next) + length new.rest.now
left_fewer old new next f = ap length f.bytes ∙ length-append (bytes_of next) new.rest.now

-- ---- the cut of a long display, by its front

cut_by : (a b c : Bool) → ℕ
cut_by a b c = cond a 63 (cond b 62 (cond c 61 60))

pub cut_of_front : (front rest : List ℕ) → 66 ≤ length front → cut_size (front ++ rest) ≡ cut_size front
unfolding cut_by
cut_of_front front rest l =
    let at : (n : ℕ) → n < 66 → slice_index (front ++ rest) n ≡ slice_index front n =
    λ n m. get_or-append front rest 0 n (omega arith) in
    λ i. cut_by (not (goes_on (at 63 (omega arith) i))) (not (goes_on (at 62 (omega arith) i))) (not (goes_on (at 61 (omega arith) i)))

pub is_long : (front rest : List ℕ) → 66 ≤ length front → nat_lt 66 (length (front ++ (rest ++ codes "]"))) ≡ true
is_long front rest l =
    let size = length-append front (rest ++ codes "]") in
    let more = length-append rest (codes "]") in
    go (length (front ++ (rest ++ codes "]"))) (omega (arith, size, more))
  where
    go : (n : ℕ) → 66 < n → nat_lt 66 n ≡ true
    go n l = grind (arith, nat_tests)

-- what is appended is the whole display, cut
pub cut_shown : (front rest : List ℕ) → 66 ≤ length front
    → take (cut_size front) front ++ codes "..." ≡ padded (decoded_shortened Short (front ++ (rest ++ codes "]")))
cut_shown front rest l =
    let d : List ℕ = front ++ (rest ++ codes "]") in
    let cut : List ℕ = take (cut_size front) front ++ codes "..." in
    let bounds = cut_bounds front in
    let same : take (cut_size d) d ++ codes "..." ≡ cut =
    ap (λ n. take n d ++ codes "...") (cut_of_front front (rest ++ codes "]") l)
    ∙ ap (λ (x : List ℕ). x ++ codes "...") (take-append-le (cut_size front) front (rest ++ codes "]") (omega (arith, bounds))) in
    let short : decoded_shortened Short d ≡ cut = ap (λ b. cond b (take (cut_size d) d ++ codes "...") d) (is_long front rest l) ∙ same in
    let size : 40 ≤ length cut = omega (arith, bounds, length-append (take (cut_size front) front) (codes "..."), length-take (cut_size front) front) in
    sym (ap padded short ∙ no_spaces cut size)
  where
    no_spaces : (d : List ℕ) → 40 ≤ length d → padded d ≡ d
    no_spaces d l = ap (λ (n : ℕ). d ++ replicate n 32) (let z : 40 - length d ≡ 0 = omega arith in z) ∙ append-nil d
