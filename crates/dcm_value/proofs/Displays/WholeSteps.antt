-- What is next in a whole text: ASCII, characters in UTF-8 that are shown as they are, or one piece.
use Rattle.std.proofs.Common.{◌≡◌, ◌≤◌, ℕ, ◌+◌, ◌/◌, ◌%◌, Bool, true, false, cond, List, [], ◌∷◌, ◌++◌, length, map, Bor, refl, sym, ap, ◌∙◌, arith, append-nil, inl, inr}
use Rattle.std.specs.Prelude.{◌==◌, count_by, encode_utf8_all}
use Rattle.std.specs.Char.{encode_utf8}
use Rattle.std.specs.List.{list_all}
use Rattle.std.proofs.lemmas.Bool.{cases_lt, cond-true, cond-false}
use Rattle.std.proofs.lemmas.Bool.Decides.{nat_tests}
use Rattle.std.proofs.lemmas.List.Sums.{sum_by-append, sum_by-cons}
use Rattle.std.proofs.lemmas.Str.{encode_ascii}
use lib.Dec.{ltb}
use Rattle.dcm_text.specs.declared.first.Meaning.{Meaning}
use Rattle.dcm_text.specs.declared.text_pieces.TextPieces.{TextPieces}
use Rattle.dcm_text.specs.Decoding.{Piece as TextPiece}
use Rattle.dcm_text.specs.Fronts.{ArePassed}
use Rattle.dcm_text.specs.Laws.{as_itself, encoded}
use Rattle.dcm_text.specs.Shown.{dumped_piece}
use Rattle.dcm_text.specs.TextPieces.{pieces_left}
use Rattle.dcm_text.proofs.Displays.{utf8_pieces}
use Rattle.dcm_value.specs.declared.next_piece.Next.TheVariants.{Plain, Piece}
use Rattle.dcm_value.specs.Plain.{is_ascii_byte}
use Rattle.dcm_value.specs.Decoded.{is_backslash, backslashes}
use Rattle.dcm_value.specs.NextPiece.{Follows}
use Rattle.dcm_value.proofs.Displays.DecodedAsBefore.{itself_counted}
use Rattle.dcm_value.proofs.Displays.PlainRuns.{plain_shown}

-- ---- the backslashes in UTF-8 are the bytes 5C

abbrev slashes : List ℕ → ℕ
slashes bytes = count_by (λ b. b == 92) bytes

none_more : (b : ℕ) (bytes : List ℕ) → 128 ≤ b → slashes bytes ≡ 0 → slashes (b ∷ bytes) ≡ 0
none_more b bytes l e =
    sum_by-cons (λ (x : ℕ). cond (x == 92) 1 0) b bytes
    ∙ ap (λ (n : ℕ). n + slashes bytes) (cond-false _ 1 0 (let t : (b == 92) ≡ false = grind (arith, nat_tests) in t)) ∙ ap (λ (n : ℕ). 0 + n) e

one_byte : (c : ℕ) → slashes (c ∷ []) ≡ cond (c == 92) 1 0
one_byte c = of_test (c == 92)
  where
    of_test : (t : Bool) → 0 + cond t 1 0 ≡ cond t 1 0
    of_test true = refl
    of_test false = refl

wide : (c : ℕ) → 128 ≤ c → slashes (encode_utf8 c) ≡ 0
unfolding encode_utf8
wide c l =
    let not_one : ltb c 128 ≡ false = grind (arith, nat_tests) in
    elim (cases_lt c 2048) [
      | inl two ↦
          let e : encode_utf8 c ≡ (192 + c / 64) ∷ (128 + c % 64) ∷ [] =
          cond-false _ _ _ not_one ∙ cond-true _ _ _ (let t : ltb c 2048 ≡ true = grind (arith, nat_tests) in t) in
          ap slashes e ∙ none_more (192 + c / 64) ((128 + c % 64) ∷ []) (omega arith) (none_more (128 + c % 64) [] (omega arith) refl)
      | inr more ↦
          let not_two : ltb c 2048 ≡ false = grind (arith, nat_tests) in
          elim (cases_lt c 65536) [
            | inl three ↦
                let e : encode_utf8 c ≡ (224 + c / 4096) ∷ (128 + (c / 64) % 64) ∷ (128 + c % 64) ∷ [] =
                cond-false _ _ _ not_one ∙ cond-false _ _ _ not_two ∙ cond-true _ _ _ (let t : ltb c 65536 ≡ true = grind (arith, nat_tests) in t) in
                ap slashes e
                ∙ none_more (224 + c / 4096) ((128 + (c / 64) % 64) ∷ (128 + c % 64) ∷ []) (omega arith)
                (none_more (128 + (c / 64) % 64) ((128 + c % 64) ∷ []) (omega arith) (none_more (128 + c % 64) [] (omega arith) refl))
            | inr four ↦
                let e : encode_utf8 c ≡ (240 + c / 262144) ∷ (128 + (c / 4096) % 64) ∷ (128 + (c / 64) % 64) ∷ (128 + c % 64) ∷ [] =
                cond-false _ _ _ not_one ∙ cond-false _ _ _ not_two ∙ cond-false _ _ _ (let t : ltb c 65536 ≡ false = grind (arith, nat_tests) in t) in
                ap slashes e
                ∙ none_more (240 + c / 262144) ((128 + (c / 4096) % 64) ∷ (128 + (c / 64) % 64) ∷ (128 + c % 64) ∷ []) (omega arith)
                (none_more (128 + (c / 4096) % 64) ((128 + (c / 64) % 64) ∷ (128 + c % 64) ∷ []) (omega arith)
                (none_more (128 + (c / 64) % 64) ((128 + c % 64) ∷ []) (omega arith) (none_more (128 + c % 64) [] (omega arith) refl)))
          ]
    ]

one_counted : (c : ℕ) → cond (c == 92) 1 0 ≡ slashes (encode_utf8 c)
one_counted c = elim (cases_lt c 128) [
  | inl low ↦ sym (ap slashes (encode_ascii c low) ∙ one_byte c)
  | inr high ↦ cond-false _ 1 0 (let t : (c == 92) ≡ false = grind (arith, nat_tests) in t) ∙ sym (wide c high)
]

encoded_counted : (cs : List ℕ) → backslashes (map encoded cs) ≡ slashes (encode_utf8_all cs)
encoded_counted [] = refl
encoded_counted (c ∷ cs) =
    sum_by-cons (λ (p : TextPiece). cond (is_backslash p.1) 1 0) (encoded c) (map encoded cs)
    ∙ ap (λ (n : ℕ). n + backslashes (map encoded cs)) (one_counted c)
    ∙ ap (λ (n : ℕ). slashes (encode_utf8 c) + n) (encoded_counted cs)
    ∙ sym (sum_by-append (λ (b : ℕ). cond (b == 92) 1 0) (encode_utf8 c) (encode_utf8_all cs))

-- ---- what stands in front of what is left

pub run_follows : (old new : TextPieces) (run : Bor (List ℕ)) → ArePassed (pieces_left old) (pieces_left new) run.now
    → old.rest.now ≡ run.now ++ new.rest.now → 1 ≤ length run.now → Follows old new (Plain run)
run_follows old new run p bytes some = record {
  pieces = map encoded p.characters;
  left = p.pieces;
  shown = utf8_pieces p.characters p.are_dumped ∙ p.are_bytes;
  count = encoded_counted p.characters ∙ ap slashes p.are_bytes;
  bytes = bytes;
  some = some;
}

pub plain_follows : (old new : TextPieces) (run : Bor (List ℕ)) → pieces_left old ≡ map as_itself run.now ++ pieces_left new
    → old.rest.now ≡ run.now ++ new.rest.now → list_all is_ascii_byte run.now ≡ true → 1 ≤ length run.now → Follows old new (Plain run)
plain_follows old new run left bytes plain some = record {
  pieces = map as_itself run.now;
  left = left;
  shown = plain_shown run.now plain;
  count = itself_counted run.now;
  bytes = bytes;
  some = some;
}

pub piece_follows : (old new : TextPieces) (piece : Bor (List ℕ)) (meaning : Meaning)
    → pieces_left old ≡ (piece.now, meaning) ∷ pieces_left new → old.rest.now ≡ piece.now ++ new.rest.now → 1 ≤ length piece.now
    → Follows old new (Piece piece meaning)
piece_follows old new piece meaning left bytes some = record {
  pieces = (piece.now, meaning) ∷ [];
  left = left;
  shown = append-nil (dumped_piece (piece.now, meaning));
  count = of_test (is_backslash meaning);
  bytes = bytes;
  some = some;
}
  where
    of_test : (t : Bool) → 0 + cond t 1 0 ≡ cond t 1 0
    of_test true = refl
    of_test false = refl
