-- A display that goes out block by block.
use Rattle.std.proofs.Common.{◌≡◌, ◌≤◌, ◌-◌, ◌∷◌, ℕ, Bool, true, false, cond, List, [], ◌++◌, length, ap, sym, ◌∙◌, refl, arith, append_assoc, append-nil, codes, replicate, nat_lt, Option, Result, Err}
use Rattle.std.specs.Prelude.{IsErr, flat_map}
use Rattle.std.specs.Io.KnownBytes.{append_known}
use Rattle.std.proofs.lemmas.Bool.Decides.{nat_tests}
use Rattle.std.proofs.lemmas.List.{length-append}
use Rattle.dcm_lemmas.proofs.Options.{known_nothing, known_twice}
use Rattle.dcm_base.specs.Dump.ValueText.{padded}
use Rattle.dcm_devices.specs.Device.{AppendsFront, Puts}
use Rattle.dcm_devices.proofs.Writes.Puts.{puts_behind}
use Rattle.dcm_devices.proofs.Writes.PartsOut.{parts_put, part_failed}
use Rattle.dcm_text.specs.Decoding.{Piece}
use Rattle.dcm_text.specs.Shown.{dumped_piece}
use Rattle.dcm_value.specs.DecodedDisplay.{bracketed_pieces}

-- a beginning of it went out, and this is to come
pub record Out (old now : Option (List ℕ)) (all left : List ℕ) : Type 0 where
  pub front : List ℕ
  pub whole : all ≡ front ++ left
  pub grown : now ≡ append_known old front

pub out_none : (old : Option (List ℕ)) (all : List ℕ) → Out old old all all
out_none old all = record { front = []; whole = refl; grown = sym (known_nothing old) }

-- these bytes more
pub out_more : {old now : Option (List ℕ)} {all left : List ℕ} (new : Option (List ℕ)) (bytes rest : List ℕ) → Out old now all left
    → left ≡ bytes ++ rest → new ≡ append_known now bytes → Out old new all rest
out_more {old} {now} {all} {left} new bytes rest p split more = record {
  front = p.front ++ bytes;
  whole = p.whole ∙ ap (λ xs. p.front ++ xs) split ∙ sym (append_assoc p.front bytes rest);
  grown = more ∙ ap (λ known. append_known known bytes) p.grown ∙ known_twice old p.front bytes;
}

-- the next bytes did not all go out, or all that is left did
pub out_fails : {T E : Type 0} {old now : Option (List ℕ)} {all left : List ℕ} (new : Option (List ℕ)) (bytes rest end : List ℕ) (r : Result T E) → Out old now all left
    → left ≡ bytes ++ rest → IsErr r → AppendsFront now new bytes → Puts old new (all ++ end) r
out_fails {T} {E} {old} {now} {all} {left} new bytes rest end r p split failed stopped =
    part_failed {T = T} {E = E} old new (p.front ++ bytes) (p.front ++ bytes) (rest ++ end) (all ++ end) r failed refl
    (ap (λ xs. xs ++ end) (p.whole ∙ ap (λ xs. p.front ++ xs) split ∙ sym (append_assoc p.front bytes rest)) ∙ append_assoc (p.front ++ bytes) rest end)
    (puts_behind {T = ℕ} {E = ℕ} old now new p.front bytes (Err 0) p.grown stopped)

-- what is left goes out with the end behind it
pub out_ends : {T E : Type 0} {old now : Option (List ℕ)} {all left : List ℕ} (new : Option (List ℕ)) (bytes end : List ℕ) (r : Result T E) → Out old now all left
    → bytes ≡ left ++ end → Puts now new bytes r → Puts old new (all ++ end) r
out_ends {T} {E} {old} {now} {all} {left} new bytes end r p same puts =
    parts_put {T = T} {E = E} old now new p.front p.front (left ++ end) bytes (all ++ end) r refl same
    (ap (λ xs. xs ++ end) p.whole ∙ append_assoc p.front left end) p.grown puts

-- ---- a block that goes out where it is full

pub block_split : (t : Bool) (block rest : List ℕ) → block ++ rest ≡ cond t block [] ++ (cond t [] block ++ rest)
block_split true block rest = refl
block_split false block rest = refl

pub block_room : (block : List ℕ) → length (cond (nat_lt 756 (length block)) [] block) ≤ 756
block_room block = by_test (nat_lt 756 (length block)) refl
  where
    by_test : (t : Bool) → nat_lt 756 (length block) ≡ t → length (cond t [] block) ≤ 756
    by_test true e = omega arith
    by_test false e = grind (arith, nat_tests)

-- ---- the front of a long display goes out before the others

long_padded : (d : List ℕ) → 40 ≤ length d → padded d ≡ d
long_padded d l = ap (λ n. d ++ replicate n 32) (let e : 40 - length d ≡ 0 = omega arith in e) ∙ append-nil d

pub front_and_others : (front shown : List ℕ) (rest all : List Piece) → front ++ flat_map dumped_piece rest ≡ shown ++ flat_map dumped_piece all
    → shown ≡ 91 ∷ [] → 66 ≤ length front → padded (bracketed_pieces all) ≡ front ++ (flat_map dumped_piece rest ++ codes "]")
front_and_others front shown rest all e f l =
    let whole : front ++ (flat_map dumped_piece rest ++ codes "]") ≡ bracketed_pieces all =
    sym (append_assoc front (flat_map dumped_piece rest) (codes "]"))
    ∙ ap (λ (x : List ℕ). x ++ codes "]") (e ∙ ap (λ (x : List ℕ). x ++ flat_map dumped_piece all) f)
    in
    long_padded (bracketed_pieces all) (omega (arith, l, ap length whole, length-append front (flat_map dumped_piece rest ++ codes "]")))
    ∙ sym whole
