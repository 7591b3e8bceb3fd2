-- Numbers that are written one after another.
use Rattle.std.proofs.Common.{◌≡◌, ◌<◌, ◌≤◌, ℕ, ◌+◌, ◌*◌, ◌^◌, Bool, List, [], ◌∷◌, ◌++◌, length, take, drop, take-add, refl, sym, ap, ◌∙◌, arith}
use Rattle.std.specs.Prelude.{reverse, decimal}
use Rattle.std.proofs.lemmas.Fmt.{length-decimal-le}
use Rattle.std.proofs.lemmas.Grind.{flat_map-append}
use Rattle.std.proofs.lemmas.List.{append-nil, take_at}
use Rattle.byteorder.specs.Endian.{little_number, big_number}
use Rattle.dcm_base.specs.Tree.Value.{pieces, number_of}
use Rattle.dcm_value.specs.Units.{separated}
use Rattle.dcm_value.specs.Numbers.{number_in, shown_number, number_text}
use Rattle.dcm_value.proofs.UnitOrder.Pieces.{pieces_more}

-- the digits of a number
pub digits_fit : (n : ℕ) → n < 2 ^ 64 → length (decimal n) ≤ 20
digits_fit n small = length-decimal-le 20 n (omega arith) (omega arith) small

-- digits that are written behind what stands there
pub written_behind : (at start end size : ℕ) (old new digits rest : List ℕ) → start ≡ at → end ≡ at + size → length digits ≡ size → take start new ≡ take start old → drop start new ≡ digits ++ rest → take end new ≡ take at old ++ digits
written_behind at start end size old new digits rest same ends long before behind =
    ap (λ n. take n new) (ends ∙ ap (λ n. n + size) (sym same))
    ∙ take-add start size new
    ∙ ap (λ xs. xs ++ take size (drop start new)) before
    ∙ ap (λ xs. take start old ++ take size xs) behind
    ∙ ap (λ xs. take start old ++ xs) (take_at digits rest size long)
    ∙ ap (λ n. take n old ++ digits) same

-- a unit, by its number
pub text_of : (is_signed is_big : Bool) (k n : ℕ) (u : List ℕ) → length u ≡ k → n ≡ number_in is_big u → number_text is_signed is_big u ≡ shown_number is_signed k n
text_of is_signed is_big k n u long value =
    ap (λ m. shown_number is_signed m (number_in is_big u)) long ∙ ap (shown_number is_signed k) (sym value)

-- a number behind those that are written
pub numbers_next : (f : List ℕ → List ℕ) (k at : ℕ) (v before after shown : List ℕ) → f (take k (drop (k * at) v)) ≡ shown → before ≡ separated f (pieces at k v) → after ≡ before ++ (92 ∷ shown) → after ≡ separated f (pieces (at + 1) k v)
numbers_next f k at v before after shown one so_far more =
    let unit : List ℕ = take k (drop (k * at) v) in
    let last : separated f (unit ∷ []) ≡ 92 ∷ shown = append-nil (92 ∷ f unit) ∙ ap (λ ys. 92 ∷ ys) one in
    more
    ∙ ap (λ xs. xs ++ 92 ∷ shown) so_far
    ∙ ap (λ ys. separated f (pieces at k v) ++ ys) (sym last)
    ∙ sym (flat_map-append (λ u. 92 ∷ f u) (pieces at k v) (unit ∷ []))
    ∙ ap (separated f) (sym (pieces_more at k v))

-- eight bytes in either order
pub eight_little : (v : List ℕ) → length v ≡ 8 → little_number 8 v ≡ number_of v
eight_little (a ∷ b ∷ c ∷ d ∷ e ∷ f ∷ g ∷ h ∷ []) long = refl
eight_little _ long = absurd (omega arith)

pub eight_big : (v : List ℕ) → length v ≡ 8 → big_number 8 v ≡ number_of (reverse v)
eight_big (a ∷ b ∷ c ∷ d ∷ e ∷ f ∷ g ∷ h ∷ []) long = omega arith
eight_big _ long = absurd (omega arith)
