-- What the edits of a mask answer, as the steps of the edit sink ask it.
use Rattle.std.proofs.Common.{◌≡◌, ℕ, zero, suc, ◌+◌, ◌<◌, List, [], ◌∷◌, map, length, fold, max, bit_or, Bool, true, false, ◌&&◌, ◌||◌, refl, ◌∙◌, ap, arith, inl, inr, ◌⊎◌}
use Rattle.std.specs.Prelude.{◌==◌, if◌then◌else◌}
use Rattle.std.specs.Int.{bit_at}
use Rattle.std.proofs.lemmas.Nat.Bits.{bit_at_or, bit_at-lt}
use Rattle.dcm_lemmas.proofs.Lists.{bits_alike, heads_alike, tails_alike}
use Rattle.dcm_base.specs.declared.tag.Tag.{Tag}
use Rattle.dcm_base.specs.Steps.Atoms.{value_byte}
use Rattle.dcm_edits.specs.Edit.{Edit, elsewhere}
use Rattle.dcm_edits.specs.Together.{any_erases}
use Rattle.dcm_editor.specs.EditSink.{State, either, next}
use Rattle.dcm_editor.specs.Masks.{is_set, bits, at_depth, asked, goes_along, GoAlong, AllSet}
use Rattle.dcm_editor.specs.Asking.{answer_of, any_answer}
use Rattle.dcm_editor.specs.declared.asked.Question.TheVariants.{GoesAlong, Erases}

-- ---- whether any erases an item

pub erasing : (t : Tag) (n : ℕ) (es : List Edit) → any_answer (Erases t n) es ≡ any_erases es t n
erasing t n [] = refl
erasing t n (e ∷ es) = ap (λ (b : Bool). answer_of (Erases t n) e || b) (erasing t n es)

-- ---- the bits of both masks

either_bit : (a b : ℕ) → a < 2 → b < 2 → (max a b == 1) ≡ ((a == 1) || (b == 1))
either_bit a b p q = by (small a p) (small b q)
  where
    small : (n : ℕ) → n < 2 → (n ≡ 0) ⊎ (n ≡ 1)
    small zero l = inl refl
    small (suc zero) l = inr refl
    small (suc (suc n)) l = absurd (omega (arith, l))

    by : ((a ≡ 0) ⊎ (a ≡ 1)) → ((b ≡ 0) ⊎ (b ≡ 1)) → (max a b == 1) ≡ ((a == 1) || (b == 1))
    by (inl x) (inl y) = rw x (rw y refl)
    by (inl x) (inr y) = rw x (rw y refl)
    by (inr x) (inl y) = rw x (rw y refl)
    by (inr x) (inr y) = rw x (rw y refl)

pub set_in_either : (a b k : ℕ) → is_set (bit_or a b) k ≡ (is_set a k || is_set b k)
set_in_either a b k = ap (λ (n : ℕ). n == 1) (bit_at_or a b k) ∙ either_bit (bit_at a k) (bit_at b k) (bit_at-lt a k) (bit_at-lt b k)

bits_either : (a b k : ℕ) (es : List Edit) → bits (bit_or a b) k es ≡ either (bits a k es) (bits b k es)
bits_either a b k [] = refl
bits_either a b k (e ∷ es) = bits_alike _ _ _ _ (set_in_either a b k) (bits_either a b (suc k) es)

pub found_either : (a b d depth k : ℕ) (es : List Edit) (more : List Bool) → bits b k es ≡ more → bits (bit_or a b) k es ≡ either (bits a k es) more
found_either a b d depth k es more e = bits_either a b k es ∙ ap (λ (bs : List Bool). either (bits a k es) bs) e

-- ---- which go along into an item

along_one : (b : Bool) (e : Edit) (t : Tag) (n : ℕ) → answer_of (GoesAlong t n) (if b then e else elsewhere) ≡ (b && goes_along e t n)
along_one true e t n = refl
along_one false e t n = refl

pub going_along : (depth mask inner k : ℕ) (t : Tag) (n : ℕ) (es : List Edit) → bits inner k es ≡ map (answer_of (GoesAlong t n)) (asked depth mask k es) → GoAlong depth mask inner t n k es
going_along depth mask inner k t n [] e = tt
going_along depth mask inner k t n (x ∷ es) e =
    (heads_alike _ _ _ _ e ∙ along_one (is_set mask k) (at_depth depth x) t n, going_along depth mask inner (suc k) t n es (tails_alike _ _ _ _ e))

-- ---- all edits

pub all_set : (mask k : ℕ) (es : List Edit) → ((j : ℕ) → j < k + length es → is_set mask j ≡ true) → AllSet mask k es
all_set mask k [] h = tt
all_set mask k (e ∷ es) h = (h k (omega arith), all_set mask (suc k) es (λ j l. h j (omega (arith, l))))

-- ---- the bytes of a value change nothing

pub bytes_stay : (s : State) (bytes : List ℕ) → s ≡ fold next s (map value_byte bytes)
bytes_stay s [] = refl
bytes_stay s (b ∷ bytes) = bytes_stay s bytes
