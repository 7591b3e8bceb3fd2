-- The bytes of a text in brackets up to the first that is an escape or ends it.
use Rattle.std.proofs.Common.{◌≡◌, ◌≤◌, ℕ, suc, ◌+◌, ◌==◌, ◌||◌, List, [], ◌∷◌, length, take, drop, Option, Some, None, refl, subst, ap, sym, ◌∙◌, cond, true, false, Bool, not, arith}
use Rattle.std.specs.Prelude.{position}
use Rattle.std.specs.List.{position_or_len}
use Rattle.dcm_lemmas.proofs.Numbers.{one_after}
use Rattle.dcm_base.specs.Lines.ReadValue.{bracketed_value}
use Rattle.dcm_value.specs.Taking.{behind}
use Rattle.dcm_value.proofs.ReadBack.Parts.{plain_byte, some_place, no_place}

abbrev pub stops_plain : ℕ → Bool
stops_plain b = b == 37 || b == 93

pub behind_nothing : (o : Option (List ℕ)) → o ≡ behind [] o
behind_nothing None = refl
behind_nothing (Some m) = refl

behind_one : (x : ℕ) (front : List ℕ) (o : Option (List ℕ)) → behind (x ∷ []) (behind front o) ≡ behind (x ∷ front) o
behind_one x front None = refl
behind_one x front (Some m) = refl

abbrev Cut : List ℕ → ℕ → Type 0
Cut v n = bracketed_value v ≡ behind (take n v) (bracketed_value (drop n v))

plain_more : (x : ℕ) (v : List ℕ) (n : ℕ) → (x == 37) ≡ false → (x == 93) ≡ false → Cut v n → Cut (x ∷ v) (suc n)
plain_more x v n e f c = plain_byte x v f e ∙ ap (behind (x ∷ [])) c ∙ behind_one x (take n v) (bracketed_value (drop n v))

one_more : (x : ℕ) (v : List ℕ) (a b : Bool) → (x == 37) ≡ a → (x == 93) ≡ b → Cut v (position_or_len stops_plain v) → Cut (x ∷ v) (cond (not (a || b)) (1 + position_or_len stops_plain v) 0)
one_more x v true b e f c = behind_nothing (bracketed_value (x ∷ v))
one_more x v false true e f c = behind_nothing (bracketed_value (x ∷ v))
one_more x v false false e f c = subst (Cut (x ∷ v)) (one_after (position_or_len stops_plain v)) (plain_more x v (position_or_len stops_plain v) e f c)

plain_cut : (v : List ℕ) → Cut v (position_or_len stops_plain v)
plain_cut [] = refl
plain_cut (x ∷ v) = one_more x v (x == 37) (x == 93) refl refl (plain_cut v)

cut_all : (v : List ℕ) → length v ≤ position_or_len stops_plain v → Cut v (length v)
cut_all [] l = refl
cut_all (x ∷ v) l = of_tests (x == 37) (x == 93) refl refl l (cut_all v)
  where
    of_tests : (a b : Bool) → (x == 37) ≡ a → (x == 93) ≡ b → length (x ∷ v) ≤ cond (not (a || b)) (1 + position_or_len stops_plain v) 0 → (length v ≤ position_or_len stops_plain v → Cut v (length v)) → Cut (x ∷ v) (length (x ∷ v))
    of_tests true b e f l more = absurd (omega arith)
    of_tests false true e f l more = absurd (omega arith)
    of_tests false false e f l more = plain_more x v (length v) e f (more (omega arith))

pub cut_where : (v : List ℕ) (at : ℕ) → position stops_plain v ≡ Some at → Cut v at
cut_where v at e = subst (Cut v) (sym (some_place (position_or_len stops_plain v) (length v) at e).1) (plain_cut v)

pub cut_nowhere : (v : List ℕ) → position stops_plain v ≡ None → Cut v (length v)
cut_nowhere v e = cut_all v (no_place (position_or_len stops_plain v) (length v) e)
