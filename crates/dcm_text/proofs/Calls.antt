-- What one call of a decoder says of the pieces that are left.
use Rattle.std.proofs.Common.{◌≡◌, ℕ, ◌+◌, ◌≤◌, ◌<◌, Bool, true, List, [], ◌∷◌, ◌++◌, length, take, drop, Option, Some, None}
use Rattle.std.proofs.Common.{sym, ap, ◌∙◌, arith, length-append, length-drop}
use Rattle.std.specs.Prelude.{◌==◌, MatchOption, IfSome, IfNone}
use Rattle.dcm_text.specs.declared.decoder.Decoder.{Decoder}
use Rattle.dcm_text.specs.declared.decoder.Part.{Part}
use Rattle.dcm_text.specs.Decoding.{Piece, found, Gives, Waits}
use Rattle.dcm_text.specs.Runs.{bytes_left}
use Rattle.std.proofs.Common.{◌-◌, min, inl, inr, refl}
use Rattle.std.proofs.lemmas.Bool.{cases_lt}
use Rattle.std.proofs.Math.Seq.{drop-append-add, drop-length}
use Rattle.std.proofs.lemmas.List.{take-append-le, drop-append-le}
use Rattle.dcm_text.specs.declared.first.Meaning.{Meaning}
use Rattle.dcm_text.specs.declared.first.Found.{Found}
use Rattle.dcm_text.proofs.Pieces.{found_more, none_more, found_sized}

pub if_some : {A : Type 0} (P : Type 0) (Q R : A → Type 0) (r : Option A) → MatchOption r P Q → ((x : A) → Q x → R x) → IfSome r R
if_some P Q R None h f = tt
if_some P Q R (Some x) h f = f x h

pub if_none : {A : Type 0} (P R : Type 0) (Q : A → Type 0) (r : Option A) → MatchOption r P Q → (P → R) → IfNone r R
if_none P R Q None h f = f h
if_none P R Q (Some x) h f = tt

pub gives_fewer : (at_end : Bool) (old new : Decoder) (input rest : List ℕ) (p : Part)
    → Gives at_end old new (old.held.items ++ input) (new.held.items ++ rest) p → bytes_left new rest < bytes_left old input
unfolding bytes_left
gives_fewer at_end old new input rest p g =
    let s = found_sized at_end old.sets old.kind old.halves (old.held.items ++ input) g.first g.is_first in
    let d = length-drop g.first.size (old.held.items ++ input) in
    omega (arith, ap length g.left, d, s.0, s.1)

-- ---- what is held, and the input behind it

pub both_dropped : (n m : ℕ) (a b kept rest : List ℕ) → m ≡ min n (length a) → kept ≡ drop m a → rest ≡ drop (n - m) b
    → kept ++ rest ≡ drop n (a ++ b)
both_dropped n m a b kept rest e k r = elim (cases_lt n (length a)) [
  | inl l ↦
      let same : m ≡ n = omega arith in
      let none : n - m ≡ 0 = omega arith in
      ap (λ (x : List ℕ). x ++ rest) (k ∙ ap (λ (i : ℕ). drop i a) same)
      ∙ ap (λ (x : List ℕ). drop n a ++ x) (r ∙ ap (λ (i : ℕ). drop i b) none)
      ∙ sym (drop-append-le n a b (omega arith))
  | inr l ↦
      let same : m ≡ length a = omega arith in
      let all : length a + (n - m) ≡ n = omega arith in
      ap (λ (x : List ℕ). x ++ rest) (k ∙ ap (λ (i : ℕ). drop i a) same ∙ drop-length a)
      ∙ r ∙ sym (drop-append-add a b (n - m)) ∙ ap (λ (i : ℕ). drop i (a ++ b)) all
]

pub held_gives : (at_end : Bool) (old new : Decoder) (input window more rest : List ℕ) (f : Found) (part : Part)
    → old.held.items ++ input ≡ window ++ more → (length window < 4 → more ≡ [])
    → found at_end old.sets old.kind old.halves window ≡ Some f → part.bytes.items ≡ take f.size window → part.meaning ≡ f.meaning
    → new.halves ≡ f.halves → rest ≡ drop f.size (old.held.items ++ input) → (new.sets ≡ old.sets) × (new.kind ≡ old.kind)
    → Gives at_end old new (old.held.items ++ input) rest part
held_gives at_end old new input window more rest f part whole all e bytes meaning halves left same =
    let s = found_sized at_end old.sets old.kind old.halves window f e in
    record {
      first = f;
      is_first = ap (found at_end old.sets old.kind old.halves) whole ∙ found_more at_end old.sets old.kind old.halves window more f all e;
      piece =
          ap (λ (b : List ℕ). let p : Piece = (b, part.meaning) in p)
          (bytes ∙ sym (take-append-le f.size window more s.1) ∙ ap (take f.size) (sym whole))
          ∙ ap (λ (m : Meaning). let p : Piece = (take f.size (old.held.items ++ input), m) in p) meaning;
      halves = halves;
      left = left;
      same = same;
    }

pub held_waits : (at_end : Bool) (old new : Decoder) (input window more : List ℕ)
    → old.held.items ++ input ≡ window ++ more → (length window < 4 → more ≡ [])
    → found at_end old.sets old.kind old.halves window ≡ None
    → new.halves ≡ old.halves → new.held.items ≡ window → (new.sets ≡ old.sets) × (new.kind ≡ old.kind)
    → Waits at_end old new (old.held.items ++ input)
held_waits at_end old new input window more whole all e halves held same =
    let n = none_more at_end old.sets old.kind old.halves window more all e in
    record {
      is_none = ap (found at_end old.sets old.kind old.halves) whole ∙ n.1;
      halves = halves;
      held = held ∙ sym n.0 ∙ sym whole;
      same = same;
    }

pub window_size : (held input window more : List ℕ) → held ++ input ≡ window ++ more → length window ≤ length held + length input
window_size held input window more e = omega (arith, ap length e, length-append held input, length-append window more)

pub empty_front : (held input : List ℕ) → held ≡ [] → input ≡ held ++ input
empty_front held input e = sym (ap (λ (h : List ℕ). h ++ input) e)

pub empty_of : (xs : List ℕ) → (length xs == 0) ≡ true → xs ≡ []
empty_of [] e = refl
empty_of (x ∷ xs) e = absurd (let h : length (x ∷ xs) ≡ 0 = grind arith in omega arith)
