-- The pieces of a text, one by one.
use Rattle.std.proofs.Common.{◌≡◌, ℕ, zero, suc, ◌≤◌, ◌<◌, Bool, true, false, List, [], ◌∷◌, ◌++◌, length, take, drop, Option, Some, None}
use Rattle.std.proofs.Common.{refl, sym, ap, subst, ◌∙◌, arith, append-nil, length-drop}
use Rattle.dcm_text.proofs.Firsts.{Stays, first_stays}
use Rattle.dcm_text.specs.declared.set.Halves.{Halves}
use Rattle.dcm_text.specs.declared.set.TextKind.{TextKind}
use Rattle.dcm_text.specs.declared.sets.Sets.{Sets}
use Rattle.dcm_text.specs.declared.first.Found.{Found}
use Rattle.dcm_text.specs.First.{first_of}
use Rattle.dcm_text.proofs.Sizes.{IsSized, first_sized}
use Rattle.dcm_text.specs.Decoding.{Piece, or_unknown, decoded_by, decoded_from, found}

no_first : (f : Found) → (let o : Option Found = None in o ≡ Some f) → ⊥
no_first f e = cc

-- what is decided is found, whether a text ends or goes on
pub found_some : (at_end : Bool) (sets : Sets) (kind : TextKind) (halves : Halves) (text : List ℕ) (f : Found)
    → first_of sets kind halves text ≡ Some f → found at_end sets kind halves text ≡ Some f
unfolding first_of
found_some false sets kind halves text f e = e
found_some true sets kind halves [] f e = absurd (no_first f e)
found_some true sets kind halves (b ∷ rest) f e = ap (λ (o : Option Found). Some (or_unknown halves o)) e

-- ---- sizes

unknown_sized : (halves : Halves) (o : Option Found) (n : ℕ) → 1 ≤ n → IsSized o n → IsSized (Some (or_unknown halves o)) n
unknown_sized halves None n l h = (omega arith, omega arith, omega arith)
unknown_sized halves (Some f) n l h = h

pub all_sized : (at_end : Bool) (sets : Sets) (kind : TextKind) (halves : Halves) (text : List ℕ)
    → IsSized (found at_end sets kind halves text) (length text)
all_sized false sets kind halves text = first_sized sets kind halves text
all_sized true sets kind halves [] = omega arith
all_sized true sets kind halves (b ∷ rest) =
    unknown_sized halves (first_of sets kind halves (b ∷ rest)) (length (b ∷ rest)) (omega arith) (first_sized sets kind halves (b ∷ rest))

pub found_sized : (at_end : Bool) (sets : Sets) (kind : TextKind) (halves : Halves) (text : List ℕ) (f : Found)
    → found at_end sets kind halves text ≡ Some f → (1 ≤ f.size) × (f.size ≤ length text) × (f.size ≤ 4)
found_sized at_end sets kind halves text f e = subst (λ (o : Option Found). IsSized o (length text)) e (all_sized at_end sets kind halves text)

pub none_sized : (at_end : Bool) (sets : Sets) (kind : TextKind) (halves : Halves) (text : List ℕ)
    → found at_end sets kind halves text ≡ None → length text ≤ 3
none_sized at_end sets kind halves text e = subst (λ (o : Option Found). IsSized o (length text)) e (all_sized at_end sets kind halves text)

-- ---- a window, and what is behind it

stays_some : (o r : Option Found) (f : Found) → Stays o r → o ≡ Some f → r ≡ Some f
stays_some None r f s e = absurd (no_first f e)
stays_some (Some g) r f s e = s ∙ e

pub first_more : (sets : Sets) (kind : TextKind) (halves : Halves) (text more : List ℕ) (f : Found)
    → first_of sets kind halves text ≡ Some f → first_of sets kind halves (text ++ more) ≡ Some f
first_more sets kind halves text more f e =
    stays_some (first_of sets kind halves text) (first_of sets kind halves (text ++ more)) f (first_stays sets kind halves text more) e

nothing_behind : (text more : List ℕ) → more ≡ [] → text ++ more ≡ text
nothing_behind text more e = ap (λ (m : List ℕ). text ++ m) e ∙ append-nil text

-- four bytes decide, and fewer are all
pub found_more : (at_end : Bool) (sets : Sets) (kind : TextKind) (halves : Halves) (text more : List ℕ) (f : Found)
    → (length text < 4 → more ≡ []) → found at_end sets kind halves text ≡ Some f → found at_end sets kind halves (text ++ more) ≡ Some f
found_more at_end sets kind halves text more f all e = by_first (first_of sets kind halves text) refl
  where
    by_first : (o : Option Found) → first_of sets kind halves text ≡ o → found at_end sets kind halves (text ++ more) ≡ Some f
    by_first None n =
        let short : length text ≤ 3 = none_sized false sets kind halves text n in
        ap (found at_end sets kind halves) (nothing_behind text more (all (omega arith))) ∙ e
    by_first (Some g) n =
        found_some at_end sets kind halves (text ++ more) g (first_more sets kind halves text more g n)
        ∙ sym (found_some at_end sets kind halves text g n) ∙ e

pub none_more : (at_end : Bool) (sets : Sets) (kind : TextKind) (halves : Halves) (text more : List ℕ)
    → (length text < 4 → more ≡ []) → found at_end sets kind halves text ≡ None
    → (text ++ more ≡ text) × (found at_end sets kind halves (text ++ more) ≡ None)
none_more at_end sets kind halves text more all e =
    let short : length text ≤ 3 = none_sized at_end sets kind halves text e in
    let same : text ++ more ≡ text = nothing_behind text more (all (omega arith)) in
    (same, ap (found at_end sets kind halves) same ∙ e)

-- ---- one piece, and those behind it

enough : (n m : ℕ) (sets : Sets) (kind : TextKind) (halves : Halves) (text : List ℕ) → length text ≤ n → length text ≤ m
    → decoded_by n sets kind halves text ≡ decoded_by m sets kind halves text
enough zero zero sets kind halves text l k = refl
enough zero (suc m) sets kind halves [] l k = refl
enough zero (suc m) sets kind halves (b ∷ rest) l k = absurd (omega arith)
enough (suc n) zero sets kind halves [] l k = refl
enough (suc n) zero sets kind halves (b ∷ rest) l k = absurd (omega arith)
enough (suc n) (suc m) sets kind halves [] l k = refl
enough (suc n) (suc m) sets kind halves (b ∷ rest) l k =
    let f : Found = or_unknown halves (first_of sets kind halves (b ∷ rest)) in
    let s = all_sized true sets kind halves (b ∷ rest) in
    let d = length-drop f.size (b ∷ rest) in
    ap (λ (ps : List Piece). (take f.size (b ∷ rest), f.meaning) ∷ ps)
    (enough n m sets kind f.halves (drop f.size (b ∷ rest)) (omega (arith, s.0, d)) (omega (arith, s.0, d)))

pub one_piece : (sets : Sets) (kind : TextKind) (halves : Halves) (text : List ℕ) (f : Found) → found true sets kind halves text ≡ Some f
    → decoded_from sets kind halves text ≡ (take f.size text, f.meaning) ∷ decoded_from sets kind f.halves (drop f.size text)
unfolding decoded_from
one_piece sets kind halves [] f e = absurd (no_first f e)
one_piece sets kind halves (b ∷ rest) f e =
    let same : or_unknown halves (first_of sets kind halves (b ∷ rest)) ≡ f = cc in
    let s = all_sized true sets kind halves (b ∷ rest) in
    let g : Found = or_unknown halves (first_of sets kind halves (b ∷ rest)) in
    let d = length-drop g.size (b ∷ rest) in
    ap (λ (ps : List Piece). (take g.size (b ∷ rest), g.meaning) ∷ ps)
    (enough (length rest) (length (drop g.size (b ∷ rest))) sets kind g.halves (drop g.size (b ∷ rest)) (omega (arith, s.0, d)) (omega arith))
    ∙ ap (λ (x : Found). (take x.size (b ∷ rest), x.meaning) ∷ decoded_by (length (drop x.size (b ∷ rest))) sets kind x.halves (drop x.size (b ∷ rest))) same

pub found_whole : (at_end : Bool) (sets : Sets) (kind : TextKind) (halves : Halves) (text more : List ℕ) (f : Found)
    → (at_end ≡ true → more ≡ []) → found at_end sets kind halves text ≡ Some f → found true sets kind halves (text ++ more) ≡ Some f
found_whole true sets kind halves text more f none e = ap (found true sets kind halves) (nothing_behind text more (none refl)) ∙ e
found_whole false sets kind halves text more f none e =
    found_some true sets kind halves (text ++ more) f (first_more sets kind halves text more f e)

-- where nothing is found to the end, nothing is left
pub none_left : (sets : Sets) (kind : TextKind) (halves : Halves) (text : List ℕ) → found true sets kind halves text ≡ None
    → decoded_from sets kind halves text ≡ []
unfolding decoded_from
none_left sets kind halves [] e = refl
none_left sets kind halves (b ∷ rest) e = absurd (some_none (or_unknown halves (first_of sets kind halves (b ∷ rest))) e)
  where
    some_none : (f : Found) → (let o : Option Found = Some f in o ≡ None) → ⊥
    some_none f h = cc
