-- Containers that close one by one.
use Rattle.std.proofs.Common.{◌≡◌, ◌∙◌, sym, ap, subst, refl, ℕ, ◌-◌, List, [], ◌∷◌, ◌++◌, length, take, drop, reverse, append_assoc, Bool, true, false, cond, Option, Some, None, Result, Ok, arith, length-append}
use Rattle.std.specs.Prelude.{fold, IsErr}
use Rattle.std.specs.Io.KnownBytes.{append_known}
use Rattle.std.proofs.lemmas.List.{reverse-reverse, take-append-le, take_all}
use Rattle.dcm_base.specs.declared.level.Container.{Container}
use Rattle.dcm_base.specs.declared.level.Level.{Level}
use Rattle.dcm_base.specs.Steps.Atoms.{Atom}
use Rattle.dcm_devices.specs.Device.{AppendsFront}
use Rattle.dcm_base.specs.Steps.Steps.{outputs, Goes}
use Rattle.dcm_base.proofs.Writes.Runs.{goes_on, goes_failed}
use Rattle.dcm_stream.specs.Reading.{ends_at, closes, full_closed}
use Rattle.dcm_stream.specs.Places.{full_innermost}
use Rattle.dcm_stream.proofs.Containers.Reversed.{turned_cons}

turned_all_but : {X : Type 0} (ys : List X) → reverse (take (length (reverse ys) - 1) (reverse ys)) ≡ drop 1 ys
turned_all_but [] = refl
turned_all_but (y ∷ ys) =
    let size : length (reverse (y ∷ ys)) - 1 ≡ length (reverse ys) = rw (turned_cons y ys, length-append) (omega arith) in
    ap (λ (n : ℕ). reverse (take n (reverse (y ∷ ys)))) size
    ∙ ap (λ xs. reverse (take (length (reverse ys)) xs)) (turned_cons y ys)
    ∙ ap reverse (take-append-le (length (reverse ys)) (reverse ys) (y ∷ []) (omega arith) ∙ take_all (length (reverse ys)) (reverse ys) (omega arith))
    ∙ reverse-reverse ys

-- all but the last, turned round
pub turned_but_last : {X : Type 0} (xs : List X) → reverse (take (length xs - 1) xs) ≡ drop 1 (reverse xs)
turned_but_last xs = ap (λ ys. reverse (take (length ys - 1) ys)) (sym (reverse-reverse xs)) ∙ turned_all_but (reverse xs)

-- one that is full
pub record ClosesOne (position : ℕ) (ls : List Level) (container : Container) : Type 0 where
  pub levels : (full_closed position ls).0 ≡ (full_closed position (drop 1 ls)).0
  pub atoms : (full_closed position ls).1 ≡ closes container ∷ (full_closed position (drop 1 ls)).1

one_by : (position : ℕ) (inner : Level) (outer : List Level) (container : Container) (t : Bool) → ends_at position inner.end_offset ≡ t → Some container ≡ cond t (Some inner.container) None → ClosesOne position (inner ∷ outer) container
unfolding full_closed
one_by position inner outer container false e h = absurd (cc)
one_by position inner outer container true e h =
    let same : container ≡ inner.container = cc in
    let closed = ap (λ (t : Bool). cond {A = List Level × List Atom} t ((full_closed position outer).0, closes inner.container ∷ (full_closed position outer).1) (inner ∷ outer, [])) e in
    record { levels = ap (λ (p : List Level × List Atom). p.0) closed; atoms = ap (λ (p : List Level × List Atom). p.1) closed ∙ ap (λ (c : Container). closes c ∷ (full_closed position outer).1) (sym same) }

pub closes_one : (position : ℕ) (ls : List Level) (container : Container) → Some container ≡ full_innermost position ls → ClosesOne position ls container
closes_one position [] container h = absurd (cc)
closes_one position (inner ∷ outer) container h = one_by position inner outer container (ends_at position inner.end_offset) refl h

none_by : (position : ℕ) (inner : Level) (outer : List Level) (t : Bool) → ends_at position inner.end_offset ≡ t → None ≡ cond t (Some inner.container) None → full_closed position (inner ∷ outer) ≡ (inner ∷ outer, [])
unfolding full_closed
none_by position inner outer true e h = absurd (cc)
none_by position inner outer false e h = ap (λ (t : Bool). cond {A = List Level × List Atom} t ((full_closed position outer).0, closes inner.container ∷ (full_closed position outer).1) (inner ∷ outer, [])) e

-- none that is full
pub closes_none : (position : ℕ) (ls : List Level) → None ≡ full_innermost position ls → full_closed position ls ≡ (ls, [])
unfolding full_closed
closes_none position [] h = refl
closes_none position (inner ∷ outer) h = none_by position inner outer (ends_at position inner.end_offset) refl h

module _ {S : Type 0} (step : S → Atom → S) (writes : S → Atom → List ℕ) where
  -- atoms behind those so far
  pub taken_more : (s : S) (held : Option (List ℕ)) (m : S) (mid : Option (List ℕ)) (t : S) (holds : Option (List ℕ)) (xs ys : List Atom) → m ≡ fold step s xs → mid ≡ append_known held (outputs step writes s xs)
      → t ≡ fold step m ys → holds ≡ append_known mid (outputs step writes m ys) → (t ≡ fold step s (xs ++ ys)) × (holds ≡ append_known held (outputs step writes s (xs ++ ys)))
  taken_more s held m mid t holds xs ys a b c d = goes_on step writes {T = Unit {0}} {E = Unit {0}} s held m mid t holds xs ys (Ok tt) a b (c, d)

  -- a failure at some atoms behind those so far
  pub failed_more : {T E : Type 0} (s : S) (held : Option (List ℕ)) (m : S) (mid : Option (List ℕ)) (t : S) (holds : Option (List ℕ)) (xs ys zs all : List Atom) (r : Result T E) → m ≡ fold step s xs → mid ≡ append_known held (outputs step writes s xs)
      → IsErr r → all ≡ xs ++ (ys ++ zs) → AppendsFront mid holds (outputs step writes m ys) → Goes step writes s held t holds all r
  failed_more {T} {E} s held m mid t holds xs ys zs all r a b e whole h =
      subst (λ (atoms : List Atom). Goes {T = T} {E = E} step writes s held t holds atoms r) (sym whole)
      (goes_on step writes s held m mid t holds xs (ys ++ zs) r a b (goes_failed step writes m mid t holds ys zs r e h))

-- the atoms to come, with the first apart
pub closes_first : (position : ℕ) (ls : List Level) (container : Container) (token all front : List Atom) → token ≡ closes container ∷ [] → ClosesOne position ls container → all ≡ front ++ (full_closed position ls).1
    → all ≡ front ++ (token ++ (full_closed position (drop 1 ls)).1)
closes_first position ls container token all front t one e =
    e ∙ ap (λ (atoms : List Atom). front ++ atoms) (one.atoms ∙ ap (λ (atoms : List Atom). atoms ++ (full_closed position (drop 1 ls)).1) (sym t))

-- the same with the first behind those so far
pub closes_next : (position : ℕ) (ls others : List Level) (container : Container) (token all front : List Atom) → token ≡ closes container ∷ [] → ClosesOne position ls container → others ≡ drop 1 ls → all ≡ front ++ (full_closed position ls).1
    → all ≡ (front ++ token) ++ (full_closed position others).1
closes_next position ls others container token all front t one o e =
    closes_first position ls container token all front t one e
    ∙ ap (λ (z : List Level). front ++ (token ++ (full_closed position z).1)) (sym o)
    ∙ sym (append_assoc front token (full_closed position others).1)
