-- Stops stay where more bytes come, and what a place without one tells.
use Rattle.std.proofs.Common.{◌≡◌, ℕ, ◌+◌, ◌≤◌, List, [], ◌∷◌, ◌++◌, length, drop, Option, Some, None, Bool, true, false, cond, not, refl, ap, ◌∙◌, arith, length-append}
use Rattle.std.specs.Prelude.{nat_lt, nat_le, ◌==◌, ◌&&◌}
use Rattle.std.proofs.lemmas.Bool.{ltb-false, le-ltb}
use Rattle.dcm_lemmas.proofs.Truth.{and_second_false}
use Rattle.dcm_base.specs.declared.tag.Tag.{Tag}
use Rattle.dcm_base.specs.declared.vr.Vr.{Vr}
use Rattle.dcm_base.specs.declared.syntax.Syntax.{Syntax}
use Rattle.dcm_base.specs.declared.fault.Fault.{Fault}
use Rattle.dcm_base.specs.declared.fault.Fault.TheVariants.{EndsEarly, UndefinedLength, TagNotAllowed, PassesEnd, TooDeep}
use Rattle.dcm_base.specs.declared.length.Length.{Length}
use Rattle.dcm_base.specs.Tree.Front.{Front}
use Rattle.dcm_base.specs.Tables.Number.{number}
use Rattle.dcm_base.specs.Tables.Tag.{is_item}
use Rattle.dcm_base.specs.Bytes.Head.{tag_at, vr_at, length_at, head_size, long_length}
use Rattle.dcm_base.specs.Bytes.Spelling.{form, read_as}
use Rattle.dcm_base.specs.declared.level.Level.{Level}
use Rattle.dcm_base.specs.Reading.Place.{levels, value_open, room, passes, depth, is_allowed}
use Rattle.dcm_base.specs.Reading.Stop.{Stop, complete, refused, Bar, HeadBar, first_case, is_empty, is_the_data_set, opens_list, has_no_form, with_length, barred, element_stop, item_stop, head_stop, or_else, place_stop, innermost_stop, value_stop, stop_at, is_undecided}
use Rattle.dcm_base.proofs.DataSets.Extend.{tag_at_extends, vr_at_extends, length_at_extends, number_behind_extends}

-- ---- the tests of a place

abbrev pub tests : Bool → Bool → Bool → Bool → (position : ℕ) → (size : ℕ) → Option Stop → Option Stop
tests c1 c2 c3 c4 position size h =
    or_else (first_case ((c1, refused PassesEnd position) ∷ (c2, complete) ∷ (c3, refused EndsEarly (position + size)) ∷ (c4, refused TagNotAllowed position) ∷ [])) h

tests_same : (c1 c2 c3 c4 d2 d3 d4 : Bool) (position m n : ℕ) (h k : Option Stop) → is_undecided (tests c1 c2 c3 c4 position m h) ≡ false
    → (c3 ≡ false → (d2 ≡ false) × (d3 ≡ false) × (d4 ≡ c4) × (is_undecided h ≡ false → k ≡ h))
    → tests c1 d2 d3 d4 position n k ≡ tests c1 c2 c3 c4 position m h
tests_same true c2 c3 c4 d2 d3 d4 position m n h k u f = refl
tests_same false true c3 c4 d2 d3 d4 position m n h k u f = absurd (cc)
tests_same false false true c4 d2 d3 d4 position m n h k u f = absurd (cc)
tests_same false false false true d2 d3 d4 position m n h k u f =
    ap (λ (x : Bool). tests false x d3 d4 position n k) (f refl).0
    ∙ ap (λ (x : Bool). tests false false x d4 position n k) (f refl).1
    ∙ ap (λ (x : Bool). tests false false false x position n k) (f refl).2
tests_same false false false false d2 d3 d4 position m n h k u f =
    ap (λ (x : Bool). tests false x d3 d4 position n k) (f refl).0
    ∙ ap (λ (x : Bool). tests false false x d4 position n k) (f refl).1
    ∙ ap (λ (x : Bool). tests false false false x position n k) (f refl).2
    ∙ (f refl).3 u

-- ---- an element

abbrev pub element_tests : Bool → Bool → Option Fault → Syntax → List Level → (position size : ℕ) → Tag → Vr → Length → Option Stop
element_tests c1 c2 bar s around position size tag vr declared =
    first_case (
    (c1, refused PassesEnd position)
    ∷ (c2, refused EndsEarly (position + size))
    ∷ (has_no_form (form s (read_as s tag vr) declared), refused UndefinedLength position)
    ∷ (passes (with_length (head_size s vr) declared) (room position around), refused PassesEnd position)
    ∷ (opens_list (form s (read_as s tag vr) declared) && nat_le 64 (depth around), refused TooDeep position)
    ∷ barred bar position)

element_tests_same : (c1 c2 d2 : Bool) (bar bar' : Option Fault) (s : Syntax) (around : List Level) (position m n : ℕ) (t t' : Tag) (vr : Vr) (l l' : Length)
    → is_undecided (element_tests c1 c2 bar s around position m t vr l) ≡ false → (c2 ≡ false → (d2 ≡ false) × (bar' ≡ bar) × (t' ≡ t) × (l' ≡ l))
    → element_tests c1 d2 bar' s around position n t' vr l' ≡ element_tests c1 c2 bar s around position m t vr l
element_tests_same true c2 d2 bar bar' s around position m n t t' vr l l' u f = refl
element_tests_same false true d2 bar bar' s around position m n t t' vr l l' u f = absurd (cc)
element_tests_same false false d2 bar bar' s around position m n t t' vr l l' u f =
    ap (λ (x : Bool). element_tests false x bar' s around position n t' vr l') (f refl).0
    ∙ ap (λ (x : Option Fault). element_tests false false x s around position n t' vr l') (f refl).1
    ∙ ap (λ (x : Tag). element_tests false false bar s around position n x vr l') (f refl).2
    ∙ ap (λ (x : Length). element_tests false false bar s around position n t vr x) (f refl).3

element_same : (bar : HeadBar) (s : Syntax) (around : List Level) (position : ℕ) (rest z : List ℕ) (v : Option Vr) → 8 ≤ length rest
    → is_undecided (element_stop bar s around position rest v) ≡ false → element_stop bar s around position (rest ++ z) v ≡ element_stop bar s around position rest v
element_same bar s around position rest z None le u = refl
element_same bar s around position rest z (Some vr) le u =
    element_tests_same (passes (head_size s vr) (room position around)) (nat_lt (length rest) (head_size s vr)) (nat_lt (length (rest ++ z)) (head_size s vr))
    (bar (tag_at s rest) vr (length_at s vr rest)) (bar (tag_at s (rest ++ z)) vr (length_at s vr (rest ++ z))) s around position (length rest) (length (rest ++ z)) (tag_at s rest) (tag_at s (rest ++ z)) vr (length_at s vr rest) (length_at s vr (rest ++ z)) u
    (λ e.
    let whole : head_size s vr ≤ length rest = ltb-false _ _ e in
    let same = length_at_extends s vr rest z whole in (
      le-ltb _ _ (omega (arith, length-append rest z)),
      ap (λ (t : Tag). bar t vr (length_at s vr (rest ++ z))) (tag_at_extends s rest z (omega arith)) ∙ ap (λ (l : Length). bar (tag_at s rest) vr l) same,
      tag_at_extends s rest z (omega arith),
      same,
    ))

-- ---- a head

abbrev by_tag : Tag → Option Stop → Option Stop → Option Stop
by_tag tag e i = cond (not (tag.group == 0xFFFE)) e (cond (is_item tag) i None)

kinds_same : (t u : Bool) (e e' i i' : Option Stop) → (is_undecided e ≡ false → e' ≡ e) → i' ≡ i → is_undecided (cond t e (cond u i None)) ≡ false → cond t e' (cond u i' None) ≡ cond t e (cond u i None)
kinds_same true u e e' i i' f g h = f h
kinds_same false true e e' i i' f g h = g
kinds_same false false e e' i i' f g h = refl

head_same : (bar : HeadBar) (inner : Level) (around : List Level) (position : ℕ) (rest z : List ℕ) → 8 ≤ length rest
    → is_undecided (head_stop bar inner around position rest) ≡ false → head_stop bar inner around position (rest ++ z) ≡ head_stop bar inner around position rest
head_same bar inner around position rest z le u =
    let s = inner.syntax in
    ap (λ (t : Tag). by_tag t (element_stop bar s around position (rest ++ z) (vr_at s (rest ++ z))) (item_stop inner.container around position (long_length (number s 4 (drop 4 (rest ++ z))))))
    (tag_at_extends s rest z (omega arith))
    ∙ kinds_same (not ((tag_at s rest).group == 0xFFFE)) (is_item (tag_at s rest))
    (element_stop bar s around position rest (vr_at s rest)) (element_stop bar s around position (rest ++ z) (vr_at s (rest ++ z)))
    (item_stop inner.container around position (long_length (number s 4 (drop 4 rest)))) (item_stop inner.container around position (long_length (number s 4 (drop 4 (rest ++ z)))))
    (λ k. ap (λ (v : Option Vr). element_stop bar s around position (rest ++ z) v) (vr_at_extends s rest z le) ∙ element_same bar s around position rest z (vr_at s rest) le k)
    (ap (λ (n : ℕ). item_stop inner.container around position (long_length n)) (number_behind_extends s 4 4 rest z (omega arith)))
    u

pub is_empty_long : (rest : List ℕ) → 8 ≤ length rest → is_empty rest ≡ false
is_empty_long [] le = absurd (omega arith)
is_empty_long (b ∷ rest) le = refl

pub place_extends : (bar : HeadBar) (inner : Level) (around : List Level) (position : ℕ) (rest z : List ℕ)
    → is_undecided (place_stop bar inner around position rest) ≡ false → place_stop bar inner around position (rest ++ z) ≡ place_stop bar inner around position rest
place_extends bar inner around position rest z u =
    tests_same (passes 8 (room position around)) (is_the_data_set inner.container && is_empty rest) (nat_lt (length rest) 8) (not (is_allowed inner.container inner.declared (tag_at inner.syntax rest)))
    (is_the_data_set inner.container && is_empty (rest ++ z)) (nat_lt (length (rest ++ z)) 8) (not (is_allowed inner.container inner.declared (tag_at inner.syntax (rest ++ z))))
    position (length rest) (length (rest ++ z)) (head_stop bar inner around position rest) (head_stop bar inner around position (rest ++ z)) u
    (λ e.
    let le : 8 ≤ length rest = ltb-false _ _ e in
    let more : 8 ≤ length (rest ++ z) = omega (arith, length-append rest z) in (
      and_second_false _ _ (is_empty_long (rest ++ z) more),
      le-ltb _ _ more,
      ap (λ (t : Tag). not (is_allowed inner.container inner.declared t)) (tag_at_extends inner.syntax rest z (omega arith)),
      (λ k. head_same bar inner around position rest z le k),
    ))

pub innermost_extends : (bar : HeadBar) (ls : List Level) (position : ℕ) (rest z : List ℕ)
    → is_undecided (innermost_stop bar ls position rest) ≡ false → innermost_stop bar ls position (rest ++ z) ≡ innermost_stop bar ls position rest
innermost_extends bar [] position rest z u = refl
innermost_extends bar (inner ∷ outer) position rest z u = place_extends bar inner (inner ∷ outer) position rest z u

value_extends : (position : ℕ) (rest z : List ℕ) → is_undecided (value_stop position rest) ≡ false → value_stop position (rest ++ z) ≡ value_stop position rest
value_extends position [] z u = absurd (cc)
value_extends position (b ∷ rest) z u = refl

either_extends : (v : Bool) (a a' b b' : Option Stop) → (is_undecided a ≡ false → a' ≡ a) → (is_undecided b ≡ false → b' ≡ b) → is_undecided (cond v a b) ≡ false → cond v a' b' ≡ cond v a b
either_extends true a a' b b' f g u = f u
either_extends false a a' b b' f g u = g u

pub stop_extends : (bar : Bar) (s : Syntax) (start : ℕ) (f : Front) (position : ℕ) (rest z : List ℕ)
    → is_undecided (stop_at bar s start f position rest) ≡ false → stop_at bar s start f position (rest ++ z) ≡ stop_at bar s start f position rest
unfolding stop_at
stop_extends bar s start f position rest z u =
    either_extends (value_open f) (value_stop position rest) (value_stop position (rest ++ z)) (innermost_stop (bar f) (levels s start f) position rest) (innermost_stop (bar f) (levels s start f) position (rest ++ z))
    (value_extends position rest z) (innermost_extends (bar f) (levels s start f) position rest z) u

pub none_extends : (bar : Bar) (s : Syntax) (start : ℕ) (f : Front) (position : ℕ) (rest z : List ℕ) → stop_at bar s start f position rest ≡ None → stop_at bar s start f position (rest ++ z) ≡ None
none_extends bar s start f position rest z h = stop_extends bar s start f position rest z (ap is_undecided h) ∙ h
