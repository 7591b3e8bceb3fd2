-- What the stop of a place tells of the bytes of a head.
use Rattle.std.proofs.Common.{◌≡◌, ℕ, ◌+◌, ◌≤◌, ◌<◌, List, [], ◌∷◌, length, drop, Option, Some, None, Bool, true, false, cond, not, ◌⊎◌, inl, inr, refl, ap, ◌∙◌, subst, arith}
use Rattle.std.specs.Prelude.{nat_lt, nat_le, ◌==◌, ◌&&◌}
use Rattle.std.proofs.lemmas.Bool.{ltb-true, ltb-false, lt-ltb, eqb-false}
use Rattle.dcm_lemmas.proofs.Options.{some_same}
use Rattle.dcm_lemmas.proofs.Truth.{and_second, not_false}
use Rattle.dcm_base.specs.declared.tag.Tag.{Tag}
use Rattle.dcm_base.specs.declared.vr.Vr.{Vr}
use Rattle.dcm_base.specs.declared.syntax.Syntax.{Syntax}
use Rattle.dcm_base.specs.declared.syntax.Syntax.TheVariants.{Implicit as implicit_in, Little as little_in, Big as big_in}
use Rattle.dcm_base.specs.Tables.Representation.{is_long}
use Rattle.dcm_base.specs.declared.fault.Fault.{Fault}
use Rattle.dcm_base.specs.declared.fault.Fault.TheVariants.{EndsEarly, UndefinedLength, PassesEnd, TooDeep}
use Rattle.dcm_base.specs.declared.length.Length.{Length}
use Rattle.dcm_base.specs.Tables.Number.{number}
use Rattle.dcm_base.specs.Tables.Tag.{is_item}
use Rattle.dcm_base.specs.Bytes.Head.{tag_at, vr_at, length_at, head_size, long_length}
use Rattle.dcm_base.specs.Bytes.Spelling.{form, read_as}
use Rattle.dcm_base.specs.declared.level.Level.{Level}
use Rattle.dcm_base.specs.Reading.Place.{room, passes, depth, is_allowed, is_undefined}
use Rattle.dcm_base.specs.Reading.Stop.{Stop, complete, refused, HeadBar, first_case, is_empty, is_the_data_set, is_fragment_list, opens_list, has_no_form, with_length, barred, element_stop, item_stop, head_stop, place_stop, is_undecided, is_early_bar}
use Rattle.dcm_base.proofs.DataSets.Between.{WholeHead}
use Rattle.dcm_stream.proofs.Steps.StopsStay.{tests, element_tests}

-- ---- no stop

pub record FitsElement (s : Syntax) (around : List Level) (position : ℕ) (rest : List ℕ) (vr : Vr) : Type 0 where
  pub vr_is : vr_at s rest ≡ Some vr
  pub whole : head_size s vr ≤ length rest
  pub has_form : has_no_form (form s (read_as s (tag_at s rest) vr) (length_at s vr rest)) ≡ false
  pub fits : passes (with_length (head_size s vr) (length_at s vr rest)) (room position around) ≡ false
  pub shallow : (opens_list (form s (read_as s (tag_at s rest) vr) (length_at s vr rest)) && nat_le 64 (depth around)) ≡ false

tests_none : (c1 c2 c3 c4 : Bool) (position size : ℕ) (h : Option Stop) → tests c1 c2 c3 c4 position size h ≡ None → (c1 ≡ false) × (c3 ≡ false) × (c4 ≡ false) × (h ≡ None)
tests_none true c2 c3 c4 position size h e = absurd (cc)
tests_none false true c3 c4 position size h e = absurd (cc)
tests_none false false true c4 position size h e = absurd (cc)
tests_none false false false true position size h e = absurd (cc)
tests_none false false false false position size h e = (refl, refl, refl, e)

cases_none : (c1 c2 c3 c4 c5 : Bool) (s1 s2 s3 s4 s5 : Stop) (more : List (Bool × Stop)) → first_case ((c1, s1) ∷ (c2, s2) ∷ (c3, s3) ∷ (c4, s4) ∷ (c5, s5) ∷ more) ≡ None → (c2 ≡ false) × (c3 ≡ false) × (c4 ≡ false) × (c5 ≡ false)
cases_none true c2 c3 c4 c5 s1 s2 s3 s4 s5 more e = absurd (cc)
cases_none false true c3 c4 c5 s1 s2 s3 s4 s5 more e = absurd (cc)
cases_none false false true c4 c5 s1 s2 s3 s4 s5 more e = absurd (cc)
cases_none false false false true c5 s1 s2 s3 s4 s5 more e = absurd (cc)
cases_none false false false false true s1 s2 s3 s4 s5 more e = absurd (cc)
cases_none false false false false false s1 s2 s3 s4 s5 more e = (refl, refl, refl, refl)

element_none : (bar : HeadBar) (s : Syntax) (around : List Level) (position : ℕ) (rest : List ℕ) (v : Option Vr) → vr_at s rest ≡ v → element_stop bar s around position rest v ≡ None
    → (vr : Vr) × FitsElement s around position rest vr
element_none bar s around position rest None is e = absurd (cc)
element_none bar s around position rest (Some vr) is e =
    let l = length_at s vr rest in
    let k = cases_none (passes (head_size s vr) (room position around)) (nat_lt (length rest) (head_size s vr)) (has_no_form (form s (read_as s (tag_at s rest) vr) l)) (passes (with_length (head_size s vr) l) (room position around)) (opens_list (form s (read_as s (tag_at s rest) vr) l) && nat_le 64 (depth around))
    (refused PassesEnd position) (refused EndsEarly (position + length rest)) (refused UndefinedLength position) (refused PassesEnd position) (refused TooDeep position)
    (barred (bar (tag_at s rest) vr l) position) e in
    (vr, record { vr_is = is; whole = ltb-false _ _ k.0; has_form = k.1; fits = k.2; shallow = k.3 })

-- a head that no stop keeps from being read
pub data FitsHead (inner : Level) (around : List Level) (position : ℕ) (rest : List ℕ) : Type 0 where
  fits_element : (vr : Vr) → ((tag_at inner.syntax rest).group == 0xFFFE) ≡ false → FitsElement inner.syntax around position rest vr → FitsHead inner around position rest
  fits_item : ((tag_at inner.syntax rest).group == 0xFFFE) ≡ true → is_item (tag_at inner.syntax rest) ≡ true
      → (is_fragment_list inner.container && is_undefined (long_length (number inner.syntax 4 (drop 4 rest)))) ≡ false
      → passes (with_length 8 (long_length (number inner.syntax 4 (drop 4 rest)))) (room position around) ≡ false → FitsHead inner around position rest
  fits_delimiter : ((tag_at inner.syntax rest).group == 0xFFFE) ≡ true → is_item (tag_at inner.syntax rest) ≡ false → FitsHead inner around position rest

item_none : (c1 c2 : Bool) (s1 s2 : Stop) → first_case ((c1, s1) ∷ (c2, s2) ∷ []) ≡ None → (c1 ≡ false) × (c2 ≡ false)
item_none true c2 s1 s2 e = absurd (cc)
item_none false true s1 s2 e = absurd (cc)
item_none false false s1 s2 e = (refl, refl)

head_none : (bar : HeadBar) (inner : Level) (around : List Level) (position : ℕ) (rest : List ℕ) (t u : Bool) → ((tag_at inner.syntax rest).group == 0xFFFE) ≡ t → is_item (tag_at inner.syntax rest) ≡ u
    → cond (not t) (element_stop bar inner.syntax around position rest (vr_at inner.syntax rest)) (cond u (item_stop inner.container around position (long_length (number inner.syntax 4 (drop 4 rest)))) None) ≡ None
    → FitsHead inner around position rest
head_none bar inner around position rest false u t_is u_is e =
    let k = element_none bar inner.syntax around position rest (vr_at inner.syntax rest) refl e in
    fits_element k.0 t_is k.1
head_none bar inner around position rest true true t_is u_is e =
    let l = long_length (number inner.syntax 4 (drop 4 rest)) in
    let k = item_none (is_fragment_list inner.container && is_undefined l) (passes (with_length 8 l) (room position around)) (refused UndefinedLength position) (refused PassesEnd position) e in
    fits_item t_is u_is k.0 k.1
head_none bar inner around position rest true false t_is u_is e = fits_delimiter t_is u_is

pub record Fits (inner : Level) (around : List Level) (position : ℕ) (rest : List ℕ) : Type 0 where
  pub room_for : passes 8 (room position around) ≡ false
  pub eight : 8 ≤ length rest
  pub allowed : is_allowed inner.container inner.declared (tag_at inner.syntax rest) ≡ true
  pub head : FitsHead inner around position rest

pub place_none : (bar : HeadBar) (inner : Level) (around : List Level) (position : ℕ) (rest : List ℕ) → place_stop bar inner around position rest ≡ None → Fits inner around position rest
place_none bar inner around position rest e =
    let k = tests_none (passes 8 (room position around)) (is_the_data_set inner.container && is_empty rest) (nat_lt (length rest) 8) (not (is_allowed inner.container inner.declared (tag_at inner.syntax rest)))
    position (length rest) (head_stop bar inner around position rest) e in
    record {
      room_for = k.0;
      eight = ltb-false _ _ k.1;
      allowed = not_false _ k.2;
      head = head_none bar inner around position rest ((tag_at inner.syntax rest).group == 0xFFFE) (is_item (tag_at inner.syntax rest)) refl refl k.3;
    }

-- ---- an undecided stop

abbrev pub place_end : Level → (position : ℕ) → List ℕ → Stop
place_end inner position rest = cond (is_the_data_set inner.container && is_empty rest) complete (refused EndsEarly (position + length rest))

tests_short : (c1 c2 c3 c4 : Bool) (position size : ℕ) (h : Option Stop) → (is_undecided h ≡ true → h ≡ Some (refused EndsEarly (position + size))) → is_undecided (tests c1 c2 c3 c4 position size h) ≡ true
    → (c1 ≡ false) × (tests c1 c2 c3 c4 position size h ≡ Some (cond c2 complete (refused EndsEarly (position + size)))) × ((c2 ≡ true) ⊎ ((c3 ≡ true) ⊎ (is_undecided h ≡ true)))
tests_short true c2 c3 c4 position size h f e = absurd (cc)
tests_short false true c3 c4 position size h f e = (refl, refl, inl refl)
tests_short false false true c4 position size h f e = (refl, refl, inr (inl refl))
tests_short false false false true position size h f e = absurd (cc)
tests_short false false false false position size h f e = (refl, f e, inr (inr e))

barred_decided : (c3 c4 c5 : Bool) (bar : Option Fault) (position : ℕ) → is_early_bar bar ≡ false
    → is_undecided (first_case ((c3, refused UndefinedLength position) ∷ (c4, refused PassesEnd position) ∷ (c5, refused TooDeep position) ∷ barred bar position)) ≡ false
barred_decided true c4 c5 bar position h = refl
barred_decided false true c5 bar position h = refl
barred_decided false false true bar position h = refl
barred_decided false false false None position h = refl
barred_decided false false false (Some fault) position h = h

element_tests_short : (c1 c2 : Bool) (bar : Option Fault) (s : Syntax) (around : List Level) (position size : ℕ) (tag : Tag) (vr : Vr) (l : Length) → is_early_bar bar ≡ false
    → is_undecided (element_tests c1 c2 bar s around position size tag vr l) ≡ true → (c2 ≡ true) × (element_tests c1 c2 bar s around position size tag vr l ≡ Some (refused EndsEarly (position + size)))
element_tests_short true c2 bar s around position size tag vr l h e = absurd (cc)
element_tests_short false true bar s around position size tag vr l h e = (refl, refl)
element_tests_short false false bar s around position size tag vr l h e =
    let k = barred_decided (has_no_form (form s (read_as s tag vr) l)) (passes (with_length (head_size s vr) l) (room position around)) (opens_list (form s (read_as s tag vr) l) && nat_le 64 (depth around)) bar position h in
    absurd (cc)

-- a bar is no early end
abbrev pub NeverEarly : HeadBar → Type 0
NeverEarly bar = (tag : Tag) (vr : Vr) (declared : Length) → is_early_bar (bar tag vr declared) ≡ false

element_short : (bar : HeadBar) (s : Syntax) (around : List Level) (position : ℕ) (rest : List ℕ) (v : Option Vr) → NeverEarly bar → is_undecided (element_stop bar s around position rest v) ≡ true
    → (vr : Vr) × (v ≡ Some vr) × (length rest < head_size s vr) × (element_stop bar s around position rest v ≡ Some (refused EndsEarly (position + length rest)))
element_short bar s around position rest None never e = absurd (cc)
element_short bar s around position rest (Some vr) never e =
    let l = length_at s vr rest in
    let k = element_tests_short (passes (head_size s vr) (room position around)) (nat_lt (length rest) (head_size s vr)) (bar (tag_at s rest) vr l) s around position (length rest) (tag_at s rest) vr l (never (tag_at s rest) vr l) e in
    (vr, refl, ltb-true _ _ k.0, k.1)

item_decided : (c1 c2 : Bool) (position : ℕ) → is_undecided (first_case ((c1, refused UndefinedLength position) ∷ (c2, refused PassesEnd position) ∷ [])) ≡ false
item_decided true c2 position = refl
item_decided false true position = refl
item_decided false false position = refl

-- the head of an element that isn't whole
abbrev HeadLacks : Syntax → List ℕ → Type 0
HeadLacks s rest = ((tag_at s rest).group == 0xFFFE ≡ false) × ((vr : Vr) × (vr_at s rest ≡ Some vr) × (length rest < head_size s vr))

head_short_by : (bar : HeadBar) (inner : Level) (around : List Level) (position : ℕ) (rest : List ℕ) (t u : Bool) → NeverEarly bar → ((tag_at inner.syntax rest).group == 0xFFFE) ≡ t
    → let h = cond (not t) (element_stop bar inner.syntax around position rest (vr_at inner.syntax rest)) (cond u (item_stop inner.container around position (long_length (number inner.syntax 4 (drop 4 rest)))) None) in
    is_undecided h ≡ true → (h ≡ Some (refused EndsEarly (position + length rest))) × HeadLacks inner.syntax rest
head_short_by bar inner around position rest false u never t_is e =
    let k = element_short bar inner.syntax around position rest (vr_at inner.syntax rest) never e in
    (k.3, (t_is, (k.0, k.1, k.2)))
head_short_by bar inner around position rest true true never t_is e =
    let l = long_length (number inner.syntax 4 (drop 4 rest)) in
    let k = item_decided (is_fragment_list inner.container && is_undefined l) (passes (with_length 8 l) (room position around)) position in
    absurd (cc)
head_short_by bar inner around position rest true false never t_is e = absurd (cc)

lacks_not_whole : (s : Syntax) (rest : List ℕ) → HeadLacks s rest → WholeHead s rest → ⊥
lacks_not_whole s rest (g, (vr, is, lt)) h =
    let k = h.twelve (eqb-false _ _ g) in
    let same : k.0 ≡ vr = some_same k.0 vr (k.1 ∙ is) in
    let le : head_size s vr ≤ length rest = subst (λ (v : Vr). head_size s v ≤ length rest) same k.2 in
    omega arith

pub record Short (inner : Level) (around : List Level) (position : ℕ) (rest : List ℕ) (stop : Option Stop) : Type 0 where
  pub room_for : passes 8 (room position around) ≡ false
  pub not_whole : WholeHead inner.syntax rest → ⊥
  pub small : length rest < 12
  pub end_is : stop ≡ Some (place_end inner position rest)

size_of_form : (long : Bool) → cond long 12 8 ≤ 12
size_of_form true = omega arith
size_of_form false = omega arith

head_size_le_12 : (s : Syntax) (vr : Vr) → head_size s vr ≤ 12
head_size_le_12 (implicit_in d) vr = omega arith
head_size_le_12 (little_in d) vr = size_of_form (is_long vr)
head_size_le_12 (big_in d) vr = size_of_form (is_long vr)

empty_small : (rest : List ℕ) → is_empty rest ≡ true → length rest < 12
empty_small [] e = omega arith
empty_small (b ∷ rest) e = absurd (cc)

empty_not_whole : (s : Syntax) (rest : List ℕ) → is_empty rest ≡ true → WholeHead s rest → ⊥
empty_not_whole s [] e h = omega (arith, h.eight)
empty_not_whole s (b ∷ rest) e h = cc

pub place_short : (bar : HeadBar) (inner : Level) (around : List Level) (position : ℕ) (rest : List ℕ) → NeverEarly bar → is_undecided (place_stop bar inner around position rest) ≡ true
    → Short inner around position rest (place_stop bar inner around position rest)
place_short bar inner around position rest never e =
    let h = λ (u : is_undecided (head_stop bar inner around position rest) ≡ true). head_short_by bar inner around position rest ((tag_at inner.syntax rest).group == 0xFFFE) (is_item (tag_at inner.syntax rest)) never refl u in
    let k = tests_short (passes 8 (room position around)) (is_the_data_set inner.container && is_empty rest) (nat_lt (length rest) 8) (not (is_allowed inner.container inner.declared (tag_at inner.syntax rest)))
    position (length rest) (head_stop bar inner around position rest) (λ u. (h u).0) e in
    record {
      room_for = k.0;
      not_whole = λ w. elim k.2 [
        | inl x ↦ empty_not_whole inner.syntax rest (and_second _ _ x) w
        | inr y ↦ elim y [ inl z ↦ let lt = ltb-true (length rest) 8 z in omega (arith, w.eight) | inr u ↦ lacks_not_whole inner.syntax rest (h u).1 w ]
      ];
      small = elim k.2 [
        | inl x ↦ empty_small rest (and_second _ _ x)
        | inr y ↦ elim y [ inl z ↦ let lt = ltb-true (length rest) 8 z in omega arith | inr u ↦ let lacks = (h u).1 in let le = head_size_le_12 inner.syntax lacks.1.0 in omega (arith, lacks.1.2) ]
      ];
      end_is = k.1;
    }

tests_begin : (c1 c2 c4 : Bool) (position size : ℕ) (h : Option Stop) → c1 ≡ false → is_undecided (tests c1 c2 true c4 position size h) ≡ true
tests_begin true c2 c4 position size h e = absurd (cc)
tests_begin false true c4 position size h e = refl
tests_begin false false c4 position size h e = refl

-- no bytes of a head leave its end undecided where it has room
pub place_begins : (bar : HeadBar) (inner : Level) (around : List Level) (position : ℕ) → passes 8 (room position around) ≡ false → is_undecided (place_stop bar inner around position []) ≡ true
place_begins bar inner around position e =
    tests_begin (passes 8 (room position around)) (is_the_data_set inner.container && true) (not (is_allowed inner.container inner.declared (tag_at inner.syntax [])))
    position 0 (head_stop bar inner around position []) e

tests_short_head : (c1 c2 c3 c4 : Bool) (position size : ℕ) (h : Option Stop) → c1 ≡ false → c3 ≡ true → is_undecided (tests c1 c2 c3 c4 position size h) ≡ true
tests_short_head true c2 c3 c4 position size h e f = absurd (cc)
tests_short_head false true c3 c4 position size h e f = refl
tests_short_head false false true c4 position size h e f = refl
tests_short_head false false false c4 position size h e f = absurd (cc)

-- fewer than eight bytes leave it undecided where there is room
pub place_waits : (bar : HeadBar) (inner : Level) (around : List Level) (position : ℕ) (rest : List ℕ) → passes 8 (room position around) ≡ false → length rest < 8 → is_undecided (place_stop bar inner around position rest) ≡ true
place_waits bar inner around position rest e lt =
    tests_short_head (passes 8 (room position around)) (is_the_data_set inner.container && is_empty rest) (nat_lt (length rest) 8) (not (is_allowed inner.container inner.declared (tag_at inner.syntax rest)))
    position (length rest) (head_stop bar inner around position rest) e (lt-ltb (length rest) 8 lt)

pub place_no_room : (bar : HeadBar) (inner : Level) (around : List Level) (position : ℕ) (rest : List ℕ) → passes 8 (room position around) ≡ true → place_stop bar inner around position rest ≡ Some (refused PassesEnd position)
place_no_room bar inner around position rest e =
    ap (λ (x : Bool). tests x (is_the_data_set inner.container && is_empty rest) (nat_lt (length rest) 8) (not (is_allowed inner.container inner.declared (tag_at inner.syntax rest))) position (length rest) (head_stop bar inner around position rest)) e
