-- No stop applies at a head that is allowed and has room.
use Rattle.std.proofs.Common.{◌≡◌, ◌∙◌, ap, sym, refl, ℕ, ◌+◌, ◌≤◌, List, [], ◌∷◌, ◌++◌, length, drop, Option, Some, None, Bool, true, false, cond, not, arith, length-append}
use Rattle.std.specs.Prelude.{◌==◌, ◌&&◌, nat_lt, nat_le}
use Rattle.std.proofs.lemmas.Bool.{le-ltb, ne_eqb}
use Rattle.dcm_base.specs.declared.tag.Tag.{Tag}
use Rattle.dcm_base.specs.declared.vr.Vr.{Vr}
use Rattle.dcm_base.specs.declared.syntax.Syntax.{Syntax}
use Rattle.dcm_base.specs.declared.fault.Fault.{Fault}
use Rattle.dcm_base.specs.declared.fault.Fault.TheVariants.{EndsEarly, UndefinedLength, PassesEnd, TooDeep}
use Rattle.dcm_base.specs.declared.length.Length.{Length}
use Rattle.dcm_base.specs.declared.level.Container.{Container}
use Rattle.dcm_base.specs.declared.level.Level.{Level}
use Rattle.dcm_base.specs.Tables.Number.{number}
use Rattle.dcm_base.specs.Tables.Tag.{is_item, item_tag}
use Rattle.dcm_base.specs.Bytes.Head.{ElementHead, ItemHead, Delimiter, tag_at, vr_at, long_length, head_size}
use Rattle.dcm_base.specs.Bytes.Spelling.{form, read_as}
use Rattle.dcm_base.specs.Reading.Place.{room, passes, depth, is_allowed, is_undefined, least}
use Rattle.dcm_base.specs.Reading.Stop.{refused, HeadBar, is_empty, is_the_data_set, is_fragment_list, opens_list, has_no_form, with_length, barred, element_stop, item_stop, head_stop, place_stop, first_case}
use Rattle.dcm_base.proofs.DataSets.Extend.{element_extends, item_extends, delimiter_extends}
use Rattle.dcm_base.proofs.DataSets.Heads.{eight_le_head_size}
use Rattle.dcm_sinks.proofs.ReadBack.KnownEnds.{no_empty}
use Rattle.dcm_stream.proofs.Steps.StopsStay.{tests, element_tests}

-- ---- room

-- there is room for so many bytes
abbrev pub HasRoom : ℕ → Option ℕ → Type 0
HasRoom n None = Unit {0}
HasRoom n (Some room) = n ≤ room

room_passes : (n m : ℕ) (r : Option ℕ) → HasRoom n r → m ≤ n → passes m r ≡ false
room_passes n m None h le = refl
room_passes n m (Some k) h le = le-ltb k m (omega arith)

pub less_room : (n m : ℕ) (r : Option ℕ) → HasRoom n r → m ≤ n → HasRoom m r
less_room n m None h le = tt
less_room n m (Some k) h le = omega arith

pub least_room : (n : ℕ) (a b : Option ℕ) → HasRoom n a → HasRoom n b → HasRoom n (least a b)
least_room n None b h k = k
least_room n (Some x) None h k = h
least_room n (Some x) (Some y) h k = omega arith

-- ---- no test but the head's own

place_free : (bar : HeadBar) (inner : Level) (outer : List Level) (p : ℕ) (z : List ℕ) → passes 8 (room p (inner ∷ outer)) ≡ false → 8 ≤ length z → is_allowed inner.container inner.declared (tag_at inner.syntax z) ≡ true
    → place_stop bar inner (inner ∷ outer) p z ≡ head_stop bar inner (inner ∷ outer) p z
place_free bar inner outer p z free le allowed =
    let h = head_stop bar inner (inner ∷ outer) p z in
    let c2 = is_the_data_set inner.container && is_empty z in
    let c3 = nat_lt (length z) 8 in
    let c4 = not (is_allowed inner.container inner.declared (tag_at inner.syntax z)) in
    ap (λ (t : Bool). tests t c2 c3 c4 p (length z) h) free
    ∙ ap (λ (t : Bool). tests false t c3 c4 p (length z) h) (no_empty (is_the_data_set inner.container) z le)
    ∙ ap (λ (t : Bool). tests false false t c4 p (length z) h) (le-ltb (length z) 8 le)
    ∙ ap (λ (t : Bool). tests false false false (not t) p (length z) h) allowed

-- ---- elements

all_free : (c1 c3 c4 c5 : Bool) (p n : ℕ) → c1 ≡ false → c3 ≡ false → c4 ≡ false → c5 ≡ false
    → first_case ((c1, refused PassesEnd p) ∷ (false, refused EndsEarly (p + n)) ∷ (c3, refused UndefinedLength p) ∷ (c4, refused PassesEnd p) ∷ (c5, refused TooDeep p) ∷ barred None p) ≡ None
all_free false false false false p n a b c d = refl
all_free true c3 c4 c5 p n a b c d = absurd (cc)
all_free false true c4 c5 p n a b c d = absurd (cc)
all_free false false true c5 p n a b c d = absurd (cc)
all_free false false false true p n a b c d = absurd (cc)

element_free : (bar : HeadBar) (s : Syntax) (around : List Level) (p : ℕ) (z c : List ℕ) (t : Tag) (vr : Vr) (l : Length) → ElementHead s t vr l z c → passes (head_size s vr) (room p around) ≡ false
    → passes (with_length (head_size s vr) l) (room p around) ≡ false → has_no_form (form s (read_as s t vr) l) ≡ false → (opens_list (form s (read_as s t vr) l) && nat_le 64 (depth around)) ≡ false → bar t vr l ≡ None
    → element_stop bar s around p z (vr_at s z) ≡ None
element_free bar s around p z c t vr l h fits fits_all has shallow unbarred =
    ap (λ (v : Option Vr). element_stop bar s around p z v) (sym h.vr_is)
    ∙ ap (λ (x : Length). element_tests (passes (head_size s vr) (room p around)) (nat_lt (length z) (head_size s vr)) (bar (tag_at s z) vr x) s around p (length z) (tag_at s z) vr x) (sym h.length_is)
    ∙ ap (λ (x : Tag). element_tests (passes (head_size s vr) (room p around)) (nat_lt (length z) (head_size s vr)) (bar x vr l) s around p (length z) x vr l) (sym h.tag_is)
    ∙ ap (λ (x : Option Fault). element_tests (passes (head_size s vr) (room p around)) (nat_lt (length z) (head_size s vr)) x s around p (length z) t vr l) unbarred
    ∙ ap (λ (x : Bool). element_tests (passes (head_size s vr) (room p around)) x None s around p (length z) t vr l) (le-ltb (length z) (head_size s vr) h.whole)
    ∙ all_free (passes (head_size s vr) (room p around)) (has_no_form (form s (read_as s t vr) l)) (passes (with_length (head_size s vr) l) (room p around)) (opens_list (form s (read_as s t vr) l) && nat_le 64 (depth around)) p (length z)
    fits has fits_all shallow

pub element_place : (bar : HeadBar) (inner : Level) (outer : List Level) (p : ℕ) (r z c : List ℕ) (t : Tag) (vr : Vr) (l : Length) → ElementHead inner.syntax t vr l r c → is_allowed inner.container inner.declared t ≡ true
    → has_no_form (form inner.syntax (read_as inner.syntax t vr) l) ≡ false → (opens_list (form inner.syntax (read_as inner.syntax t vr) l) && nat_le 64 (depth (inner ∷ outer))) ≡ false → bar t vr l ≡ None
    → HasRoom (length r) (room p (inner ∷ outer)) → with_length (head_size inner.syntax vr) l ≤ length r → place_stop bar inner (inner ∷ outer) p (r ++ z) ≡ None
element_place bar inner outer p r z c t vr l h allowed has shallow unbarred has_room le =
    let s : Syntax = inner.syntax in
    let rooms : Option ℕ = room p (inner ∷ outer) in
    let eight : 8 ≤ head_size s vr = eight_le_head_size s vr in
    let size = length-append r z in
    let x = element_extends s t vr l r c z h in
    let g : ((tag_at s (r ++ z)).group == 0xFFFE) ≡ false = ap (λ (y : Tag). y.group == 0xFFFE) (sym x.tag_is) ∙ ne_eqb t.group 0xFFFE h.no_item in
    place_free bar inner outer p (r ++ z) (room_passes (length r) 8 rooms has_room (omega (arith, eight, h.whole))) (omega (arith, eight, x.whole)) (ap (is_allowed inner.container inner.declared) (sym x.tag_is) ∙ allowed)
    ∙ ap (λ (y : Bool). cond (not y) (element_stop bar s (inner ∷ outer) p (r ++ z) (vr_at s (r ++ z))) (cond (is_item (tag_at s (r ++ z))) (item_stop inner.container (inner ∷ outer) p (long_length (number s 4 (drop 4 (r ++ z))))) None)) g
    ∙ element_free bar s (inner ∷ outer) p (r ++ z) (c ++ z) t vr l x (room_passes (length r) (head_size s vr) rooms has_room h.whole) (room_passes (length r) (with_length (head_size s vr) l) rooms has_room le) has shallow unbarred

-- ---- items and delimiters

item_free : (c : Container) (around : List Level) (p : ℕ) (l : Length) → passes (with_length 8 l) (room p around) ≡ false → (is_fragment_list c && is_undefined l) ≡ false → item_stop c around p l ≡ None
item_free c around p l free h = by_tests (is_fragment_list c && is_undefined l) (passes (with_length 8 l) (room p around)) h free
  where
    by_tests : (c1 c2 : Bool) → c1 ≡ false → c2 ≡ false → first_case ((c1, refused UndefinedLength p) ∷ (c2, refused PassesEnd p) ∷ []) ≡ None
    by_tests false false a b = refl
    by_tests true c2 a b = absurd (cc)
    by_tests false true a b = absurd (cc)

pub item_place : (bar : HeadBar) (inner : Level) (outer : List Level) (p : ℕ) (r z c : List ℕ) (l : Length) → ItemHead inner.syntax l r c → is_allowed inner.container inner.declared item_tag ≡ true
    → (is_fragment_list inner.container && is_undefined l) ≡ false → HasRoom (length r) (room p (inner ∷ outer)) → with_length 8 l ≤ length r → place_stop bar inner (inner ∷ outer) p (r ++ z) ≡ None
item_place bar inner outer p r z c l h allowed known has_room le =
    let s : Syntax = inner.syntax in
    let rooms : Option ℕ = room p (inner ∷ outer) in
    let x = item_extends s l r c z h in
    let g : ((tag_at s (r ++ z)).group == 0xFFFE) ≡ true = ap (λ (y : Tag). y.group == 0xFFFE) (sym x.tag_is) in
    let i : is_item (tag_at s (r ++ z)) ≡ true = ap is_item (sym x.tag_is) in
    place_free bar inner outer p (r ++ z) (room_passes (length r) 8 rooms has_room h.whole) x.whole (ap (is_allowed inner.container inner.declared) (sym x.tag_is) ∙ allowed)
    ∙ ap (λ (y : Bool). cond (not y) (element_stop bar s (inner ∷ outer) p (r ++ z) (vr_at s (r ++ z))) (cond (is_item (tag_at s (r ++ z))) (item_stop inner.container (inner ∷ outer) p (long_length (number s 4 (drop 4 (r ++ z))))) None)) g
    ∙ ap (λ (y : Bool). cond y (item_stop inner.container (inner ∷ outer) p (long_length (number s 4 (drop 4 (r ++ z))))) None) i
    ∙ ap (λ (y : Length). item_stop inner.container (inner ∷ outer) p y) (sym x.length_is)
    ∙ item_free inner.container (inner ∷ outer) p l (room_passes (length r) (with_length 8 l) rooms has_room le) known

pub delimiter_place : (bar : HeadBar) (inner : Level) (outer : List Level) (p : ℕ) (r z c : List ℕ) (t : Tag) → Delimiter inner.syntax t r c → is_allowed inner.container inner.declared t ≡ true → (t.group == 0xFFFE) ≡ true
    → is_item t ≡ false → HasRoom (length r) (room p (inner ∷ outer)) → place_stop bar inner (inner ∷ outer) p (r ++ z) ≡ None
delimiter_place bar inner outer p r z c t h allowed special no_item has_room =
    let s : Syntax = inner.syntax in
    let x = delimiter_extends s t r c z h in
    let g : ((tag_at s (r ++ z)).group == 0xFFFE) ≡ true = ap (λ (y : Tag). y.group == 0xFFFE) (sym x.tag_is) ∙ special in
    let i : is_item (tag_at s (r ++ z)) ≡ false = ap is_item (sym x.tag_is) ∙ no_item in
    place_free bar inner outer p (r ++ z) (room_passes (length r) 8 (room p (inner ∷ outer)) has_room h.whole) x.whole (ap (is_allowed inner.container inner.declared) (sym x.tag_is) ∙ allowed)
    ∙ ap (λ (y : Bool). cond (not y) (element_stop bar s (inner ∷ outer) p (r ++ z) (vr_at s (r ++ z))) (cond (is_item (tag_at s (r ++ z))) (item_stop inner.container (inner ∷ outer) p (long_length (number s 4 (drop 4 (r ++ z))))) None)) g
    ∙ ap (λ (y : Bool). cond y (item_stop inner.container (inner ∷ outer) p (long_length (number s 4 (drop 4 (r ++ z))))) None) i
