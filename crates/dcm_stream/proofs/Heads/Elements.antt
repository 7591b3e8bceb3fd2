-- What is judged of the head of an element.
use Rattle.std.proofs.Common.{◌≡◌, ◌∙◌, ap, sym, refl, subst, ℕ, ◌+◌, ◌≤◌, ◌<◌, List, [], ◌∷◌, length, drop, Bool, true, false, cond, not, Option, Some, None, Result, Ok, Err, ◌⊎◌, inl, inr, arith}
use Rattle.std.specs.Prelude.{◌==◌, ◌&&◌, ◌||◌, nat_lt, nat_le, MatchOption}
use Rattle.std.proofs.lemmas.Bool.{le-ltb, ltb-false, cases_Bool, and_parts, or_left, or_right, lt-leb}
use Rattle.dcm_head.proofs.Heads.Short.{no_delimiter, no_item}
use Rattle.dcm_lemmas.proofs.Truth.{and_second_false}
use Rattle.dcm_base.specs.declared.tag.Tag.{Tag}
use Rattle.dcm_base.specs.declared.vr.Vr.{Vr}
use Rattle.dcm_base.specs.declared.vr.Vr.TheVariants.{UN}
use Rattle.dcm_base.specs.declared.syntax.Syntax.{Syntax}
use Rattle.dcm_base.specs.declared.length.Length.{Length}
use Rattle.dcm_base.specs.declared.length.Length.TheVariants.{Known}
use Rattle.dcm_base.specs.declared.level.Container.{Container}
use Rattle.dcm_base.specs.declared.level.Container.TheVariants.{DataSet as the_data_set, Item as an_item, Sequence as a_sequence, FragmentList as a_fragment_list}
use Rattle.dcm_base.specs.declared.level.Level.{Level}
use Rattle.dcm_base.specs.declared.form.Form.{Form}
use Rattle.dcm_base.specs.declared.form.Form.TheVariants.{Value as a_value, Sequence as sequence_form, FragmentList as fragment_form, Nothing as no_form}
use Rattle.dcm_base.specs.declared.fault.Fault.{Fault}
use Rattle.dcm_base.specs.declared.fault.Fault.TheVariants.{EndsEarly, UnknownRepresentation, UndefinedLength, TagNotAllowed, PassesEnd, TooDeep}
use Rattle.dcm_base.specs.Tables.Number.{number}
use Rattle.dcm_base.specs.Tables.Tag.{is_item, is_item_end, is_sequence_end}
use Rattle.dcm_base.specs.Bytes.Head.{tag_at, vr_at, length_at, head_size, long_length}
use Rattle.dcm_base.specs.Bytes.Spelling.{form, read_as}
use Rattle.dcm_base.specs.Reading.Place.{room, passes, depth, is_data, is_undefined, is_allowed}
use Rattle.dcm_base.specs.Reading.Stop.{Stop, refused, HeadBar, first_case, is_empty, is_the_data_set, is_fragment_list, opens_list, has_no_form, with_length, barred, element_stop, item_stop, head_stop, place_stop, is_early}
use Rattle.dcm_head.specs.declared.head.Head.{Head}
use Rattle.dcm_head.specs.declared.head.HeadRead.TheVariants.{Done, More, BadVr}
use Rattle.dcm_head.specs.HeadRead.{is_delimiter, element_read, tag_read}
use Rattle.dcm_head.proofs.Heads.Reads.{by_tests}
use Rattle.dcm_stream.specs.declared.token.Bar.{Bar}
use Rattle.dcm_stream.specs.Tokens.{Bars}
use Rattle.dcm_stream.specs.Places.{innermost}
use Rattle.dcm_base.specs.Steps.Atoms.{opens, opens_fragment}
use Rattle.dcm_stream.specs.declared.judge.Opening.{Opening}
use Rattle.dcm_stream.specs.declared.judge.Opening.TheVariants as opening
use Rattle.dcm_stream.specs.declared.judge.Judged.TheVariants as judged
use Rattle.dcm_stream.specs.Reading.{Opened, size_of, value_opens, closes, element_opens, item_opens, plain_opens, head_opens, sign_of, without_value}
use Rattle.dcm_stream.specs.Judging.{OpensNothing, fault_of, shape_fault, item_fault, or_fault, element_fault, head_fault, opens_with, opened_by, OpensAs, JudgesHead, Judges}
use Rattle.dcm_stream.proofs.Heads.Opening.{undefined_no_value}
use Rattle.dcm_stream.proofs.Steps.AfterHeads.{data_false}
use Rattle.dcm_stream.proofs.Steps.StopsStay.{tests, is_empty_long}

-- ---- what was read

no_bad : (t : Bool) (size n : ℕ) (head : Head) → BadVr ≡ cond t (More size) (Done head n) → ⊥
no_bad true size n head e = cc
no_bad false size n head e = cc

was_more : (t : Bool) (k size n : ℕ) (head : Head) → More k ≡ cond t (More size) (Done head n) → (t ≡ true) × (k ≡ size)
was_more true k size n head e = (refl, cc)
was_more false k size n head e = absurd (cc)

was_done : (t : Bool) (h : Head) (k size n : ℕ) (head : Head) → Done h k ≡ cond t (More size) (Done head n) → (t ≡ false) × (h ≡ head) × (k ≡ n)
was_done true h k size n head e = absurd (cc)
was_done false h k size n head e = (refl, cc, cc)

-- ---- what stops it

-- a fault at a place
abbrev pub stop_of : ℕ → Option Fault → Option Stop
stop_of position None = None
stop_of position (Some fault) = Some (refused fault position)

whole_cases : (c1 c3 c4 c5 : Bool) (bar : Option Fault) (position : ℕ) (early : Stop)
    → first_case ((c1, refused PassesEnd position) ∷ (false, early) ∷ (c3, refused UndefinedLength position) ∷ (c4, refused PassesEnd position) ∷ (c5, refused TooDeep position) ∷ barred bar position)
    ≡ stop_of position (or_fault (cond c1 (Some PassesEnd) (cond c3 (Some UndefinedLength) (cond c4 (Some PassesEnd) (cond c5 (Some TooDeep) None)))) bar)
whole_cases true c3 c4 c5 bar position early = refl
whole_cases false true c4 c5 bar position early = refl
whole_cases false false true c5 bar position early = refl
whole_cases false false false true bar position early = refl
whole_cases false false false false None position early = refl
whole_cases false false false false (Some fault) position early = refl

never_early : (c1 c3 c4 c5 : Bool) (fault : Fault) → Some fault ≡ cond c1 (Some PassesEnd) (cond c3 (Some UndefinedLength) (cond c4 (Some PassesEnd) (cond c5 (Some TooDeep) None))) → is_early fault ≡ false
never_early true c3 c4 c5 fault e = let k : fault ≡ PassesEnd = cc in ap is_early k
never_early false true c4 c5 fault e = let k : fault ≡ UndefinedLength = cc in ap is_early k
never_early false false true c5 fault e = let k : fault ≡ PassesEnd = cc in ap is_early k
never_early false false false true fault e = let k : fault ≡ TooDeep = cc in ap is_early k
never_early false false false false fault e = absurd (cc)

pub shape_not_early : (f : Form) (size : ℕ) (l : Length) (room : Option ℕ) (depth : ℕ) (fault : Fault) → Some fault ≡ shape_fault f size l room depth → is_early fault ≡ false
shape_not_early f size l room depth fault e = never_early (passes size room) (has_no_form f) (passes (with_length size l) room) (opens_list f && nat_le 64 depth) fault e

module _ (bar : HeadBar) (s : Syntax) (around : List Level) (position : ℕ) (bytes : List ℕ) where
  pub bad_element : (v : Option Vr) → BadVr ≡ element_read s bytes v → element_stop bar s around position bytes v ≡ Some (refused UnknownRepresentation position)
  bad_element None e = refl
  bad_element (Some vr) e = absurd (no_bad (nat_lt (length bytes) (head_size s vr)) (head_size s vr) (head_size s vr) (record { tag = tag_at s bytes; vr = vr; length = length_at s vr bytes }) e)

  short_cases : (c1 c2 : Bool) (early : Stop) (more : List (Bool × Stop)) → c2 ≡ true → first_case ((c1, refused PassesEnd position) ∷ (c2, early) ∷ more) ≡ cond c1 (Some (refused PassesEnd position)) (Some early)
  short_cases true c2 early more e = refl
  short_cases false true early more e = refl
  short_cases false false early more e = absurd (cc)

  -- more bytes are wanted
  pub more_element : (v : Option Vr) (k : ℕ) (full : Bool) → More k ≡ element_read s bytes v → passes k (room position around) ≡ full
      → element_stop bar s around position bytes v ≡ cond full (Some (refused PassesEnd position)) (Some (refused EndsEarly (position + length bytes)))
  more_element None k full e p = absurd (cc)
  more_element (Some vr) k full e p =
      let l = length_at s vr bytes in
      let m = was_more (nat_lt (length bytes) (head_size s vr)) k (head_size s vr) (head_size s vr) (record { tag = tag_at s bytes; vr = vr; length = l }) e in
      short_cases (passes (head_size s vr) (room position around)) (nat_lt (length bytes) (head_size s vr)) (refused EndsEarly (position + length bytes))
      ((has_no_form (form s (read_as s (tag_at s bytes) vr) l), refused UndefinedLength position) ∷ (passes (with_length (head_size s vr) l) (room position around), refused PassesEnd position) ∷ (opens_list (form s (read_as s (tag_at s bytes) vr) l) && nat_le 64 (depth around), refused TooDeep position) ∷ barred (bar (tag_at s bytes) vr l) position) m.0
      ∙ ap (λ (t : Bool). cond t (Some (refused PassesEnd position)) (Some (refused EndsEarly (position + length bytes)))) (ap (λ (n : ℕ). passes n (room position around)) (sym m.1) ∙ p)

  whole_by : (vr : Vr) → nat_lt (length bytes) (head_size s vr) ≡ false
      → let l = length_at s vr bytes in
      element_stop bar s around position bytes (Some vr) ≡ stop_of position (or_fault (shape_fault (form s (read_as s (tag_at s bytes) vr) l) (head_size s vr) l (room position around) (depth around)) (bar (tag_at s bytes) vr l))
  whole_by vr e =
      let l = length_at s vr bytes in
      let r = room position around in
      let c1 = passes (head_size s vr) r in
      let c3 = has_no_form (form s (read_as s (tag_at s bytes) vr) l) in
      let c4 = passes (with_length (head_size s vr) l) r in
      let c5 = opens_list (form s (read_as s (tag_at s bytes) vr) l) && nat_le 64 (depth around) in
      ap (λ (t : Bool). first_case ((c1, refused PassesEnd position) ∷ (t, refused EndsEarly (position + length bytes)) ∷ (c3, refused UndefinedLength position) ∷ (c4, refused PassesEnd position) ∷ (c5, refused TooDeep position) ∷ barred (bar (tag_at s bytes) vr l) position)) e
      ∙ whole_cases c1 c3 c4 c5 (bar (tag_at s bytes) vr l) position (refused EndsEarly (position + length bytes))

  -- the head is whole
  pub record Whole (v : Option Vr) (head : Head) (size : ℕ) : Type 0 where
    pub vr_is : v ≡ Some head.vr
    pub tag_is : head.tag ≡ tag_at s bytes
    pub length_is : head.length ≡ length_at s head.vr bytes
    pub size_is : size ≡ head_size s head.vr
    pub fits : size ≤ length bytes
    pub stop_is : element_stop bar s around position bytes v ≡ stop_of position (or_fault (shape_fault (form s (read_as s head.tag head.vr) head.length) size head.length (room position around) (depth around)) (bar head.tag head.vr head.length))

  pub whole_of : (v : Option Vr) (head : Head) (size : ℕ) → Done head size ≡ element_read s bytes v → Whole v head size
  whole_of None head size e = absurd (cc)
  whole_of (Some vr) head size e =
      let d = was_done (nat_lt (length bytes) (head_size s vr)) head size (head_size s vr) (head_size s vr) (record { tag = tag_at s bytes; vr = vr; length = length_at s vr bytes }) e in
      let le : head_size s vr ≤ length bytes = ltb-false (length bytes) (head_size s vr) d.0 in
      let w : Whole (Some vr) (record { tag = tag_at s bytes; vr = vr; length = length_at s vr bytes }) (head_size s vr) = record { vr_is = refl; tag_is = refl; length_is = refl; size_is = refl; fits = le; stop_is = whole_by vr d.0 } in
      subst (λ (n : ℕ). Whole (Some vr) head n) (sym d.2) (subst (λ (h : Head). Whole (Some vr) h (head_size s vr)) (sym d.1) w)

  -- what it opens
  pub whole_opens : (v : Option Vr) (head : Head) (size begin : ℕ) → Whole v head size
      → plain_opens v s begin bytes around ≡ element_opens (form s (read_as s head.tag head.vr) head.length) s head.tag head.vr head.length begin around
  whole_opens v head size begin w =
      ap (λ (x : Option Vr). plain_opens x s begin bytes around) w.vr_is
      ∙ ap (λ (l : Length). element_opens (form s (read_as s (tag_at s bytes) head.vr) l) s (tag_at s bytes) head.vr l begin around) (sym w.length_is)
      ∙ ap (λ (t : Tag). element_opens (form s (read_as s t head.vr) head.length) s t head.vr head.length begin around) (sym w.tag_is)

-- ---- what a sink answers

pub barred_by : (o : Option Bar) (b : Bar) → Bars {T = Unit {0}} o (Err b) → o ≡ Some b
barred_by None b h = absurd h
barred_by (Some a) b h = ap Some (sym h)

pub accepted_by : (o : Option Bar) (x : Unit {0}) → Bars {T = Unit {0}} o (Ok x) → o ≡ None
accepted_by None x h = refl
accepted_by (Some a) x h = absurd h

pub fault_not_early : (b : Bar) → is_early (fault_of b) ≡ false
fault_not_early Rattle.dcm_stream.specs.declared.token.Bar.TheVariants.Order = refl
fault_not_early Rattle.dcm_stream.specs.declared.token.Bar.TheVariants.Fragments = refl
fault_not_early Rattle.dcm_stream.specs.declared.token.Bar.TheVariants.Identity = refl
fault_not_early Rattle.dcm_stream.specs.declared.token.Bar.TheVariants.Patient = refl

-- ---- a head

-- a place with room for the shortest head, where a head of this tag may come
pub record MayCome (inner : Level) (around : List Level) (position : ℕ) (bytes : List ℕ) : Type 0 where
  pub room_for : passes 8 (room position around) ≡ false
  pub eight : 8 ≤ length bytes
  pub allowed : is_allowed inner.container inner.declared (tag_at inner.syntax bytes) ≡ true

item_by : (a b c : Bool) → (a || b && c) ≡ true → a ≡ false → c ≡ true
item_by a b c h e = let k : (b && c) ≡ true = sym (ap (λ (x : Bool). x || b && c) e) ∙ h in (and_parts b c k).1

-- an item or a delimiter
special : (c : Container) (d : Length) (tag : Tag) → is_allowed c d tag ≡ true → (tag.group == 0xFFFE) ≡ true → is_item tag ≡ false → is_delimiter tag ≡ true
unfolding is_allowed
special the_data_set d tag h g i = let k = data_false tag g in absurd (cc)
special an_item d tag h g i = or_left (is_item_end tag) (is_sequence_end tag) (item_by (is_data tag) (is_undefined d) (is_item_end tag) h (data_false tag g))
special a_sequence d tag h g i = or_right (is_item_end tag) (is_sequence_end tag) (item_by (is_item tag) (is_undefined d) (is_sequence_end tag) h i)
special a_fragment_list d tag h g i = or_right (is_item_end tag) (is_sequence_end tag) (sym (ap (λ (x : Bool). x || is_sequence_end tag) i) ∙ h)

pub not_allowed : (bar : HeadBar) (inner : Level) (around : List Level) (position : ℕ) (bytes : List ℕ) → passes 8 (room position around) ≡ false → 8 ≤ length bytes → is_allowed inner.container inner.declared (tag_at inner.syntax bytes) ≡ false
    → place_stop bar inner around position bytes ≡ Some (refused TagNotAllowed position)
not_allowed bar inner around position bytes free eight e =
    let h = head_stop bar inner around position bytes in
    let c = is_the_data_set inner.container && is_empty bytes in
    let a = is_allowed inner.container inner.declared (tag_at inner.syntax bytes) in
    ap (λ (x : Bool). tests x c (nat_lt (length bytes) 8) (not a) position (length bytes) h) free
    ∙ ap (λ (x : Bool). tests false x (nat_lt (length bytes) 8) (not a) position (length bytes) h) (and_second_false _ _ (is_empty_long bytes eight))
    ∙ ap (λ (x : Bool). tests false false x (not a) position (length bytes) h) (le-ltb (length bytes) 8 eight)
    ∙ ap (λ (x : Bool). tests false false false (not x) position (length bytes) h) e

module _ (bar : HeadBar) (inner : Level) (around : List Level) (position : ℕ) (bytes : List ℕ) (m : MayCome inner around position bytes) where
  abbrev tag : Tag
  tag = tag_at inner.syntax bytes

  at_head : place_stop bar inner around position bytes ≡ head_stop bar inner around position bytes
  at_head =
      let h = head_stop bar inner around position bytes in
      let c = is_the_data_set inner.container && is_empty bytes in
      let a = is_allowed inner.container inner.declared tag in
      ap (λ (x : Bool). tests x c (nat_lt (length bytes) 8) (not a) position (length bytes) h) m.room_for
      ∙ ap (λ (x : Bool). tests false x (nat_lt (length bytes) 8) (not a) position (length bytes) h) (and_second_false _ _ (is_empty_long bytes m.eight))
      ∙ ap (λ (x : Bool). tests false false x (not a) position (length bytes) h) (le-ltb (length bytes) 8 m.eight)
      ∙ ap (λ (x : Bool). tests false false false (not x) position (length bytes) h) m.allowed

  by_kind : (g i : Bool) → (tag.group == 0xFFFE) ≡ g → is_item tag ≡ i
      → head_stop bar inner around position bytes ≡ cond (not g) (element_stop bar inner.syntax around position bytes (vr_at inner.syntax bytes)) (cond i (item_stop inner.container around position (long_length (number inner.syntax 4 (drop 4 bytes)))) None)
  by_kind g i e f =
      let el = element_stop bar inner.syntax around position bytes (vr_at inner.syntax bytes) in
      let it = item_stop inner.container around position (long_length (number inner.syntax 4 (drop 4 bytes))) in
      ap (λ (x : Bool). cond (not x) el (cond (is_item tag) it None)) e ∙ ap (λ (x : Bool). cond (not g) el (cond x it None)) f

  at_element : (tag.group == 0xFFFE) ≡ false → place_stop bar inner around position bytes ≡ element_stop bar inner.syntax around position bytes (vr_at inner.syntax bytes)
  at_element g = at_head ∙ by_kind false (is_item tag) g refl

  read_element : (tag.group == 0xFFFE) ≡ false → tag_read inner.syntax bytes tag ≡ element_read inner.syntax bytes (vr_at inner.syntax bytes)
  read_element g = by_tests inner.syntax bytes tag false false (no_item tag g) (no_delimiter tag g)

  abbrev item_head : Head
  item_head = record { tag = tag; vr = UN; length = long_length (number inner.syntax 4 (drop 4 bytes)) }

  abbrev end_head : Head
  end_head = record { tag = tag; vr = UN; length = Known 0 }

  read_item : is_item tag ≡ true → tag_read inner.syntax bytes tag ≡ Done item_head 8
  read_item i = by_tests inner.syntax bytes tag true (is_delimiter tag) i refl

  read_end : (tag.group == 0xFFFE) ≡ true → is_item tag ≡ false → tag_read inner.syntax bytes tag ≡ Done end_head 8
  read_end g i = by_tests inner.syntax bytes tag false true i (special inner.container inner.declared tag m.allowed g i)

  -- an item or a delimiter is read whole
  special_read : (tag.group == 0xFFFE) ≡ true → (head : Head) × (tag_read inner.syntax bytes tag ≡ Done head 8)
  special_read g = elim (cases_Bool (is_item tag)) [ inl i ↦ (item_head, read_item i) | inr i ↦ (end_head, read_end g i) ]

  pub bad_stops : BadVr ≡ tag_read inner.syntax bytes tag → place_stop bar inner around position bytes ≡ Some (refused UnknownRepresentation position)
  bad_stops e = elim (cases_Bool (tag.group == 0xFFFE)) [
    | inl g ↦ let k = special_read g in absurd (let f : BadVr ≡ Done k.0 8 = e ∙ k.1 in cc)
    | inr g ↦ at_element g ∙ bad_element bar inner.syntax around position bytes (vr_at inner.syntax bytes) (e ∙ read_element g)
  ]

  pub more_stops : (k : ℕ) (full : Bool) → More k ≡ tag_read inner.syntax bytes tag → passes k (room position around) ≡ full
      → place_stop bar inner around position bytes ≡ cond full (Some (refused PassesEnd position)) (Some (refused EndsEarly (position + length bytes)))
  more_stops k full e p = elim (cases_Bool (tag.group == 0xFFFE)) [
    | inl g ↦ let s = special_read g in absurd (let f : More k ≡ Done s.0 8 = e ∙ s.1 in cc)
    | inr g ↦ at_element g ∙ more_element bar inner.syntax around position bytes (vr_at inner.syntax bytes) k full (e ∙ read_element g) p
  ]

  -- how large a head is
  pub data SizeIs (size : ℕ) : Type 0 where
    size_of_special : (tag.group == 0xFFFE) ≡ true → size ≡ 8 → SizeIs size
    size_of_element : (vr : Vr) → (tag.group == 0xFFFE) ≡ false → vr_at inner.syntax bytes ≡ Some vr → size ≡ head_size inner.syntax vr → size ≤ length bytes → SizeIs size

  -- the head is whole
  pub record Judgeable (head : Head) (size : ℕ) : Type 0 where
    pub size_is : SizeIs size
    pub fits : size ≤ length bytes
    pub stop_is : place_stop bar inner around position bytes ≡ stop_of position (head_fault bar inner around position head size)
    pub opens_is : (begin : ℕ) → innermost around ≡ Some inner → head_opens begin bytes around ≡ opens_with inner head begin around

  opens_by : (g i : Bool) (begin : ℕ) (outer : List Level) → (tag.group == 0xFFFE) ≡ g → is_item tag ≡ i
      → head_opens begin bytes (inner ∷ outer) ≡ cond g (cond i (item_opens inner.container inner.syntax (long_length (number inner.syntax 4 (drop 4 bytes))) begin (inner ∷ outer)) (without_value outer (closes inner.container)))
      (plain_opens (vr_at inner.syntax bytes) inner.syntax begin bytes (inner ∷ outer))
  opens_by g i begin outer e f =
      let it : Opened = item_opens inner.container inner.syntax (long_length (number inner.syntax 4 (drop 4 bytes))) begin (inner ∷ outer) in
      let end : Opened = without_value outer (closes inner.container) in
      let el : Opened = plain_opens (vr_at inner.syntax bytes) inner.syntax begin bytes (inner ∷ outer) in
      ap (λ (x : Bool). cond {A = Opened} x (cond (is_item tag) it end) el) e ∙ ap (λ (x : Bool). cond {A = Opened} g (cond x it end) el) f

  pub with_by : (g i : Bool) (head : Head) (begin : ℕ) (levels : List Level) → (head.tag.group == 0xFFFE) ≡ g → is_item head.tag ≡ i
      → opens_with inner head begin levels ≡ cond g (cond i (item_opens inner.container inner.syntax head.length begin levels) (without_value (drop 1 levels) (closes inner.container)))
      (element_opens (form inner.syntax (read_as inner.syntax head.tag head.vr) head.length) inner.syntax head.tag head.vr head.length begin levels)
  with_by g i head begin levels e f =
      let it : Opened = item_opens inner.container inner.syntax head.length begin levels in
      let end : Opened = without_value (drop 1 levels) (closes inner.container) in
      let el : Opened = element_opens (form inner.syntax (read_as inner.syntax head.tag head.vr) head.length) inner.syntax head.tag head.vr head.length begin levels in
      ap (λ (x : Bool). cond {A = Opened} x (cond (is_item head.tag) it end) el) e ∙ ap (λ (x : Bool). cond {A = Opened} g (cond x it end) el) f

  pub fault_by : (g i : Bool) (head : Head) (size : ℕ) → (head.tag.group == 0xFFFE) ≡ g → is_item head.tag ≡ i
      → head_fault bar inner around position head size ≡ cond g (cond i (item_fault inner.container head.length (room position around)) None) (element_fault bar inner.syntax around position head size)
  fault_by g i head size e f =
      let it : Option Fault = item_fault inner.container head.length (room position around) in
      let el : Option Fault = element_fault bar inner.syntax around position head size in
      ap (λ (x : Bool). cond {A = Option Fault} x (cond (is_item head.tag) it None) el) e ∙ ap (λ (x : Bool). cond {A = Option Fault} g (cond x it None) el) f

  item_cases : (c1 c2 : Bool) → first_case ((c1, refused UndefinedLength position) ∷ (c2, refused PassesEnd position) ∷ []) ≡ stop_of position (cond c1 (Some UndefinedLength) (cond c2 (Some PassesEnd) None))
  item_cases true c2 = refl
  item_cases false true = refl
  item_cases false false = refl

  -- the innermost container comes first
  at_inner : (P : List Level → Type 0) → ((outer : List Level) → P (inner ∷ outer)) → (ls : List Level) → innermost ls ≡ Some inner → P ls
  at_inner P h [] e = absurd (cc)
  at_inner P h (x ∷ outer) e = let same : inner ≡ x = cc in subst (λ (y : Level). P (y ∷ outer)) same (h outer)

  whole_item : (tag.group == 0xFFFE) ≡ true → is_item tag ≡ true → Judgeable item_head 8
  whole_item g i =
      let l = long_length (number inner.syntax 4 (drop 4 bytes)) in
      record {
        size_is = size_of_special g refl;
        fits = m.eight;
        stop_is = at_head ∙ by_kind true true g i ∙ item_cases (is_fragment_list inner.container && is_undefined l) (passes (with_length 8 l) (room position around)) ∙ ap (stop_of position) (sym (fault_by true true item_head 8 g i));
        opens_is = λ begin e. at_inner (λ (ls : List Level). head_opens begin bytes ls ≡ opens_with inner item_head begin ls)
            (λ outer. opens_by true true begin outer g i ∙ sym (with_by true true item_head begin (inner ∷ outer) g i)) around e;
      }

  whole_end : (tag.group == 0xFFFE) ≡ true → is_item tag ≡ false → Judgeable end_head 8
  whole_end g i =
      record {
        size_is = size_of_special g refl;
        fits = m.eight;
        stop_is = at_head ∙ by_kind true false g i ∙ ap (stop_of position) (sym (fault_by true false end_head 8 g i));
        opens_is = λ begin e. at_inner (λ (ls : List Level). head_opens begin bytes ls ≡ opens_with inner end_head begin ls)
            (λ outer. opens_by true false begin outer g i ∙ sym (with_by true false end_head begin (inner ∷ outer) g i)) around e;
      }

  whole_element : (head : Head) (size : ℕ) → (tag.group == 0xFFFE) ≡ false → Done head size ≡ tag_read inner.syntax bytes tag → Judgeable head size
  whole_element head size g e' =
      let w = whole_of bar inner.syntax around position bytes (vr_at inner.syntax bytes) head size (e' ∙ read_element g) in
      let same : (head.tag.group == 0xFFFE) ≡ false = ap (λ (t : Tag). t.group == 0xFFFE) w.tag_is ∙ g in
      record {
        size_is = size_of_element head.vr g w.vr_is w.size_is w.fits;
        fits = w.fits;
        stop_is = at_element g ∙ w.stop_is ∙ ap (stop_of position) (sym (fault_by false (is_item head.tag) head size same refl));
        opens_is = λ begin e. at_inner (λ (ls : List Level). head_opens begin bytes ls ≡ opens_with inner head begin ls)
            (λ outer. opens_by false (is_item tag) begin outer g refl
            ∙ whole_opens bar inner.syntax (inner ∷ outer) position bytes (vr_at inner.syntax bytes) head size begin (whole_of bar inner.syntax (inner ∷ outer) position bytes (vr_at inner.syntax bytes) head size (e' ∙ read_element g))
            ∙ sym (with_by false (is_item head.tag) head begin (inner ∷ outer) same refl)) around e;
      }

  same_head : (head other : Head) (size n : ℕ) → Done head size ≡ Done other n → Judgeable other n → Judgeable head size
  same_head head other size n e h =
      let a : other ≡ head = cc in
      let b : n ≡ size = cc in
      subst (λ (x : Head). Judgeable x size) a (subst (λ (k : ℕ). Judgeable other k) b h)

  pub whole_head : (head : Head) (size : ℕ) → Done head size ≡ tag_read inner.syntax bytes tag → Judgeable head size
  whole_head head size e = elim (cases_Bool (tag.group == 0xFFFE)) [
    | inl g ↦ elim (cases_Bool (is_item tag)) [
      | inl i ↦ same_head head item_head size 8 (e ∙ read_item i) (whole_item g i)
      | inr i ↦ same_head head end_head size 8 (e ∙ read_end g i) (whole_end g i)
    ]
    | inr g ↦ whole_element head size g e
  ]

-- ---- what opens

pub value_opens_as : (f : Form) (s : Syntax) (head : Head) (size : ℕ) → f ≡ a_value → size ≡ size_of head.length → OpensAs (element_opens f s head.tag head.vr head.length) (opening.Leaf head s size)
value_opens_as f s head size e n begin levels =
    ap (λ (x : Form). element_opens x s head.tag head.vr head.length begin levels) e ∙ ap (λ (k : ℕ). value_opens levels (sign_of head.tag head.vr) (opens head.tag head.vr head.length s) k) (sym n)

pub sequence_opens_as : (f : Form) (s : Syntax) (head : Head) → f ≡ sequence_form → OpensAs (element_opens f s head.tag head.vr head.length) (opening.Sequence head s)
sequence_opens_as f s head e begin levels = ap (λ (x : Form). element_opens x s head.tag head.vr head.length begin levels) e

pub fragments_open_as : (f : Form) (s : Syntax) (head : Head) → f ≡ fragment_form → OpensAs (element_opens f s head.tag head.vr head.length) (opening.FragmentList head s)
fragments_open_as f s head e begin levels = ap (λ (x : Form). element_opens x s head.tag head.vr head.length begin levels) e

pub fragment_opens_as : (c : Container) (s : Syntax) (declared : Length) (size : ℕ) → c ≡ a_fragment_list → size ≡ size_of declared → OpensAs (item_opens c s declared) (opening.Fragment size)
fragment_opens_as c s declared size e n begin levels =
    ap (λ (x : Container). item_opens x s declared begin levels) e ∙ ap (λ (k : ℕ). value_opens levels None (opens_fragment k) k) (sym n)

pub item_opens_as : (c : Container) (s : Syntax) (declared : Length) → (c ≡ the_data_set) ⊎ ((c ≡ an_item) ⊎ (c ≡ a_sequence)) → OpensAs (item_opens c s declared) (opening.Item s declared)
item_opens_as c s declared (inl e) begin levels = ap (λ (x : Container). item_opens x s declared begin levels) e
item_opens_as c s declared (inr (inl e)) begin levels = ap (λ (x : Container). item_opens x s declared begin levels) e
item_opens_as c s declared (inr (inr e)) begin levels = ap (λ (x : Container). item_opens x s declared begin levels) e

-- ---- the faults of a shape, one after another

module _ (f : Form) (s : Syntax) (head : Head) (size : ℕ) (r : Option ℕ) (d : ℕ) where
  shape_by : (c1 c3 c4 c5 : Bool) → passes size r ≡ c1 → has_no_form f ≡ c3 → passes (with_length size head.length) r ≡ c4 → (opens_list f && nat_le 64 d) ≡ c5
      → shape_fault f size head.length r d ≡ cond c1 (Some PassesEnd) (cond c3 (Some UndefinedLength) (cond c4 (Some PassesEnd) (cond c5 (Some TooDeep) None)))
  shape_by c1 c3 c4 c5 e1 e3 e4 e5 =
      let t3 = has_no_form f in
      let t4 = passes (with_length size head.length) r in
      let t5 = opens_list f && nat_le 64 d in
      ap (λ (x : Bool). cond {A = Option Fault} x (Some PassesEnd) (cond t3 (Some UndefinedLength) (cond t4 (Some PassesEnd) (cond t5 (Some TooDeep) None)))) e1
      ∙ ap (λ (x : Bool). cond {A = Option Fault} c1 (Some PassesEnd) (cond x (Some UndefinedLength) (cond t4 (Some PassesEnd) (cond t5 (Some TooDeep) None)))) e3
      ∙ ap (λ (x : Bool). cond {A = Option Fault} c1 (Some PassesEnd) (cond c3 (Some UndefinedLength) (cond x (Some PassesEnd) (cond t5 (Some TooDeep) None)))) e4
      ∙ ap (λ (x : Bool). cond {A = Option Fault} c1 (Some PassesEnd) (cond c3 (Some UndefinedLength) (cond c4 (Some PassesEnd) (cond x (Some TooDeep) None)))) e5

  pub shape_passes : passes size r ≡ false → has_no_form f ≡ false → passes (with_length size head.length) r ≡ true → shape_fault f size head.length r d ≡ Some PassesEnd
  shape_passes e1 e3 e4 = shape_by false false true (opens_list f && nat_le 64 d) e1 e3 e4 refl

  pub shape_unformed : passes size r ≡ false → has_no_form f ≡ true → shape_fault f size head.length r d ≡ Some UndefinedLength
  shape_unformed e1 e3 = shape_by false true (passes (with_length size head.length) r) (opens_list f && nat_le 64 d) e1 e3 refl refl

  pub shape_fits : passes size r ≡ false → has_no_form f ≡ false → passes (with_length size head.length) r ≡ false → (opens_list f && nat_le 64 d) ≡ false → shape_fault f size head.length r d ≡ None
  shape_fits e1 e3 e4 e5 = shape_by false false false false e1 e3 e4 e5

pub not_deep : (t : Bool) (n d : ℕ) → n ≡ d → n < 64 → (t && nat_le 64 d) ≡ false
not_deep false n d e lt = refl
not_deep true n d e lt = lt-leb 64 d (omega arith)

some_atoms : (x : Opening) → [] ≡ (opened_by 0 [] x).atoms → ⊥
some_atoms (opening.Leaf head s size) e = cc
some_atoms (opening.Sequence head s) e = cc
some_atoms (opening.FragmentList head s) e = cc
some_atoms (opening.Item s declared) e = cc
some_atoms (opening.Fragment size) e = cc
some_atoms (opening.End container) e = cc

formed : (f : Form) (s : Syntax) (head : Head) (x : Opening) → OpensAs (element_opens f s head.tag head.vr head.length) x → has_no_form f ≡ false
formed a_value s head x h = refl
formed sequence_form s head x h = refl
formed fragment_form s head x h = refl
formed no_form s head x h = absurd (some_atoms x (ap (λ (o : Opened). o.atoms) (h 0 [])))

-- the form of a head, by the representation as which it is read
pub formed_as : (s : Syntax) (head : Head) (f : Form) (v : Vr) → f ≡ form s v head.length → v ≡ read_as s head.tag head.vr → f ≡ form s (read_as s head.tag head.vr) head.length
formed_as s head f v e r = e ∙ ap (λ (x : Vr). form s x head.length) r

-- what opens has a form
pub has_form : (f : Form) (s : Syntax) (head : Head) (o : Option Opening) (x : Opening) → MatchOption o (OpensNothing f head.length) (OpensAs (element_opens f s head.tag head.vr head.length)) → o ≡ Some x
    → (has_no_form f ≡ false) × OpensAs (element_opens f s head.tag head.vr head.length) x
has_form f s head None x m e = absurd (cc)
has_form f s head (Some y) x m e =
    let same : y ≡ x = cc in
    let h = subst (λ (z : Opening). OpensAs (element_opens f s head.tag head.vr head.length) z) same m in
    (formed f s head x h, h)

-- what opens nothing has no form
pub without_form : (s : Syntax) (vr : Vr) (l : Length) (f : Form) → f ≡ form s vr l → OpensNothing f l → has_no_form f ≡ true
without_form s vr l f e (inl n) = ap has_no_form n
without_form s vr l f e (inr (v, u)) = absurd (undefined_no_value s vr (sym (e ∙ ap (form s vr) u) ∙ v))

-- ---- what is judged of a head

module _ (bar : HeadBar) (inner : Level) (around : List Level) (position : ℕ) (bytes : List ℕ) where
  pub may_come : (read : Tag) (t : Bool) → passes 8 (room position around) ≡ false → 8 ≤ length bytes → read ≡ tag_at inner.syntax bytes → t ≡ is_allowed inner.container inner.declared read → t ≡ true → MayCome inner around position bytes
  may_come read t free eight e f g = record { room_for = free; eight = eight; allowed = ap (is_allowed inner.container inner.declared) (sym e) ∙ sym f ∙ g }

  pub opens_judged : (m : MayCome inner around position bytes) (head : Head) (size : ℕ) (r : Result Opening Fault) (o : Opening) → innermost around ≡ Some inner → Done head size ≡ tag_read inner.syntax bytes (tag_at inner.syntax bytes)
      → JudgesHead bar inner around position head size r → r ≡ Ok o → Judges bar inner around position bytes (judged.Opens o size)
  opens_judged m head size r o is e j f =
      let w = whole_head bar inner around position bytes m head size e in
      let k : JudgesHead bar inner around position head size (Ok o) = subst (JudgesHead bar inner around position head size) f j in
      (w.stop_is ∙ ap (stop_of position) k.0, (λ begin. w.opens_is begin is ∙ k.1 begin around), (head, sym e))

  pub fault_judged : (m : MayCome inner around position bytes) (head : Head) (size : ℕ) (r : Result Opening Fault) (fault : Fault) → Done head size ≡ tag_read inner.syntax bytes (tag_at inner.syntax bytes)
      → JudgesHead bar inner around position head size r → r ≡ Err fault → Judges bar inner around position bytes (judged.Refused fault)
  fault_judged m head size r fault e j f =
      let w = whole_head bar inner around position bytes m head size e in
      let k : JudgesHead bar inner around position head size (Err fault) = subst (JudgesHead bar inner around position head size) f j in
      (w.stop_is ∙ ap (stop_of position) k.0, k.1)
