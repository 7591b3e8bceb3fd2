-- Cells that are changed one after another.
use Rattle.std.proofs.Common.{◌≡◌, ◌∙◌, sym, ap, refl, ℕ, zero, suc, ◌+◌, ◌<◌, ◌≤◌, List, [], ◌∷◌, ◌++◌, length, take, drop, get_or, set, map, fold, arith}
use Rattle.std.specs.Prelude.{Bool, true, false, ◌||◌, ◌&&◌, not, slice_index_or, if◌then◌else◌, Option, Some, None, option_map}
use Rattle.std.specs.List.{list_any}
use Rattle.std.proofs.lemmas.List.{map-append, take_more_set, drop-set-lt, drop_more, take_all, take_more}
use Rattle.dcm_lemmas.proofs.Lists.{heads_alike, tails_alike}
use Rattle.dcm_base.specs.declared.tag.Tag.{Tag}
use Rattle.dcm_base.specs.Tables.Tag.{same_tag}
use Rattle.dcm_base.specs.Steps.Atoms.{Atom, opens, value_byte, closes_leaf, opens_item, closes_item, closes_sequence, opens_fragment, ends}
use Rattle.dcm_text.specs.declared.sets.Sets.{Sets}
use Rattle.dcm_table.specs.declared.slot.Slot.{Slot as HeldSlot}
use Rattle.dcm_table.specs.declared.column.Column.{Column}
use Rattle.dcm_table.specs.Cell.{missing, with_byte, is_too_long}
use Rattle.dcm_table.specs.Slots.{slot_of, slots_of}
use Rattle.dcm_table.specs.InForce.{EMPTY}
use Rattle.dcm_table.specs.TableSink.{Slot, State, next, slot_step, slots_step, slots_set, slot_set, setting_step, with_sets, with_setting_byte, is_taken, begun, begun_slots, cleared}
use Rattle.dcm_text.specs.Sets.{sets_of}
use Rattle.dcm_table.specs.Columns.{greatest_of}
use Rattle.dcm_table.specs.Row.{reported, reported_after, slot_at}
use Rattle.dcm_table.proofs.Folds.{map_map}

-- the slots so far are changed, and the others are as they were
pub record SlotsSoFar (f : Slot → Slot) (now first : List HeldSlot) (i : ℕ) : Type 0 where
  pub before : slots_of (take i now) ≡ map f (slots_of (take i first))
  pub after : drop i now ≡ drop i first

pub slots_more : (f : Slot → Slot) (now first : List HeldSlot) (i : ℕ) (item new : HeldSlot) → i < length now → i < length first → slot_of new ≡ f (slot_of (get_or now i item))
    → SlotsSoFar f now first i → SlotsSoFar f (set now i new) first (i + 1)
slots_more f now first i item new h k changed s =
    let both : get_or now i item ∷ drop (i + 1) now ≡ get_or first i item ∷ drop (i + 1) first = sym (drop_more now i item h) ∙ s.after ∙ drop_more first i item k in
    let same : get_or now i item ≡ get_or first i item = heads_alike _ _ _ _ both in
    let later : i < i + 1 = omega arith in
    record {
      before =
          ap slots_of (take_more_set now i new h)
          ∙ map-append slot_of (take i now) (new ∷ [])
          ∙ ap (λ (x : List Slot). x ++ slot_of new ∷ []) s.before
          ∙ ap (λ (x : Slot). map f (slots_of (take i first)) ++ x ∷ []) (changed ∙ ap (λ (x : HeldSlot). f (slot_of x)) same)
          ∙ sym (map-append f (slots_of (take i first)) (slot_of (get_or first i item) ∷ []))
          ∙ ap (map f) (sym (map-append slot_of (take i first) (get_or first i item ∷ [])))
          ∙ ap (λ (x : List HeldSlot). map f (slots_of x)) (sym (take_more first i item k));
      after = drop-set-lt (i + 1) now i new later ∙ tails_alike _ _ _ _ both;
    }

pub slots_none : (f : Slot → Slot) (first : List HeldSlot) → SlotsSoFar f first first 0
slots_none f first = record { before = refl; after = refl }

pub slots_all : (f : Slot → Slot) (now first : List HeldSlot) (i : ℕ) → SlotsSoFar f now first i → length now ≤ i → length first ≤ i → slots_of now ≡ map f (slots_of first)
slots_all f now first i s h k =
    ap slots_of (sym (take_all i now h)) ∙ s.before ∙ ap (λ (x : List HeldSlot). map f (slots_of x)) (take_all i first k)

-- one more slot for one more column
pub slots_made : (held : List HeldSlot) (slot : HeldSlot) (columns : List Column) (i : ℕ) (column : Column) → i < length columns → slot_of slot ≡ ((get_or columns i column).tag, missing, EMPTY)
    → slots_of held ≡ begun_slots (map (λ (c : Column). c.tag) (take i columns))
    → slots_of (held ++ slot ∷ []) ≡ begun_slots (map (λ (c : Column). c.tag) (take (i + 1) columns))
slots_made held slot columns i column h is so_far =
    let tag : Column → Tag = λ (c : Column). c.tag in
    map-append slot_of held (slot ∷ [])
    ∙ ap (λ (x : List Slot). x ++ slot_of slot ∷ []) so_far
    ∙ ap (λ (x : Slot). begun_slots (map tag (take i columns)) ++ x ∷ []) is
    ∙ sym (map-append (λ (t : Tag). (t, missing, EMPTY)) (map tag (take i columns)) (tag (get_or columns i column) ∷ []))
    ∙ ap begun_slots (sym (map-append tag (take i columns) (get_or columns i column ∷ [])))
    ∙ ap (λ (x : List Column). begun_slots (map tag x)) (sym (take_more columns i column h))

-- ---- bytes of a value

-- the value that is kept after them
abbrev pub kept_after : List ℕ → Option (List ℕ) → Option (List ℕ)
kept_after v setting = option_map (λ (x : List ℕ). fold with_setting_byte x v) setting

kept_none : (setting : Option (List ℕ)) → setting ≡ kept_after [] setting
kept_none None = refl
kept_none (Some x) = refl

kept_more : (b : ℕ) (v : List ℕ) (setting : Option (List ℕ)) → kept_after v (option_map (λ (x : List ℕ). with_setting_byte x b) setting) ≡ kept_after (b ∷ v) setting
kept_more b v None = refl
kept_more b v (Some x) = refl

abbrev with_both : State → List Slot → Option (List ℕ) → State
with_both s slots setting = record { depth = s.depth; greatest = s.greatest; slots = slots; setting = setting; unknown = s.unknown }

pub bytes_taken : (s : State) (v : List ℕ) → fold next s (map value_byte v) ≡ record s { slots = map (λ (c : Slot). fold slot_step c (map value_byte v)) s.slots; setting = kept_after v s.setting }
bytes_taken s [] = ap (λ (x : List Slot). with_both s x s.setting) (same_slots s.slots) ∙ ap (λ (x : Option (List ℕ)). with_both s (map (λ (c : Slot). c) s.slots) x) (kept_none s.setting)
  where
    same_slots : (slots : List Slot) → slots ≡ map (λ (c : Slot). c) slots
    same_slots [] = refl
    same_slots (c ∷ slots) = ap (λ (x : List Slot). c ∷ x) (same_slots slots)
bytes_taken s (b ∷ v) =
    bytes_taken (next s (value_byte b)) v
    ∙ ap (λ (x : List Slot). with_both s x (kept_after v (setting_step s.depth s.setting (value_byte b)))) (map_map (λ (c : Slot). slot_step c (value_byte b)) (λ (c : Slot). fold slot_step c (map value_byte v)) s.slots)
    ∙ ap (λ (x : Option (List ℕ)). with_both s (map (λ (c : Slot). fold slot_step c (map value_byte (b ∷ v))) s.slots) x) (kept_more b v s.setting)

pub bytes_in_slot : (c : Slot) (v : List ℕ) → fold slot_step c (map value_byte v) ≡ (c.0, fold with_byte c.1 v, c.2)
bytes_in_slot c [] = refl
bytes_in_slot c (b ∷ v) = bytes_in_slot (slot_step c (value_byte b)) v

-- ---- looking at slots

pub any_slots : (tag : Tag) (slots : List HeldSlot) → list_any (λ (c : Slot). same_tag c.0 tag) (slots_of slots) ≡ list_any (λ (c : HeldSlot). same_tag c.tag tag) slots
any_slots tag [] = refl
any_slots tag (c ∷ slots) = ap (λ (b : Bool). same_tag c.tag tag || b) (any_slots tag slots)

pub slots_front : (n : ℕ) (slots : List HeldSlot) → take n (slots_of slots) ≡ slots_of (take n slots)
slots_front zero slots = refl
slots_front (suc n) [] = refl
slots_front (suc n) (c ∷ slots) = ap (λ (x : List Slot). slot_of c ∷ x) (slots_front n slots)

pub slot_in : (slots : List HeldSlot) (i : ℕ) (d : Slot) (e : HeldSlot) → i < length slots → slice_index_or (slots_of slots) i d ≡ slot_of (get_or slots i e)
slot_in [] i d e h = absurd (omega (arith, h))
slot_in (c ∷ slots) zero d e h = refl
slot_in (c ∷ slots) (suc i) d e h = slot_in slots i d e (omega (arith, h))

pub slots_length : (slots : List HeldSlot) → length (slots_of slots) ≡ length slots
slots_length [] = refl
slots_length (c ∷ slots) = ap suc (slots_length slots)

-- the tag by which a column is reported, by the slots that are held
abbrev tag_by : (long any : Bool) → Tag → Option Tag
tag_by long any tag = if long && not any then Some tag else None

by_tests : (before : List HeldSlot) (slot : HeldSlot) (long any : Bool) → long ≡ is_too_long (slot_of slot).1 → any ≡ list_any (λ (c : HeldSlot). same_tag c.tag slot.tag) before
    → reported_after (slots_of before) (slot_of slot) ≡ tag_by long any slot.tag
by_tests before slot long any is has =
    ap (λ (b : Bool). tag_by (is_too_long (slot_of slot).1) b slot.tag) (any_slots slot.tag before ∙ sym has)
    ∙ ap (λ (b : Bool). tag_by b any slot.tag) (sym is)

pub reported_short : (before : List HeldSlot) (slot : HeldSlot) → false ≡ is_too_long (slot_of slot).1 → None ≡ reported_after (slots_of before) (slot_of slot)
reported_short before slot is = sym (by_tests before slot false (list_any (λ (c : HeldSlot). same_tag c.tag slot.tag) before) is refl)

pub reported_again : (before : List HeldSlot) (slot : HeldSlot) → true ≡ is_too_long (slot_of slot).1 → true ≡ list_any (λ (c : HeldSlot). same_tag c.tag slot.tag) before → None ≡ reported_after (slots_of before) (slot_of slot)
reported_again before slot is has = sym (by_tests before slot true true is has)

pub reported_first : (before : List HeldSlot) (slot : HeldSlot) → true ≡ is_too_long (slot_of slot).1 → false ≡ list_any (λ (c : HeldSlot). same_tag c.tag slot.tag) before → Some slot.tag ≡ reported_after (slots_of before) (slot_of slot)
reported_first before slot is has = sym (by_tests before slot true false is has)

pub reported_at : (items slots before : List HeldSlot) (i : ℕ) (slot : HeldSlot) → slots ≡ items → i < length (slots_of items) → slot ≡ get_or slots i slot → before ≡ take i slots
    → reported_after (slots_of before) (slot_of slot) ≡ reported (slots_of items) i
reported_at items slots before i slot same h is front =
    let within : i < length slots = omega (arith, h, slots_length items, ap length same) in
    let place : slot_at (slots_of slots) i ≡ slot_of slot = slot_in slots i (record { group = 0; element = 0 }, missing, EMPTY) slot within ∙ ap slot_of (sym is) in
    sym
    (ap (λ (x : List HeldSlot). reported (slots_of x) i) (sym same)
    ∙ ap (λ (s : Slot). reported_after (take i (slots_of slots)) s) place
    ∙ ap (λ (x : List Slot). reported_after x (slot_of slot)) (slots_front i slots ∙ ap slots_of (sym front)))

-- ---- what no atom changes

abbrev empty_slots : List Slot → List Slot
empty_slots slots = map (λ (c : Slot). (c.0, missing, EMPTY)) slots

-- cells that go on are those of the same columns
pub same_columns : (atoms : List Atom) (s : State) → cleared (fold next s atoms) ≡ cleared s
same_columns [] s = refl
same_columns (a ∷ atoms) s = same_columns atoms (next s a) ∙ ap (emptied s.greatest) (same_set a s.setting (slots_step (is_taken s.depth a) s.slots a) ∙ same_step (is_taken s.depth a) a s.slots)
  where
    emptied : Tag → List Slot → State
    emptied greatest slots = record { depth = 0; greatest = greatest; slots = slots; setting = None; unknown = false }

    same_each : (a : Atom) (slots : List Slot) → empty_slots (map (λ (c : Slot). slot_step c a) slots) ≡ empty_slots slots
    same_each a [] = refl
    same_each a (c ∷ slots) = ap (λ (x : List Slot). (c.0, missing, EMPTY) ∷ x) (same_each a slots)

    same_step : (t : Bool) (a : Atom) (slots : List Slot) → empty_slots (slots_step t slots a) ≡ empty_slots slots
    same_step true a slots = same_each a slots
    same_step false a slots = refl

    same_named : (sets : Sets) (slots : List Slot) → empty_slots (map (λ (c : Slot). slot_set sets c) slots) ≡ empty_slots slots
    same_named sets [] = refl
    same_named sets (c ∷ slots) = ap (λ (x : List Slot). (c.0, missing, EMPTY) ∷ x) (same_named sets slots)

    same_with : (setting : Option (List ℕ)) (slots : List Slot) → empty_slots (with_sets setting slots) ≡ empty_slots slots
    same_with None slots = refl
    same_with (Some value) slots = same_named (sets_of value) slots

    same_set : (a : Atom) (setting : Option (List ℕ)) (slots : List Slot) → empty_slots (slots_set setting slots a) ≡ empty_slots slots
    same_set (opens tag vr declared s) setting slots = refl
    same_set (value_byte b) setting slots = refl
    same_set closes_leaf setting slots = same_with setting slots
    same_set (opens_item declared) setting slots = refl
    same_set closes_item setting slots = refl
    same_set closes_sequence setting slots = refl
    same_set (opens_fragment size) setting slots = refl
    same_set ends setting slots = refl

pub kept_on : (atoms : List Atom) (old new : State) → new ≡ fold next old atoms → cleared new ≡ cleared old
kept_on atoms old new e = ap cleared e ∙ same_columns atoms old

-- and those that are emptied
pub same_cleared : (s : State) → cleared (cleared s) ≡ cleared s
same_cleared s = ap (λ (x : List Slot). let t : State = record { depth = 0; greatest = s.greatest; slots = x; setting = None; unknown = false } in t) (twice s.slots)
  where
    twice : (slots : List Slot) → empty_slots (empty_slots slots) ≡ empty_slots slots
    twice [] = refl
    twice (c ∷ slots) = ap (λ (x : List Slot). (c.0, missing, EMPTY) ∷ x) (twice slots)

pub same_begun : (tags : List Tag) → cleared (begun tags) ≡ begun tags
same_begun tags = ap (λ (x : List Slot). let t : State = record { depth = 0; greatest = greatest_of tags; slots = x; setting = None; unknown = false } in t) (empty tags)
  where
    empty : (tags : List Tag) → empty_slots (begun_slots tags) ≡ begun_slots tags
    empty [] = refl
    empty (t ∷ tags) = ap (λ (x : List Slot). (t, missing, EMPTY) ∷ x) (empty tags)
