-- Cells of which a run is changed, where the others would stay.
use Rattle.std.proofs.Common.{◌≡◌, ◌∙◌, sym, ap, refl, ℕ, zero, suc, ◌+◌, ◌-◌, ◌<◌, ◌≤◌, List, [], ◌∷◌, ◌++◌, length, take, drop, map, fold, get_or, eqb-true, arith, Bool, true, false}
use Rattle.std.specs.Prelude.{◌==◌, ◌||◌, not, min, if◌then◌else◌}
use Rattle.std.proofs.lemmas.Bool.Decides.{nat_tests}
use mathlib.Core.Bool.{true≢false}
use Rattle.dcm_base.proofs.Dictionaries.TagOrder.{tag_is}
use Rattle.dcm_lemmas.proofs.Numbers.{equals_itself}
use Rattle.dcm_lemmas.proofs.Truth.{and_both, and_first, and_second}
use Rattle.dcm_base.specs.declared.tag.Tag.{Tag}
use Rattle.dcm_base.specs.Tables.Tag.{same_tag, tag_number}
use Rattle.dcm_base.proofs.Spreads.{spread_within}
use Rattle.dcm_table.specs.declared.index.Span.{Span}
use Rattle.dcm_table.specs.declared.index.Index.{Index}
use Rattle.dcm_base.specs.declared.vr.Vr.{Vr}
use Rattle.dcm_base.specs.declared.length.Length.{Length}
use Rattle.dcm_base.specs.declared.syntax.Syntax.{Syntax}
use Rattle.dcm_base.specs.Steps.Atoms.{opens, value_byte, closes_leaf}
use Rattle.dcm_table.specs.Cell.{Cell, missing, open_value, open_too_long, whole, too_long, not_shown, with_head, with_byte, ended}
use Rattle.dcm_table.specs.TableSink.{Slot, slot_step, begun_slots}
use Rattle.dcm_table.proofs.CellSteps.{missing_stays, whole_stays, long_stays, not_shown_stays}
use Rattle.dcm_table.specs.declared.slot.Slot.{Slot as HeldSlot}
use Rattle.dcm_table.specs.Slots.{slot_of, slots_of}
use Rattle.std.proofs.lemmas.List.{map-append, get_or-set_same, get_or-set_other, length-set, length-take-le, take_more}
use Rattle.dcm_table.proofs.EachSlot.{slots_front, slots_length, bytes_in_slot}
use Rattle.dcm_table.specs.Index.{NONE, is_in, span_of, place_of, both, added, has_each, is_busy, holds_busy, changed_in}

-- ---- tests

-- ---- where a run begins and ends

pub in_run : (a : Span) (i : ℕ) → a.first ≤ i → i < a.after → is_in a i ≡ true
in_run a i h k = grind (arith, nat_tests)

pub before_run : (a : Span) (i : ℕ) → i < a.first → is_in a i ≡ false
before_run a i h = grind (arith, nat_tests)

pub after_run : (a : Span) (i : ℕ) → a.after ≤ i → is_in a i ≡ false
after_run a i h = grind (arith, nat_tests)

module _ (f : Slot → Slot) where
  pub same_run : (a b : Span) (i : ℕ) (slots : List Slot) → ((j : ℕ) → j < i + length slots → is_in a j ≡ is_in b j) → changed_in f a i slots ≡ changed_in f b i slots
  same_run a b i [] same = refl
  same_run a b i (c ∷ slots) same =
      ap (λ (t : Bool). (if t then f c else c) ∷ changed_in f a (suc i) slots) (same i (omega arith))
      ∙ ap (λ (x : List Slot). (if is_in b i then f c else c) ∷ x) (same_run a b (suc i) slots (λ j h. same j (omega (arith, h))))

  -- behind the run, within it, and from before it
  pub past : (a : Span) (i : ℕ) (slots : List Slot) → a.after ≤ i → changed_in f a i slots ≡ slots
  past a i [] h = refl
  past a i (c ∷ slots) h =
      ap (λ (t : Bool). (if t then f c else c) ∷ changed_in f a (suc i) slots) (after_run a i h) ∙ ap (λ (x : List Slot). c ∷ x) (past a (suc i) slots (omega (arith, h)))

  pub inside : (a : Span) (i n : ℕ) (slots : List Slot) → a.first ≤ i → a.after ≡ i + n → changed_in f a i slots ≡ map f (take n slots) ++ drop n slots
  inside a i zero slots h e = past a i slots (omega (arith, e))
  inside a i (suc n) [] h e = refl
  inside a i (suc n) (c ∷ slots) h e =
      ap (λ (t : Bool). (if t then f c else c) ∷ changed_in f a (suc i) slots) (in_run a i h (omega (arith, e)))
      ∙ ap (λ (x : List Slot). f c ∷ x) (inside a (suc i) n slots (omega (arith, h)) (omega (arith, e)))

  pub cut : (a : Span) (i m n : ℕ) (slots : List Slot) → a.first ≡ i + m → a.after ≡ i + (m + n)
      → changed_in f a i slots ≡ take m slots ++ (map f (take n (drop m slots)) ++ drop n (drop m slots))
  cut a i zero n slots h e = inside a i n slots (omega (arith, h)) (omega (arith, e))
  cut a i (suc m) zero [] h e = refl
  cut a i (suc m) (suc n) [] h e = refl
  cut a i (suc m) n (c ∷ slots) h e =
      ap (λ (t : Bool). (if t then f c else c) ∷ changed_in f a (suc i) slots) (before_run a i (omega (arith, h)))
      ∙ ap (λ (x : List Slot). c ∷ x) (cut a (suc i) m n slots (omega (arith, h)) (omega (arith, e)))

  pub size_kept : (a : Span) (i : ℕ) (slots : List Slot) → length (changed_in f a i slots) ≡ length slots
  size_kept a i [] = refl
  size_kept a i (c ∷ slots) = ap suc (size_kept a (suc i) slots)

-- ---- cells that are busy

by_place : (f : Slot → Slot) (c : Slot) (t : Bool) → (t ≡ false → f c ≡ c) → (if t then f c else c) ≡ f c
by_place f c true stays = refl
by_place f c false stays = sym (stays refl)

not_busy : (t b : Bool) → (t || not b) ≡ true → t ≡ false → b ≡ false
not_busy true b e h = cc
not_busy false true e h = cc
not_busy false false e h = refl

-- what changes no cell that is not busy may go to the run of those that are
pub busy_alone : (f : Slot → Slot) → ((c : Slot) → is_busy c.1 ≡ false → f c ≡ c) → (a : Span) (i : ℕ) (slots : List Slot) → holds_busy a i slots ≡ true → changed_in f a i slots ≡ map f slots
busy_alone f stays a i [] h = refl
busy_alone f stays a i (c ∷ slots) h =
    ap (λ (x : Slot). x ∷ changed_in f a (suc i) slots) (by_place f c (is_in a i) (λ out. stays c (not_busy (is_in a i) (is_busy c.1) (and_first _ _ h) out)))
    ∙ ap (λ (x : List Slot). f c ∷ x) (busy_alone f stays a (suc i) slots (and_second _ _ h))

still_in : (f : Slot → Slot) (c : Slot) (t : Bool) → (t || not (is_busy c.1)) ≡ true → (t || not (is_busy (if t then f c else c).1)) ≡ true
still_in f c true h = refl
still_in f c false h = h

pub busy_kept : (f : Slot → Slot) (a : Span) (i : ℕ) (slots : List Slot) → holds_busy a i slots ≡ true → holds_busy a i (changed_in f a i slots) ≡ true
busy_kept f a i [] h = refl
busy_kept f a i (c ∷ slots) h = and_both _ _ (still_in f c (is_in a i) (and_first _ _ h)) (busy_kept f a (suc i) slots (and_second _ _ h))

wider : (t u b : Bool) → (t ≡ true → u ≡ true) → (t || not b) ≡ true → (u || not b) ≡ true
wider true u b more h = rw (more refl) refl
wider false true b more h = refl
wider false false b more h = h

pub busy_wider : (a b : Span) → ((j : ℕ) → is_in a j ≡ true → is_in b j ≡ true) → (i : ℕ) (slots : List Slot) → holds_busy a i slots ≡ true → holds_busy b i slots ≡ true
busy_wider a b more i [] h = refl
busy_wider a b more i (c ∷ slots) h = and_both _ _ (wider (is_in a i) (is_in b i) (is_busy c.1) (more i) (and_first _ _ h)) (busy_wider a b more (suc i) slots (and_second _ _ h))

-- what leaves each cell as busy as it was
pub busy_mapped : (f : Slot → Slot) → ((c : Slot) → is_busy (f c).1 ≡ is_busy c.1) → (a : Span) (i : ℕ) (slots : List Slot) → holds_busy a i slots ≡ true → holds_busy a i (map f slots) ≡ true
busy_mapped f same a i [] h = refl
busy_mapped f same a i (c ∷ slots) h =
    and_both _ _ (ap (λ (b : Bool). is_in a i || not b) (same c) ∙ and_first _ _ h) (busy_mapped f same a (suc i) slots (and_second _ _ h))

at_rest : (t b : Bool) → b ≡ false → (t || not b) ≡ true
at_rest true b e = refl
at_rest false b e = rw e refl

pub none_busy : (f : Slot → Slot) → ((c : Slot) → is_busy (f c).1 ≡ false) → (a : Span) (i : ℕ) (slots : List Slot) → holds_busy a i (map f slots) ≡ true
none_busy f rests a i [] = refl
none_busy f rests a i (c ∷ slots) = and_both _ _ (at_rest (is_in a i) _ (rests c)) (none_busy f rests a (suc i) slots)

-- ---- the columns of both of two runs

pub in_first : (a b : Span) (j : ℕ) → is_in a j ≡ true → is_in (both a b) j ≡ true
in_first a b j h = grind (arith, nat_tests)

pub in_second : (a b : Span) (j : ℕ) → is_in b j ≡ true → is_in (both a b) j ≡ true
in_second a b j h = grind (arith, nat_tests)

-- ---- the index

same_tag_of : (index : Index) (f : Slot → Slot) (c : Slot) (t : Bool) (i : ℕ) → (f c).0 ≡ c.0 → is_in (span_of index (if t then f c else c).0) i ≡ is_in (span_of index c.0) i
same_tag_of index f c true i e = ap (λ (x : Tag). is_in (span_of index x) i) e
same_tag_of index f c false i e = refl

pub each_kept : (index : Index) (f : Slot → Slot) → ((c : Slot) → (f c).0 ≡ c.0) → (a : Span) (i : ℕ) (slots : List Slot) → has_each index i slots ≡ true → has_each index i (changed_in f a i slots) ≡ true
each_kept index f same a i [] h = refl
each_kept index f same a i (c ∷ slots) h =
    and_both _ _ (same_tag_of index f c (is_in a i) i (same c) ∙ and_first _ _ h) (each_kept index f same a (suc i) slots (and_second _ _ h))

pub each_mapped : (index : Index) (f : Slot → Slot) → ((c : Slot) → (f c).0 ≡ c.0) → (i : ℕ) (slots : List Slot) → has_each index i slots ≡ true → has_each index i (map f slots) ≡ true
each_mapped index f same i [] h = refl
each_mapped index f same i (c ∷ slots) h =
    and_both _ _ (ap (λ (x : Tag). is_in (span_of index x) i) (same c) ∙ and_first _ _ h) (each_mapped index f same (suc i) slots (and_second _ _ h))

other_tag : (tag column : Tag) (t : Bool) → same_tag tag column ≡ t → (tag ≡ column → ⊥) → t ≡ false
other_tag tag column true e differs = absurd (differs (tag_is tag column e))
other_tag tag column false e differs = refl

-- what changes the cells of a tag alone may go to a run that holds the columns of it
pub tag_alone : (index : Index) (tag : Tag) (f : Slot → Slot) → ((c : Slot) → same_tag tag c.0 ≡ false → f c ≡ c) → (a : Span) → ((j : ℕ) → is_in (span_of index tag) j ≡ true → is_in a j ≡ true)
    → (i : ℕ) (slots : List Slot) → has_each index i slots ≡ true → changed_in f a i slots ≡ map f slots
tag_alone index tag f stays a holds i [] h = refl
tag_alone index tag f stays a holds i (c ∷ slots) h =
    ap (λ (x : Slot). x ∷ changed_in f a (suc i) slots) (by_place f c (is_in a i) (λ out. stays c (other_tag tag c.0 _ refl (λ same. differs same out))))
    ∙ ap (λ (x : List Slot). f c ∷ x) (tag_alone index tag f stays a holds (suc i) slots (and_second _ _ h))
  where
    differs : tag ≡ c.0 → is_in a i ≡ false → ⊥
    differs same out =
        let there : is_in (span_of index tag) i ≡ true = ap (λ (x : Tag). is_in (span_of index x) i) same ∙ and_first _ _ h in
        true≢false (sym (holds i there) ∙ out)

-- ---- the cells that are held

back : (n : ℕ) (slots : List HeldSlot) → drop n (slots_of slots) ≡ slots_of (drop n slots)
back zero slots = refl
back (suc n) [] = refl
back (suc n) (c ∷ slots) = back n slots

-- the run of columns that there are
abbrev narrowed : Span → (size : ℕ) → Span
narrowed a size = record { first = min a.first (min a.after size); after = min a.after size }

narrowed_alike : (a : Span) (size j : ℕ) → j < size → is_in a j ≡ is_in (narrowed a size) j
narrowed_alike a size j h = grind (arith, nat_tests)

-- a part of the cells is changed
pub part_changed : (f : Slot → Slot) (a : Span) (slots part : List HeldSlot) (m n : ℕ) → m ≡ min a.first (min a.after (length slots)) → n ≡ min a.after (length slots) - m
    → slots_of part ≡ map f (slots_of (take n (drop m slots)))
    → slots_of (take m slots ++ (part ++ drop n (drop m slots))) ≡ changed_in f a 0 (slots_of slots)
part_changed f a slots part m n first size changed =
    map-append slot_of (take m slots) (part ++ drop n (drop m slots))
    ∙ ap (λ (x : List Slot). slots_of (take m slots) ++ x) (map-append slot_of part (drop n (drop m slots)))
    ∙ ap (λ (x : List Slot). slots_of (take m slots) ++ (x ++ slots_of (drop n (drop m slots)))) changed
    ∙ sym
    (same_run f a (narrowed a (length slots)) 0 (slots_of slots) (λ j h. narrowed_alike a (length slots) j (omega (arith, h, slots_length slots)))
    ∙ cut f (narrowed a (length slots)) 0 m n (slots_of slots) (omega (arith, first)) (omega (arith, first, size))
    ∙ ap (λ (x : List Slot). x ++ (map f (take n (drop m (slots_of slots))) ++ drop n (drop m (slots_of slots)))) (slots_front m slots)
    ∙ ap (λ (x : List Slot). slots_of (take m slots) ++ (map f (take n x) ++ drop n x)) (back m slots)
    ∙ ap (λ (x : List Slot). slots_of (take m slots) ++ (map f x ++ drop n (slots_of (drop m slots)))) (slots_front n (drop m slots))
    ∙ ap (λ (x : List Slot). slots_of (take m slots) ++ (map f (slots_of (take n (drop m slots))) ++ x)) (back n (drop m slots)))

-- no part of them is
pub none_changed : (f : Slot → Slot) (a : Span) (slots : List Slot) → a.after ≤ a.first → slots ≡ changed_in f a 0 slots
none_changed f a slots h = sym (same_run f a (record { first = 0; after = 0 }) 0 slots (λ j k. out_of_both a j h) ∙ past f (record { first = 0; after = 0 }) 0 slots (omega arith))
  where
    out_of_both : (a : Span) (j : ℕ) → a.after ≤ a.first → is_in a j ≡ is_in (record { first = 0; after = 0 }) j
    out_of_both a j h = grind (arith, nat_tests)

-- ---- what changes no cell that is not busy

pub head_stays : (c : Slot) (tag : Tag) (vr : Vr) (declared : Length) (s : Syntax) → same_tag tag c.0 ≡ false → slot_step c (opens tag vr declared s) ≡ c
head_stays c tag vr declared s e = ap (λ (x : Cell). let p : Slot = (c.0, x, c.2) in p) (by_cell c.0 c.1 e)
  where
    by_cell : (column : Tag) (cell : Cell) → same_tag tag column ≡ false → with_head column cell s tag vr declared ≡ cell
    by_cell column missing e = rw e refl
    by_cell column (open_value r shown t bytes) e = refl
    by_cell column open_too_long e = refl
    by_cell column (whole shown value) e = refl
    by_cell column too_long e = refl
    by_cell column not_shown e = refl

pub bytes_stay : (v : List ℕ) (c : Slot) → is_busy c.1 ≡ false → fold slot_step c (map value_byte v) ≡ c
bytes_stay v c e = bytes_in_slot c v ∙ ap (λ (x : Cell). let p : Slot = (c.0, x, c.2) in p) (by_cell c.1 e)
  where
    by_cell : (cell : Cell) → is_busy cell ≡ false → fold with_byte cell v ≡ cell
    by_cell missing e = missing_stays v
    by_cell (open_value r shown t bytes) e = cc
    by_cell open_too_long e = cc
    by_cell (whole shown value) e = whole_stays shown value v
    by_cell too_long e = long_stays v
    by_cell not_shown e = not_shown_stays v

pub bytes_tag : (v : List ℕ) (c : Slot) → (fold slot_step c (map value_byte v)).0 ≡ c.0
bytes_tag v c = ap (λ (x : Slot). x.0) (bytes_in_slot c v)

pub end_stays : (c : Slot) → is_busy c.1 ≡ false → slot_step c closes_leaf ≡ c
end_stays c e = ap (λ (x : Cell). let p : Slot = (c.0, x, c.2) in p) (by_cell c.1 e)
  where
    by_cell : (cell : Cell) → is_busy cell ≡ false → ended cell ≡ cell
    by_cell missing e = refl
    by_cell (open_value r shown t bytes) e = cc
    by_cell open_too_long e = cc
    by_cell (whole shown value) e = refl
    by_cell too_long e = refl
    by_cell not_shown e = refl

pub end_rests : (c : Slot) → is_busy (slot_step c closes_leaf).1 ≡ false
end_rests c = by_cell c.1
  where
    by_cell : (cell : Cell) → is_busy (ended cell) ≡ false
    by_cell missing = refl
    by_cell (open_value r shown t bytes) = refl
    by_cell open_too_long = refl
    by_cell (whole shown value) = refl
    by_cell too_long = refl
    by_cell not_shown = refl

-- ---- cells that are made or emptied

pub begun_rest : (a : Span) (i : ℕ) (tags : List Tag) → holds_busy a i (begun_slots tags) ≡ true
begun_rest a i [] = refl
begun_rest a i (t ∷ tags) = and_both _ _ (at_rest (is_in a i) false refl) (begun_rest a (suc i) tags)

pub begun_size : (tags : List Tag) → length (begun_slots tags) ≡ length tags
begun_size [] = refl
begun_size (t ∷ tags) = ap suc (begun_size tags)

pub mapped_size : (f : Slot → Slot) (new given : List HeldSlot) → slots_of new ≡ map f (slots_of given) → length new ≡ length given
mapped_size f new given e = sym (slots_length new) ∙ ap length e ∙ size_of (slots_of given) ∙ slots_length given
  where
    size_of : (slots : List Slot) → length (map f slots) ≡ length slots
    size_of [] = refl
    size_of (c ∷ slots) = ap suc (size_of slots)

-- ---- one more column in the index

-- the columns so far are indexed
pub record IndexedSoFar (index : Index) (slots : List HeldSlot) (i : ℕ) : Type 0 where
  pub each : has_each index 0 (slots_of (take i slots)) ≡ true
  pub size : length index.spans ≡ 256

within_places : (tag : Tag) → place_of tag < 256
within_places tag = spread_within (tag_number tag) 8 (omega arith)

at_own : (index : Index) (tag : Tag) (column : ℕ) (p : ℕ) → p ≡ place_of tag → length index.spans ≡ 256
    → get_or (added index tag column).spans p NONE ≡ both (span_of index tag) (record { first = column; after = column + 1 })
at_own index tag column p same size =
    ap (λ (q : ℕ). get_or (added index tag column).spans q NONE) same
    ∙ get_or-set_same index.spans (place_of tag) (both (span_of index tag) (record { first = column; after = column + 1 })) NONE (omega (arith, size, within_places tag))

grown : (index : Index) (tag other : Tag) (column j : ℕ) → length index.spans ≡ 256 → is_in (span_of index other) j ≡ true → is_in (span_of (added index tag column) other) j ≡ true
grown index tag other column j size h = by_test (place_of other == place_of tag) refl
  where
    by_test : (t : Bool) → (place_of other == place_of tag) ≡ t → is_in (span_of (added index tag column) other) j ≡ true
    by_test true e =
        let same : place_of other ≡ place_of tag = eqb-true (place_of other) (place_of tag) e in
        ap (λ (x : Span). is_in x j) (at_own index tag column (place_of other) same size)
        ∙ in_first (span_of index tag) (record { first = column; after = column + 1 }) j (ap (λ (p : ℕ). is_in (get_or index.spans p NONE) j) (sym same) ∙ h)
    by_test false e =
        ap (λ (x : Span). is_in x j)
        (get_or-set_other index.spans (place_of tag) (place_of other) (both (span_of index tag) (record { first = column; after = column + 1 })) NONE
        (λ same. true≢false (sym (ap (λ (p : ℕ). p == place_of tag) same ∙ equals_itself (place_of tag)) ∙ e)))
        ∙ h

each_grown : (index : Index) (tag : Tag) (column : ℕ) → length index.spans ≡ 256 → (i : ℕ) (slots : List Slot) → has_each index i slots ≡ true → has_each (added index tag column) i slots ≡ true
each_grown index tag column size i [] h = refl
each_grown index tag column size i (c ∷ slots) h = and_both _ _ (grown index tag c.0 column i size (and_first _ _ h)) (each_grown index tag column size (suc i) slots (and_second _ _ h))

each_more : (index : Index) (i : ℕ) (slots : List Slot) (c : Slot) → has_each index i slots ≡ true → is_in (span_of index c.0) (i + length slots) ≡ true → has_each index i (slots ++ c ∷ []) ≡ true
each_more index i [] c h own = and_both _ _ (ap (λ (j : ℕ). is_in (span_of index c.0) j) (nothing_more i) ∙ own) refl
  where
    nothing_more : (n : ℕ) → n ≡ n + 0
    nothing_more n = omega arith
each_more index i (d ∷ slots) c h own =
    and_both _ _ (and_first _ _ h) (each_more index (suc i) slots c (and_second _ _ h) (ap (λ (j : ℕ). is_in (span_of index c.0) j) (one_later i (length slots)) ∙ own))
  where
    one_later : (n m : ℕ) → suc n + m ≡ n + suc m
    one_later n m = omega arith

own_column : (a : Span) (column : ℕ) → is_in (both a (record { first = column; after = column + 1 })) column ≡ true
own_column a column = in_second a (record { first = column; after = column + 1 }) column (in_run (record { first = column; after = column + 1 }) column (omega arith) (omega arith))

pub indexed_more : (old new : Index) (slots : List HeldSlot) (i : ℕ) (d : HeldSlot) → i < length slots → new ≡ added old (get_or slots i d).tag i → IndexedSoFar old slots i → IndexedSoFar new slots (i + 1)
indexed_more old new slots i d h changed so_far =
    let slot = get_or slots i d in
    let front = slots_of (take i slots) in
    let count : length front ≡ i = slots_length (take i slots) ∙ length-take-le i slots (omega (arith, h)) in
    let there : is_in (span_of (added old slot.tag i) slot.tag) (0 + length front) ≡ true =
    ap (λ (j : ℕ). is_in (span_of (added old slot.tag i) slot.tag) j) (omega (arith, count))
    ∙ ap (λ (x : Span). is_in x i) (at_own old slot.tag i (place_of slot.tag) refl so_far.size)
    ∙ own_column (span_of old slot.tag) i in
    let made : slots_of (take (i + 1) slots) ≡ front ++ slot_of slot ∷ [] =
    ap slots_of (take_more slots i d h) ∙ map-append slot_of (take i slots) (slot ∷ []) in
    record {
      each =
          ap (λ (x : Index). has_each x 0 (slots_of (take (i + 1) slots))) changed
          ∙ ap (has_each (added old slot.tag i) 0) made
          ∙ each_more (added old slot.tag i) 0 front (slot_of slot) (each_grown old slot.tag i so_far.size 0 front so_far.each) there;
      size = ap (λ (x : Index). length x.spans) changed ∙ length-set old.spans (place_of slot.tag) _ ∙ so_far.size;
    }
