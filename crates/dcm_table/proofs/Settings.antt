-- Leaves that set what is in force.
use Rattle.std.proofs.Common.{◌≡◌, ◌∙◌, sym, ap, refl, ℕ, ◌<◌, ◌≤◌, List, [], ◌∷◌, ◌++◌, length, take, map, fold, append_assoc, Option, Some, None, Bool, true, false}
use Rattle.std.specs.Prelude.{nat_lt, cond, not, ◌&&◌, option_map, if◌then◌else◌}
use Rattle.std.proofs.lemmas.Bool.{lt-ltb, le-ltb, cases_lt}
use Rattle.std.proofs.lemmas.List.{append-nil, length-append, take_all, take-append-le, length-take-le}
use mathlib.Core.Logic.{⊎_elim}
use Rattle.dcm_base.proofs.Dictionaries.TagOrder.{tag_is}
use Rattle.dcm_lemmas.proofs.Truth.{and_first, and_second}
use Rattle.dcm_base.specs.declared.tag.Tag.{Tag}
use Rattle.dcm_base.specs.declared.vr.Vr.{Vr}
use Rattle.dcm_base.specs.declared.vr.Vr.TheVariants.{AT, FD, FL, SL, SS, SV, UI, UL, UN, US, UV}
use Rattle.dcm_base.specs.declared.syntax.Syntax.{Syntax}
use Rattle.dcm_base.specs.declared.syntax.Syntax.TheVariants.{Implicit as implicit_in, Little as little_in, Big as big_in}
use Rattle.dcm_base.specs.declared.dictionary.Dictionary.{Dictionary}
use Rattle.dcm_base.specs.declared.dictionary.Dictionary.TheVariants.{Extract, Standard, Signed}
use Rattle.dcm_base.specs.Tables.Dictionary.{elements, entries, keywords, ambiguous, elements_in, element_in, vr_in}
use Rattle.dcm_base.specs.Tables.Representation.{unit}
use Rattle.dcm_base.specs.Tables.Syntax.{dictionary_of}
use Rattle.dcm_base.specs.Tables.Tag.{same_tag}
use Rattle.dcm_base.specs.Tree.Value.{order, turned}
use Rattle.dcm_base.proofs.Conversions.OrderLaws.{turned_bytes}
use Rattle.dcm_text.specs.declared.sets.Sets.{Sets}
use Rattle.dcm_text.specs.Sets.{is_known, sets_of, of_first, of_terms, terms_of}
use Rattle.dcm_table.specs.Cell.{Cell, missing, open_value, open_too_long, whole, too_long, not_shown, is_shown, shown_vr}
use Rattle.dcm_table.specs.InForce.{CHARACTER_SET, is_setting, may_set, set_by}
use Rattle.dcm_table.specs.Shown.{cell_or}
use Rattle.dcm_table.specs.TableSink.{Slot, kept_or, with_sets, with_setting_byte, setting_opened}
use Rattle.dcm_sinks.specs.SettingValue.{names_unknown, sets_with}
use Rattle.dcm_sinks.specs.Unknown.{sets_unknown}
use Rattle.dcm_sinks.proofs.DecodedDumps.Settings.{kept_known, kept_names, in_order}

-- ---- what may set

abbrev pub kept_of : Syntax → Tag → Vr → List ℕ → Option (List ℕ)
kept_of s tag vr value = option_map (λ (x : List ℕ). fold with_setting_byte x (order s vr value)) (setting_opened (is_setting tag vr) None)

pub named_by : (s : Syntax) (tag : Tag) (vr : Vr) (value : List ℕ) (sets : Sets) → sets_with (kept_of s tag vr value) sets ≡ set_by tag vr value sets
named_by s tag vr value sets = by_test (is_setting tag vr) refl
  where
    by_test : (t : Bool) → is_setting tag vr ≡ t
        → sets_with (option_map (λ (x : List ℕ). fold with_setting_byte x (order s vr value)) (setting_opened t None)) sets ≡ (if t then sets_of value else sets)
    by_test true e = kept_names (order s vr value) ∙ ap sets_of (in_order s vr value (and_second (same_tag tag CHARACTER_SET) (may_set vr) e))
    by_test false e = refl

-- whether it names what is not known
pub unknown_by : (s : Syntax) (tag : Tag) (vr : Vr) (value : List ℕ) → names_unknown (kept_of s tag vr value) ≡ sets_unknown tag vr value
unknown_by s tag vr value = by_test (is_setting tag vr) refl
  where
    by_test : (t : Bool) → is_setting tag vr ≡ t
        → names_unknown (option_map (λ (x : List ℕ). fold with_setting_byte x (order s vr value)) (setting_opened t None)) ≡ (t && not (is_known value))
    by_test true e = ap not (kept_known (order s vr value) ∙ ap is_known (in_order s vr value (and_second (same_tag tag CHARACTER_SET) (may_set vr) e)))
    by_test false e = refl

-- ---- columns whose first element is still to come

pub kept_same : (c : Cell) (x : Sets) → kept_or c x x ≡ x
kept_same missing x = refl
kept_same (open_value vr shown s bytes) x = refl
kept_same open_too_long x = refl
kept_same (whole shown value) x = refl
kept_same too_long x = refl
kept_same not_shown x = refl

slot_same : (c : Slot) → (c.0, c.1, kept_or c.1 c.2 c.2) ≡ c
slot_same c = ap (λ (x : Sets). let d : Slot = (c.0, c.1, x) in d) (kept_same c.1 c.2)

abbrev pub set_slot : Option (List ℕ) → Slot → Slot
set_slot setting c = (c.0, c.1, kept_or c.1 c.2 (sets_with setting c.2))

pub set_each : (setting : Option (List ℕ)) (slots : List Slot) → with_sets setting slots ≡ map (λ (c : Slot). set_slot setting c) slots
set_each None [] = refl
set_each None (c ∷ slots) = ap (λ (x : List Slot). c ∷ x) (set_each None slots) ∙ ap (λ (d : Slot). d ∷ map (λ (c : Slot). set_slot None c) slots) (sym (slot_same c))
set_each (Some value) slots = refl

-- an element of the tag is read by what is in force at its head, and what it sets counts behind it
pub kept_leaf : (c : Cell) (t : Bool) (leaf : Cell) (old new : Sets) → ((x y : Sets) → kept_or leaf x y ≡ x) → kept_or (cell_or c (if t then leaf else missing)) old new ≡ kept_or c old (if t then old else new)
kept_leaf missing true leaf old new is = is old new
kept_leaf missing false leaf old new is = refl
kept_leaf (open_value vr shown s bytes) t leaf old new is = refl
kept_leaf open_too_long t leaf old new is = refl
kept_leaf (whole shown value) t leaf old new is = refl
kept_leaf too_long t leaf old new is = refl
kept_leaf not_shown t leaf old new is = refl

-- two one after another
pub kept_twice : (c d : Cell) (old new : Sets) (more : Sets → Sets) → kept_or (cell_or c d) (kept_or c old new) (more (kept_or c old new)) ≡ kept_or c old (kept_or d new (more new))
kept_twice missing d old new more = refl
kept_twice (open_value vr shown s bytes) d old new more = refl
kept_twice open_too_long d old new more = refl
kept_twice (whole shown value) d old new more = refl
kept_twice too_long d old new more = refl
kept_twice not_shown d old new more = refl

pub kept_if : (t : Bool) (c : Cell) (x y : Sets) → kept_or c x y ≡ x → kept_or (if t then c else missing) x y ≡ (if t then x else y)
kept_if true c x y e = e
kept_if false c x y e = refl

-- ---- what is no leaf sets nothing

charset_shown : (d : Dictionary) → is_shown (vr_in d CHARACTER_SET) ≡ true
unfolding elements entries keywords ambiguous elements_in element_in vr_in
charset_shown Extract = refl
charset_shown Standard = refl
charset_shown Signed = refl

setting_shown : (s : Syntax) (tag : Tag) (vr : Vr) → tag ≡ CHARACTER_SET → may_set vr ≡ true → is_shown (shown_vr s tag vr) ≡ true
setting_shown s tag UN same e = ap (λ (t : Tag). is_shown (vr_in (dictionary_of s) t)) same ∙ charset_shown (dictionary_of s)
setting_shown s tag UI same e = refl
setting_shown s tag AT same e = refl
setting_shown s tag FD same e = refl
setting_shown s tag FL same e = refl
setting_shown s tag SL same e = refl
setting_shown s tag SS same e = refl
setting_shown s tag SV same e = refl
setting_shown s tag UL same e = refl
setting_shown s tag US same e = refl
setting_shown s tag UV same e = refl
setting_shown s tag vr same e = e

pub hidden_sets_nothing : (s : Syntax) (tag : Tag) (vr : Vr) → is_shown (shown_vr s tag vr) ≡ false → is_setting tag vr ≡ false
hidden_sets_nothing s tag vr hidden = by_test (is_setting tag vr) refl
  where
    by_test : (t : Bool) → is_setting tag vr ≡ t → t ≡ false
    by_test false e = refl
    by_test true e =
        let shown = setting_shown s tag vr (tag_is tag CHARACTER_SET (and_first (same_tag tag CHARACTER_SET) (may_set vr) e)) (and_second (same_tag tag CHARACTER_SET) (may_set vr) e) in
        let no : true ≡ false = sym shown ∙ hidden in
        absurd (cc)
