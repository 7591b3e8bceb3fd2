-- Leaves that set what is in force.
use Rattle.std.proofs.Common.{◌≡◌, ◌∙◌, sym, ap, refl, ℕ, ◌<◌, ◌≤◌, List, [], ◌∷◌, ◌++◌, length, take, map, fold, arith, append_assoc, None, Bool, true, false}
use Rattle.std.specs.Prelude.{nat_lt, cond, if◌then◌else◌, not, ◌&&◌, ◌||◌}
use Rattle.std.specs.List.{list_all}
use Rattle.std.proofs.lemmas.Bool.{lt-ltb, le-ltb, cases_lt}
use Rattle.std.proofs.lemmas.List.{append-nil, length-append, take_all, take-append-le, length-take-le}
use mathlib.Core.Logic.{⊎_elim}
use Rattle.dcm_lemmas.proofs.Choice.{if_false, if_true}
use Rattle.dcm_lemmas.proofs.Truth.{and_second}
use Rattle.dcm_base.specs.declared.tag.Tag.{Tag}
use Rattle.dcm_base.specs.declared.vr.Vr.{Vr}
use Rattle.dcm_base.specs.declared.vr.Vr.TheVariants.{AT, FD, FL, SL, SS, SV, UI, UL, UN, US, UV}
use Rattle.dcm_base.specs.declared.form.Form.{Form}
use Rattle.dcm_base.specs.declared.form.Form.TheVariants.{Value as a_value}
use Rattle.dcm_base.specs.declared.length.Length.TheVariants.{Known}
use Rattle.dcm_base.specs.declared.syntax.Syntax.{Syntax}
use Rattle.dcm_base.specs.declared.syntax.Syntax.TheVariants.{Implicit as implicit_in, Little as little_in, Big as big_in}
use Rattle.dcm_base.specs.Bytes.Spelling.{form, read_as}
use Rattle.dcm_base.specs.Steps.Atoms.{opens, value_byte, closes_leaf}
use Rattle.dcm_base.specs.Tables.Representation.{unit}
use Rattle.dcm_base.specs.Tree.Value.{order, turned}
use Rattle.dcm_base.proofs.Conversions.OrderLaws.{turned_bytes}
use Rattle.dcm_text.specs.declared.sets.Sets.{Sets}
use Rattle.dcm_text.specs.Sets.{is_known, is_term, sets_of, of_first, of_terms, terms_of}
use Rattle.dcm_sinks.specs.InForce.{is_setting, is_character_set, may_set, set_by}
use Rattle.dcm_sinks.specs.SettingValue.{ForceState, force_step, names_unknown, with_setting_byte, sets_with, opens_setting, setting_opened}
use Rattle.dcm_sinks.specs.Unknown.{sets_unknown}
use Rattle.dcm_sinks.proofs.DecodedDumps.Forces.{kept, value_ends}

-- ---- the bytes that are kept

kept_bytes : (held v : List ℕ) → length held ≤ 513 → fold with_setting_byte held v ≡ take 513 (held ++ v)
kept_bytes held [] h = sym (ap (take 513) (append-nil held) ∙ take_all 513 held h)
kept_bytes held (b ∷ v) h =
    ⊎_elim
    (λ (some : length held < 513).
    ap (λ (x : List ℕ). fold with_setting_byte x v) (if_true (nat_lt (length held) 513) (held ++ b ∷ []) held (lt-ltb (length held) 513 some))
    ∙ kept_bytes (held ++ b ∷ []) v (omega (arith, some, length-append held (b ∷ [])))
    ∙ ap (take 513) (append_assoc held (b ∷ []) v))
    (λ (full : 513 ≤ length held).
    ap (λ (x : List ℕ). fold with_setting_byte x v) (if_false (nat_lt (length held) 513) (held ++ b ∷ []) held (le-ltb (length held) 513 full))
    ∙ kept_bytes held v h
    ∙ take-append-le 513 held v full
    ∙ sym (take-append-le 513 held (b ∷ v) full))
    (cases_lt (length held) 513)

-- a longer value names what the empty one does, as its first 513 bytes do
too_long_names : (value : List ℕ) → 512 < length value → sets_of value ≡ of_first []
unfolding sets_of
too_long_names value h = ap (λ (t : Bool). cond t (of_first []) (of_terms (terms_of value))) (lt-ltb 512 (length value) h)

front_names : (value : List ℕ) → sets_of (take 513 value) ≡ sets_of value
front_names value =
    ⊎_elim
    (λ (short : length value < 513). ap sets_of (take_all 513 value (omega (arith, short))))
    (λ (long : 513 ≤ length value).
    let size : length (take 513 value) ≡ 513 = length-take-le 513 value long in
    too_long_names (take 513 value) (omega (arith, size)) ∙ sym (too_long_names value (omega (arith, long))))
    (cases_lt (length value) 513)

pub kept_names : (value : List ℕ) → sets_of (fold with_setting_byte [] value) ≡ sets_of value
kept_names value = ap sets_of (kept_bytes [] value (omega arith)) ∙ front_names value

-- and it is as unknown
too_long_unknown : (value : List ℕ) → 512 < length value → is_known value ≡ false
unfolding is_known
too_long_unknown value h = ap (λ (t : Bool). cond t false (list_all is_term (terms_of value))) (lt-ltb 512 (length value) h)

front_known : (value : List ℕ) → is_known (take 513 value) ≡ is_known value
front_known value =
    ⊎_elim
    (λ (short : length value < 513). ap is_known (take_all 513 value (omega (arith, short))))
    (λ (long : 513 ≤ length value).
    let size : length (take 513 value) ≡ 513 = length-take-le 513 value long in
    too_long_unknown (take 513 value) (omega (arith, size)) ∙ sym (too_long_unknown value (omega (arith, long))))
    (cases_lt (length value) 513)

pub kept_known : (value : List ℕ) → is_known (fold with_setting_byte [] value) ≡ is_known value
kept_known value = ap is_known (kept_bytes [] value (omega arith)) ∙ front_known value

-- ---- what may set

-- such values are single bytes
one_unit : (vr : Vr) → may_set vr ≡ true → unit vr ≡ 1
one_unit UI e = refl
one_unit UN e = refl
one_unit AT e = cc
one_unit FD e = cc
one_unit FL e = cc
one_unit SL e = cc
one_unit SS e = cc
one_unit SV e = cc
one_unit UL e = cc
one_unit US e = cc
one_unit UV e = cc
one_unit vr e = cc

pub in_order : (s : Syntax) (vr : Vr) (value : List ℕ) → may_set vr ≡ true → order s vr value ≡ value
in_order (implicit_in d) vr value e = refl
in_order (little_in d) vr value e = refl
in_order (big_in d) vr value e = ap (λ (k : ℕ). turned k value) (one_unit vr e) ∙ turned_bytes value

named_by : (s : Syntax) (tag : Tag) (vr : Vr) (value : List ℕ) (sets : Sets) → sets_with (kept (order s vr value) (setting_opened (is_setting tag vr))) sets ≡ set_by tag vr value sets
named_by s tag vr value sets = by_test (is_setting tag vr) refl
  where
    by_test : (t : Bool) → is_setting tag vr ≡ t → sets_with (kept (order s vr value) (setting_opened t)) sets ≡ (if t then sets_of value else sets)
    by_test true e = kept_names (order s vr value) ∙ ap sets_of (in_order s vr value (and_second (is_character_set tag) (may_set vr) e))
    by_test false e = refl

unknown_by : (s : Syntax) (tag : Tag) (vr : Vr) (value : List ℕ) → names_unknown (kept (order s vr value) (setting_opened (is_setting tag vr))) ≡ sets_unknown tag vr value
unknown_by s tag vr value = by_test (is_setting tag vr) refl
  where
    by_test : (t : Bool) → is_setting tag vr ≡ t → names_unknown (kept (order s vr value) (setting_opened t)) ≡ (t && not (is_known value))
    by_test true e = ap not (kept_known (order s vr value) ∙ ap is_known (in_order s vr value (and_second (is_character_set tag) (may_set vr) e)))
    by_test false e = refl

-- ---- what is in force between elements

abbrev pub force_with : Bool → Sets → List Sets → ForceState
force_with unknown sets around = record { sets = sets; around = around; setting = None; unknown = unknown }

-- where nothing unknown was named
abbrev pub force_at : Sets → List Sets → ForceState
force_at sets around = force_with false sets around

-- behind a leaf
pub leaf_force : (unknown : Bool) (sets : Sets) (around : List Sets) (tag : Tag) (vr : Vr) (value : List ℕ) (s : Syntax) → form s (read_as s tag vr) (Known (length value)) ≡ a_value
    → fold force_step (force_with unknown sets around) (opens tag vr (Known (length value)) s ∷ (map value_byte (order s vr value) ++ closes_leaf ∷ [])) ≡ force_with (sets_unknown tag vr value || unknown) (set_by tag vr value sets) around
leaf_force unknown sets around tag vr value s e =
    let raw : List ℕ = order s vr value in
    sym (value_ends (force_step (force_with unknown sets around) (opens tag vr (Known (length value)) s)) raw)
    ∙ ap (λ (f : Form). force_with (names_unknown (kept raw (setting_opened (opens_setting f tag vr))) || unknown) (sets_with (kept raw (setting_opened (opens_setting f tag vr))) sets) around) e
    ∙ ap (λ (x : Sets). force_with (names_unknown (kept raw (setting_opened (is_setting tag vr))) || unknown) x around) (named_by s tag vr value sets)
    ∙ ap (λ (t : Bool). force_with (t || unknown) (set_by tag vr value sets) around) (unknown_by s tag vr value)

-- behind bytes that set nothing
pub bytes_force : (unknown : Bool) (sets : Sets) (around : List Sets) (v : List ℕ) → fold force_step (force_with unknown sets around) (map value_byte v ++ closes_leaf ∷ []) ≡ force_with unknown sets around
bytes_force unknown sets around v = sym (value_ends (force_with unknown sets around) v)
