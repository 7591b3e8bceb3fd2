-- An element with its whole value that changes no cell.
use Rattle.std.proofs.Common.{◌≡◌, ◌≤◌, ◌∙◌, sym, ap, refl, ℕ, zero, suc, List, [], ◌∷◌, ◌++◌, map, fold, Option, None, arith, Bool, true, false}
use Rattle.std.specs.Prelude.{◌&&◌, ◌||◌, not}
use Rattle.std.proofs.lemmas.Bool.Decides.{nat_tests}
use Rattle.std.proofs.lemmas.List.Sums.{fold-append}
use Rattle.dcm_base.specs.declared.tag.Tag.{Tag}
use Rattle.dcm_base.specs.declared.syntax.Syntax.{Syntax}
use Rattle.dcm_base.specs.Steps.Atoms.{Atom, opens, value_byte, closes_leaf}
use Rattle.dcm_head.specs.declared.head.Head.{Head}
use Rattle.dcm_stream.specs.Skip.{opened as deeper, closed as less_deep, is_open}
use Rattle.dcm_stream.specs.Tokens.{whole_atoms}
use Rattle.dcm_table.specs.declared.index.Span.{Span}
use Rattle.dcm_table.specs.declared.index.Index.{Index}
use Rattle.dcm_table.specs.Index.{is_empty, span_of, has_each, is_busy, holds_busy, passes_by}
use Rattle.dcm_table.specs.Slots.{setting_by}
use Rattle.dcm_table.specs.TableSink.{Slot, State, next, slot_step, opens_setting, setting_opened, passed_by}
use Rattle.dcm_table.proofs.EachSlot.{bytes_taken}
use Rattle.dcm_table.proofs.Inside.{Mark}
use Rattle.dcm_table.proofs.Indexed.{none_changed, busy_alone, tag_alone, head_stays, bytes_stay, end_stays}

abbrev at : (depth : ℕ) → Mark → List Slot → Option (List ℕ) → State
at depth mark slots setting = record { depth = depth; greatest = mark.greatest; slots = slots; setting = setting; unknown = mark.unknown }

ends_first : (a : Span) → is_empty a ≡ true → a.after ≤ a.first
ends_first a e = grind (arith, nat_tests)

module _ (mark : Mark) (slots : List Slot) (busy : Span) (empty : is_empty busy ≡ true) (idle : holds_busy busy 0 slots ≡ true) where
  unchanged : (f : Slot → Slot) → ((c : Slot) → is_busy c.1 ≡ false → f c ≡ c) → map f slots ≡ slots
  unchanged f stays = sym (none_changed f busy slots (ends_first busy empty) ∙ busy_alone f stays busy 0 slots idle)

  -- behind the head
  behind : (depth : ℕ) (value : List ℕ) → fold next (at depth mark slots None) (map value_byte value ++ closes_leaf ∷ []) ≡ at (less_deep depth) mark slots None
  behind depth value =
      fold-append next (at depth mark slots None) (map value_byte value) (closes_leaf ∷ [])
      ∙ ap (λ (s : State). next s closes_leaf) (bytes_taken (at depth mark slots None) value ∙ ap (λ (x : List Slot). at depth mark x None) (unchanged (λ (c : Slot). fold slot_step c (map value_byte value)) (bytes_stay value)))
      ∙ ap (λ (x : List Slot). at (less_deep depth) mark x None) (unchanged (λ (c : Slot). slot_step c closes_leaf) end_stays)

  module _ (index : Index) (has : has_each index 0 slots ≡ true) (head : Head) (syntax : Syntax) where
    abbrev opening : Atom
    opening = opens head.tag head.vr head.length syntax

    wanted_by_none : is_empty (span_of index head.tag) ≡ true → map (λ (c : Slot). slot_step c opening) slots ≡ slots
    wanted_by_none none =
        sym (none_changed (λ (c : Slot). slot_step c opening) (span_of index head.tag) slots (ends_first (span_of index head.tag) none)
        ∙ tag_alone index head.tag (λ (c : Slot). slot_step c opening) (λ c. head_stays c head.tag head.vr head.length syntax) (span_of index head.tag) (λ j h. h) 0 slots has)

    at_head : (depth : ℕ) → (is_open depth || (is_empty (span_of index head.tag) && not (opens_setting head.tag head.vr head.length))) ≡ true
        → next (at depth mark slots None) opening ≡ at (deeper depth true) mark slots None
    at_head zero e = outermost (is_empty (span_of index head.tag)) (opens_setting head.tag head.vr head.length) e refl refl
      where
        outermost : (none sets : Bool) → (none && not sets) ≡ true → is_empty (span_of index head.tag) ≡ none → opens_setting head.tag head.vr head.length ≡ sets
            → next (at 0 mark slots None) opening ≡ at 1 mark slots None
        outermost true true e is setting = cc
        outermost false sets e is setting = cc
        outermost true false e is setting =
            ap (λ (x : List Slot). at 1 mark x (setting_opened (opens_setting head.tag head.vr head.length) None)) (wanted_by_none is)
            ∙ ap (λ (b : Bool). at 1 mark slots (setting_opened b None)) setting
    at_head (suc depth) e = refl

    passed_whole : (depth : ℕ) (value : List ℕ) → (is_open depth || (is_empty (span_of index head.tag) && not (opens_setting head.tag head.vr head.length))) ≡ true
        → fold next (at depth mark slots None) (whole_atoms head syntax value) ≡ at (less_deep (deeper depth true)) mark slots None
    passed_whole depth value e =
        ap (λ (s : State). fold next s (map value_byte value ++ closes_leaf ∷ [])) (at_head depth e) ∙ behind (deeper depth true) value

pub whole_passed : (depth : ℕ) (mark : Mark) (slots : List Slot) (is_setting : Bool) (kept : List ℕ) (busy : Span) (index : Index) (head : Head) (syntax : Syntax) (value : List ℕ)
    → has_each index 0 slots ≡ true → holds_busy busy 0 slots ≡ true → passes_by is_setting busy depth index head ≡ true
    → fold next (at depth mark slots (setting_by is_setting kept)) (whole_atoms head syntax value) ≡ passed_by (at depth mark slots (setting_by is_setting kept))
whole_passed depth mark slots is_setting kept busy index head syntax value has idle e = by_tests is_setting (is_empty busy) _ e refl refl
  where
    by_tests : (setting empty rest : Bool) → ((not setting && empty) && rest) ≡ true → is_empty busy ≡ empty
        → (is_open depth || (is_empty (span_of index head.tag) && not (opens_setting head.tag head.vr head.length))) ≡ rest
        → fold next (at depth mark slots (setting_by setting kept)) (whole_atoms head syntax value) ≡ passed_by (at depth mark slots (setting_by setting kept))
    by_tests true empty rest e is more = cc
    by_tests false false rest e is more = cc
    by_tests false true false e is more = cc
    by_tests false true true e is more = passed_whole mark slots busy is idle index has head syntax depth value more
