-- Data sets whose texts are ASCII are dumped as without characters.
use Rattle.std.proofs.Common.{◌≡◌, ◌∙◌, ap, sym, refl, ℕ, ◌+◌, ◌==◌, List, [], ◌∷◌, ◌++◌, length, map, flat_map, Bool, true, false, cond, ◌&&◌, ◌||◌, Option, Some, None, take}
use Rattle.std.specs.Prelude.{not, nat_lt, nat_le, codes, if◌then◌else◌}
use Rattle.std.specs.List.{list_all}
use Rattle.std.proofs.lemmas.Bool.{and_parts}
use Rattle.dcm_lemmas.proofs.Truth.{implied, not_true}
use Rattle.dcm_base.specs.declared.tag.Tag.{Tag}
use Rattle.dcm_base.specs.declared.vr.Vr.{Vr}
use Rattle.dcm_base.specs.declared.mode.Mode.{Mode}
use Rattle.dcm_base.specs.declared.length.Length.{Length}
use Rattle.dcm_base.specs.declared.length.Length.TheVariants.{Known, Undefined}
use Rattle.dcm_base.specs.declared.dictionary.Dictionary.{Dictionary}
use Rattle.dcm_base.specs.Tables.Representation.{letters}
use Rattle.dcm_base.specs.Tree.Tree.{Trees, no_tree, leaf, sequence, fragments, Items, no_item, item}
use Rattle.dcm_base.specs.Tree.Front.{Front, front, OpenTree, nothing_open, open_leaf, open_sequence, open_fragments, OpenItem, no_open_item, open_item}
use Rattle.dcm_base.specs.Dump.Dump.{line, line_start, leaf_line, fragment_lines, sequence_line, sequence_end_line, item_line, item_end_line, open_line, dump_set, dump_items, dump_front, dump_open, dump_open_item}
use Rattle.dcm_base.specs.Dump.ValueText.{Shape, text, identifier, unsigned, signed, tags, hexadecimal, shape, display, shortened, unpadded, escaped, shown_so_far}
use Rattle.dcm_base.specs.Lines.ReadValue.{takes_bytes}
use Rattle.dcm_text.specs.declared.first.Found.{Found}
use Rattle.dcm_text.specs.declared.set.TextKind.{TextKind}
use Rattle.dcm_text.specs.declared.sets.Sets.{Sets}
use Rattle.dcm_text.specs.First.{is_escape}
use Rattle.dcm_text.specs.Laws.{is_plain, as_itself}
use Rattle.dcm_text.specs.Runs.{State, Run, begun, with_bytes, run, run_by, joined, onto, behind_found}
use Rattle.dcm_text.specs.Shown.{dumped, dumped_piece}
use Rattle.dcm_text.proofs.Runs.{two_pieces}
use Rattle.dcm_text.proofs.Whole.{plain_first, plain_decoded}
use Rattle.dcm_value.specs.DecodedDisplay.{decoded_display, decoded_shortened, decoded_count, decoded_so_far}
use Rattle.dcm_value.specs.DecodedProgress.{is_named, sets_for, kind_of, shown_pieces}
use Rattle.dcm_value.proofs.Displays.DecodedAsBefore.{decoded_as_before, plain_dumped}
use Rattle.dcm_value.proofs.Displays.DecodedAscii.{named_shape, is_identifier}
use Rattle.dcm_sinks.specs.InForce.{set_by, sets_after}
use Rattle.dcm_sinks.specs.DecodedDump.{is_decoded, text_line, decoded_line, decoded_set, decoded_items, decoded_open_value, decoded_front, decoded_open, decoded_open_item}
use Rattle.dcm_sinks.specs.DecodedLaws.{DecodedOfAscii, DecodedOfLow}
use Rattle.dcm_sinks.specs.Layout.{line_rest}
use Rattle.dcm_sinks.specs.PlainTexts.{SetOf, ItemsOf, FrontOf, OpenOf, OpenItemOf, is_low, is_value_of, is_open_of}
use Rattle.dcm_sinks.proofs.Dumps.LineParts.{line_in_parts}

-- ---- bytes that designate nothing

abbrev pub Plain : Sets → ℕ → Type 0
Plain sets b = (nat_lt b 0x80 ≡ true) × (is_escape sets b ≡ false)

plain_byte : (sets : Sets) (b : ℕ) → is_plain sets b ≡ true → Plain sets b
plain_byte sets b e =
    let two = and_parts (nat_lt b 0x80) (not (is_escape sets b)) e in
    (two.0, not_true (is_escape sets b) two.1)

-- ---- a whole value

pub line_of_ascii : (d : Dictionary) (mode : Mode) (sets : Sets) (level : ℕ) (tag : Tag) (vr : Vr) (v : List ℕ) → is_decoded vr ≡ true → is_value_of is_plain sets vr v ≡ true
    → text_line d mode sets level tag vr v ≡ leaf_line d mode level tag vr v
line_of_ascii d mode sets level tag vr v is before =
    let same = decoded_as_before mode vr sets v is (implied (is_decoded vr) (list_all (is_plain (sets_for vr sets)) (unpadded vr v)) is before) in
    let start : List ℕ = line_start level tag (letters vr) in
    let n : Length = Known (length v) in
    line_in_parts d level tag (letters vr) (decoded_shortened mode (decoded_display vr sets v)) n (decoded_count vr sets v)
    ∙ ap (λ (z : List ℕ). start ++ (z ++ line_rest d tag n (decoded_count vr sets v))) same.0
    ∙ sym (line_in_parts d level tag (letters vr) (shortened mode (display vr v)) n (decoded_count vr sets v))
    ∙ ap (λ (k : ℕ). line d level tag (letters vr) (shortened mode (display vr v)) n k) same.1

leaf_of_ascii : (d : Dictionary) (mode : Mode) (sets : Sets) (level : ℕ) (tag : Tag) (vr : Vr) (v : List ℕ) → is_value_of is_plain sets vr v ≡ true
    → decoded_line d mode sets level tag vr v ≡ leaf_line d mode level tag vr v
leaf_of_ascii d mode sets level tag vr v before = by_test (is_decoded vr) refl
  where
    by_test : (t : Bool) → is_decoded vr ≡ t → (if t then text_line d mode sets level tag vr v else leaf_line d mode level tag vr v) ≡ leaf_line d mode level tag vr v
    by_test true is = line_of_ascii d mode sets level tag vr v is before
    by_test false is = refl

-- ---- a value that is open

-- each byte is decided at once
-- after the first step, where this was found
step_of : Sets → TextKind → ℕ → Option Found → Run
step_of sets kind b o =
    let s : State = with_bytes (begun sets kind) (b ∷ []) in
    elim o [
      | None ↦ ([], s)
      | Some f ↦ onto (take f.size s.held, f.meaning) (run_by 0 false (behind_found s f))
    ]

one_plain : (sets : Sets) (kind : TextKind) (b : ℕ) → Plain sets b → run false (begun sets kind) (b ∷ []) ≡ (as_itself b ∷ [], begun sets kind)
unfolding run step_of
one_plain sets kind b p = ap (step_of sets kind b) (plain_first sets kind b [] p.0 p.1)

run_none : (sets : Sets) (kind : TextKind) → run false (begun sets kind) [] ≡ ([], begun sets kind)
unfolding run
run_none sets kind = refl

run_plain : (sets : Sets) (kind : TextKind) (t : List ℕ) → list_all (is_plain sets) t ≡ true → run false (begun sets kind) t ≡ (map as_itself t, begun sets kind)
run_plain sets kind [] e = run_none sets kind
run_plain sets kind (b ∷ bs) e =
    let both = and_parts (is_plain sets b) (list_all (is_plain sets) bs) e in
    two_pieces false (begun sets kind) (b ∷ []) bs
    ∙ ap (λ (r : Run). joined r (run false r.1 bs)) (one_plain sets kind b (plain_byte sets b both.0))
    ∙ ap (λ (r : Run). joined (as_itself b ∷ [], begun sets kind) r) (run_plain sets kind bs both.1)

shown_plain : (sets : Sets) (kind : TextKind) (t : List ℕ) → list_all (is_plain sets) t ≡ true → shown_pieces (run false (begun sets kind) t) ≡ escaped t
unfolding dumped
shown_plain sets kind t e =
    ap shown_pieces (run_plain sets kind t e)
    ∙ ap (flat_map dumped_piece) (sym (plain_decoded sets kind t e))
    ∙ plain_dumped sets kind t e

-- by the form in which it is shown
so_far_as : (s : Shape) (vr : Vr) (size : ℕ) (v : List ℕ) → takes_bytes s ≡ true
    → cond (is_identifier s && nat_le size 64) [] (codes "[" ++ escaped v) ≡ shown_so_far s vr size v
so_far_as text vr size v e = refl
so_far_as identifier vr size v e = refl
so_far_as unsigned vr size v e = absurd cc
so_far_as signed vr size v e = absurd cc
so_far_as tags vr size v e = absurd cc
so_far_as hexadecimal vr size v e = absurd cc

so_far_of_ascii : (sets : Sets) (vr : Vr) (size : ℕ) (v : List ℕ) → is_open_of is_plain sets vr v ≡ true → decoded_open_value vr sets size v ≡ shown_so_far (shape vr) vr size v
so_far_of_ascii sets vr size v before = by_test (is_decoded vr) refl
  where
    by_test : (t : Bool) → is_decoded vr ≡ t → (if t then decoded_so_far vr sets size v else shown_so_far (shape vr) vr size v) ≡ shown_so_far (shape vr) vr size v
    by_test true is =
        ap (λ (z : List ℕ). cond (is_named vr size) [] (codes "[" ++ z)) (shown_plain (sets_for vr sets) (kind_of vr) v (implied (is_decoded vr) (list_all (is_plain (sets_for vr sets)) v) is before))
        ∙ ap (λ (x : Bool). cond x [] (codes "[" ++ escaped v)) (named_shape vr size)
        ∙ so_far_as (shape vr) vr size v is
    by_test false is = refl

-- ---- data sets

pub both_lines : (a b c d : List ℕ) → a ≡ b → c ≡ d → a ++ c ≡ b ++ d
both_lines a b c d e f = ap (λ (x : List ℕ). x ++ c) e ∙ ap (λ (x : List ℕ). b ++ x) f

inner_lines : (first last a b c d : List ℕ) → a ≡ b → c ≡ d → ((first ++ a) ++ last) ++ c ≡ ((first ++ b) ++ last) ++ d
inner_lines first last a b c d e f = ap (λ (x : List ℕ). ((first ++ x) ++ last) ++ c) e ∙ ap (λ (x : List ℕ). ((first ++ b) ++ last) ++ x) f

module _ (d : Dictionary) (mode : Mode) where
  mutual
    unfolding SetOf decoded_set dump_set

    set_of_ascii : (sets : Sets) (level : ℕ) (x : Trees) → SetOf is_plain sets x → decoded_set d mode sets level x ≡ dump_set d mode level x
    set_of_ascii sets level no_tree p = refl
    set_of_ascii sets level (leaf tag vr v rest) p =
        both_lines _ _ _ _ (leaf_of_ascii d mode sets level tag vr v p.0) (set_of_ascii (set_by tag vr v sets) level rest p.1)
    set_of_ascii sets level (sequence tag vr declared items rest) p =
        inner_lines (sequence_line d level tag vr declared) (sequence_end_line d level declared) _ _ _ _ (items_of_ascii sets (level + 1) items p.0) (set_of_ascii sets level rest p.1)
    set_of_ascii sets level (fragments tag vr values rest) p =
        ap (λ (z : List ℕ). (fragment_lines d mode level tag vr values ++ sequence_end_line d level Undefined) ++ z) (set_of_ascii sets level rest p)

    items_of_ascii : (sets : Sets) (level : ℕ) (x : Items) → ItemsOf is_plain sets x → decoded_items d mode sets level x ≡ dump_items d mode level x
    items_of_ascii sets level no_item p = refl
    items_of_ascii sets level (item declared set rest) p =
        inner_lines (item_line d level declared) (item_end_line d level declared) _ _ _ _ (set_of_ascii sets (level + 1) set p.0) (items_of_ascii sets level rest p.1)

  mutual
    unfolding FrontOf decoded_front dump_front

    pub front_by_ascii : (sets : Sets) (level : ℕ) (f : Front) → FrontOf is_plain sets f → decoded_front d mode sets level f ≡ dump_front d mode level f
    front_by_ascii sets level (front whole last reached closed) p =
        both_lines _ _ _ _ (set_of_ascii sets level whole p.0) (open_by_ascii (sets_after sets whole) level last p.1)

    open_by_ascii : (sets : Sets) (level : ℕ) (o : OpenTree) → OpenOf is_plain sets o → decoded_open d mode sets level o ≡ dump_open d mode level o
    open_by_ascii sets level nothing_open p = refl
    open_by_ascii sets level (open_leaf tag vr size v) p = ap (open_line mode (line_start level tag (letters vr))) (so_far_of_ascii sets vr size v p)
    open_by_ascii sets level (open_sequence tag vr declared items last) p =
        both_lines _ _ _ _ (ap (λ (z : List ℕ). sequence_line d level tag vr declared ++ z) (items_of_ascii sets (level + 1) items p.0)) (item_by_ascii sets (level + 1) last p.1)
    open_by_ascii sets level (open_fragments tag vr values last) p = refl

    item_by_ascii : (sets : Sets) (level : ℕ) (o : OpenItem) → OpenItemOf is_plain sets o → decoded_open_item d mode sets level o ≡ dump_open_item d mode level o
    item_by_ascii sets level no_open_item p = refl
    item_by_ascii sets level (open_item declared set) p = ap (λ (z : List ℕ). item_line d level declared ++ z) (front_by_ascii sets (level + 1) set p)

pub front_of_ascii : DecodedOfAscii
front_of_ascii d mode sets level f p = front_by_ascii d mode sets level f p

-- ---- texts without any ESC

low_plain : (sets : Sets) (b : ℕ) → is_low sets b ≡ true → is_plain sets b ≡ true
low_plain sets b e =
    let two = and_parts (nat_lt b 0x80) (not (b == 0x1B)) e in
    let low : nat_lt b 0x80 ≡ true = two.0 in
    let none : is_escape sets b ≡ false = ap (λ (t : Bool). t && sets.extended) (not_true (b == 0x1B) two.1) in
    ap (λ (t : Bool). t && not (is_escape sets b)) low ∙ ap not none

all_plain : (sets : Sets) (t : List ℕ) → list_all (is_low sets) t ≡ true → list_all (is_plain sets) t ≡ true
all_plain sets [] e = refl
all_plain sets (b ∷ bs) e =
    let both = and_parts (is_low sets b) (list_all (is_low sets) bs) e in
    ap (λ (t : Bool). t && list_all (is_plain sets) bs) (low_plain sets b both.0) ∙ all_plain sets bs both.1

no_text_or : (a b c : Bool) → (b ≡ true → c ≡ true) → (not a || b) ≡ true → (not a || c) ≡ true
no_text_or true b c f e = f e
no_text_or false b c f e = refl

value_plain : (sets : Sets) (vr : Vr) (v : List ℕ) → is_value_of is_low sets vr v ≡ true → is_value_of is_plain sets vr v ≡ true
value_plain sets vr v e = no_text_or (is_decoded vr) _ _ (all_plain (sets_for vr sets) (unpadded vr v)) e

open_plain : (sets : Sets) (vr : Vr) (v : List ℕ) → is_open_of is_low sets vr v ≡ true → is_open_of is_plain sets vr v ≡ true
open_plain sets vr v e = no_text_or (is_decoded vr) _ _ (all_plain (sets_for vr sets) v) e

mutual
  unfolding SetOf

  set_plain : (sets : Sets) (x : Trees) → SetOf is_low sets x → SetOf is_plain sets x
  set_plain sets no_tree p = tt
  set_plain sets (leaf tag vr v rest) p = (value_plain sets vr v p.0, set_plain (set_by tag vr v sets) rest p.1)
  set_plain sets (sequence tag vr declared items rest) p = (items_plain sets items p.0, set_plain sets rest p.1)
  set_plain sets (fragments tag vr values rest) p = set_plain sets rest p

  items_plain : (sets : Sets) (x : Items) → ItemsOf is_low sets x → ItemsOf is_plain sets x
  items_plain sets no_item p = tt
  items_plain sets (item declared set rest) p = (set_plain sets set p.0, items_plain sets rest p.1)

mutual
  unfolding FrontOf

  front_plain : (sets : Sets) (f : Front) → FrontOf is_low sets f → FrontOf is_plain sets f
  front_plain sets (front whole last reached closed) p = (set_plain sets whole p.0, last_plain (sets_after sets whole) last p.1)

  last_plain : (sets : Sets) (o : OpenTree) → OpenOf is_low sets o → OpenOf is_plain sets o
  last_plain sets nothing_open p = tt
  last_plain sets (open_leaf tag vr size v) p = open_plain sets vr v p
  last_plain sets (open_sequence tag vr declared items last) p = (items_plain sets items p.0, item_plain sets last p.1)
  last_plain sets (open_fragments tag vr values last) p = tt

  item_plain : (sets : Sets) (o : OpenItem) → OpenItemOf is_low sets o → OpenItemOf is_plain sets o
  item_plain sets no_open_item p = tt
  item_plain sets (open_item declared set) p = front_plain sets set p

pub front_of_low : DecodedOfLow
front_of_low d mode sets level f p = front_by_ascii d mode sets level f (front_plain sets f p)
