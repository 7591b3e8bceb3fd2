-- The dump of texts over the atoms of a data set.
use Rattle.std.proofs.Common.{◌≡◌, ◌<◌, ◌≤◌, ℕ, suc, ◌+◌, List, [], ◌∷◌, ◌++◌, length, codes, ap, sym, ◌∙◌, refl, append_assoc, arith, map, flat_map, Bool, true, false, cond, Option, Some, None, subst}
use Rattle.std.specs.Prelude.{fold, if◌then◌else◌, ◌||◌}
use Rattle.std.proofs.lemmas.List.{append-nil}
use Rattle.std.proofs.lemmas.List.Sums.{fold-append}
use Rattle.dcm_lemmas.proofs.Lists.{five_joined}
use Rattle.dcm_base.specs.declared.tag.Tag.{Tag}
use Rattle.dcm_base.specs.declared.vr.Vr.{Vr}
use Rattle.dcm_base.specs.declared.vr.Vr.TheVariants.{OB}
use Rattle.dcm_base.specs.declared.syntax.Syntax.{Syntax}
use Rattle.dcm_base.specs.Tables.Syntax.{Little}
use Rattle.dcm_base.specs.declared.mode.Mode.{Mode}
use Rattle.dcm_base.specs.declared.length.Length.{Length}
use Rattle.dcm_base.specs.declared.length.Length.TheVariants.{Known, Undefined}
use Rattle.dcm_base.specs.declared.form.Form.{Form}
use Rattle.dcm_base.specs.declared.form.Form.TheVariants.{Value as a_value, Sequence as a_sequence, FragmentList as a_fragment_list}
use Rattle.dcm_base.specs.Tables.Representation.{letters}
use Rattle.dcm_base.specs.Tree.Tree.{Trees, no_tree, leaf, sequence, fragments, Items, no_item, item}
use Rattle.dcm_base.specs.Tree.Front.{Front, front, OpenTree, nothing_open, open_leaf, open_sequence, open_fragments, OpenItem, no_open_item, open_item}
use Rattle.dcm_base.specs.Bytes.Spelling.{form, read_as}
use Rattle.dcm_base.specs.Tree.Value.{order}
use Rattle.dcm_base.specs.Dump.ValueText.{shape, shown_so_far}
use Rattle.dcm_base.specs.Dump.Dump.{line_start, line, leaf_line, fragment_line, open_line, sequence_line, item_line, sequence_end_line, item_end_line, open_fragment}
use Rattle.dcm_base.specs.Steps.Atoms.{Atom, opens, value_byte, closes_leaf, opens_item, closes_item, closes_sequence, opens_fragment, ends, fragments_then, ShowTrees, ShowItems, Shows, ShowsOpen, ShowsOpenItem, open_fragment_atoms, MissesFragment, end_atoms}
use Rattle.dcm_base.specs.Steps.Steps.{outputs}
use Rattle.dcm_base.proofs.Conversions.Order.{order_twice, length-order}
use Rattle.dcm_base.proofs.Writes.Runs.{outputs-append}
use Rattle.dcm_base.specs.declared.dictionary.Dictionary.{Dictionary}
use Rattle.dcm_head.specs.declared.head.Head.{Head}
use Rattle.dcm_text.specs.declared.sets.Sets.{Sets}
use Rattle.dcm_value.specs.Progress.{Progress, started, opened}
use Rattle.dcm_value.proofs.Displays.TextSteps.{text_so_far}
use Rattle.dcm_sinks.specs.declared.dump.lines.Owner.TheVariants.{Element, Fragment}
use Rattle.dcm_sinks.specs.DumpSink.{DumpState, dump_step, dump_writes, dump_opens, dump_opens_writes}
use Rattle.dcm_sinks.specs.InForce.{EMPTY, set_by, sets_after}
use Rattle.dcm_sinks.specs.Unknown.{sets_unknown}
use Rattle.dcm_sinks.specs.SettingValue.{ForceState, force_step, entered, with_setting, opens_setting, setting_opened}
use Rattle.dcm_sinks.specs.TextDump.{TextState, is_text, opens_text, text_opens, text_opens_writes, text_step}
use Rattle.dcm_value.specs.DecodedDisplay.{decoded_so_far}
use Rattle.dcm_sinks.specs.DecodedDump.{is_decoded, text_line, decoded_line, decoded_set, decoded_items, decoded_front, decoded_open, decoded_open_item}
use Rattle.dcm_sinks.specs.DecodedSink.{DecodedState, decoded_start, decoded_step, decoded_writes}
use Rattle.dcm_sinks.specs.Laws.{StaysShallow}
use Rattle.dcm_sinks.proofs.Dumps.DataSets.{opening as dump_opening, leaf_dumps, open_same, fragment_dumps, fragment_open, deepens, deeper_level, is_within, set_fits, items_fit, in_list, in_item, open_shallow}
use Rattle.dcm_sinks.proofs.Dumps.OpenLists.{stays_on, stays_opened, stays_bytes, stays_fragments, stays_same, stays_trees, stays_items}
use Rattle.dcm_sinks.proofs.Dumps.ValueBytes.{between, within, takes_all}
use Rattle.dcm_sinks.proofs.Dumps.ValueRuns.{stays}
use Rattle.dcm_sinks.proofs.Dumps.WholeLines.{line_state}
use Rattle.dcm_sinks.proofs.DecodedDumps.Pairs.{decoded_dumps, whole_step, whole_shown, value_step, value_shown, bytes_shown}
use Rattle.dcm_sinks.proofs.DecodedDumps.Settings.{force_at, force_with, leaf_force, bytes_force}
use Rattle.dcm_sinks.proofs.DecodedDumps.TextBytes.{out_of_text, shows_passed}
use Rattle.dcm_sinks.proofs.DecodedDumps.TextRuns.{in_order, text_dumps, text_leaves, text_shown, open_shown, passes_whole, passed_whole, value_passes, value_passed}

-- ---- states between elements

abbrev pub side : TextState → ForceState → DecodedState
side shown force = record { shown = shown; force = force }

abbrev pub at : Dictionary → Mode → List Length → List Sets → Sets → DecodedState
at d mode lengths around sets = side (out_of_text (between d mode lengths)) (force_at sets around)

pub same_side : (x y : DumpState) (f g : ForceState) → x ≡ y → f ≡ g → side (out_of_text x) f ≡ side (out_of_text y) g
same_side x y f g e h = ap (λ (z : DumpState). side (out_of_text z) f) e ∙ ap (side (out_of_text y)) h

-- what was named that is not known has no influence on what is shown
abbrev pub plain : DecodedState → DecodedState
plain s = record s { force = record s.force { unknown = false } }

pub plain_step : (s : DecodedState) (a : Atom) → plain (decoded_step (plain s) a) ≡ plain (decoded_step s a)
plain_step s (opens tag vr declared y) = refl
plain_step s (value_byte b) = refl
plain_step s closes_leaf = refl
plain_step s (opens_item declared) = refl
plain_step s closes_item = refl
plain_step s closes_sequence = refl
plain_step s (opens_fragment size) = refl
plain_step s ends = refl

shown_plain : (s : DecodedState) (atoms : List Atom) → decoded_dumps s atoms ≡ decoded_dumps (plain s) atoms
shown_plain s [] = refl
shown_plain s (a ∷ atoms) =
    ap (λ (xs : List ℕ). decoded_writes s a ++ xs)
    (shown_plain (decoded_step s a) atoms ∙ sym (ap (λ (x : DecodedState). decoded_dumps x atoms) (plain_step s a)) ∙ sym (shown_plain (decoded_step (plain s) a) atoms))

-- one list of atoms and another
both : (first others : List Atom) (s t : DecodedState) (line : List ℕ) → decoded_dumps s first ≡ line → fold decoded_step s first ≡ t
    → decoded_dumps s (first ++ others) ≡ line ++ decoded_dumps t others
both first others s t line e f =
    outputs-append decoded_step decoded_writes s first others
    ∙ ap (λ (xs : List ℕ). xs ++ decoded_dumps (fold decoded_step s first) others) e
    ∙ ap (λ (x : DecodedState). line ++ decoded_dumps x others) f

-- an opening, of which something is shown
opened_as : (s t : DecodedState) (a : Atom) (line : List ℕ) (others : List Atom) → decoded_writes s a ≡ line → decoded_step s a ≡ t
    → decoded_dumps s (a ∷ others) ≡ line ++ decoded_dumps t others
opened_as s t a line others e f =
    ap (λ (xs : List ℕ). xs ++ decoded_dumps (decoded_step s a) others) e ∙ ap (λ (x : DecodedState). line ++ decoded_dumps x others) f

module _ (d : Dictionary) (mode : Mode) where
  abbrev now : List Length → List Sets → Sets → DecodedState
  now lengths around sets = at d mode lengths around sets

  -- ---- a leaf

  abbrev leaf_atoms : Tag → Vr → List ℕ → Syntax → List Atom
  leaf_atoms tag vr value s = opens tag vr (Known (length value)) s ∷ (map value_byte (order s vr value) ++ closes_leaf ∷ [])

  abbrev head_of : Tag → Vr → List ℕ → Head
  head_of tag vr value = record { tag = tag; vr = vr; length = Known (length value) }

  pub reads_text : (lengths : List Length) (tag : Tag) (vr : Vr) (declared : Length) (s : Syntax) (t : Bool) → form s (read_as s tag vr) declared ≡ a_value → is_decoded vr ≡ t
      → opens_text (out_of_text (between d mode lengths)) tag vr declared s ≡ t
  reads_text lengths tag vr declared s t e f = ap (λ (x : Form). is_text false x vr) e ∙ f

  module _ (lengths : List Length) (around : List Sets) (sets : Sets) (tag : Tag) (vr : Vr) (value : List ℕ) (s : Syntax) (e : form s (read_as s tag vr) (Known (length value)) ≡ a_value) where
    abbrev state : TextState
    state = out_of_text (between d mode lengths)

    abbrev raw : List ℕ
    raw = order s vr value

    sized : length value ≡ length raw
    sized = sym (length-order s vr value)

    pub leaf_state : fold dump_step (between d mode lengths) (leaf_atoms tag vr value s) ≡ between d mode lengths
    leaf_state = sym (line_state (between d mode lengths) (head_of tag vr value) s raw refl (record { length_is = ap (λ (n : ℕ). Known n) sized; form_is = e }))

    -- a text whose bytes are in this order
    as_text : is_decoded vr ≡ true → raw ≡ value
    as_text is = in_order s vr value is

    leaf_shown : (t : Bool) → is_decoded vr ≡ t → text_dumps sets state (leaf_atoms tag vr value s) ≡ (if t then text_line d mode sets (length lengths) tag vr value else leaf_line d mode (length lengths) tag vr value)
    leaf_shown true is =
        ap (λ (v : List ℕ). text_dumps sets state (opens tag vr (Known (length value)) s ∷ (map value_byte v ++ closes_leaf ∷ []))) (as_text is)
        ∙ text_shown sets state tag vr s value (reads_text lengths tag vr (Known (length value)) s true e is)
    leaf_shown false is =
        passed_whole sets state tag vr (Known (length value)) s raw (reads_text lengths tag vr (Known (length value)) s false e is)
        ∙ leaf_dumps d mode lengths tag vr value s [] e
        ∙ append-nil (leaf_line d mode (length lengths) tag vr value)

    leaf_left : (t : Bool) → is_decoded vr ≡ t → fold (text_step sets) state (leaf_atoms tag vr value s) ≡ state
    leaf_left true is =
        ap (λ (v : List ℕ). fold (text_step sets) state (opens tag vr (Known (length value)) s ∷ (map value_byte v ++ closes_leaf ∷ []))) (as_text is)
        ∙ text_leaves sets state tag vr s value (reads_text lengths tag vr (Known (length value)) s true e is)
    leaf_left false is =
        passes_whole sets state tag vr (Known (length value)) s raw (reads_text lengths tag vr (Known (length value)) s false e is)
        ∙ ap out_of_text leaf_state

    abbrev pub left : DecodedState
    left = side state (force_with (sets_unknown tag vr value || false) (set_by tag vr value sets) around)

    pub leaf_step : fold decoded_step (now lengths around sets) (leaf_atoms tag vr value s) ≡ left
    leaf_step =
        sym (whole_step (now lengths around sets) (head_of tag vr value) s raw)
        ∙ ap (λ (x : TextState). side x (fold force_step (force_at sets around) (leaf_atoms tag vr value s))) (leaf_left (is_decoded vr) refl)
        ∙ ap (side state) (leaf_force false sets around tag vr value s e)

    pub leaf_decoded : (others : List Atom) → decoded_dumps (at d mode lengths around sets) (opens tag vr (Known (length value)) s ∷ (map value_byte (order s vr value) ++ closes_leaf ∷ others))
        ≡ decoded_line d mode sets (length lengths) tag vr value ++ decoded_dumps (at d mode lengths around (set_by tag vr value sets)) others
    leaf_decoded others =
        ap (λ (xs : List Atom). decoded_dumps (now lengths around sets) (opens tag vr (Known (length value)) s ∷ xs)) (sym (append_assoc (map value_byte raw) (closes_leaf ∷ []) others))
        ∙ both (leaf_atoms tag vr value s) others (now lengths around sets) left (decoded_line d mode sets (length lengths) tag vr value)
        (sym (whole_shown (now lengths around sets) (head_of tag vr value) s raw) ∙ leaf_shown (is_decoded vr) refl) leaf_step
        ∙ ap (λ (xs : List ℕ). decoded_line d mode sets (length lengths) tag vr value ++ xs) (shown_plain left others)

  -- ---- fragments

  fragment_room : (v : List ℕ) → (opened (started OB Little (length v) mode)).seen + length v ≤ (opened (started OB Little (length v) mode)).size
  unfolding opened
  fragment_room v = omega arith

  abbrev fragment_atoms : List ℕ → List Atom
  fragment_atoms v = opens_fragment (length v) ∷ (map value_byte v ++ closes_leaf ∷ [])

  pub fragment_state : (lengths : List Length) (v : List ℕ) → fold dump_step (between d mode lengths) (fragment_atoms v) ≡ between d mode lengths
  fragment_state lengths v =
      let p : Progress = opened (started OB Little (length v) mode) in
      fold-append dump_step (within d mode lengths Fragment p) (map value_byte v) (closes_leaf ∷ [])
      ∙ ap (λ (t : DumpState). dump_step t closes_leaf) (takes_all d mode lengths Fragment p v (fragment_room v))

  pub fragment_left : (lengths : List Length) (around : List Sets) (sets : Sets) (v : List ℕ) → fold decoded_step (at d mode lengths around sets) (opens_fragment (length v) ∷ (map value_byte v ++ closes_leaf ∷ [])) ≡ at d mode lengths around sets
  fragment_left lengths around sets v =
      let a : Atom = opens_fragment (length v) in
      sym (value_step (decoded_step (now lengths around sets) a) v)
      ∙ ap (λ (x : TextState). side x (fold force_step (force_at sets around) (map value_byte v ++ closes_leaf ∷ []))) (value_passes sets (dump_step (between d mode lengths) a) v)
      ∙ same_side _ _ _ _ (fragment_state lengths v) (bytes_force false sets around v)

  fragment_decoded : (lengths : List Length) (around : List Sets) (sets : Sets) (v : List ℕ) (others : List Atom)
      → decoded_dumps (at d mode lengths around sets) (opens_fragment (length v) ∷ (map value_byte v ++ closes_leaf ∷ others)) ≡ fragment_line d mode (length lengths) v ++ decoded_dumps (at d mode lengths around sets) others
  fragment_decoded lengths around sets v others =
      let a : Atom = opens_fragment (length v) in
      let s : DecodedState = now lengths around sets in
      ap (λ (xs : List Atom). decoded_dumps s (a ∷ xs)) (sym (append_assoc (map value_byte v) (closes_leaf ∷ []) others))
      ∙ both (fragment_atoms v) others s s (fragment_line d mode (length lengths) v)
      (ap (λ (xs : List ℕ). dump_writes (between d mode lengths) a ++ xs) (sym (value_shown (decoded_step s a) v) ∙ value_passed sets (dump_step (between d mode lengths) a) v)
      ∙ fragment_dumps d mode lengths v []
      ∙ append-nil (fragment_line d mode (length lengths) v))
      (fragment_left lengths around sets v)

  fragments_decoded : (lengths : List Length) (around : List Sets) (sets : Sets) (values : List (List ℕ)) (others : List Atom)
      → decoded_dumps (at d mode lengths around sets) (fragments_then values others) ≡ flat_map (fragment_line d mode (length lengths)) values ++ decoded_dumps (at d mode lengths around sets) others
  unfolding fragments_then
  fragments_decoded lengths around sets [] others = refl
  fragments_decoded lengths around sets (value ∷ rest) others =
      fragment_decoded lengths around sets value (fragments_then rest others)
      ∙ ap (λ (z : List ℕ). fragment_line d mode (length lengths) value ++ z) (fragments_decoded lengths around sets rest others)
      ∙ sym (append_assoc (fragment_line d mode (length lengths) value) _ _)

  -- ---- openings

  module _ (lengths : List Length) (around : List Sets) (sets : Sets) (tag : Tag) (vr : Vr) (declared : Length) (s : Syntax) where
    abbrev opening : Atom
    opening = opens tag vr declared s

    abbrev shape_of : Form
    shape_of = form s (read_as s tag vr) declared

    -- an element that opens a list leads there
    pub list_step : (f : Form) → form s (read_as s tag vr) declared ≡ f → is_text false f vr ≡ false → opens_setting f tag vr ≡ false
        → dump_opens f (between d mode lengths) tag vr declared s ≡ between d mode (declared ∷ lengths) → decoded_step (at d mode lengths around sets) (opens tag vr declared s) ≡ at d mode (declared ∷ lengths) around sets
    list_step f e no_text no_setting leads =
        let st : TextState = out_of_text (between d mode lengths) in
        ap (λ (t : Bool). side (text_opens t sets st tag vr declared s) (force_step (force_at sets around) opening)) (ap (λ (x : Form). is_text false x vr) e ∙ no_text)
        ∙ same_side _ _ _ _ (ap (λ (x : Form). dump_opens x (between d mode lengths) tag vr declared s) e ∙ leads)
        (ap (λ (x : Form). with_setting (force_at sets around) (setting_opened (opens_setting x tag vr))) e ∙ ap (λ (t : Bool). with_setting (force_at sets around) (setting_opened t)) no_setting)

    -- and shows it
    list_opens : (f : Form) (line : List ℕ) (contents : List Atom) → shape_of ≡ f → is_text false f vr ≡ false → opens_setting f tag vr ≡ false
        → dump_opens_writes f (between d mode lengths) tag vr declared s ≡ line → dump_opens f (between d mode lengths) tag vr declared s ≡ between d mode (declared ∷ lengths)
        → decoded_dumps (at d mode lengths around sets) (opens tag vr declared s ∷ contents) ≡ line ++ decoded_dumps (at d mode (declared ∷ lengths) around sets) contents
    list_opens f line contents e no_text no_setting shows leads =
        let st : TextState = out_of_text (between d mode lengths) in
        let none : opens_text st tag vr declared s ≡ false = ap (λ (x : Form). is_text false x vr) e ∙ no_text in
        opened_as (now lengths around sets) (now (declared ∷ lengths) around sets) opening line contents
        (ap (λ (t : Bool). text_opens_writes t sets st tag vr declared s) none ∙ ap (λ (x : Form). dump_opens_writes x (between d mode lengths) tag vr declared s) e ∙ shows)
        (list_step f e no_text no_setting leads)

  sequence_opens : (n : ℕ) (lengths : List Length) (around : List Sets) (sets : Sets) (tag : Tag) (vr : Vr) (declared : Length) (s : Syntax) (contents : List Atom) → form s (read_as s tag vr) declared ≡ a_sequence → length lengths ≤ n + n → StaysShallow (suc n) contents
      → decoded_dumps (at d mode lengths around sets) (opens tag vr declared s ∷ contents) ≡ sequence_line d (length lengths) tag vr declared ++ decoded_dumps (at d mode (declared ∷ lengths) around sets) contents
  sequence_opens n lengths around sets tag vr declared s contents f e h =
      list_opens lengths around sets tag vr declared s a_sequence _ contents f refl refl refl (deepens d mode lengths declared (set_fits d mode n (length lengths) e (open_shallow d mode (suc n) contents h)))

  fragments_open : (n : ℕ) (lengths : List Length) (around : List Sets) (sets : Sets) (tag : Tag) (vr : Vr) (s : Syntax) (contents : List Atom) → form s (read_as s tag vr) Undefined ≡ a_fragment_list → length lengths ≤ n + n → StaysShallow (suc n) contents
      → decoded_dumps (at d mode lengths around sets) (opens tag vr Undefined s ∷ contents)
      ≡ line d (length lengths) tag (letters vr) (codes "(PixelSequence)") Undefined 1 ++ decoded_dumps (at d mode (Undefined ∷ lengths) around sets) contents
  fragments_open n lengths around sets tag vr s contents f e h =
      list_opens lengths around sets tag vr Undefined s a_fragment_list _ contents f refl refl refl (deepens d mode lengths Undefined (set_fits d mode n (length lengths) e (open_shallow d mode (suc n) contents h)))

  -- what an item begins with
  pub enters : (sets : Sets) (around : List Sets) → length around < 128 → entered sets around ≡ sets ∷ around
  enters sets around h = ap (λ (t : Bool). cond t (sets ∷ around) around) (is_within (length around) h)

  item_opens : (n : ℕ) (lengths : List Length) (around : List Sets) (sets : Sets) (declared : Length) (contents : List Atom) → length lengths + 1 ≤ n + n → length around + 1 ≤ n → StaysShallow n contents
      → decoded_dumps (at d mode lengths around sets) (opens_item declared ∷ contents) ≡ item_line d (length lengths) declared ++ decoded_dumps (at d mode (declared ∷ lengths) (sets ∷ around) sets) contents
  item_opens n lengths around sets declared contents e k h =
      let shallow : n ≤ 64 = open_shallow d mode n contents h in
      opened_as (now lengths around sets) (now (declared ∷ lengths) (sets ∷ around) sets) (opens_item declared) (item_line d (length lengths) declared) contents refl
      (same_side _ _ _ _ (deepens d mode lengths declared (items_fit d mode n (length lengths) e shallow)) (ap (λ (x : List Sets). force_at sets x) (enters sets around (omega (arith, k, shallow)))))

  one_more : (n : ℕ) (sets : Sets) (around : List Sets) → length around + 1 ≤ n → length (sets ∷ around) ≤ n
  one_more n sets around k = omega (arith, k)

  in_items : (n : ℕ) (around : List Sets) → length around ≤ n → length around + 1 ≤ suc n
  in_items n around k = omega (arith, k)

  -- ---- a data set

  mutual
    unfolding ShowTrees decoded_set sets_after

    pub trees_decoded : (n : ℕ) (lengths : List Length) (around : List Sets) (sets : Sets) (x : Trees) (atoms after : List Atom) → length lengths ≤ n + n → length around ≤ n → StaysShallow n atoms → ShowTrees x atoms after
        → decoded_dumps (at d mode lengths around sets) atoms ≡ decoded_set d mode sets (length lengths) x ++ decoded_dumps (at d mode lengths around (sets_after sets x)) after
    trees_decoded n lengths around sets no_tree atoms after e k h w = ap (decoded_dumps (now lengths around sets)) w
    trees_decoded n lengths around sets (leaf tag vr value rest) atoms after e k h w =
        let opened_h = stays_opened n a_value tag vr (Known (length value)) w.0 (map value_byte (order w.0 vr value) ++ closes_leaf ∷ w.1) w.2 (stays_same n atoms _ w.3 h) in
        let rest_h : StaysShallow n w.1 = stays_on n closes_leaf w.1 (stays_bytes n (order w.0 vr value) (closes_leaf ∷ w.1) opened_h) in
        ap (decoded_dumps (now lengths around sets)) w.3
        ∙ leaf_decoded lengths around sets tag vr value w.0 w.2 w.1
        ∙ ap (λ (z : List ℕ). decoded_line d mode sets (length lengths) tag vr value ++ z) (trees_decoded n lengths around (set_by tag vr value sets) rest w.1 after e k rest_h w.4)
        ∙ sym (append_assoc (decoded_line d mode sets (length lengths) tag vr value) _ _)
    trees_decoded n lengths around sets (sequence tag vr declared items rest) atoms after e k h w =
        let level : ℕ = length lengths in
        let first : List ℕ = sequence_line d level tag vr declared in
        let last : List ℕ = sequence_end_line d level declared in
        let in_h : StaysShallow (suc n) w.1 = stays_opened n a_sequence tag vr declared w.0 w.1 w.3 (stays_same n atoms _ w.4 h) in
        let rest_h : StaysShallow n w.2 = stays_on (suc n) closes_sequence w.2 (stays_items (suc n) items w.1 (closes_sequence ∷ w.2) w.5 in_h) in
        ap (decoded_dumps (now lengths around sets)) w.4
        ∙ sequence_opens n lengths around sets tag vr declared w.0 w.1 w.3 e in_h
        ∙ ap (λ (z : List ℕ). first ++ z) (items_decoded (suc n) (declared ∷ lengths) around sets items w.1 (closes_sequence ∷ w.2) (in_list d mode n declared lengths e) (in_items n around k) in_h w.5)
        ∙ ap (λ (m : ℕ). first ++ (decoded_items d mode sets m items ++ (last ++ decoded_dumps (now lengths around sets) w.2))) (deeper_level declared lengths)
        ∙ ap (λ (z : List ℕ). first ++ (decoded_items d mode sets (level + 1) items ++ (last ++ z))) (trees_decoded n lengths around sets rest w.2 after e k rest_h w.6)
        ∙ five_joined first (decoded_items d mode sets (level + 1) items) last (decoded_set d mode sets level rest) (decoded_dumps (now lengths around (sets_after sets rest)) after)
    trees_decoded n lengths around sets (fragments tag vr values rest) atoms after e k h w =
        let level : ℕ = length lengths in
        let first : List ℕ = line d level tag (letters vr) (codes "(PixelSequence)") Undefined 1 in
        let last : List ℕ = sequence_end_line d level Undefined in
        let in_h : StaysShallow (suc n) (fragments_then values (closes_sequence ∷ w.1)) = stays_opened n a_fragment_list tag vr Undefined w.0 (fragments_then values (closes_sequence ∷ w.1)) w.2 (stays_same n atoms _ w.3 h) in
        let rest_h : StaysShallow n w.1 = stays_on (suc n) closes_sequence w.1 (stays_fragments (suc n) values (closes_sequence ∷ w.1) in_h) in
        ap (decoded_dumps (now lengths around sets)) w.3
        ∙ fragments_open n lengths around sets tag vr w.0 (fragments_then values (closes_sequence ∷ w.1)) w.2 e in_h
        ∙ ap (λ (z : List ℕ). first ++ z) (fragments_decoded (Undefined ∷ lengths) around sets values (closes_sequence ∷ w.1))
        ∙ ap (λ (m : ℕ). first ++ (flat_map (fragment_line d mode m) values ++ (last ++ decoded_dumps (now lengths around sets) w.1))) (deeper_level Undefined lengths)
        ∙ ap (λ (z : List ℕ). first ++ (flat_map (fragment_line d mode (level + 1)) values ++ (last ++ z))) (trees_decoded n lengths around sets rest w.1 after e k rest_h w.4)
        ∙ five_joined first (flat_map (fragment_line d mode (level + 1)) values) last (decoded_set d mode sets level rest) (decoded_dumps (now lengths around (sets_after sets rest)) after)

    items_decoded : (n : ℕ) (lengths : List Length) (around : List Sets) (sets : Sets) (x : Items) (atoms after : List Atom) → length lengths + 1 ≤ n + n → length around + 1 ≤ n → StaysShallow n atoms → ShowItems x atoms after
        → decoded_dumps (at d mode lengths around sets) atoms ≡ decoded_items d mode sets (length lengths) x ++ decoded_dumps (at d mode lengths around sets) after
    items_decoded n lengths around sets no_item atoms after e k h w = ap (decoded_dumps (now lengths around sets)) w
    items_decoded n lengths around sets (item declared set rest) atoms after e k h w =
        let level : ℕ = length lengths in
        let first : List ℕ = item_line d level declared in
        let last : List ℕ = item_end_line d level declared in
        let in_h : StaysShallow n w.0 = stays_on n (opens_item declared) w.0 (stays_same n atoms _ w.2 h) in
        let rest_h : StaysShallow n w.1 = stays_on n closes_item w.1 (stays_trees n set w.0 (closes_item ∷ w.1) w.3 in_h) in
        ap (decoded_dumps (now lengths around sets)) w.2
        ∙ item_opens n lengths around sets declared w.0 e k in_h
        ∙ ap (λ (z : List ℕ). first ++ z) (trees_decoded n (declared ∷ lengths) (sets ∷ around) sets set w.0 (closes_item ∷ w.1) (in_item d mode n declared lengths e) (one_more n sets around k) in_h w.3)
        ∙ ap (λ (m : ℕ). first ++ (decoded_set d mode sets m set ++ (last ++ decoded_dumps (now lengths around sets) w.1))) (deeper_level declared lengths)
        ∙ ap (λ (z : List ℕ). first ++ (decoded_set d mode sets (level + 1) set ++ (last ++ z))) (items_decoded n lengths around sets rest w.1 after e k rest_h w.4)
        ∙ five_joined first (decoded_set d mode sets (level + 1) set) last (decoded_items d mode sets level rest) (decoded_dumps (now lengths around sets) after)

  -- ---- what stands open

  -- nothing ends, or the end of the data set shows nothing
  nothing_decoded : (lengths : List Length) (around : List Sets) (sets : Sets) (closed : Bool) → decoded_dumps (at d mode lengths around sets) (end_atoms closed) ≡ []
  nothing_decoded lengths around sets true = refl
  nothing_decoded lengths around sets false = refl

  -- bytes that pass by
  pub bytes_passed : (l : DumpState) (force : ForceState) (v : List ℕ) → decoded_dumps (side (out_of_text l) force) (map value_byte v) ≡ outputs dump_step dump_writes l (map value_byte v)
  bytes_passed l force v = sym (bytes_shown (side (out_of_text l) force) v) ∙ shows_passed force.sets l v

  fragment_open_decoded : (lengths : List Length) (around : List Sets) (sets : Sets) (last : Option (ℕ × List ℕ)) → MissesFragment last → decoded_dumps (at d mode lengths around sets) (open_fragment_atoms last) ≡ open_fragment mode (length lengths) last
  fragment_open_decoded lengths around sets None h = refl
  fragment_open_decoded lengths around sets (Some f) h =
      let a : Atom = opens_fragment f.0 in
      ap (λ (xs : List ℕ). dump_writes (between d mode lengths) a ++ xs) (bytes_passed (dump_step (between d mode lengths) a) (force_at sets around) f.1)
      ∙ fragment_open d mode lengths (Some f) h

  -- a value that is no text
  leaf_stays : (lengths : List Length) (tag : Tag) (vr : Vr) (size : ℕ) (value : List ℕ) (s : Syntax) → form s (read_as s tag vr) (Known size) ≡ a_value → length value < size
      → outputs dump_step dump_writes (between d mode lengths) (opens tag vr (Known size) s ∷ map value_byte (order s vr value)) ≡ open_line mode (line_start (length lengths) tag (letters vr)) (shown_so_far (shape vr) vr size value)
  leaf_stays lengths tag vr size value s e less =
      let raw : List ℕ = order s vr value in
      let start : List ℕ = line_start (length lengths) tag (letters vr) in
      let misses : length raw < size = subst (λ (n : ℕ). n < size) (sym (length-order s vr value)) less in
      dump_opening d mode lengths (form s (read_as s tag vr) (Known size)) a_value tag vr (Known size) s (map value_byte raw) e
      ∙ stays d mode lengths (Element tag vr) vr s size raw (omega (arith, misses))
      ∙ ap (open_line mode start) (text_so_far vr s size mode raw misses)
      ∙ open_same mode start (shown_so_far (shape vr) vr size (order s vr raw))
      ∙ ap (λ (v : List ℕ). open_line mode start (shown_so_far (shape vr) vr size v)) (order_twice s vr value)

  leaf_open : (lengths : List Length) (around : List Sets) (sets : Sets) (tag : Tag) (vr : Vr) (size : ℕ) (value : List ℕ) (s : Syntax) (t : Bool) → form s (read_as s tag vr) (Known size) ≡ a_value → length value < size → is_decoded vr ≡ t
      → decoded_dumps (at d mode lengths around sets) (opens tag vr (Known size) s ∷ map value_byte (order s vr value)) ≡ open_line mode (line_start (length lengths) tag (letters vr)) (if t then decoded_so_far vr sets size value else shown_so_far (shape vr) vr size value)
  leaf_open lengths around sets tag vr size value s true e less is =
      let a : Atom = opens tag vr (Known size) s in
      let st : DecodedState = now lengths around sets in
      ap (λ (v : List ℕ). decoded_dumps st (a ∷ map value_byte v)) (in_order s vr value is)
      ∙ ap (λ (xs : List ℕ). decoded_writes st a ++ xs) (sym (bytes_shown (decoded_step st a) value))
      ∙ open_shown sets (out_of_text (between d mode lengths)) tag vr s value size less (reads_text lengths tag vr (Known size) s true e is)
  leaf_open lengths around sets tag vr size value s false e less is =
      let a : Atom = opens tag vr (Known size) s in
      let st : TextState = out_of_text (between d mode lengths) in
      let force : ForceState = force_step (force_at sets around) a in
      ap (λ (x : Bool). text_opens_writes x sets st tag vr (Known size) s ++ decoded_dumps (side (text_opens x sets st tag vr (Known size) s) force) (map value_byte (order s vr value))) (reads_text lengths tag vr (Known size) s false e is)
      ∙ ap (λ (xs : List ℕ). dump_writes (between d mode lengths) a ++ xs) (bytes_passed (dump_step (between d mode lengths) a) force (order s vr value))
      ∙ leaf_stays lengths tag vr size value s e less

  mutual
    unfolding Shows decoded_front

    pub front_decoded : (n : ℕ) (lengths : List Length) (around : List Sets) (sets : Sets) (f : Front) (atoms : List Atom) → length lengths ≤ n + n → length around ≤ n → StaysShallow n atoms → Shows f atoms
        → decoded_dumps (at d mode lengths around sets) atoms ≡ decoded_front d mode sets (length lengths) f
    front_decoded n lengths around sets (front whole open_tree reached closed) atoms e k h w =
        trees_decoded n lengths around sets whole atoms w.0 e k h w.1
        ∙ ap (λ (z : List ℕ). decoded_set d mode sets (length lengths) whole ++ z) (open_decoded n lengths around (sets_after sets whole) open_tree closed w.0 e k (stays_trees n whole atoms w.0 w.1 h) w.2)

    pub open_decoded : (n : ℕ) (lengths : List Length) (around : List Sets) (sets : Sets) (o : OpenTree) (closed : Bool) (atoms : List Atom) → length lengths ≤ n + n → length around ≤ n → StaysShallow n atoms → ShowsOpen o (end_atoms closed) atoms
        → decoded_dumps (at d mode lengths around sets) atoms ≡ decoded_open d mode sets (length lengths) o
    open_decoded n lengths around sets nothing_open closed atoms e k h w = ap (decoded_dumps (now lengths around sets)) w ∙ nothing_decoded lengths around sets closed
    open_decoded n lengths around sets (open_leaf tag vr size value) closed atoms e k h w =
        ap (decoded_dumps (now lengths around sets)) w.3
        ∙ leaf_open lengths around sets tag vr size value w.0 (is_decoded vr) w.1 w.2 refl
    open_decoded n lengths around sets (open_sequence tag vr declared items last) closed atoms e k h w =
        let level : ℕ = length lengths in
        let first : List ℕ = sequence_line d level tag vr declared in
        let in_h : StaysShallow (suc n) w.1 = stays_opened n a_sequence tag vr declared w.0 w.1 w.3 (stays_same n atoms _ w.4 h) in
        let last_h : StaysShallow (suc n) w.2 = stays_items (suc n) items w.1 w.2 w.5 in_h in
        ap (decoded_dumps (now lengths around sets)) w.4
        ∙ sequence_opens n lengths around sets tag vr declared w.0 w.1 w.3 e in_h
        ∙ ap (λ (z : List ℕ). first ++ z) (items_decoded (suc n) (declared ∷ lengths) around sets items w.1 w.2 (in_list d mode n declared lengths e) (in_items n around k) in_h w.5)
        ∙ ap (λ (z : List ℕ). first ++ (decoded_items d mode sets (length (declared ∷ lengths)) items ++ z)) (open_item_decoded (suc n) (declared ∷ lengths) around sets last w.2 (in_list d mode n declared lengths e) (in_items n around k) last_h w.6)
        ∙ ap (λ (m : ℕ). first ++ (decoded_items d mode sets m items ++ decoded_open_item d mode sets m last)) (deeper_level declared lengths)
        ∙ sym (append_assoc first _ _)
    open_decoded n lengths around sets (open_fragments tag vr values last) closed atoms e k h w =
        let level : ℕ = length lengths in
        let first : List ℕ = line d level tag (letters vr) (codes "(PixelSequence)") Undefined 1 in
        let contents : List Atom = fragments_then values (open_fragment_atoms last) in
        let in_h : StaysShallow (suc n) contents = stays_opened n a_fragment_list tag vr Undefined w.0 contents w.1 (stays_same n atoms _ w.3 h) in
        ap (decoded_dumps (now lengths around sets)) w.3
        ∙ fragments_open n lengths around sets tag vr w.0 contents w.1 e in_h
        ∙ ap (λ (z : List ℕ). first ++ z) (fragments_decoded (Undefined ∷ lengths) around sets values (open_fragment_atoms last))
        ∙ ap (λ (z : List ℕ). first ++ (flat_map (fragment_line d mode (length (Undefined ∷ lengths))) values ++ z)) (fragment_open_decoded (Undefined ∷ lengths) around sets last w.2)
        ∙ ap (λ (m : ℕ). first ++ (flat_map (fragment_line d mode m) values ++ open_fragment mode m last)) (deeper_level Undefined lengths)
        ∙ sym (append_assoc first _ _)

    open_item_decoded : (n : ℕ) (lengths : List Length) (around : List Sets) (sets : Sets) (o : OpenItem) (atoms : List Atom) → length lengths + 1 ≤ n + n → length around + 1 ≤ n → StaysShallow n atoms → ShowsOpenItem o atoms
        → decoded_dumps (at d mode lengths around sets) atoms ≡ decoded_open_item d mode sets (length lengths) o
    open_item_decoded n lengths around sets no_open_item atoms e k h w = ap (decoded_dumps (now lengths around sets)) w
    open_item_decoded n lengths around sets (open_item declared set) atoms e k h w =
        let first : List ℕ = item_line d (length lengths) declared in
        let in_h : StaysShallow n w.0 = stays_on n (opens_item declared) w.0 (stays_same n atoms _ w.1 h) in
        ap (decoded_dumps (now lengths around sets)) w.1
        ∙ item_opens n lengths around sets declared w.0 e k in_h
        ∙ ap (λ (z : List ℕ). first ++ z) (front_decoded n (declared ∷ lengths) (sets ∷ around) sets set w.0 (in_item d mode n declared lengths e) (one_more n sets around k) in_h w.3)
        ∙ ap (λ (m : ℕ). first ++ decoded_front d mode sets m set) (deeper_level declared lengths)

pub decoded_dump_steps : (d : Dictionary) (mode : Mode) (f : Front) (atoms : List Atom) → StaysShallow 0 atoms → Shows f atoms → decoded_dumps (decoded_start d mode) atoms ≡ decoded_front d mode EMPTY 0 f
decoded_dump_steps d mode f atoms h w = front_decoded d mode 0 [] [] EMPTY f atoms (omega arith) (omega arith) h w
