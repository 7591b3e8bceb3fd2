-- What the sink makes of the atoms of a data set: those of what its elements become, with what says what was done.
use Rattle.std.proofs.Common.{◌≡◌, ◌≤◌, ℕ, suc, List, [], ◌∷◌, ◌++◌, length, map, Option, Some, None, Bool, true, false, refl, sym, ap, subst, ◌∙◌, arith, append_assoc}
use Rattle.std.specs.Prelude.{if◌then◌else◌, codes}
use Rattle.dcm_base.specs.declared.tag.Tag.{Tag}
use Rattle.dcm_base.specs.declared.vr.Vr.{Vr}
use Rattle.dcm_base.specs.declared.vr.Vr.TheVariants.{CS, LO, SH, SQ}
use Rattle.dcm_base.specs.Tables.Syntax.{Little}
use Rattle.dcm_base.specs.declared.length.Length.TheVariants.{Known, Undefined}
use Rattle.dcm_base.specs.declared.form.Form.TheVariants.{Value as a_value, Sequence as a_sequence, FragmentList as a_fragment_list}
use Rattle.dcm_base.specs.Bytes.Spelling.{form, read_as, last_tag}
use Rattle.dcm_base.specs.Tree.Tree.{Trees, no_tree, leaf, sequence, fragments, Items, no_item, item, then_trees}
use Rattle.dcm_base.specs.Tree.Value.{order}
use Rattle.dcm_base.specs.Steps.Atoms.{Atom, opens, value_byte, closes_leaf, opens_item, closes_item, closes_sequence, fragments_then, ShowTrees, ShowItems}
use Rattle.dcm_sinks.proofs.Dumps.OpenLists.{stays_bytes, stays_on, stays_same}
use Rattle.dcm_sinks.specs.Laws.{StaysShallow}
use Rattle.dcm_stream.specs.Tokens.{leaf_atoms}
use Rattle.dcm_deid.specs.MadeNew.{made_new}
use Rattle.dcm_deid.specs.declared.deidentifier.Seen.{Seen}
use Rattle.dcm_deid.specs.declared.fate.Options.{Options}
use Rattle.dcm_deid.specs.declared.fate.Depth.TheVariants.{Inside}
use Rattle.dcm_deid.specs.declared.fate.ReadAs.TheVariants.{AsBytes, AsItems}
use Rattle.dcm_deid.specs.Fate.{fate_as, are_left}
use Rattle.dcm_deid.specs.Deidentify.{value_by, leaf_by, sequence_by, fragments_by, by_fate, items_by_fate}
use Rattle.dcm_deid.specs.Saying.{tag_at, code_item, code_if, methods, said, dates_became, dates_code, dates_meaning}
use Rattle.dcm_deid.specs.DeidentifySink.{nothing_seen, depth_of, head_by, is_due, atoms_if, said_between, said_before, removed_due, method_due, codes_due, dates_due, code_atoms, code_atoms_if, method_atoms, methods_said, dates_said}
use Rattle.dcm_deid.proofs.Dropped.{at, place_at, drop_items, drop_fragments, stays_here, head_stays, fragments_stay, trees_stay, items_stay, entered}
use Rattle.dcm_deid.proofs.Kept.{out, out_any, head_out, judged_state, fate_here, leaf_shown, sequence_shown, fragments_shown, leaf_then, shown_at}

-- ---- what says what was done, as trees

abbrev pub then_if : Bool → Trees → Trees → Trees
then_if due new rest = if due then then_trees new rest else rest

abbrev pub due_trees : (Tag → Bool) → List (Tag × Trees) → Trees → Trees
due_trees passes [] rest = rest
due_trees passes (new ∷ news) rest = then_if (passes new.0) new.1 (due_trees passes news rest)

-- before an element of the outermost data set, or at its end
abbrev pub gap : Options → List (Option Tag) → (last next : Option Tag) → Trees → Trees
gap o [] last next rest = due_trees (is_due o last next) (said o) rest
gap o (l ∷ outer) last next rest = rest

-- ---- its atoms

shown_if : (due : Bool) (new rest : Trees) (a x after : List Atom) → ((r : Trees) → ShowTrees r x after → ShowTrees (then_trees new r) (a ++ x) after) → ShowTrees rest x after → ShowTrees (then_if due new rest) (atoms_if due a ++ x) after
shown_if true new rest a x after h more = h rest more
shown_if false new rest a x after h more = more

one_leaf : (tag : Tag) (vr : Vr) (v : List ℕ) (x after : List Atom) → form Little (read_as Little tag vr) (Known (length v)) ≡ a_value → (r : Trees) → ShowTrees r x after → ShowTrees (then_trees (leaf tag vr v no_tree) r) (leaf_atoms tag vr v ++ x) after
unfolding ShowTrees
one_leaf tag vr v x after fo r more = (Little, x, fo, ap (λ (y : List Atom). opens tag vr (Known (length v)) Little ∷ y) (append_assoc (map value_byte v) (closes_leaf ∷ []) x), more)

-- the items of codes
code_shown : (code meaning : List ℕ) (rest : Items) (x after : List Atom) → ShowItems rest x after → ShowItems (code_item code meaning rest) (code_atoms code meaning ++ x) after
unfolding ShowTrees form
code_shown code meaning rest x after more =
    let a : List Atom = leaf_atoms (tag_at 0x0008 0x0100) SH code in
    let b : List Atom = leaf_atoms (tag_at 0x0008 0x0102) SH (codes "DCM") in
    let c : List Atom = leaf_atoms (tag_at 0x0008 0x0104) LO meaning in
    let end : List Atom = closes_item ∷ x in
    let row : code_atoms code meaning ++ x ≡ opens_item Undefined ∷ (a ++ (b ++ (c ++ end))) =
    ap (λ (y : List Atom). opens_item Undefined ∷ y)
    (append_assoc a (b ++ (c ++ closes_item ∷ [])) x ∙ ap (λ (y : List Atom). a ++ y) (append_assoc b (c ++ closes_item ∷ []) x ∙ ap (λ (y : List Atom). b ++ y) (append_assoc c (closes_item ∷ []) x))) in (
      a ++ (b ++ (c ++ end)),
      x,
      row,
      (
        Little,
        b ++ (c ++ end),
        refl,
        leaf_then (tag_at 0x0008 0x0100) SH code (b ++ (c ++ end)),
        (
          Little,
          c ++ end,
          refl,
          leaf_then (tag_at 0x0008 0x0102) SH (codes "DCM") (c ++ end),
          (Little, end, refl, leaf_then (tag_at 0x0008 0x0104) LO meaning end, refl),
        ),
      ),
      more,
    )

code_if_shown : (given : Bool) (code meaning : List ℕ) (rest : Items) (x after : List Atom) → ShowItems rest x after → ShowItems (code_if given code meaning rest) (code_atoms_if given code meaning ++ x) after
code_if_shown true code meaning rest x after more = code_shown code meaning rest x after more
code_if_shown false code meaning rest x after more = more

items_at : (t : Items) (x y after : List Atom) → x ≡ y → ShowItems t y after → ShowItems t x after
items_at t x y after e h = subst (λ (z : List Atom). ShowItems t z after) (sym e) h

five : (a b c d e f x : List Atom) → (a ++ (b ++ (c ++ (d ++ (e ++ f))))) ++ x ≡ a ++ (b ++ (c ++ (d ++ (e ++ (f ++ x)))))
five a b c d e f x =
    append_assoc a (b ++ (c ++ (d ++ (e ++ f)))) x
    ∙ ap (λ (y : List Atom). a ++ y) (append_assoc b (c ++ (d ++ (e ++ f))) x
    ∙ ap (λ (y : List Atom). b ++ y) (append_assoc c (d ++ (e ++ f)) x
    ∙ ap (λ (y : List Atom). c ++ y) (append_assoc d (e ++ f) x
    ∙ ap (λ (y : List Atom). d ++ y) (append_assoc e f x))))

methods_shown : (o : Options) (x : List Atom) → ShowItems (methods o) (method_atoms o ++ x) x
unfolding ShowTrees
methods_shown o x =
    let basic : List ℕ = codes "Basic Application Confidentiality Profile" in
    let code : List ℕ = dates_code o.dates in
    let dates : List ℕ = dates_meaning o.dates in
    let patient : List ℕ = codes "Retain Patient Characteristics Option" in
    let device : List ℕ = codes "Retain Device Identity Option" in
    let uids : List ℕ = codes "Retain UIDs Option" in
    let institution : List ℕ = codes "Retain Institution Identity Option" in
    let a : List Atom = code_atoms (codes "113100") basic in
    let b : List Atom = code_atoms_if (are_left o.dates) code dates in
    let c : List Atom = code_atoms_if o.patient (codes "113108") patient in
    let d : List Atom = code_atoms_if o.device (codes "113109") device in
    let e : List Atom = code_atoms_if o.uids (codes "113110") uids in
    let f : List Atom = code_atoms_if o.institution (codes "113112") institution in
    let items_f : Items = code_if o.institution (codes "113112") institution no_item in
    let items_e : Items = code_if o.uids (codes "113110") uids items_f in
    let items_d : Items = code_if o.device (codes "113109") device items_e in
    let items_c : Items = code_if o.patient (codes "113108") patient items_d in
    let items_b : Items = code_if (are_left o.dates) code dates items_c in
    items_at (methods o) (method_atoms o ++ x) (a ++ (b ++ (c ++ (d ++ (e ++ (f ++ x)))))) x (five a b c d e f x)
    (code_shown (codes "113100") basic items_b (b ++ (c ++ (d ++ (e ++ (f ++ x))))) x
    (code_if_shown (are_left o.dates) code dates items_c (c ++ (d ++ (e ++ (f ++ x)))) x
    (code_if_shown o.patient (codes "113108") patient items_d (d ++ (e ++ (f ++ x))) x
    (code_if_shown o.device (codes "113109") device items_e (e ++ (f ++ x)) x
    (code_if_shown o.uids (codes "113110") uids items_f (f ++ x) x
    (code_if_shown o.institution (codes "113112") institution no_item x x refl))))))

codes_shown : (o : Options) (x after : List Atom) (r : Trees) → ShowTrees r x after → ShowTrees (then_trees (sequence (tag_at 0x0012 0x0064) SQ Undefined (methods o) no_tree) r) (methods_said o ++ x) after
unfolding ShowTrees form
codes_shown o x after r more = (
  Little,
  method_atoms o ++ closes_sequence ∷ x,
  x,
  refl,
  ap (λ (y : List Atom). opens (tag_at 0x0012 0x0064) SQ Undefined Little ∷ y) (append_assoc (method_atoms o) (closes_sequence ∷ []) x),
  methods_shown o (closes_sequence ∷ x),
  more,
)

three : (a b c d x : List Atom) → (a ++ (b ++ (c ++ d))) ++ x ≡ a ++ (b ++ (c ++ (d ++ x)))
three a b c d x =
    append_assoc a (b ++ (c ++ d)) x ∙ ap (λ (y : List Atom). a ++ y) (append_assoc b (c ++ d) x ∙ ap (λ (y : List Atom). b ++ y) (append_assoc c d x))

between_shown : (o : Options) (last next : Option Tag) (rest : Trees) (x after : List Atom) → ShowTrees rest x after → ShowTrees (due_trees (is_due o last next) (said o) rest) (said_between o last next ++ x) after
unfolding form
between_shown o last next rest x after more =
    let dates : List ℕ = dates_became o.dates in
    let method : List ℕ = codes "dcmtools dcmdeid, PS3.15 2021b" in
    let a : List Atom = leaf_atoms (tag_at 0x0012 0x0062) CS (codes "YES") in
    let b : List Atom = leaf_atoms (tag_at 0x0012 0x0063) LO method in
    let tree_a : Trees = leaf (tag_at 0x0012 0x0062) CS (codes "YES") no_tree in
    let tree_b : Trees = leaf (tag_at 0x0012 0x0063) LO method no_tree in
    let tree_c : Trees = sequence (tag_at 0x0012 0x0064) SQ Undefined (methods o) no_tree in
    let tree_d : Trees = leaf (tag_at 0x0028 0x0303) CS dates no_tree in
    let is_a : Bool = is_due o last next (tag_at 0x0012 0x0062) in
    let is_b : Bool = is_due o last next (tag_at 0x0012 0x0063) in
    let is_c : Bool = is_due o last next (tag_at 0x0012 0x0064) in
    let is_d : Bool = is_due o last next (tag_at 0x0028 0x0303) in
    let rest_d : Trees = then_if is_d tree_d rest in
    let rest_c : Trees = then_if is_c tree_c rest_d in
    let rest_b : Trees = then_if is_b tree_b rest_c in
    let x_d : List Atom = dates_due o last next ++ x in
    let x_c : List Atom = codes_due o last next ++ x_d in
    let x_b : List Atom = method_due o last next ++ x_c in
    shown_at (then_if is_a tree_a rest_b) (said_between o last next ++ x) (removed_due o last next ++ x_b) after (three (removed_due o last next) (method_due o last next) (codes_due o last next) (dates_due o last next) x)
    (shown_if is_a tree_a rest_b a x_b after (one_leaf (tag_at 0x0012 0x0062) CS (codes "YES") x_b after refl)
    (shown_if is_b tree_b rest_c b x_c after (one_leaf (tag_at 0x0012 0x0063) LO method x_c after refl)
    (shown_if is_c tree_c rest_d (methods_said o) x_d after (codes_shown o x_d after)
    (shown_if is_d tree_d rest (dates_said o) x after (one_leaf (tag_at 0x0028 0x0303) CS dates x after refl) more))))

pub gap_shown : (o : Options) (outer : List (Option Tag)) (last next : Option Tag) (d : ℕ) (m : Seen) (rest : Trees) (x after : List Atom) → ShowTrees rest x after
    → ShowTrees (gap o outer last next rest) (said_before o (place_at last outer d m) next ++ x) after
gap_shown o [] last next d m rest x after more = between_shown o last next rest x after more
gap_shown o (l ∷ outer) last next d m rest x after more = more

-- ---- a data set

-- what becomes of its elements, with what says what was done before them
abbrev pub written : Options → List ℕ → List (Option Tag) → Option Tag → Trees → Trees
written o k outer last no_tree = no_tree
written o k outer last (leaf tag vr value rest) =
    gap o outer last (Some tag) (leaf_by (fate_as o (depth_of outer) AsBytes tag) tag vr (value_by (made_new o k) (fate_as o (depth_of outer) AsBytes tag) vr value) (written o k outer (Some tag) rest))
written o k outer last (sequence tag vr declared items rest) =
    gap o outer last (Some tag) (sequence_by (fate_as o (depth_of outer) AsItems tag) tag vr (items_by_fate (fate_as o) (value_by (made_new o k)) items) (written o k outer (Some tag) rest))
written o k outer last (fragments tag vr values rest) =
    gap o outer last (Some tag) (fragments_by (fate_as o (depth_of outer) AsBytes tag) tag vr values (written o k outer (Some tag) rest))

-- in an item nothing is put
pub inside_written : (o : Options) (k : List ℕ) (l : Option Tag) (outer : List (Option Tag)) (last : Option Tag) (t : Trees) → written o k (l ∷ outer) last t ≡ by_fate (fate_as o) (value_by (made_new o k)) Inside t
inside_written o k l outer last no_tree = refl
inside_written o k l outer last (leaf tag vr value rest) = ap (leaf_by (fate_as o Inside AsBytes tag) tag vr (value_by (made_new o k) (fate_as o Inside AsBytes tag) vr value)) (inside_written o k l outer (Some tag) rest)
inside_written o k l outer last (sequence tag vr declared items rest) = ap (sequence_by (fate_as o Inside AsItems tag) tag vr (items_by_fate (fate_as o) (value_by (made_new o k)) items)) (inside_written o k l outer (Some tag) rest)
inside_written o k l outer last (fragments tag vr values rest) = ap (fragments_by (fate_as o Inside AsBytes tag) tag vr values) (inside_written o k l outer (Some tag) rest)

-- an element: what is put before it, its head, and what follows
element_shown : (o : Options) (k : List ℕ) (last : Option Tag) (outer : List (Option Tag)) (m : Seen) (tag : Tag) (rest : Trees) (head x row after : List Atom)
    → row ≡ (said_before o (place_at last outer 0 m) (Some tag) ++ head) ++ x → ShowTrees rest (head ++ x) after → ShowTrees (gap o outer last (Some tag) rest) row after
element_shown o k last outer m tag rest head x row after is more =
    shown_at _ row _ after (is ∙ append_assoc (said_before o (place_at last outer 0 m) (Some tag)) head x) (gap_shown o outer last (Some tag) 0 m rest (head ++ x) after more)

mutual
  unfolding ShowTrees last_tag

  pub trees_pass : (t : Trees) (lists : ℕ) (o : Options) (k : List ℕ) (last : Option Tag) (outer : List (Option Tag)) (m : Seen) (atoms after : List Atom)
      → ShowTrees t atoms after → StaysShallow lists atoms → length outer ≡ lists → ShowTrees (written o k outer last t) (out (at o k last outer 0 m) atoms) (out (at o k (last_tag last t) outer 0 nothing_seen) after)
  trees_pass no_tree lists o k last outer m atoms after e h same = ap (out (at o k last outer 0 m)) e ∙ out_any o k last outer 0 m nothing_seen after
  trees_pass (leaf tag vr value rest) lists o k last outer m atoms after (s, others, fo, is, more) h same =
      let there = stays_on lists closes_leaf others (stays_bytes lists (order s vr value) (closes_leaf ∷ others) (head_stays lists tag vr (Known (length value)) s a_value _ fo (stays_same lists atoms _ is h))) in
      let end : List Atom = out (at o k (last_tag (Some tag) rest) outer 0 nothing_seen) after in
      let row : List Atom = map value_byte (order s vr value) ++ closes_leaf ∷ others in
      let fate = fate_here o outer a_value tag in
      element_shown o k last outer m tag _ (head_by fate a_value tag vr (Known (length value)) s) (out (judged_state o k outer m tag vr s fate a_value) row) _ end
      (ap (out (at o k last outer 0 m)) is ∙ head_out o k last outer m tag vr (Known (length value)) s row a_value fo)
      (leaf_shown o k outer m tag vr s others end (written o k outer (Some tag) rest) (trees_pass rest lists o k (Some tag) outer nothing_seen others after more there same) fate value fo)
  trees_pass (sequence tag vr declared items rest) lists o k last outer m atoms after (s, contents, others, fo, is, inner, more) h same =
      let within = head_stays lists tag vr declared s a_sequence contents fo (stays_same lists atoms _ is h) in
      let there = stays_on (suc lists) closes_sequence others (items_stay items (suc lists) contents (closes_sequence ∷ others) inner within) in
      let end : List Atom = out (at o k (last_tag (Some tag) rest) outer 0 nothing_seen) after in
      let fate = fate_here o outer a_sequence tag in
      element_shown o k last outer m tag _ (head_by fate a_sequence tag vr declared s) (out (judged_state o k outer m tag vr s fate a_sequence) contents) _ end
      (ap (out (at o k last outer 0 m)) is ∙ head_out o k last outer m tag vr declared s contents a_sequence fo)
      (sequence_shown o k outer m tag vr s others end (written o k outer (Some tag) rest) (trees_pass rest lists o k (Some tag) outer nothing_seen others after more there same) fate declared
      (items_by_fate (fate_as o) (value_by (made_new o k)) items) contents fo
      (drop_items items (suc lists) o k (Some tag) outer 0 m contents (closes_sequence ∷ others) inner within (omega (arith, same)) (omega arith))
      (items_pass items (suc lists) o k (Some tag) outer m contents (closes_sequence ∷ others) inner within (omega (arith, same))))
  trees_pass (fragments tag vr values rest) lists o k last outer m atoms after (s, others, fo, is, more) h same =
      let within = head_stays lists tag vr Undefined s a_fragment_list (fragments_then values (closes_sequence ∷ others)) fo (stays_same lists atoms _ is h) in
      let there = stays_on (suc lists) closes_sequence others (fragments_stay (suc lists) values (closes_sequence ∷ others) within) in
      let end : List Atom = out (at o k (last_tag (Some tag) rest) outer 0 nothing_seen) after in
      let row : List Atom = fragments_then values (closes_sequence ∷ others) in
      let fate = fate_here o outer a_fragment_list tag in
      element_shown o k last outer m tag _ (head_by fate a_fragment_list tag vr Undefined s) (out (judged_state o k outer m tag vr s fate a_fragment_list) row) _ end
      (ap (out (at o k last outer 0 m)) is ∙ head_out o k last outer m tag vr Undefined s row a_fragment_list fo)
      (fragments_shown o k outer m tag vr s others end (written o k outer (Some tag) rest) (trees_pass rest lists o k (Some tag) outer nothing_seen others after more there same) fate values fo
      (drop_fragments o k (Some tag) outer 0 m values (closes_sequence ∷ others) (omega arith)))

  pub items_pass : (t : Items) (lists : ℕ) (o : Options) (k : List ℕ) (last : Option Tag) (outer : List (Option Tag)) (m : Seen) (atoms after : List Atom)
      → ShowItems t atoms after → StaysShallow lists atoms → suc (length outer) ≡ lists
      → ShowItems (items_by_fate (fate_as o) (value_by (made_new o k)) t) (out (at o k last outer 0 m) atoms) (out (at o k last outer 0 nothing_seen) after)
  items_pass no_item lists o k last outer m atoms after e h same = ap (out (at o k last outer 0 m)) e ∙ out_any o k last outer 0 m nothing_seen after
  items_pass (item declared set rest) lists o k last outer m atoms after (contents, others, is, inner, more) h same =
      let most : lists ≤ 64 = stays_here lists atoms h in
      let within = stays_on lists (opens_item declared) contents (stays_same lists atoms _ is h) in
      let there = stays_on lists closes_item others (trees_stay set lists contents (closes_item ∷ others) inner within) in
      let mine : List Atom = out (at o k None (last ∷ outer) 0 m) contents in (
        mine,
        out (at o k last outer 0 nothing_seen) others,
        ap (out (at o k last outer 0 m)) is ∙ ap (λ (s : _). opens_item Undefined ∷ out s contents) (entered o k last outer 0 m declared (omega (arith, same, most))),
        subst (λ (t : Trees). ShowTrees t mine (closes_item ∷ out (at o k last outer 0 nothing_seen) others)) (inside_written o k last outer None set)
            (trees_pass set lists o k None (last ∷ outer) m contents (closes_item ∷ others) inner within (omega (arith, same))),
        items_pass rest lists o k last outer nothing_seen others after more there same,
      )
