-- What the sink makes of the atoms of what is left out: nothing.
use Rattle.std.proofs.Common.{◌≡◌, ◌≤◌, ◌<◌, ◌*◌, ℕ, suc, List, [], ◌∷◌, ◌++◌, length, map, fold, Option, Some, None, Bool, true, false, refl, ap, subst, ◌∙◌, arith}
use Rattle.std.specs.Prelude.{nat_lt, if◌then◌else◌}
use Rattle.std.proofs.lemmas.Bool.{lt-ltb}
use Rattle.dcm_lemmas.proofs.Choice.{if_true}
use Rattle.dcm_base.specs.declared.tag.Tag.{Tag}
use Rattle.dcm_base.specs.declared.vr.Vr.{Vr}
use Rattle.dcm_base.specs.declared.syntax.Syntax.{Syntax}
use Rattle.dcm_base.specs.declared.length.Length.{Length}
use Rattle.dcm_base.specs.declared.length.Length.TheVariants.{Known, Undefined}
use Rattle.dcm_base.specs.declared.form.Form.{Form}
use Rattle.dcm_base.specs.declared.form.Form.TheVariants.{Value as a_value, Sequence as a_sequence, FragmentList as a_fragment_list}
use Rattle.dcm_base.specs.Bytes.Spelling.{form, read_as, last_tag}
use Rattle.dcm_base.specs.Reading.Stop.{opens_list}
use Rattle.dcm_base.specs.Tree.Tree.{Trees, no_tree, leaf, sequence, fragments, Items, no_item, item}
use Rattle.dcm_base.specs.Tree.Value.{order}
use Rattle.dcm_base.specs.Steps.Atoms.{Atom, opens, value_byte, closes_leaf, opens_item, closes_item, closes_sequence, opens_fragment, fragments_then, ShowTrees, ShowItems}
use Rattle.dcm_base.specs.Steps.Steps.{outputs}
use Rattle.dcm_sinks.proofs.Dumps.OpenLists.{stays_bytes, stays_on, stays_same}
use Rattle.dcm_sinks.specs.Laws.{lists_behind, StaysShallow}
use Rattle.dcm_stream.specs.Skip.{opened}
use Rattle.dcm_deid.specs.declared.deidentifier.Seen.{Seen}
use Rattle.dcm_deid.specs.declared.fate.Options.{Options}
use Rattle.dcm_deid.specs.DeidentifySink.{Place, State, next, passed}

-- ---- no more than 64 lists are open

pub stays_here : (n : ℕ) (atoms : List Atom) → StaysShallow n atoms → n ≤ 64
stays_here n atoms h = h [] atoms refl

lists_after : (n : ℕ) (tag : Tag) (vr : Vr) (declared : Length) (s : Syntax) (f : Form) → form s (read_as s tag vr) declared ≡ f → lists_behind n (opens tag vr declared s) ≡ (if opens_list f then suc n else n)
lists_after n tag vr declared s f e = ap (λ (x : Form). if opens_list x then suc n else n) e

-- after the head of an element
pub head_stays : (n : ℕ) (tag : Tag) (vr : Vr) (declared : Length) (s : Syntax) (f : Form) (atoms : List Atom) → form s (read_as s tag vr) declared ≡ f → StaysShallow n (opens tag vr declared s ∷ atoms) → StaysShallow (if opens_list f then suc n else n) atoms
head_stays n tag vr declared s f atoms e h = subst (λ (m : ℕ). StaysShallow m atoms) (lists_after n tag vr declared s f e) (stays_on n (opens tag vr declared s) atoms h)

pub fragments_stay : (n : ℕ) (values : List (List ℕ)) (after : List Atom) → StaysShallow n (fragments_then values after) → StaysShallow n after
unfolding fragments_then
fragments_stay n [] after h = h
fragments_stay n (v ∷ values) after h =
    fragments_stay n values after (stays_on n closes_leaf _ (stays_bytes n v (closes_leaf ∷ fragments_then values after) (stays_on n (opens_fragment (length v)) _ h)))

mutual
  unfolding ShowTrees

  pub trees_stay : (t : Trees) (n : ℕ) (atoms after : List Atom) → ShowTrees t atoms after → StaysShallow n atoms → StaysShallow n after
  trees_stay no_tree n atoms after e h = stays_same n atoms after e h
  trees_stay (leaf tag vr value rest) n atoms after (s, others, fo, is, more) h =
      trees_stay rest n others after more (stays_on n closes_leaf others (stays_bytes n (order s vr value) (closes_leaf ∷ others) (head_stays n tag vr (Known (length value)) s a_value _ fo (stays_same n atoms _ is h))))
  trees_stay (sequence tag vr declared items rest) n atoms after (s, contents, others, fo, is, inner, more) h =
      trees_stay rest n others after more (stays_on (suc n) closes_sequence others (items_stay items (suc n) contents (closes_sequence ∷ others) inner (head_stays n tag vr declared s a_sequence contents fo (stays_same n atoms _ is h))))
  trees_stay (fragments tag vr values rest) n atoms after (s, others, fo, is, more) h =
      trees_stay rest n others after more (stays_on (suc n) closes_sequence others (fragments_stay (suc n) values (closes_sequence ∷ others) (head_stays n tag vr Undefined s a_fragment_list _ fo (stays_same n atoms _ is h))))

  pub items_stay : (t : Items) (n : ℕ) (atoms after : List Atom) → ShowItems t atoms after → StaysShallow n atoms → StaysShallow n after
  items_stay no_item n atoms after e h = stays_same n atoms after e h
  items_stay (item declared set rest) n atoms after (contents, others, is, inner, more) h =
      items_stay rest n others after more (stays_on n closes_item others (trees_stay set n contents (closes_item ∷ others) inner (stays_on n (opens_item declared) contents (stays_same n atoms _ is h))))

-- ---- the sink's state, where no value is held

abbrev pub at : Options → (key : List ℕ) → (last : Option Tag) → (outer : List (Option Tag)) → (dropped : ℕ) → (seen : Seen) → State
at o k last outer d m = record { options = o; key = k; place = record { last = last; outer = outer; dropped = d; held = None; seen = m } }

-- two states make the same of two rows of atoms
pub record Same (s : State) (x : List Atom) (t : State) (y : List Atom) : Type 0 where
  pub states : fold next s x ≡ fold next t y
  pub outs : outputs next passed s x ≡ outputs next passed t y

pub same_then : {s t u : State} {x y z : List Atom} → Same s x t y → Same t y u z → Same s x u z
same_then a b = record { states = a.states ∙ b.states; outs = a.outs ∙ b.outs }

pub same_row : (s : State) (x y : List Atom) → x ≡ y → Same s x s y
same_row s x y e = record { states = ap (fold next s) e; outs = ap (outputs next passed s) e }

pub same_state : (s t : State) (x : List Atom) → s ≡ t → Same s x t x
same_state s t x e = record { states = ap (λ (u : State). fold next u x) e; outs = ap (λ (u : State). outputs next passed u x) e }

pub opened_more : (n : ℕ) (b : Bool) → n ≤ 1000 → opened (suc n) b ≡ suc (suc n)
opened_more n b h = omega (arith, h)

pub drop_bytes : (o : Options) (k : List ℕ) (last : Option Tag) (outer : List (Option Tag)) (n : ℕ) (m : Seen) (v : List ℕ) (after : List Atom)
    → Same (at o k last outer (suc n) m) (map value_byte v ++ after) (at o k last outer (suc n) m) after
drop_bytes o k last outer n m [] after = record { states = refl; outs = refl }
drop_bytes o k last outer n m (b ∷ v) after =
    let rest = drop_bytes o k last outer n m v after in
    record { states = rest.states; outs = rest.outs }

-- a value and its end
pub drop_value : (o : Options) (k : List ℕ) (last : Option Tag) (outer : List (Option Tag)) (n : ℕ) (m : Seen) (v : List ℕ) (after : List Atom)
    → Same (at o k last outer (suc n) m) (map value_byte v ++ closes_leaf ∷ after) (at o k last outer n m) after
drop_value o k last outer n m v after =
    let rest = drop_bytes o k last outer n m v (closes_leaf ∷ after) in
    record { states = rest.states; outs = rest.outs }

pub drop_head : (o : Options) (k : List ℕ) (last : Option Tag) (outer : List (Option Tag)) (n : ℕ) (m : Seen) (tag : Tag) (vr : Vr) (declared : Length) (s : Syntax) (after : List Atom) → n ≤ 1000
    → Same (at o k last outer (suc n) m) (opens tag vr declared s ∷ after) (at o k (Some tag) outer (suc (suc n)) m) after
drop_head o k last outer n m tag vr declared s after h =
    let more = same_state (at o k (Some tag) outer (opened (suc n) true) m) (at o k (Some tag) outer (suc (suc n)) m) after (ap (λ (d : ℕ). at o k (Some tag) outer d m) (opened_more n true h)) in
    record { states = more.states; outs = more.outs }

pub drop_fragment : (o : Options) (k : List ℕ) (last : Option Tag) (outer : List (Option Tag)) (n : ℕ) (m : Seen) (size : ℕ) (after : List Atom) → n ≤ 1000
    → Same (at o k last outer (suc n) m) (opens_fragment size ∷ after) (at o k last outer (suc (suc n)) m) after
drop_fragment o k last outer n m size after h =
    let more = same_state (at o k last outer (opened (suc n) false) m) (at o k last outer (suc (suc n)) m) after (ap (λ (d : ℕ). at o k last outer d m) (opened_more n false h)) in
    record { states = more.states; outs = more.outs }

pub drop_fragments : (o : Options) (k : List ℕ) (last : Option Tag) (outer : List (Option Tag)) (n : ℕ) (m : Seen) (values : List (List ℕ)) (after : List Atom) → n ≤ 1000
    → Same (at o k last outer (suc n) m) (fragments_then values after) (at o k last outer (suc n) m) after
unfolding fragments_then
drop_fragments o k last outer n m [] after h = record { states = refl; outs = refl }
drop_fragments o k last outer n m (v ∷ values) after h =
    same_then (drop_fragment o k last outer n m (length v) (map value_byte v ++ closes_leaf ∷ fragments_then values after) h)
    (same_then (drop_value o k last outer (suc n) m v (fragments_then values after)) (drop_fragments o k last outer n m values after h))

pub drop_close : (o : Options) (k : List ℕ) (last : Option Tag) (outer : List (Option Tag)) (n : ℕ) (m : Seen) (after : List Atom)
    → Same (at o k last outer (suc n) m) (closes_sequence ∷ after) (at o k last outer n m) after
drop_close o k last outer n m after = record { states = refl; outs = refl }

drop_item_end : (o : Options) (k : List ℕ) (inner last : Option Tag) (outer : List (Option Tag)) (n : ℕ) (m : Seen) (after : List Atom)
    → Same (at o k inner (last ∷ outer) (suc n) m) (closes_item ∷ after) (at o k last outer n m) after
drop_item_end o k inner last outer n m after = record { states = refl; outs = refl }

-- the head of an item, where there is room
pub item_room : (n : ℕ) → n < 64 → nat_lt n 64 ≡ true
item_room n h = lt-ltb n 64 h

abbrev pub place_at : Option Tag → List (Option Tag) → ℕ → Seen → Place
place_at last outer d m = record { last = last; outer = outer; dropped = d; held = None; seen = m }

abbrev pub state_at : Options → List ℕ → Place → State
state_at o k p = record { options = o; key = k; place = p }

-- the state after it
pub entered : (o : Options) (k : List ℕ) (last : Option Tag) (outer : List (Option Tag)) (d : ℕ) (m : Seen) (declared : Length) → length outer < 64
    → next (at o k last outer d m) (opens_item declared) ≡ at o k None (last ∷ outer) (opened d false) m
entered o k last outer d m declared h = ap (state_at o k) (if_true (nat_lt (length outer) 64) (place_at None (last ∷ outer) (opened d false) m) (place_at last outer d m) (item_room (length outer) h))

pub drop_item_head : (o : Options) (k : List ℕ) (last : Option Tag) (outer : List (Option Tag)) (n : ℕ) (m : Seen) (declared : Length) (after : List Atom) → n ≤ 1000 → length outer < 64
    → Same (at o k last outer (suc n) m) (opens_item declared ∷ after) (at o k None (last ∷ outer) (suc (suc n)) m) after
drop_item_head o k last outer n m declared after h room =
    let more = same_state _ (at o k None (last ∷ outer) (suc (suc n)) m) after (entered o k last outer (suc n) m declared room ∙ ap (λ (d : ℕ). at o k None (last ∷ outer) d m) (opened_more n false h)) in
    record { states = more.states; outs = more.outs }

mutual
  unfolding ShowTrees last_tag

  pub drop_trees : (t : Trees) (lists : ℕ) (o : Options) (k : List ℕ) (last : Option Tag) (outer : List (Option Tag)) (n : ℕ) (m : Seen) (atoms after : List Atom)
      → ShowTrees t atoms after → StaysShallow lists atoms → length outer ≡ lists → n ≤ 2 * lists → Same (at o k last outer (suc n) m) atoms (at o k (last_tag last t) outer (suc n) m) after
  drop_trees no_tree lists o k last outer n m atoms after e h same few = same_row _ atoms after e
  drop_trees (leaf tag vr value rest) lists o k last outer n m atoms after (s, others, fo, is, more) h same few =
      let small : n ≤ 1000 = omega (arith, few, stays_here lists atoms h) in
      let there = stays_on lists closes_leaf others (stays_bytes lists (order s vr value) (closes_leaf ∷ others) (head_stays lists tag vr (Known (length value)) s a_value _ fo (stays_same lists atoms _ is h))) in
      same_then (same_row _ atoms _ is)
      (same_then (drop_head o k last outer n m tag vr (Known (length value)) s (map value_byte (order s vr value) ++ closes_leaf ∷ others) small)
      (same_then (drop_value o k (Some tag) outer (suc n) m (order s vr value) others) (drop_trees rest lists o k (Some tag) outer n m others after more there same few)))
  drop_trees (sequence tag vr declared items rest) lists o k last outer n m atoms after (s, contents, others, fo, is, inner, more) h same few =
      let small : n ≤ 1000 = omega (arith, few, stays_here lists atoms h) in
      let within = head_stays lists tag vr declared s a_sequence contents fo (stays_same lists atoms _ is h) in
      let there = stays_on (suc lists) closes_sequence others (items_stay items (suc lists) contents (closes_sequence ∷ others) inner within) in
      same_then (same_row _ atoms _ is)
      (same_then (drop_head o k last outer n m tag vr declared s contents small)
      (same_then (drop_items items (suc lists) o k (Some tag) outer (suc n) m contents (closes_sequence ∷ others) inner within (omega (arith, same)) (omega (arith, few)))
      (same_then (drop_close o k (Some tag) outer (suc n) m others)
      (drop_trees rest lists o k (Some tag) outer n m others after more there same few))))
  drop_trees (fragments tag vr values rest) lists o k last outer n m atoms after (s, others, fo, is, more) h same few =
      let small : n ≤ 1000 = omega (arith, few, stays_here lists atoms h) in
      let within = head_stays lists tag vr Undefined s a_fragment_list (fragments_then values (closes_sequence ∷ others)) fo (stays_same lists atoms _ is h) in
      let there = stays_on (suc lists) closes_sequence others (fragments_stay (suc lists) values (closes_sequence ∷ others) within) in
      let less : suc n ≤ 1000 = omega (arith, few, stays_here lists atoms h) in
      same_then (same_row _ atoms _ is)
      (same_then (drop_head o k last outer n m tag vr Undefined s (fragments_then values (closes_sequence ∷ others)) small)
      (same_then (drop_fragments o k (Some tag) outer (suc n) m values (closes_sequence ∷ others) less)
      (same_then (drop_close o k (Some tag) outer (suc n) m others)
      (drop_trees rest lists o k (Some tag) outer n m others after more there same few))))

  pub drop_items : (t : Items) (lists : ℕ) (o : Options) (k : List ℕ) (last : Option Tag) (outer : List (Option Tag)) (n : ℕ) (m : Seen) (atoms after : List Atom)
      → ShowItems t atoms after → StaysShallow lists atoms → suc (length outer) ≡ lists → suc n ≤ 2 * lists → Same (at o k last outer (suc n) m) atoms (at o k last outer (suc n) m) after
  drop_items no_item lists o k last outer n m atoms after e h same few = same_row _ atoms after e
  drop_items (item declared set rest) lists o k last outer n m atoms after (contents, others, is, inner, more) h same few =
      let most : lists ≤ 64 = stays_here lists atoms h in
      let within = stays_on lists (opens_item declared) contents (stays_same lists atoms _ is h) in
      let there = stays_on lists closes_item others (trees_stay set lists contents (closes_item ∷ others) inner within) in
      same_then (same_row _ atoms _ is)
      (same_then (drop_item_head o k last outer n m declared contents (omega (arith, few, most)) (omega (arith, same, most)))
      (same_then (drop_trees set lists o k None (last ∷ outer) (suc n) m contents (closes_item ∷ others) inner within (omega (arith, same)) few)
      (same_then (drop_item_end o k (last_tag None set) last outer (suc n) m others)
      (drop_items rest lists o k last outer n m others after more there same few))))
