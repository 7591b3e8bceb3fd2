-- What the cells make of the atoms inside an element: nothing, where no value is on its way.
use Rattle.std.proofs.Common.{◌≡◌, ◌∙◌, ap, refl, ℕ, suc, ◌*◌, ◌≤◌, List, [], ◌∷◌, ◌++◌, length, map, fold, arith, Option, Some, None, Bool, true, false}
use Rattle.dcm_base.specs.declared.tag.Tag.{Tag}
use Rattle.dcm_base.specs.declared.length.Length.TheVariants.{Known, Undefined}
use Rattle.dcm_base.specs.declared.form.Form.TheVariants.{Value as a_value, Sequence as a_sequence, FragmentList as a_fragment_list}
use Rattle.dcm_base.specs.Tree.Tree.{Trees, no_tree, leaf, sequence, fragments, Items, no_item, item}
use Rattle.dcm_base.specs.Tree.Front.{Front, front, OpenTree, nothing_open, open_leaf, open_sequence, open_fragments, OpenItem, no_open_item, open_item}
use Rattle.dcm_base.specs.Tree.Value.{order}
use Rattle.dcm_base.specs.Steps.Atoms.{Atom, value_byte, closes_leaf, opens_item, closes_item, closes_sequence, fragments_then, open_fragment_atoms, end_atoms, ShowTrees, ShowItems, Shows, ShowsOpen, ShowsOpenItem}
use Rattle.dcm_sinks.specs.Laws.{StaysShallow}
use Rattle.dcm_sinks.proofs.Dumps.OpenLists.{stays_on, stays_opened, stays_bytes, stays_fragments, stays_same, stays_trees, stays_items}
use Rattle.dcm_stream.specs.Skip.{opened as deeper}
use Rattle.dcm_table.specs.Cell.{Cell, missing, open_value, open_too_long, whole, too_long, not_shown, with_byte, ended}
use Rattle.dcm_table.specs.Shown.{settled, AllSettled}
use Rattle.dcm_table.specs.TableSink.{Slot, State, next, slot_step}

-- what is the same within an element: the greatest tag of a column, and whether a value named what is not known
pub record Mark : Type 0 where
  pub greatest : Tag
  pub unknown : Bool

abbrev pub at : ℕ → Mark → List Slot → State
at d g slots = record { depth = d; greatest = g.greatest; slots = slots; setting = None; unknown = g.unknown }

-- ---- cells that are settled

byte_stays : (c : Cell) (b : ℕ) → settled c ≡ c → with_byte c b ≡ c
byte_stays missing b e = refl
byte_stays (open_value vr shown s bytes) b e = cc
byte_stays open_too_long b e = refl
byte_stays (whole shown value) b e = refl
byte_stays too_long b e = refl
byte_stays not_shown b e = refl

end_stays : (c : Cell) → settled c ≡ c → ended c ≡ c
end_stays missing e = refl
end_stays (open_value vr shown s bytes) e = cc
end_stays open_too_long e = cc
end_stays (whole shown value) e = refl
end_stays too_long e = refl
end_stays not_shown e = refl

bytes_stay : (b : ℕ) (slots : List Slot) → AllSettled slots → map (λ (c : Slot). slot_step c (value_byte b)) slots ≡ slots
bytes_stay b [] h = refl
bytes_stay b (c ∷ slots) h =
    ap (λ (x : Cell). (c.0, x, c.2) ∷ map (λ (d : Slot). slot_step d (value_byte b)) slots) (byte_stays c.1 b h.0)
    ∙ ap (λ (x : List Slot). c ∷ x) (bytes_stay b slots h.1)

ends_stay : (slots : List Slot) → AllSettled slots → map (λ (c : Slot). slot_step c closes_leaf) slots ≡ slots
ends_stay [] h = refl
ends_stay (c ∷ slots) h =
    ap (λ (x : Cell). (c.0, x, c.2) ∷ map (λ (d : Slot). slot_step d closes_leaf) slots) (end_stays c.1 h.0)
    ∙ ap (λ (x : List Slot). c ∷ x) (ends_stay slots h.1)

-- ---- atoms inside an element

abbrev Same : State → List Atom → State → List Atom → Type 0
Same s x t y = fold next s x ≡ fold next t y

pub few_deep : (n : ℕ) → n ≤ 1000 → deeper (suc n) true ≡ suc (suc n)
few_deep n h = omega (arith, h)

pub shallow : (lists : ℕ) (atoms : List Atom) → StaysShallow lists atoms → lists ≤ 64
shallow lists atoms h = h [] atoms refl

module _ (g : Mark) (slots : List Slot) (settles : AllSettled slots) where
  pub values_inside : (n : ℕ) (v : List ℕ) (more : List Atom) → Same (at n g slots) (map value_byte v ++ more) (at n g slots) more
  values_inside n [] more = refl
  values_inside n (b ∷ v) more =
      ap (λ (x : List Slot). fold next (at n g x) (map value_byte v ++ more)) (bytes_stay b slots settles) ∙ values_inside n v more

  leaf_inside : (n : ℕ) (v : List ℕ) (more : List Atom) → Same (at (suc n) g slots) (map value_byte v ++ closes_leaf ∷ more) (at n g slots) more
  leaf_inside n v more =
      values_inside (suc n) v (closes_leaf ∷ more)
      ∙ ap (λ (x : List Slot). fold next (at n g x) more) (ends_stay slots settles)

  opened_inside : (n : ℕ) (more : List Atom) → n ≤ 1000 → Same (at (deeper (suc n) true) g slots) more (at (suc (suc n)) g slots) more
  opened_inside n more h = ap (λ (d : ℕ). fold next (at d g slots) more) (few_deep n h)

  pub fragments_inside : (n : ℕ) (values : List (List ℕ)) (more : List Atom) → n ≤ 1000 → Same (at (suc n) g slots) (fragments_then values more) (at (suc n) g slots) more
  unfolding fragments_then
  fragments_inside n [] more h = refl
  fragments_inside n (v ∷ values) more h =
      opened_inside n (map value_byte v ++ closes_leaf ∷ fragments_then values more) h
      ∙ leaf_inside (suc n) v (fragments_then values more)
      ∙ fragments_inside n values more h

  mutual
    unfolding ShowTrees

    pub trees_inside : (t : Trees) (lists n : ℕ) (atoms after : List Atom) → ShowTrees t atoms after → StaysShallow lists atoms → n ≤ 2 * lists → Same (at (suc n) g slots) atoms (at (suc n) g slots) after
    trees_inside no_tree lists n atoms after e h few = ap (fold next (at (suc n) g slots)) e
    trees_inside (leaf tag vr value rest) lists n atoms after (s, others, fo, is, more) h few =
        let small : n ≤ 1000 = omega (arith, few, shallow lists atoms h) in
        let there = stays_on lists closes_leaf others (stays_bytes lists (order s vr value) (closes_leaf ∷ others) (stays_opened lists a_value tag vr (Known (length value)) s _ fo (stays_same lists atoms _ is h))) in
        ap (fold next (at (suc n) g slots)) is
        ∙ opened_inside n (map value_byte (order s vr value) ++ closes_leaf ∷ others) small
        ∙ leaf_inside (suc n) (order s vr value) others
        ∙ trees_inside rest lists n others after more there few
    trees_inside (sequence tag vr declared items rest) lists n atoms after (s, contents, others, fo, is, inner, more) h few =
        let small : n ≤ 1000 = omega (arith, few, shallow lists atoms h) in
        let within = stays_opened lists a_sequence tag vr declared s contents fo (stays_same lists atoms _ is h) in
        let there = stays_on (suc lists) closes_sequence others (stays_items (suc lists) items contents (closes_sequence ∷ others) inner within) in
        ap (fold next (at (suc n) g slots)) is
        ∙ opened_inside n contents small
        ∙ items_inside items (suc lists) (suc n) contents (closes_sequence ∷ others) inner within (omega (arith, few))
        ∙ trees_inside rest lists n others after more there few
    trees_inside (fragments tag vr values rest) lists n atoms after (s, others, fo, is, more) h few =
        let small : suc n ≤ 1000 = omega (arith, few, shallow lists atoms h) in
        let less : n ≤ 1000 = omega (arith, small) in
        let within = stays_opened lists a_fragment_list tag vr Undefined s (fragments_then values (closes_sequence ∷ others)) fo (stays_same lists atoms _ is h) in
        let there = stays_on (suc lists) closes_sequence others (stays_fragments (suc lists) values (closes_sequence ∷ others) within) in
        ap (fold next (at (suc n) g slots)) is
        ∙ opened_inside n (fragments_then values (closes_sequence ∷ others)) less
        ∙ fragments_inside (suc n) values (closes_sequence ∷ others) small
        ∙ trees_inside rest lists n others after more there few

    pub items_inside : (t : Items) (lists n : ℕ) (atoms after : List Atom) → ShowItems t atoms after → StaysShallow lists atoms → suc n ≤ 2 * lists → Same (at (suc n) g slots) atoms (at (suc n) g slots) after
    items_inside no_item lists n atoms after e h few = ap (fold next (at (suc n) g slots)) e
    items_inside (item declared set rest) lists n atoms after (contents, others, is, inner, more) h few =
        let small : n ≤ 1000 = omega (arith, few, shallow lists atoms h) in
        let within = stays_on lists (opens_item declared) contents (stays_same lists atoms _ is h) in
        let there = stays_on lists closes_item others (stays_trees lists set contents (closes_item ∷ others) inner within) in
        ap (fold next (at (suc n) g slots)) is
        ∙ opened_inside n contents small
        ∙ trees_inside set lists (suc n) contents (closes_item ∷ others) inner within few
        ∙ items_inside rest lists n others after more there few

  -- ---- what is open inside an element

  -- the cells stay, and something is open
  pub record StaysInside (n : ℕ) (atoms : List Atom) : Type 0 where
    pub depth : ℕ
    pub comes : fold next (at (suc n) g slots) atoms ≡ at (suc depth) g slots

  pub comes_inside : (n m : ℕ) (x y : List Atom) → Same (at (suc n) g slots) x (at (suc m) g slots) y → StaysInside m y → StaysInside n x
  comes_inside n m x y e h = record { depth = h.depth; comes = e ∙ h.comes }

  pub last_bytes_inside : (n : ℕ) (v : List ℕ) → fold next (at n g slots) (map value_byte v) ≡ at n g slots
  last_bytes_inside n [] = refl
  last_bytes_inside n (b ∷ v) = ap (λ (x : List Slot). fold next (at n g x) (map value_byte v)) (bytes_stay b slots settles) ∙ last_bytes_inside n v

  pub fragment_inside : (n : ℕ) (last : Option (ℕ × List ℕ)) → n ≤ 1000 → StaysInside n (open_fragment_atoms last)
  fragment_inside n None h = record { depth = n; comes = refl }
  fragment_inside n (Some f) h = record { depth = suc n; comes = opened_inside n (map value_byte f.1) h ∙ last_bytes_inside (suc (suc n)) f.1 }

  end_inside : (n : ℕ) (closed : Bool) → StaysInside n (end_atoms closed)
  end_inside n true = record { depth = n; comes = refl }
  end_inside n false = record { depth = n; comes = refl }

  mutual
    unfolding Shows

    pub front_inside : (f : Front) (lists n : ℕ) (atoms : List Atom) → Shows f atoms → StaysShallow lists atoms → n ≤ 2 * lists → StaysInside n atoms
    front_inside (front trees o reached closed) lists n atoms (others, shown, more, may, re) h few =
        comes_inside n n atoms others (trees_inside trees lists n atoms others shown h few)
        (open_inside o lists n closed others more (stays_trees lists trees atoms others shown h) few)

    pub open_inside : (o : OpenTree) (lists n : ℕ) (closed : Bool) (atoms : List Atom) → ShowsOpen o (end_atoms closed) atoms → StaysShallow lists atoms → n ≤ 2 * lists → StaysInside n atoms
    open_inside nothing_open lists n closed atoms e h few =
        comes_inside n n atoms (end_atoms closed) (ap (fold next (at (suc n) g slots)) e) (end_inside n closed)
    open_inside (open_leaf tag vr size value) lists n closed atoms (s, fo, le, is) h few =
        let small : n ≤ 1000 = omega (arith, few, shallow lists atoms h) in
        record {
          depth = suc n;
          comes = ap (fold next (at (suc n) g slots)) is ∙ opened_inside n (map value_byte (order s vr value)) small ∙ last_bytes_inside (suc (suc n)) (order s vr value);
        }
    open_inside (open_sequence tag vr declared items last) lists n closed atoms (s, contents, others, fo, is, inner, more) h few =
        let small : n ≤ 1000 = omega (arith, few, shallow lists atoms h) in
        let within = stays_opened lists a_sequence tag vr declared s contents fo (stays_same lists atoms _ is h) in
        comes_inside n (suc n) atoms others
        (ap (fold next (at (suc n) g slots)) is ∙ opened_inside n contents small
        ∙ items_inside items (suc lists) (suc n) contents others inner within (omega (arith, few)))
        (item_inside last (suc lists) (suc n) others more (stays_items (suc lists) items contents others inner within) (omega (arith, few)))
    open_inside (open_fragments tag vr values last) lists n closed atoms (s, fo, mi, is) h few =
        let small : suc n ≤ 1000 = omega (arith, few, shallow lists atoms h) in
        let less : n ≤ 1000 = omega (arith, small) in
        comes_inside n (suc n) atoms (open_fragment_atoms last)
        (ap (fold next (at (suc n) g slots)) is ∙ opened_inside n (fragments_then values (open_fragment_atoms last)) less
        ∙ fragments_inside (suc n) values (open_fragment_atoms last) small)
        (fragment_inside (suc n) last small)

    pub item_inside : (o : OpenItem) (lists n : ℕ) (atoms : List Atom) → ShowsOpenItem o atoms → StaysShallow lists atoms → suc n ≤ 2 * lists → StaysInside n atoms
    item_inside no_open_item lists n atoms e h few = record { depth = n; comes = ap (fold next (at (suc n) g slots)) e }
    item_inside (open_item declared set) lists n atoms (contents, is, unclosed, more) h few =
        let small : n ≤ 1000 = omega (arith, few, shallow lists atoms h) in
        let within = stays_on lists (opens_item declared) contents (stays_same lists atoms _ is h) in
        comes_inside n (suc n) atoms contents (ap (fold next (at (suc n) g slots)) is ∙ opened_inside n contents small)
        (front_inside set lists (suc n) contents more within few)
