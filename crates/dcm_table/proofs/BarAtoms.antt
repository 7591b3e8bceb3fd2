-- The atoms so far say whether anything is open.
use Rattle.std.proofs.Common.{◌≡◌, ◌∙◌, ap, refl, ℕ, suc, List, [], ◌∷◌, ◌++◌, map, fold, Option, Some, None, Bool, true, false}
use Rattle.std.specs.Prelude.{if◌then◌else◌}
use Rattle.dcm_base.specs.declared.tag.Tag.{Tag}
use Rattle.dcm_base.specs.declared.vr.Vr.{Vr}
use Rattle.dcm_base.specs.declared.length.Length.{Length}
use Rattle.dcm_base.specs.Tables.Tag.{below}
use Rattle.dcm_base.specs.Tree.Tree.{Trees, no_tree, leaf, sequence, fragments, Items, no_item, item}
use Rattle.dcm_base.specs.Tree.Front.{Front, front, OpenTree, nothing_open, open_leaf, open_sequence, open_fragments, OpenItem, no_open_item, open_item}
use Rattle.dcm_base.specs.Tree.Value.{order}
use Rattle.dcm_base.specs.Bytes.Spelling.{holds_open, is_open}
use Rattle.dcm_base.specs.Reading.Stop.{is_early_bar}
use Rattle.dcm_base.specs.Steps.Atoms.{Atom, value_byte, closes_leaf, closes_item, closes_sequence, fragments_then, open_fragment_atoms, end_atoms, ShowTrees, ShowItems, Shows, ShowsOpen, ShowsOpenItem}
use Rattle.dcm_stream.specs.Follows.{BarsAs}
use Rattle.dcm_table.specs.Shown.{open_after, decided_at, decided_by, table_bar, tabled}

abbrev level : ℕ → List Atom → ℕ
level n atoms = fold open_after n atoms

bytes_level : (n : ℕ) (v : List ℕ) (more : List Atom) → level n (map value_byte v ++ more) ≡ level n more
bytes_level n [] more = refl
bytes_level n (b ∷ v) more = bytes_level n v more

last_level : (n : ℕ) (v : List ℕ) → level n (map value_byte v) ≡ n
last_level n [] = refl
last_level n (b ∷ v) = last_level n v

fragments_level : (n : ℕ) (values : List (List ℕ)) (more : List Atom) → level n (fragments_then values more) ≡ level n more
unfolding fragments_then
fragments_level n [] more = refl
fragments_level n (v ∷ values) more = bytes_level (suc n) v (closes_leaf ∷ fragments_then values more) ∙ fragments_level n values more

mutual
  unfolding ShowTrees

  trees_level : (t : Trees) (n : ℕ) (atoms after : List Atom) → ShowTrees t atoms after → level n atoms ≡ level n after
  trees_level no_tree n atoms after e = ap (level n) e
  trees_level (leaf tag vr value rest) n atoms after (s, others, fo, is, more) =
      ap (level n) is ∙ bytes_level (suc n) (order s vr value) (closes_leaf ∷ others) ∙ trees_level rest n others after more
  trees_level (sequence tag vr declared items rest) n atoms after (s, contents, others, fo, is, inner, more) =
      ap (level n) is ∙ items_level items (suc n) contents (closes_sequence ∷ others) inner ∙ trees_level rest n others after more
  trees_level (fragments tag vr values rest) n atoms after (s, others, fo, is, more) =
      ap (level n) is ∙ fragments_level (suc n) values (closes_sequence ∷ others) ∙ trees_level rest n others after more

  items_level : (t : Items) (n : ℕ) (atoms after : List Atom) → ShowItems t atoms after → level n atoms ≡ level n after
  items_level no_item n atoms after e = ap (level n) e
  items_level (item declared set rest) n atoms after (contents, others, is, inner, more) =
      ap (level n) is ∙ trees_level set (suc n) contents (closes_item ∷ others) inner ∙ items_level rest n others after more

-- something is open
pub record IsDeep (n : ℕ) : Type 0 where
  pub less : ℕ
  pub is : n ≡ suc less

deep_as : (n m : ℕ) → n ≡ m → IsDeep m → IsDeep n
deep_as n m e h = record { less = h.less; is = e ∙ h.is }

deep_end : (n : ℕ) (closed : Bool) → level (suc n) (end_atoms closed) ≡ suc n
deep_end n true = refl
deep_end n false = refl

fragment_level : (n : ℕ) (last : Option (ℕ × List ℕ)) → IsDeep (level (suc n) (open_fragment_atoms last))
fragment_level n None = record { less = n; is = refl }
fragment_level n (Some f) = record { less = suc n; is = last_level (suc (suc n)) f.1 }

mutual
  unfolding Shows

  front_deep : (f : Front) (n : ℕ) (atoms : List Atom) → Shows f atoms → IsDeep (level (suc n) atoms)
  front_deep (front trees o r c) n atoms (others, shown, more, may, re) = deep_as _ _ (trees_level trees (suc n) atoms others shown) (open_deep o n c others more)

  open_deep : (o : OpenTree) (n : ℕ) (closed : Bool) (atoms : List Atom) → ShowsOpen o (end_atoms closed) atoms → IsDeep (level (suc n) atoms)
  open_deep nothing_open n closed atoms e = record { less = n; is = ap (level (suc n)) e ∙ deep_end n closed }
  open_deep (open_leaf tag vr size value) n closed atoms (s, fo, le, is) = record { less = suc n; is = ap (level (suc n)) is ∙ last_level (suc (suc n)) (order s vr value) }
  open_deep (open_sequence tag vr declared items last) n closed atoms (s, contents, others, fo, is, inner, more) =
      deep_as _ _ (ap (level (suc n)) is ∙ items_level items (suc (suc n)) contents others inner) (item_deep last (suc n) others more)
  open_deep (open_fragments tag vr values last) n closed atoms (s, fo, mi, is) =
      deep_as _ _ (ap (level (suc n)) is ∙ fragments_level (suc (suc n)) values (open_fragment_atoms last)) (fragment_level (suc n) last)

  item_deep : (o : OpenItem) (n : ℕ) (atoms : List Atom) → ShowsOpenItem o atoms → IsDeep (level (suc n) atoms)
  item_deep no_open_item n atoms e = record { less = n; is = ap (level (suc n)) e }
  item_deep (open_item declared set) n atoms (contents, is, unclosed, more) = deep_as _ _ (ap (level (suc n)) is) (front_deep set (suc n) contents more)

abbrev Tells : ℕ → Bool → Type 0
Tells n false = n ≡ 0
Tells n true = IsDeep n

flat_end : (closed : Bool) → level 0 (end_atoms closed) ≡ 0
flat_end true = refl
flat_end false = refl

open_tells : (o : OpenTree) (closed : Bool) (atoms : List Atom) → ShowsOpen o (end_atoms closed) atoms → Tells (level 0 atoms) (is_open o)
unfolding ShowsOpen
open_tells nothing_open closed atoms e = ap (level 0) e ∙ flat_end closed
open_tells (open_leaf tag vr size value) closed atoms (s, fo, le, is) = record { less = 0; is = ap (level 0) is ∙ last_level 1 (order s vr value) }
open_tells (open_sequence tag vr declared items last) closed atoms (s, contents, others, fo, is, inner, more) =
    deep_as _ _ (ap (level 0) is ∙ items_level items 1 contents others inner) (item_deep last 0 others more)
open_tells (open_fragments tag vr values last) closed atoms (s, fo, mi, is) =
    deep_as _ _ (ap (level 0) is ∙ fragments_level 1 values (open_fragment_atoms last)) (fragment_level 0 last)

by_level : (b t : Bool) (n : ℕ) → Tells n b → decided_at n t ≡ (if b then None else decided_by t)
by_level false t n h = ap (λ (m : ℕ). decided_at m t) h
by_level true t n h = ap (λ (m : ℕ). decided_at m t) h.is

agrees : (g : Tag) (f : Front) (atoms : List Atom) → Shows f atoms → (tag : Tag) (vr : Vr) (declared : Length) → tabled g atoms tag vr declared ≡ table_bar g f tag vr declared
unfolding Shows
agrees g (front trees o r c) atoms (others, shown, more, may, re) tag vr declared =
    ap (λ (n : ℕ). decided_at n (below g tag)) (trees_level trees 0 atoms others shown)
    ∙ by_level (is_open o) (below g tag) (level 0 others) (open_tells o c others more)

never : (b t : Bool) → is_early_bar (if b then None else decided_by t) ≡ false
never true t = refl
never false true = refl
never false false = refl

pub tabled_bars : (g : Tag) → BarsAs (tabled g) (table_bar g)
tabled_bars g = record {
  agree = λ f atoms shown tag vr declared. agrees g f atoms shown tag vr declared;
  never_early = λ f tag vr declared. never_of f (below g tag);
}
  where
    never_of : (f : Front) (t : Bool) → is_early_bar (if holds_open f then None else decided_by t) ≡ false
    never_of (front trees o r c) t = never (is_open o) t
