-- What is written of a data set depends on no dictionary.
use Rattle.std.proofs.Common.{◌≡◌, refl, ap, List, ◌++◌, ℕ}
use Rattle.std.specs.Prelude.{[]}
use Rattle.dcm_lemmas.proofs.Lists.{behind_alike}
use Rattle.dcm_base.specs.declared.length.Length.TheVariants.{Undefined}
use Rattle.dcm_base.specs.declared.dictionary.Dictionary.{Dictionary}
use Rattle.dcm_base.specs.declared.syntax.Syntax.{Syntax}
use Rattle.dcm_base.specs.declared.syntax.Syntax.TheVariants.{Implicit as implicit_in, Little as little_in, Big as big_in}
use Rattle.dcm_base.specs.declared.tag.Tag.{Tag}
use Rattle.dcm_base.specs.declared.vr.Vr.TheVariants.{SQ}
use Rattle.dcm_base.specs.Tree.Front.{Front, front, nothing_open, open_leaf, open_sequence, open_fragments}
use Rattle.dcm_base.specs.Conversion.Recode.{recode, recode_set, recode_items, unless_dropped, head as head_bytes, sequence_delimiter, item_head, item_delimiter}
use Rattle.dcm_base.specs.Tables.Syntax.{read_by}
use Rattle.dcm_base.specs.Tree.Tree.{Trees, no_tree, leaf, sequence, fragments, Items, no_item, item}
use Rattle.dcm_editor_laws.proofs.ReadBack.StaysReady.{FrontReady}

pub sequence_more : (t : Tag) (x y a b r q : List ℕ) → a ≡ b → r ≡ q → unless_dropped t (x ++ a ++ y) ++ r ≡ unless_dropped t (x ++ b ++ y) ++ q
sequence_more t x y a b r q e f = cc

pub item_more : (x y a b r q : List ℕ) → a ≡ b → r ≡ q → x ++ a ++ y ++ r ≡ x ++ b ++ y ++ q
item_more x y a b r q e f = cc

mutual
  unfolding recode_set

  set_alike : (d : Dictionary) (s : Syntax) (set : Trees) → recode_set (read_by d s) set ≡ recode_set s set
  set_alike d (implicit_in e) no_tree = refl
  set_alike d (little_in e) no_tree = refl
  set_alike d (big_in e) no_tree = refl
  set_alike d (implicit_in e) (leaf t vr v rest) = behind_alike _ _ _ (set_alike d (implicit_in e) rest)
  set_alike d (little_in e) (leaf t vr v rest) = behind_alike _ _ _ (set_alike d (little_in e) rest)
  set_alike d (big_in e) (leaf t vr v rest) = behind_alike _ _ _ (set_alike d (big_in e) rest)
  set_alike d (implicit_in e) (sequence t vr size items rest) =
      sequence_more t (head_bytes (implicit_in e) t SQ Undefined) (sequence_delimiter (implicit_in e)) _ _ _ _ (items_alike d (implicit_in e) items) (set_alike d (implicit_in e) rest)
  set_alike d (little_in e) (sequence t vr size items rest) =
      sequence_more t (head_bytes (little_in e) t SQ Undefined) (sequence_delimiter (little_in e)) _ _ _ _ (items_alike d (little_in e) items) (set_alike d (little_in e) rest)
  set_alike d (big_in e) (sequence t vr size items rest) =
      sequence_more t (head_bytes (big_in e) t SQ Undefined) (sequence_delimiter (big_in e)) _ _ _ _ (items_alike d (big_in e) items) (set_alike d (big_in e) rest)
  set_alike d (implicit_in e) (fragments t vr values rest) = behind_alike _ _ _ (set_alike d (implicit_in e) rest)
  set_alike d (little_in e) (fragments t vr values rest) = behind_alike _ _ _ (set_alike d (little_in e) rest)
  set_alike d (big_in e) (fragments t vr values rest) = behind_alike _ _ _ (set_alike d (big_in e) rest)

  items_alike : (d : Dictionary) (s : Syntax) (items : Items) → recode_items (read_by d s) items ≡ recode_items s items
  items_alike d (implicit_in e) no_item = refl
  items_alike d (little_in e) no_item = refl
  items_alike d (big_in e) no_item = refl
  items_alike d (implicit_in e) (item size set rest) = item_more (item_head (implicit_in e) Undefined) (item_delimiter (implicit_in e)) _ _ _ _ (set_alike d (implicit_in e) set) (items_alike d (implicit_in e) rest)
  items_alike d (little_in e) (item size set rest) = item_more (item_head (little_in e) Undefined) (item_delimiter (little_in e)) _ _ _ _ (set_alike d (little_in e) set) (items_alike d (little_in e) rest)
  items_alike d (big_in e) (item size set rest) = item_more (item_head (big_in e) Undefined) (item_delimiter (big_in e)) _ _ _ _ (set_alike d (big_in e) set) (items_alike d (big_in e) rest)

-- of a data set in which nothing is open
pub front_alike : (d : Dictionary) (s k : Syntax) (f : Front) → FrontReady k f → recode (read_by d s) f ≡ recode s f
unfolding recode
front_alike d s k (front whole nothing_open reached closed) h = ap (λ (x : List ℕ). x ++ []) (set_alike d s whole)
front_alike d s k (front whole (open_leaf tag vr size value) reached closed) h = absurd (let none = h.1 in cc)
front_alike d s k (front whole (open_sequence tag vr declared items last) reached closed) h = absurd (let none = h.1 in cc)
front_alike d s k (front whole (open_fragments tag vr values last) reached closed) h = absurd (let none = h.1 in cc)
