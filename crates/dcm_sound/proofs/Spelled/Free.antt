-- The heads of a data set may come.
use Rattle.std.proofs.Common.{◌≡◌, ◌≢◌, refl, ℕ, suc, List, [], None, Bool, true, false, not}
use Rattle.std.specs.Prelude.{◌==◌, ◌&&◌}
use Rattle.std.proofs.lemmas.Bool.{ne_eqb}
use Rattle.dcm_base.specs.declared.tag.Tag.{Tag}
use Rattle.dcm_base.specs.declared.syntax.Syntax.{Syntax}
use Rattle.dcm_base.specs.declared.length.Length.{Length}
use Rattle.dcm_base.specs.declared.length.Length.TheVariants.{Known, Undefined}
use Rattle.dcm_base.specs.Tree.Tree.{Trees, no_tree, leaf, sequence, fragments, Items, no_item, item}
use Rattle.dcm_base.specs.Tables.Tag.{item_end_tag, sequence_end_tag}
use Rattle.dcm_base.specs.Bytes.Spelling.{Enclosed, TreesAt, ItemsAt, inside, after}
use Rattle.dcm_base.specs.Reading.Place.{is_data}
use Rattle.dcm_base.specs.Reading.Stop.{HeadBar}
use Rattle.dcm_sound.specs.Sound.{IsDataSet, AreDataSets}
use Rattle.dcm_sound.proofs.Spelled.Left.{MayCome, ItemsMayCome}

-- nothing is barred
abbrev pub free : HeadBar
free tag vr declared = None

both : (a b : Bool) → a ≡ false → b ≡ false → (not a && not b) ≡ true
both false false p q = refl
both true b p q = absurd (cc)
both false true p q = absurd (cc)

is_data_tag : (tag : Tag) → tag.group ≢ 0xFFFE → tag.group ≢ 2 → is_data tag ≡ true
is_data_tag tag p q = both (tag.group == 0xFFFE) (tag.group == 0x0002) (ne_eqb tag.group 0xFFFE p) (ne_eqb tag.group 0x0002 q)

-- contents are enclosed whole
pub enclosed_at : (s : Syntax) (end_tag : Tag) (declared : Length) (R : List ℕ → List ℕ → Type 0) (P : Type 0) (c e : List ℕ) → ((b p : List ℕ) → R b p → P) → Enclosed s end_tag declared R c e → P
enclosed_at s end_tag (Known size) R P c e f (i, parts, full, x) = f i [] x
enclosed_at s end_tag Undefined R P c e f (d, x, delimiter) = f c d x

mutual
  unfolding TreesAt IsDataSet MayCome

  pub may_come : (s : Syntax) (n : ℕ) (x : Trees) (b p : List ℕ) → TreesAt s x b p → IsDataSet n x → MayCome free n x
  may_come s n no_tree b p at h = tt
  may_come s n (leaf tag vr value rest) b p (others, fo, head, more) h = (is_data_tag tag head.no_item h.0, refl, may_come (after s tag vr value) n rest others p more h.1)
  may_come s n (sequence tag vr declared items rest) b p (contents, others, fo, head, inner, more) h = (
    is_data_tag tag head.no_item h.0,
    refl,
    h.1,
    enclosed_at (inside s vr) sequence_end_tag declared (ItemsAt (inside s vr) items) (ItemsMayCome free (suc n) items) contents others (λ c q r. items_may_come (inside s vr) (suc n) items c q r h.2) inner,
    may_come s n rest others p more h.3,
  )
  may_come s n (fragments tag vr values rest) b p (contents, others, fo, head, inner, more) h = (is_data_tag tag head.no_item h.0, refl, h.1, may_come s n rest others p more h.2)

  items_may_come : (s : Syntax) (n : ℕ) (x : Items) (b p : List ℕ) → ItemsAt s x b p → AreDataSets n x → ItemsMayCome free n x
  items_may_come s n no_item b p at h = tt
  items_may_come s n (item declared set rest) b p (contents, others, head, inner, more) h =
      (enclosed_at s item_end_tag declared (TreesAt s set) (MayCome free n set) contents others (λ c q r. may_come s n set c q r h.0) inner, items_may_come s n rest others p more h.1)
