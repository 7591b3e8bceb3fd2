-- What follows a leaf is of a syntax that differs by its dictionary alone.
use Rattle.std.proofs.Common.{◌≡◌, ℕ, List, refl, sym, ap, ◌∙◌, subst}
use Rattle.dcm_base.specs.declared.tag.Tag.{Tag}
use Rattle.dcm_base.specs.declared.vr.Vr.{Vr}
use Rattle.dcm_base.specs.declared.dictionary.Dictionary.{Dictionary}
use Rattle.dcm_base.specs.declared.syntax.Syntax.{Syntax}
use Rattle.dcm_base.specs.declared.syntax.Syntax.TheVariants.{Implicit as implicit_in, Little as little_in, Big as big_in}
use Rattle.dcm_base.specs.Tables.Syntax.{Little, read_by, dictionary_of}
use Rattle.dcm_base.specs.Bytes.Head.{Delimiter, tag_at}
use Rattle.dcm_base.specs.Tree.Tree.{Trees, no_tree, leaf, sequence, fragments}
use Rattle.dcm_base.specs.Tree.Front.{OpenTree}
use Rattle.dcm_base.specs.Bytes.Spelling.{TreesAt, SpellsOpen, after, after_trees, dictionary_after}
use Rattle.dcm_base.proofs.DataSets.Heads.{NoElement}

none_by : (d : Dictionary) (s : Syntax) (b : List ℕ) → NoElement s b → NoElement (read_by d s) b
none_by d (implicit_in e) b none = none
none_by d (little_in e) b none = none
none_by d (big_in e) b none = none

pub none_after : (s : Syntax) (t : Tag) (v : Vr) (x : List ℕ) (b : List ℕ) → NoElement s b → NoElement (after s t v x) b
none_after s t v x b none = none_by (dictionary_after (dictionary_of s) t v x) s b none

pub after_same : (s : Syntax) (t u : Tag) (v w : Vr) (x y c d : List ℕ) → (t ≡ u) × (v ≡ w) × (x ≡ y) × (c ≡ d) → after s t v x ≡ after s u w y
after_same s t u v w x y c d h =
    ap (λ (z : Tag). after s z v x) h.0 ∙ ap (λ (z : Vr). after s u z x) h.1 ∙ ap (λ (z : List ℕ). after s u w z) h.2

-- the same bytes after a leaf at the other names of it
pub behind_same : (s : Syntax) (t u : Tag) (v w : Vr) (x y c d q : List ℕ) (rest : Trees) → (t ≡ u) × (v ≡ w) × (x ≡ y) × (c ≡ d)
    → TreesAt (after s u w y) rest d q → TreesAt (after s t v x) rest c q
behind_same s t u v w x y c d q rest h at =
    subst (λ (z : List ℕ). TreesAt (after s t v x) rest z q) (sym h.3) (subst (λ (k : Syntax). TreesAt k rest d q) (sym (after_same s t u v w x y c d h)) at)

pub open_behind_same : (s : Syntax) (t u : Tag) (v w : Vr) (x y c d q : List ℕ) (rest : Trees) (o : OpenTree) → (t ≡ u) × (v ≡ w) × (x ≡ y) × (c ≡ d)
    → SpellsOpen (after_trees (after s u w y) rest) o q → SpellsOpen (after_trees (after s t v x) rest) o q
open_behind_same s t u v w x y c d q rest o h at =
    subst (λ (k : Syntax). SpellsOpen (after_trees k rest) o q) (sym (after_same s t u v w x y c d h)) at

pub tag_at_by : (e : Dictionary) (s : Syntax) (b : List ℕ) → tag_at (read_by e s) b ≡ tag_at s b
tag_at_by e (implicit_in d) b = refl
tag_at_by e (little_in d) b = refl
tag_at_by e (big_in d) b = refl

pub tag_at_after : (s : Syntax) (x : Trees) (b : List ℕ) → tag_at (after_trees s x) b ≡ tag_at s b
tag_at_after s no_tree b = refl
tag_at_after s (leaf tag vr value rest) b = tag_at_after (after s tag vr value) rest b ∙ tag_at_by _ s b
tag_at_after s (sequence tag vr declared items rest) b = tag_at_after s rest b
tag_at_after s (fragments tag vr values rest) b = tag_at_after s rest b

pub delimiter_by : (e : Dictionary) (s : Syntax) (t : Tag) (b c : List ℕ) → Delimiter s t b c → Delimiter (read_by e s) t b c
delimiter_by e s t b c h = record { tag_is = h.tag_is ∙ sym (tag_at_by e s b); whole = h.whole; after_is = h.after_is }

-- the extract has no elements that depend on the sign
pub after_little : (x : Trees) → after_trees Little x ≡ Little
after_little no_tree = refl
after_little (leaf tag vr value rest) = after_little rest
after_little (sequence tag vr declared items rest) = after_little rest
after_little (fragments tag vr values rest) = after_little rest

pub read_by_twice : (d e : Dictionary) (s : Syntax) → read_by d (read_by e s) ≡ read_by d s
read_by_twice d e (implicit_in f) = refl
read_by_twice d e (little_in f) = refl
read_by_twice d e (big_in f) = refl
