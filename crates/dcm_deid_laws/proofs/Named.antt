-- The representations of an implicit data set are those of the dictionary.
use Rattle.std.proofs.Common.{◌≡◌, ◌∙◌, ap, sym, refl, subst, ℕ, List, [], ◌∷◌, length, take, Bool, true, false, if◌then◌else◌}
use Rattle.std.specs.Prelude.{bytes_eq}
use Rattle.dcm_base.proofs.DataSets.Shown.{enclosed_shown}
use Rattle.dcm_editor_laws.proofs.Readers.Hidden.{still_explicit}
use Rattle.dcm_lemmas.proofs.Options.{some_same}
use Rattle.dcm_base.specs.declared.dictionary.Dictionary.{Dictionary}
use Rattle.dcm_base.specs.declared.dictionary.Dictionary.TheVariants.{Extract, Standard, Signed}
use Rattle.dcm_base.specs.declared.length.Length.{Length}
use Rattle.dcm_base.specs.declared.syntax.Syntax.{Syntax}
use Rattle.dcm_base.specs.declared.syntax.Syntax.TheVariants.{Implicit as implicit_in, Little as little_in, Big as big_in}
use Rattle.dcm_base.specs.declared.tag.Tag.{Tag}
use Rattle.dcm_base.specs.declared.vr.Vr.{Vr}
use Rattle.dcm_base.specs.declared.vr.Vr.TheVariants.{UN}
use Rattle.dcm_base.specs.Bytes.Head.{ElementHead, tag_at, vr_at}
use Rattle.dcm_base.specs.Bytes.Spelling.{ItemsAt, TreesAt, after, dictionary_after, inside, is_one, says_sign, sign_after}
use Rattle.dcm_base.specs.Conversion.Normal.{normal_value, normal_vr}
use Rattle.dcm_base.specs.Conversion.Recode.{is_explicit}
use Rattle.dcm_base.specs.Tables.Dictionary.{if_signed, vr_in}
use Rattle.dcm_base.specs.Tables.Representation.{pad}
use Rattle.dcm_base.specs.Tables.Syntax.{dictionary_of, read_by}
use Rattle.dcm_base.specs.Tables.Tag.{item_end_tag, sequence_end_tag}
use Rattle.dcm_base.specs.Tree.Tree.{Trees, no_tree, leaf, sequence, fragments, Items, no_item, item}
use Rattle.dcm_base.specs.Tree.Value.{evened}
use Rattle.dcm_base.proofs.Conversions.NormalForm.{evened_same, evened_size, own_dictionary}

-- an implicit head leaves a representation to the dictionary
abbrev pub IsNamed : Syntax → Tag → Vr → Type 0
IsNamed (implicit_in d) t vr = vr ≡ vr_in d t
IsNamed s t vr = Unit {0}

abbrev mutual
  pub AreNamed : Syntax → Trees → Type 0
  AreNamed s no_tree = Unit {0}
  AreNamed s (leaf t vr v rest) = IsNamed s t vr × AreNamed (after s t vr v) rest
  AreNamed s (sequence t vr declared items rest) = ItemsAreNamed s items × AreNamed s rest
  AreNamed s (fragments t vr parts rest) = AreNamed s rest

  pub ItemsAreNamed : Syntax → Items → Type 0
  ItemsAreNamed s no_item = Unit {0}
  ItemsAreNamed s (item declared set rest) = AreNamed s set × ItemsAreNamed s rest

-- ---- an explicit one

explicit_one : (s : Syntax) (t : Tag) (vr : Vr) → is_explicit s ≡ true → IsNamed s t vr
explicit_one (implicit_in d) t vr is = absurd (cc)
explicit_one (little_in d) t vr is = tt
explicit_one (big_in d) t vr is = tt

mutual
  pub explicit_named : (s : Syntax) (x : Trees) → is_explicit s ≡ true → AreNamed s x
  explicit_named s no_tree is = tt
  explicit_named s (leaf t vr v rest) is = (explicit_one s t vr is, explicit_named (after s t vr v) rest (still_explicit (dictionary_after (dictionary_of s) t vr v) s is))
  explicit_named s (sequence t vr declared items rest) is = (explicit_items s items is, explicit_named s rest is)
  explicit_named s (fragments t vr parts rest) is = explicit_named s rest is

  explicit_items : (s : Syntax) (x : Items) → is_explicit s ≡ true → ItemsAreNamed s x
  explicit_items s no_item is = tt
  explicit_items s (item declared set rest) is = (explicit_named s set is, explicit_items s rest is)

-- ---- an implicit one

by_dictionary : (d : Dictionary) (t : Tag) (vr : Vr) (l : Length) (b c : List ℕ) → ElementHead (implicit_in d) t vr l b c → vr ≡ vr_in d t
unfolding vr_at
by_dictionary d t vr l b c h = some_same vr (vr_in d (tag_at (implicit_in d) b)) h.vr_is ∙ ap (vr_in d) (sym h.tag_is)

still_implicit : (d : Dictionary) (vr : Vr) → inside (implicit_in d) vr ≡ implicit_in d
unfolding inside
still_implicit d UN = refl
still_implicit d vr = refl

mutual
  unfolding TreesAt

  implicit_named : (d : Dictionary) (x : Trees) (b p : List ℕ) → TreesAt (implicit_in d) x b p → AreNamed (implicit_in d) x
  implicit_named d no_tree b p h = tt
  implicit_named d (leaf t vr v rest) b p (others, fo, head, more) = (by_dictionary d t vr _ b _ head, implicit_named (dictionary_after d t vr v) rest others p more)
  implicit_named d (sequence t vr declared items rest) b p (contents, others, fo, head, inner, more) = (
    enclosed_shown (inside (implicit_in d) vr) sequence_end_tag declared (ItemsAt (inside (implicit_in d) vr) items) contents others (ItemsAreNamed (implicit_in d) items)
        (λ c q r. implicit_items d items c q (subst (λ (s : Syntax). ItemsAt s items c q) (still_implicit d vr) r)) inner,
    implicit_named d rest others p more,
  )
  implicit_named d (fragments t vr parts rest) b p (contents, others, fo, head, inner, more) = implicit_named d rest others p more

  implicit_items : (d : Dictionary) (x : Items) (b p : List ℕ) → ItemsAt (implicit_in d) x b p → ItemsAreNamed (implicit_in d) x
  implicit_items d no_item b p h = tt
  implicit_items d (item declared set rest) b p (contents, others, head, inner, more) =
      (enclosed_shown (implicit_in d) item_end_tag declared (TreesAt (implicit_in d) set) contents others (AreNamed (implicit_in d) set) (λ c q r. implicit_named d set c q r) inner, implicit_items d rest others p more)

pub spelled_named : (s : Syntax) (x : Trees) (b p : List ℕ) → TreesAt s x b p → AreNamed s x
spelled_named (implicit_in d) x b p h = implicit_named d x b p h
spelled_named (little_in d) x b p h = explicit_named (little_in d) x refl
spelled_named (big_in d) x b p h = explicit_named (big_in d) x refl

-- ---- after a leaf

unsigned : (d : Dictionary) (t : Tag) (vr : Vr) (v : List ℕ) → says_sign t ≡ false → dictionary_after d t vr v ≡ d
unfolding sign_after
unsigned Extract t vr v e = refl
unsigned Standard t vr v e = ap (λ (b : Bool). if b then if_signed (is_one vr v) Standard else Standard) e
unsigned Signed t vr v e = ap (λ (b : Bool). if b then if_signed (is_one vr v) Signed else Signed) e

-- it is the same where that says no sign
pub same_after : (s : Syntax) (t : Tag) (vr : Vr) (v : List ℕ) → says_sign t ≡ false → after s t vr v ≡ s
same_after s t vr v e = ap (λ (d : Dictionary). read_by d s) (unsigned (dictionary_of s) t vr v e) ∙ own_dictionary s

-- and where the leaf is written and read
one_again : (vr : Vr) (v : List ℕ) → is_one vr (evened (pad vr) v) ≡ is_one vr v
one_again vr v = ap (λ (x : List ℕ). bytes_eq (take 2 x) (1 ∷ 0 ∷ [])) (evened_same (pad vr) (evened (pad vr) v) (length v) (evened_size (pad vr) v))

implicit_again : (d : Dictionary) (t : Tag) (vr : Vr) (v : List ℕ) → dictionary_after d t vr (evened (pad vr) v) ≡ dictionary_after d t vr v
unfolding sign_after
implicit_again Extract t vr v = refl
implicit_again Standard t vr v = ap (λ (one : Bool). if says_sign t then if_signed one Standard else Standard) (one_again vr v)
implicit_again Signed t vr v = ap (λ (one : Bool). if says_sign t then if_signed one Signed else Signed) (one_again vr v)

kept_after : (d : Dictionary) (t : Tag) (vr : Vr) (v : List ℕ) → vr ≡ vr_in d t → after (implicit_in d) t (normal_vr (implicit_in d) t vr (length v)) (normal_value (implicit_in d) t vr v) ≡ after (implicit_in d) t vr v
kept_after d t vr v e =
    ap (λ (w : Vr). after (implicit_in d) t w (evened (pad vr) v)) (sym e) ∙ ap (λ (k : Dictionary). read_by k (implicit_in d)) (implicit_again d t vr v)

pub named_after : (s : Syntax) (t : Tag) (vr : Vr) (v : List ℕ) (rest : Trees) → IsNamed s t vr → AreNamed (after s t vr v) rest → AreNamed (after s t (normal_vr s t vr (length v)) (normal_value s t vr v)) rest
named_after (implicit_in d) t vr v rest is h = subst (λ (k : Syntax). AreNamed k rest) (sym (kept_after d t vr v is)) h
named_after (little_in d) t vr v rest is h = explicit_named _ rest refl
named_after (big_in d) t vr v rest is h = explicit_named _ rest refl
