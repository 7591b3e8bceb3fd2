-- Bytes begin with at most one meta group.
use Rattle.std.proofs.Common.{◌≡◌, ◌∙◌, ◌+◌, ◌≤◌, List, [], ◌++◌, length, take, ℕ, true, false, Some, refl, ap, sym, subst, drop, arith, append_assoc, length-append, length-drop}
use Rattle.std.proofs.lemmas.List.{take_at, drop_at, take-append-drop, take-append-le, drop-drop}
use Rattle.dcm_base.specs.declared.tag.Tag.{Tag}
use Rattle.dcm_base.specs.declared.vr.Vr.{Vr}
use Rattle.dcm_base.specs.declared.vr.Vr.TheVariants.{SQ}
use Rattle.dcm_base.specs.Tables.Syntax.{Little}
use Rattle.dcm_base.specs.declared.length.Length.{Length}
use Rattle.dcm_base.specs.declared.length.Length.TheVariants.{Known}
use Rattle.dcm_base.specs.Tree.Tree.{Trees, no_tree, leaf, sequence, fragments, Items}
use Rattle.dcm_base.specs.Bytes.Head.{ElementHead, head_size, length_at}
use Rattle.dcm_base.specs.Tree.Value.{order}
use Rattle.dcm_base.specs.declared.form.Form.TheVariants.{Value as a_value, Sequence as a_sequence}
use Rattle.dcm_base.specs.Bytes.Spelling.{form, TreesAt, Spells}
use Rattle.dcm_base.proofs.DataSets.Heads.{eight_le_head_size}
use Rattle.dcm_base.proofs.DataSets.Extend.{element_extends}
use Rattle.dcm_base.specs.File.MetaGroup.{GroupPlace}
use Rattle.dcm_base.specs.File.MetaGroup.{an_element}
use Rattle.dcm_base.specs.File.MetaGroup.{group_place, is_sequence, AreMeta, is_element, GroupReads}
use Rattle.dcm_head.proofs.MetaGroups.Elements.{IsElement, element_is}

pub no_sequence : (vr : Vr) (n : ℕ) → form Little vr (Known n) ≡ a_value → is_sequence vr ≡ false
unfolding form
no_sequence SQ n h = absurd (let no : a_sequence ≡ a_value = h in cc)
no_sequence _ n h = refl

pub little : (vr : Vr) (value : List ℕ) → order Little vr value ≡ value
little vr value = refl

-- a leaf of the group, spelled at the front of bytes
pub record LeafAt (tag : Tag) (vr : Vr) (value : List ℕ) (bytes others : List ℕ) : Type 0 where
  pub formed : form Little vr (Known (length value)) ≡ a_value
  pub head : ElementHead Little tag vr (Known (length value)) bytes (value ++ others)

pub leaf_size : (tag : Tag) (vr : Vr) (value bytes others : List ℕ) → LeafAt tag vr value bytes others → length bytes ≡ head_size Little vr + length value + length others
leaf_size tag vr value bytes others l =
    let after = ap length l.head.after_is in
    let a = length-drop (head_size Little vr) bytes in
    let b = length-append value others in
    let whole = l.head.whole in
    omega arith

pub leaf_longer : (tag : Tag) (vr : Vr) (value bytes others more : List ℕ) → LeafAt tag vr value bytes others → LeafAt tag vr value (bytes ++ more) (others ++ more)
leaf_longer tag vr value bytes others more l = record {
  formed = l.formed;
  head = subst (ElementHead Little tag vr (Known (length value)) (bytes ++ more)) (append_assoc value others more) (element_extends Little tag vr (Known (length value)) bytes (value ++ others) more l.head);
}

-- the bytes of the leaf and those behind it
pub leaf_cut : (tag : Tag) (vr : Vr) (value bytes others : List ℕ) → LeafAt tag vr value bytes others → take (head_size Little vr + length value) bytes ++ others ≡ bytes
leaf_cut tag vr value bytes others l =
    let behind : drop (head_size Little vr + length value) bytes ≡ others =
    sym (drop-drop (length value) (head_size Little vr) bytes) ∙ ap (drop (length value)) (sym l.head.after_is) ∙ drop_at value others (length value) refl in
    ap (λ (x : List ℕ). take (head_size Little vr + length value) bytes ++ x) (sym behind) ∙ take-append-drop (head_size Little vr + length value) bytes

-- it is an element there
pub leaf_is : (taken : ℕ) (tag : Tag) (vr : Vr) (value bytes others : List ℕ) → LeafAt tag vr value bytes others → tag.group ≡ 2 → taken + (head_size Little vr + length value) ≤ 16384
    → IsElement taken bytes tag vr (head_size Little vr) (length value)
leaf_is taken tag vr value bytes others l g fits =
    let size = leaf_size tag vr value bytes others l in
    let whole = l.head.whole in
    let eight = eight_le_head_size Little vr in
    record {
      eight = omega arith;
      meta = sym (ap (λ (t : Tag). t.group) l.head.tag_is) ∙ g;
      vr_is = sym l.head.vr_is;
      tag_is = sym l.head.tag_is;
      head_is = refl;
      length_is = sym l.head.length_is;
      plain = no_sequence vr (length value) l.formed;
      fits = fits;
      whole = omega arith;
    }

-- the first of the elements
pub first_leaf : (tag : Tag) (vr : Vr) (value : List ℕ) (rest : Trees) (bytes after : List ℕ) → TreesAt Little (leaf tag vr value rest) bytes after → (others : List ℕ) × LeafAt tag vr value bytes others × TreesAt Little rest others after
unfolding TreesAt
first_leaf tag vr value rest bytes after t = (t.0, record { formed = t.1; head = t.2 }, t.3)

pub empty_spelled : (bytes after : List ℕ) → TreesAt Little no_tree bytes after → bytes ≡ after
unfolding TreesAt
empty_spelled bytes after t = t

pub meta_first : (tag : Tag) (vr : Vr) (value : List ℕ) (rest : Trees) → AreMeta (leaf tag vr value rest) → (tag.group ≡ 2) × AreMeta rest
unfolding AreMeta
meta_first tag vr value rest m = m

-- two leaves at the front of the same bytes
record SameLeaf (tag : Tag) (vr : Vr) (value others : List ℕ) (tag' : Tag) (vr' : Vr) (value' others' : List ℕ) : Type 0 where
  tags : tag ≡ tag'
  vrs : vr ≡ vr'
  values : value ≡ value'
  rest : others ≡ others'

same_leaf : (bytes : List ℕ) (tag : Tag) (vr : Vr) (value others : List ℕ) (tag' : Tag) (vr' : Vr) (value' others' : List ℕ) → LeafAt tag vr value bytes others → LeafAt tag' vr' value' bytes others'
    → SameLeaf tag vr value others tag' vr' value' others'
same_leaf bytes tag vr value others tag' vr' value' others' l m =
    let some : Some vr ≡ Some vr' = l.head.vr_is ∙ sym m.head.vr_is in
    let vrs : vr ≡ vr' = cc in
    let known : Known (length value) ≡ Known (length value') = l.head.length_is ∙ ap (λ (x : Vr). length_at Little x bytes) vrs ∙ sym m.head.length_is in
    let sizes : length value ≡ length value' = cc in
    let after : value ++ others ≡ value' ++ others' = l.head.after_is ∙ ap (λ (x : Vr). drop (head_size Little x) bytes) vrs ∙ sym m.head.after_is in
    record {
      tags = l.head.tag_is ∙ sym m.head.tag_is;
      vrs = vrs;
      values = sym (take_at value others (length value) refl) ∙ ap (take (length value)) after ∙ take_at value' others' (length value) (sym sizes);
      rest = sym (drop_at value others (length value) refl) ∙ ap (drop (length value)) after ∙ drop_at value' others' (length value) (sym sizes);
    }

-- as GroupReads, behind so many bytes of the group
pub record ReadsFrom (taken : ℕ) (bytes : List ℕ) (elements : Trees) (group : List ℕ) (behind : GroupPlace) : Type 0 where
  pub rest : List ℕ
  pub parts : bytes ≡ group ++ rest
  pub spelled : Spells Little elements group
  pub meta : AreMeta elements
  pub within : taken + length group ≤ 16384
  pub behind_is : behind ≡ group_place (taken + length group) rest
  pub no_element : is_element behind ≡ false

pub record SameGroup (elements : Trees) (group : List ℕ) (behind : GroupPlace) (elements' : Trees) (group' : List ℕ) (behind' : GroupPlace) : Type 0 where
  pub elements_are : elements ≡ elements'
  pub group_is : group ≡ group'
  pub behind_is : behind ≡ behind'

-- what follows the first element
record Behind (taken : ℕ) (bytes : List ℕ) (tag : Tag) (vr : Vr) (value : List ℕ) (rest : Trees) (group : List ℕ) (behind : GroupPlace) : Type 0 where
  others : List ℕ
  inner : List ℕ
  at_front : LeafAt tag vr value bytes others
  is : IsElement taken bytes tag vr (head_size Little vr) (length value)
  reads : ReadsFrom (taken + (head_size Little vr + length value)) others rest inner behind
  whole : bytes ≡ take (head_size Little vr + length value) bytes ++ others
  parts : group ≡ take (head_size Little vr + length value) bytes ++ inner

behind_first : (taken : ℕ) (bytes : List ℕ) (tag : Tag) (vr : Vr) (value : List ℕ) (rest : Trees) (group : List ℕ) (behind : GroupPlace) → ReadsFrom taken bytes (leaf tag vr value rest) group behind
    → Behind taken bytes tag vr value rest group behind
behind_first taken bytes tag vr value rest group behind r =
    let first = first_leaf tag vr value rest group [] r.spelled in
    let m = meta_first tag vr value rest r.meta in
    let inner : List ℕ = first.0 in
    let l = first.1 in
    let n : ℕ = head_size Little vr + length value in
    let size = leaf_size tag vr value group inner l in
    let within = r.within in
    let long : LeafAt tag vr value bytes (inner ++ r.rest) = subst (λ (b : List ℕ). LeafAt tag vr value b (inner ++ r.rest)) (sym r.parts) (leaf_longer tag vr value group inner r.rest l) in
    let cut : take n group ++ inner ≡ group = leaf_cut tag vr value group inner l in
    let cut_all : take n bytes ++ (inner ++ r.rest) ≡ bytes = leaf_cut tag vr value bytes (inner ++ r.rest) long in
    let le : n ≤ length group = omega arith in
    let same : take n bytes ≡ take n group = ap (take n) r.parts ∙ take-append-le n group r.rest le in
    let sum : taken + length group ≡ taken + n + length inner = omega arith in
    record {
      others = inner ++ r.rest;
      inner = inner;
      at_front = long;
      is = leaf_is taken tag vr value bytes (inner ++ r.rest) long m.0 (omega arith);
      reads = record {
        rest = r.rest;
        parts = refl;
        spelled = first.2;
        meta = m.1;
        within = omega arith;
        behind_is = r.behind_is ∙ ap (λ (k : ℕ). group_place k r.rest) sum;
        no_element = r.no_element;
      };
      whole = sym cut_all;
      parts = sym cut ∙ ap (λ (x : List ℕ). x ++ inner) (sym same);
    }

not_both : (taken : ℕ) (bytes group : List ℕ) (behind : GroupPlace) (tag : Tag) (vr : Vr) (head size : ℕ) → ReadsFrom taken bytes no_tree group behind → IsElement taken bytes tag vr head size → ⊥
not_both taken bytes group behind tag vr head size r is =
    let none : group ≡ [] = empty_spelled group [] r.spelled in
    let rest : bytes ≡ r.rest = r.parts ∙ ap (λ (g : List ℕ). g ++ r.rest) none in
    let size_is : taken + length group ≡ taken = let zero_is = ap length none in omega arith in
    let there : behind ≡ an_element tag vr head size = r.behind_is ∙ (λ i. group_place (size_is i) (sym rest i)) ∙ element_is taken bytes tag vr head size is in
    let no : true ≡ false = sym (ap is_element there) ∙ r.no_element in
    cc

pub not_meta_sequence : (tag : Tag) (vr : Vr) (declared : Length) (items : Items) (rest : Trees) → AreMeta (sequence tag vr declared items rest) → ⊥
unfolding AreMeta
not_meta_sequence tag vr declared items rest m = m

pub not_meta_fragments : (tag : Tag) (vr : Vr) (values : List (List ℕ)) (rest : Trees) → AreMeta (fragments tag vr values rest) → ⊥
unfolding AreMeta
not_meta_fragments tag vr values rest m = m

pub one_group : (e f : Trees) (taken : ℕ) (bytes group group' : List ℕ) (behind behind' : GroupPlace) → ReadsFrom taken bytes e group behind → ReadsFrom taken bytes f group' behind' → SameGroup e group behind f group' behind'
one_group no_tree no_tree taken bytes group group' behind behind' r q =
    let none : group ≡ [] = empty_spelled group [] r.spelled in
    let none' : group' ≡ [] = empty_spelled group' [] q.spelled in
    let same : group ≡ group' = none ∙ sym none' in
    let rests : r.rest ≡ q.rest = sym (ap (λ (g : List ℕ). g ++ r.rest) none) ∙ sym r.parts ∙ q.parts ∙ ap (λ (g : List ℕ). g ++ q.rest) none' in
    record { elements_are = refl; group_is = same; behind_is = r.behind_is ∙ (λ i. group_place (taken + length (same i)) (rests i)) ∙ sym q.behind_is }
one_group no_tree (leaf tag vr value rest) taken bytes group group' behind behind' r q =
    absurd (let b = behind_first taken bytes tag vr value rest group' behind' q in not_both taken bytes group behind tag vr _ _ r b.is)
one_group (leaf tag vr value rest) no_tree taken bytes group group' behind behind' r q =
    absurd (let b = behind_first taken bytes tag vr value rest group behind r in not_both taken bytes group' behind' tag vr _ _ q b.is)
one_group (leaf tag vr value rest) (leaf tag' vr' value' rest') taken bytes group group' behind behind' r q =
    let b = behind_first taken bytes tag vr value rest group behind r in
    let d = behind_first taken bytes tag' vr' value' rest' group' behind' q in
    let s = same_leaf bytes tag vr value b.others tag' vr' value' d.others b.at_front d.at_front in
    let sizes : head_size Little vr + length value ≡ head_size Little vr' + length value' = λ i. head_size Little (s.vrs i) + length (s.values i) in
    let more : ReadsFrom (taken + (head_size Little vr + length value)) b.others rest' d.inner behind' =
    subst (λ (x : List ℕ). ReadsFrom (taken + (head_size Little vr + length value)) x rest' d.inner behind') (sym s.rest)
    (subst (λ (n : ℕ). ReadsFrom (taken + n) d.others rest' d.inner behind') (sym sizes) d.reads) in
    let rec = one_group rest rest' (taken + (head_size Little vr + length value)) b.others b.inner d.inner behind behind' b.reads more in
    record {
      elements_are = λ i. leaf (s.tags i) (s.vrs i) (s.values i) (rec.elements_are i);
      group_is = b.parts ∙ (λ i. take (sizes i) bytes ++ rec.group_is i) ∙ sym d.parts;
      behind_is = rec.behind_is;
    }
one_group (sequence tag vr declared items rest) f taken bytes group group' behind behind' r q = absurd (not_meta_sequence tag vr declared items rest r.meta)
one_group (fragments tag vr values rest) f taken bytes group group' behind behind' r q = absurd (not_meta_fragments tag vr values rest r.meta)
one_group no_tree (sequence tag vr declared items rest) taken bytes group group' behind behind' r q = absurd (not_meta_sequence tag vr declared items rest q.meta)
one_group no_tree (fragments tag vr values rest) taken bytes group group' behind behind' r q = absurd (not_meta_fragments tag vr values rest q.meta)
one_group (leaf t v x e) (sequence tag vr declared items rest) taken bytes group group' behind behind' r q = absurd (not_meta_sequence tag vr declared items rest q.meta)
one_group (leaf t v x e) (fragments tag vr values rest) taken bytes group group' behind behind' r q = absurd (not_meta_fragments tag vr values rest q.meta)

pub from_start : (bytes : List ℕ) (elements : Trees) (group : List ℕ) (behind : GroupPlace) → GroupReads bytes elements group behind → ReadsFrom 0 bytes elements group behind
from_start bytes elements group behind r =
    let none : length group ≡ 0 + length group = omega arith in
    let within = r.within in
    record {
      rest = r.rest;
      parts = r.parts;
      spelled = r.spelled;
      meta = r.meta;
      within = omega arith;
      behind_is = r.behind_is ∙ ap (λ (n : ℕ). group_place n r.rest) none;
      no_element = r.no_element;
    }
