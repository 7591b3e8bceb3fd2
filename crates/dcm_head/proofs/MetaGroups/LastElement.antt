-- Elements with one more at their end.
use Rattle.std.proofs.Common.{◌≡◌, ◌∙◌, ◌+◌, List, [], ◌++◌, length, drop, ℕ, Bool, true, false, cond, refl, ap, sym, subst, arith, length-drop}
use Rattle.std.proofs.lemmas.List.{append-nil}
use Rattle.dcm_base.specs.declared.tag.Tag.{Tag}
use Rattle.dcm_base.specs.declared.vr.Vr.{Vr}
use Rattle.dcm_base.specs.declared.vr.Vr.TheVariants.{SQ}
use Rattle.dcm_base.specs.Tables.Syntax.{Little}
use Rattle.dcm_base.specs.Tables.Tag.{is_tag}
use Rattle.dcm_base.specs.declared.length.Length.{Length}
use Rattle.dcm_base.specs.declared.length.Length.TheVariants.{Known}
use Rattle.dcm_base.specs.Tree.Tree.{Trees, no_tree, leaf, sequence, fragments, Items}
use Rattle.dcm_base.specs.declared.form.Form.TheVariants.{Value as a_value}
use Rattle.dcm_base.specs.Bytes.Spelling.{form, TreesAt, Spells}
use Rattle.dcm_base.specs.File.MetaGroup.{is_sequence, AreMeta}
use Rattle.dcm_base.specs.File.MetaReads.{syntax_value}
use Rattle.dcm_head.proofs.MetaGroups.Elements.{IsElement}
use Rattle.dcm_head.proofs.MetaGroups.OneGroup.{LeafAt, leaf_longer, first_leaf, empty_spelled}

abbrev pub with_leaf : Trees → Tag → Vr → List ℕ → Trees
with_leaf no_tree tag vr value = leaf tag vr value no_tree
with_leaf (leaf t v x rest) tag vr value = leaf t v x (with_leaf rest tag vr value)
with_leaf (sequence t v declared items rest) tag vr value = sequence t v declared items (with_leaf rest tag vr value)
with_leaf (fragments t v values rest) tag vr value = fragments t v values (with_leaf rest tag vr value)

plain_form : (vr : Vr) (n : ℕ) → is_sequence vr ≡ false → form Little vr (Known n) ≡ a_value
unfolding form
plain_form SQ n h = absurd (let no : true ≡ false = h in cc)
plain_form _ n h = refl

-- an element that ends where the bytes end
pub leaf_of : (taken : ℕ) (rest : List ℕ) (tag : Tag) (vr : Vr) (head size : ℕ) → IsElement taken rest tag vr head size → length rest ≡ head + size → LeafAt tag vr (drop head rest) rest []
leaf_of taken rest tag vr head size is all =
    let left = length-drop head rest in
    let size_is : size ≡ length (drop head rest) = omega arith in
    let two : tag.group ≡ 2 = sym (ap (λ (t : Tag). t.group) is.tag_is) ∙ is.meta in
    let whole = is.whole in
    let head_is = is.head_is in
    record {
      formed = plain_form vr (length (drop head rest)) is.plain;
      head = record {
        no_item = λ h. omega arith;
        head = record {
          tag_is = sym is.tag_is;
          vr_is = sym is.vr_is;
          whole = omega arith;
          length_is = ap Known (sym size_is) ∙ sym is.length_is;
          after_is = append-nil (drop head rest) ∙ ap (λ (n : ℕ). drop n rest) (sym is.head_is);
        };
      };
    }

leaf_first : (tag : Tag) (vr : Vr) (value : List ℕ) (rest : Trees) (bytes others after : List ℕ) → LeafAt tag vr value bytes others → TreesAt Little rest others after → TreesAt Little (leaf tag vr value rest) bytes after
unfolding TreesAt
leaf_first tag vr value rest bytes others after l t = (others, l.formed, l.head, t)

empty_there : (bytes : List ℕ) → TreesAt Little no_tree bytes bytes
unfolding TreesAt
empty_there bytes = refl

not_sequence : (tag : Tag) (vr : Vr) (declared : Length) (items : Items) (rest : Trees) → AreMeta (sequence tag vr declared items rest) → ⊥
unfolding AreMeta
not_sequence tag vr declared items rest m = m

not_fragments : (tag : Tag) (vr : Vr) (values : List (List ℕ)) (rest : Trees) → AreMeta (fragments tag vr values rest) → ⊥
unfolding AreMeta
not_fragments tag vr values rest m = m

first_is : (tag : Tag) (vr : Vr) (value : List ℕ) (rest : Trees) → AreMeta (leaf tag vr value rest) → (tag.group ≡ 2) × AreMeta rest
unfolding AreMeta
first_is tag vr value rest m = m

first_meta : (tag : Tag) (vr : Vr) (value : List ℕ) (rest : Trees) → tag.group ≡ 2 → AreMeta rest → AreMeta (leaf tag vr value rest)
unfolding AreMeta
first_meta tag vr value rest g m = (g, m)

pub none_meta : AreMeta no_tree
unfolding AreMeta
none_meta = tt

pub none_spelled : Spells Little no_tree []
none_spelled = empty_there []

pub spelled_more : (e : Trees) (group own : List ℕ) (tag : Tag) (vr : Vr) (value : List ℕ) → AreMeta e → Spells Little e group → LeafAt tag vr value own [] → Spells Little (with_leaf e tag vr value) (group ++ own)
spelled_more no_tree group own tag vr value m s l =
    subst (λ (b : List ℕ). TreesAt Little (leaf tag vr value no_tree) b []) (ap (λ (g : List ℕ). g ++ own) (sym (empty_spelled group [] s))) (leaf_first tag vr value no_tree own [] [] l (empty_there []))
spelled_more (leaf t v x rest) group own tag vr value m s l =
    let f = first_leaf t v x rest group [] s in
    leaf_first t v x (with_leaf rest tag vr value) (group ++ own) (f.0 ++ own) [] (leaf_longer t v x group f.0 own f.1) (spelled_more rest f.0 own tag vr value (first_is t v x rest m).1 f.2 l)
spelled_more (sequence t v declared items rest) group own tag vr value m s l = absurd (not_sequence t v declared items rest m)
spelled_more (fragments t v values rest) group own tag vr value m s l = absurd (not_fragments t v values rest m)

pub meta_more : (e : Trees) (tag : Tag) (vr : Vr) (value : List ℕ) → AreMeta e → tag.group ≡ 2 → AreMeta (with_leaf e tag vr value)
meta_more no_tree tag vr value m g = first_meta tag vr value no_tree g none_meta
meta_more (leaf t v x rest) tag vr value m g = let f = first_is t v x rest m in first_meta t v x (with_leaf rest tag vr value) f.0 (meta_more rest tag vr value f.1 g)
meta_more (sequence t v declared items rest) tag vr value m g = absurd (not_sequence t v declared items rest m)
meta_more (fragments t v values rest) tag vr value m g = absurd (not_fragments t v values rest m)

abbrev pub has_syntax : Trees → Bool
has_syntax no_tree = false
has_syntax (leaf t v x rest) = cond (is_tag 2 0x10 t) true (has_syntax rest)
has_syntax (sequence t v declared items rest) = has_syntax rest
has_syntax (fragments t v values rest) = has_syntax rest

same_cond : {A : Type 0} (b c : Bool) (x y w z : A) → y ≡ cond c w z → cond b x y ≡ cond (cond b true c) (cond b x w) z
same_cond true c x y w z h = refl
same_cond false c x y w z h = h

pub has_more : (e : Trees) (tag : Tag) (vr : Vr) (value : List ℕ) → has_syntax (with_leaf e tag vr value) ≡ cond (has_syntax e) true (is_tag 2 0x10 tag)
has_more no_tree tag vr value = elim (is_tag 2 0x10 tag) as (λ (b : Bool). cond b true false ≡ b) [ true ↦ refl | false ↦ refl ]
has_more (leaf t v x rest) tag vr value =
    let h = has_more rest tag vr value in
    elim (is_tag 2 0x10 t) as (λ (b : Bool). cond b true (has_syntax (with_leaf rest tag vr value)) ≡ cond (cond b true (has_syntax rest)) true (is_tag 2 0x10 tag)) [ true ↦ refl | false ↦ h ]
has_more (sequence t v declared items rest) tag vr value = has_more rest tag vr value
has_more (fragments t v values rest) tag vr value = has_more rest tag vr value

pub value_more : (e : Trees) (tag : Tag) (vr : Vr) (value : List ℕ) → syntax_value (with_leaf e tag vr value) ≡ cond (has_syntax e) (syntax_value e) (cond (is_tag 2 0x10 tag) value [])
value_more no_tree tag vr value = refl
value_more (leaf t v x rest) tag vr value = same_cond (is_tag 2 0x10 t) (has_syntax rest) x (syntax_value (with_leaf rest tag vr value)) (syntax_value rest) (cond (is_tag 2 0x10 tag) value []) (value_more rest tag vr value)
value_more (sequence t v declared items rest) tag vr value = value_more rest tag vr value
value_more (fragments t v values rest) tag vr value = value_more rest tag vr value

pub no_syntax : (e : Trees) → has_syntax e ≡ false → syntax_value e ≡ []
no_syntax no_tree h = refl
no_syntax (leaf t v x rest) h =
    let go : (b : Bool) → cond b true (has_syntax rest) ≡ false → cond b x (syntax_value rest) ≡ [] =
    λ b. elim b as (λ (c : Bool). cond c true (has_syntax rest) ≡ false → cond c x (syntax_value rest) ≡ []) [ true ↦ λ g. absurd (let no : true ≡ false = g in cc) | false ↦ λ g. no_syntax rest g ] in
    go (is_tag 2 0x10 t) h
no_syntax (sequence t v declared items rest) h = no_syntax rest h
no_syntax (fragments t v values rest) h = no_syntax rest h
