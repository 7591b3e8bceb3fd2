-- Nothing that was taken is in what is read back.
use Rattle.std.proofs.Common.{◌≡◌, ◌≢◌, ◌∙◌, ap, sym, refl, subst, ℕ, ◌≤◌, ◌<◌, List, [], length, Bool, true, false, arith, if◌then◌else◌}
use Rattle.std.specs.Prelude.{◌==◌, nat_lt, not, ◌&&◌}
use Rattle.std.proofs.lemmas.Bool.Decides.{nat_tests}
use Rattle.std.proofs.lemmas.List.{nil_from_length}
use Rattle.dcm_lemmas.proofs.Truth.{and_last_false}
use Rattle.dcm_base.specs.declared.syntax.Syntax.{Syntax}
use Rattle.dcm_base.specs.declared.syntax.Syntax.TheVariants.{Implicit as implicit_in, Little as little_in, Big as big_in}
use Rattle.dcm_base.specs.declared.tag.Tag.{Tag}
use Rattle.dcm_base.specs.declared.vr.Vr.{Vr}
use Rattle.dcm_base.specs.declared.vr.Vr.TheVariants.{SQ, UN}
use Rattle.dcm_base.specs.Bytes.Spelling.{after, says_sign}
use Rattle.dcm_base.specs.Conversion.Normal.{normal, normal_items, normal_value, normal_vr}
use Rattle.dcm_base.specs.Conversion.Recode.{even, is_explicit, too_long}
use Rattle.dcm_base.specs.Tables.Dictionary as D
use Rattle.dcm_base.specs.Tables.Representation.{is_long, pad}
use Rattle.dcm_base.specs.Tables.Transfer.{without_pads}
use Rattle.dcm_base.specs.Tree.Tree.{Trees, no_tree, leaf, sequence, fragments, Items, no_item, item}
use Rattle.dcm_base.specs.Tree.Value.{evened, order}
use Rattle.dcm_base.proofs.Conversions.NormalForm.{evened_same, evened_size, normal_size}
use Rattle.dcm_base.proofs.Conversions.Order.{length-order, order_twice}
use Rattle.dcm_base.proofs.Dictionaries.TagOrder.{tag_is}
use Rattle.dcm_deid.specs.declared.fate.NewValue.{NewValue}
use Rattle.dcm_deid.specs.declared.fate.Fate.{Fate}
use Rattle.dcm_deid.specs.declared.fate.Fate.TheVariants.{Remove, Empty, Replace, Anew, Keep}
use Rattle.dcm_deid.specs.declared.fate.Options.{Options}
use Rattle.dcm_deid.specs.declared.fate.Depth.{Depth}
use Rattle.dcm_deid.specs.declared.fate.Depth.TheVariants.{Outermost, Inside}
use Rattle.dcm_deid.specs.declared.fate.ReadAs.TheVariants.{AsBytes, AsItems}
use Rattle.dcm_deid.specs.Fate.{actions, fate_as}
use Rattle.dcm_deid.specs.Deidentify.{dummy, value_by, leaf_by, sequence_by, fragments_by, deidentified_set, items_by_fate}
use Rattle.dcm_deid.specs.Remains.{AreClean, IsKept, ItemsAreClean, SequenceIsClean}
use Rattle.dcm_deid.specs.MadeNew.{made_new}
use Rattle.dcm_deid.specs.Saying.{says, tag_at, unsaid}
use Rattle.dcm_deid.proofs.Formed.{made_form}
use Rattle.dcm_deid_laws.specs.Clean.{WrittenIsClean}
use Rattle.dcm_deid_laws.proofs.Named.{AreNamed, IsNamed, ItemsAreNamed, named_after, same_after}
use Rattle.dcm_deid_laws.proofs.Ready.{dummy_short, renamed_short}

-- ---- PixelRepresentation is kept

abbrev sign : Tag
sign = tag_at 0x0028 0x0103

sign_kept : (options : Options) (depth : Depth) → fate_as options depth AsBytes sign ≡ Keep
unfolding fate_as D.vr_in D.element_in D.elements_in D.entries D.ambiguous actions
sign_kept options Outermost = refl
sign_kept options Inside = refl

by_sign : (options : Options) (depth : Depth) (t : Tag) (b : Bool) → says_sign t ≡ b → fate_as options depth AsBytes t ≢ Keep → b ≡ false
by_sign options depth t true e other = absurd (other (ap (fate_as options depth AsBytes) (tag_is t sign e) ∙ sign_kept options depth))
by_sign options depth t false e other = refl

-- what is not kept says no sign
pub no_sign : (options : Options) (depth : Depth) (t : Tag) (fate : Fate) → fate_as options depth AsBytes t ≡ fate → fate ≢ Keep → says_sign t ≡ false
no_sign options depth t fate e other = by_sign options depth t (says_sign t) refl (λ k. other (sym e ∙ k))

-- ---- short values

short_even : (n : ℕ) (b : Bool) → nat_lt 65534 (even n) ≡ b → n ≤ 256 → b ≡ false
short_even n true e h = let more : 65534 < even n = grind (arith, nat_tests, e) in absurd (omega (arith, more))
short_even n false e h = refl

short_fits : (s : Syntax) (vr : Vr) (n : ℕ) → n ≤ 256 → too_long s vr n ≡ false
short_fits s vr n h = ap (λ (b : Bool). is_explicit s && (not (is_long vr) && b)) (short_even n (nat_lt 65534 (even n)) refl h) ∙ and_last_false (is_explicit s) (not (is_long vr))

-- they keep their representation
pub short_vr : (s : Syntax) (t : Tag) (vr : Vr) (n : ℕ) → n ≤ 256 → IsNamed s t vr → normal_vr s t vr n ≡ vr
short_vr (implicit_in d) t vr n h is = sym is
short_vr (little_in d) t vr n h is = ap (λ (b : Bool). if b then UN else vr) (short_fits (little_in d) vr n h)
short_vr (big_in d) t vr n h is = ap (λ (b : Bool). if b then UN else vr) (short_fits (big_in d) vr n h)

pub short_value : (s : Syntax) (t : Tag) (vr : Vr) (v : List ℕ) → length v ≤ 256 → IsNamed s t vr → normal_value s t vr v ≡ order s vr (evened (pad vr) (order s vr v))
short_value s t vr v h is =
    ap (λ (w : Vr). order s w (evened (pad vr) (if too_long s vr (length v) then v else order s vr v))) (short_vr s t vr (length v) h is)
    ∙ ap (λ (b : Bool). order s vr (evened (pad vr) (if b then v else order s vr v))) (short_fits s vr (length v) h)

-- and their bytes
pub none_written : (s : Syntax) (t : Tag) (vr : Vr) → normal_value s t vr [] ≡ []
none_written s t vr = nil_from_length (normal_value s t vr []) (normal_size s t vr [])

dummy_ordered : (s : Syntax) (vr : Vr) → order s vr (evened (pad vr) (order s vr (dummy vr))) ≡ evened (pad vr) (dummy vr)
unfolding dummy
dummy_ordered (implicit_in d) SQ = refl
dummy_ordered (implicit_in d) vr = refl
dummy_ordered (little_in d) SQ = refl
dummy_ordered (little_in d) vr = refl
dummy_ordered (big_in d) SQ = refl
dummy_ordered (big_in d) vr = refl

pub dummy_written : (s : Syntax) (t : Tag) (vr : Vr) → IsNamed s t vr → normal_value s t vr (dummy vr) ≡ evened (pad vr) (dummy vr)
dummy_written s t vr is = short_value s t vr (dummy vr) (dummy_short vr) is ∙ dummy_ordered s vr

renamed_written : (options : Options) (made : NewValue) (s : Syntax) (t : Tag) (vr : Vr) (key old : List ℕ) → IsNamed s t vr
    → normal_value s t vr (evened (pad vr) (made_new options key made old)) ≡ evened (pad vr) (made_new options key made old)
renamed_written options made s t vr key old is =
    let u : List ℕ = evened (pad vr) (made_new options key made old) in
    short_value s t vr u (renamed_short options key made vr old) is
    ∙ ap (order s vr) (evened_same (pad vr) (order s vr u) (length (made_new options key made old)) (length-order s vr u ∙ evened_size (pad vr) (made_new options key made old)))
    ∙ order_twice s vr u

-- ---- data sets

module _ (options : Options) (key : List ℕ) where
  abbrev without : Depth → Trees → Trees
  without depth x = deidentified_set options (made_new options key) depth x

  abbrev without_items : Items → Items
  without_items x = items_by_fate (fate_as options) (value_by (made_new options key)) x

  abbrev Clean : Depth → Trees → Type 0
  Clean depth x = AreClean (WrittenIsClean options key) (fate_as options) depth x

  abbrev CleanItems : Items → Type 0
  CleanItems x = ItemsAreClean (WrittenIsClean options key) (fate_as options) x

  set_if : (depth : Depth) (b : Bool) (x y : Trees) → Clean depth x → Clean depth y → Clean depth (if b then x else y)
  set_if depth true x y h k = h
  set_if depth false x y h k = k

  -- a leaf with a new value
  value_back : (s : Syntax) (depth : Depth) (fate : Fate) (t : Tag) (vr : Vr) (v : List ℕ) (rest : Trees) → fate_as options depth AsBytes t ≡ fate → WrittenIsClean options key fate (normal_vr s t vr (length v)) (normal_value s t vr v)
      → Clean depth (normal (after s t (normal_vr s t vr (length v)) (normal_value s t vr v)) rest) → Clean depth (normal s (leaf t vr v rest))
  unfolding normal
  value_back s depth fate t vr v rest e is h =
      set_if depth (t.element == 0) _ _ h (subst (λ (k : Fate). WrittenIsClean options key k (normal_vr s t vr (length v)) (normal_value s t vr v)) (sym e) is, h)

  leaf_back : (s : Syntax) (depth : Depth) (fate : Fate) (t : Tag) (vr : Vr) (v : List ℕ) (rest : Trees) → fate_as options depth AsBytes t ≡ fate → IsNamed s t vr → AreNamed (after s t vr v) rest
      → ((k : Syntax) → AreNamed k rest → Clean depth (normal k (without depth rest))) → Clean depth (normal s (leaf_by fate t vr (value_by (made_new options key) fate vr v) (without depth rest)))
  leaf_back s depth Remove t vr v rest e is named more = more s (subst (λ (k : Syntax). AreNamed k rest) (same_after s t vr v (no_sign options depth t Remove e (λ k. cc))) named)
  leaf_back s depth Empty t vr v rest e is named more =
      let none = no_sign options depth t Empty e (λ k. cc) in
      let here : AreNamed s rest = subst (λ (k : Syntax). AreNamed k rest) (same_after s t vr v none) named in
      value_back s depth Empty t vr [] (without depth rest) e (none_written s t vr) (more _ (subst (λ (k : Syntax). AreNamed k rest) (sym (same_after s t _ _ none)) here))
  leaf_back s depth Replace t vr v rest e is named more =
      let none = no_sign options depth t Replace e (λ k. cc) in
      let here : AreNamed s rest = subst (λ (k : Syntax). AreNamed k rest) (same_after s t vr v none) named in
      value_back s depth Replace t vr (dummy vr) (without depth rest) e
      (dummy_written s t vr is ∙ ap (λ (w : Vr). evened (pad w) (dummy w)) (sym (short_vr s t vr (length (dummy vr)) (dummy_short vr) is)))
      (more _ (subst (λ (k : Syntax). AreNamed k rest) (sym (same_after s t _ _ none)) here))
  leaf_back s depth (Anew made) t vr v rest e is named more =
      let none = no_sign options depth t (Anew made) e (λ k. cc) in
      let here : AreNamed s rest = subst (λ (k : Syntax). AreNamed k rest) (same_after s t vr v none) named in
      let old : List ℕ = without_pads v in
      let u : List ℕ = evened (pad vr) (made_new options key made old) in
      value_back s depth (Anew made) t vr u (without depth rest) e
      (old, made_form options key made old, renamed_written options made s t vr key old is ∙ ap (λ (w : Vr). evened (pad w) (made_new options key made old)) (sym (short_vr s t vr (length u) (renamed_short options key made vr old) is)))
      (more _ (subst (λ (k : Syntax). AreNamed k rest) (sym (same_after s t _ _ none)) here))
  leaf_back s depth Keep t vr v rest e is named more = value_back s depth Keep t vr v (without depth rest) e tt (more _ (named_after s t vr v rest is named))

  sequence_back : (s : Syntax) (depth : Depth) (fate : Fate) (t : Tag) (vr : Vr) (items : Items) (rest : Trees) → fate_as options depth AsItems t ≡ fate → CleanItems (normal_items s items) → Clean depth (normal s rest)
      → Clean depth (normal s (sequence_by fate t vr items rest))
  unfolding normal
  sequence_back s depth Remove t vr items rest e i h = h
  sequence_back s depth Empty t vr items rest e i h = set_if depth (t.element == 0) _ _ h (subst (λ (k : Fate). SequenceIsClean k no_item (Unit {0})) (sym e) refl, h)
  sequence_back s depth Replace t vr items rest e i h = set_if depth (t.element == 0) _ _ h (subst (λ (k : Fate). SequenceIsClean k no_item (Unit {0})) (sym e) refl, h)
  sequence_back s depth (Anew made) t vr items rest e i h = set_if depth (t.element == 0) _ _ h (subst (λ (k : Fate). SequenceIsClean k no_item (Unit {0})) (sym e) refl, h)
  sequence_back s depth Keep t vr items rest e i h =
      set_if depth (t.element == 0) _ _ h (subst (λ (k : Fate). SequenceIsClean k (normal_items s items) (CleanItems (normal_items s items))) (sym e) i, h)

  fragments_back : (s : Syntax) (depth : Depth) (fate : Fate) (t : Tag) (vr : Vr) (parts : List (List ℕ)) (rest : Trees) → fate_as options depth AsBytes t ≡ fate → Clean depth (normal s rest)
      → Clean depth (normal s (fragments_by fate t vr parts rest))
  unfolding normal
  fragments_back s depth Remove t vr parts rest e h = h
  fragments_back s depth Empty t vr parts rest e h = h
  fragments_back s depth Replace t vr parts rest e h = h
  fragments_back s depth (Anew made) t vr parts rest e h = h
  fragments_back s depth Keep t vr parts rest e h = set_if depth (t.element == 0) _ _ h (subst IsKept (sym e) tt, h)

  mutual
    unfolding normal

    pub set_back : (s : Syntax) (depth : Depth) (x : Trees) → AreNamed s x → Clean depth (normal s (without depth x))
    set_back s depth no_tree named = tt
    set_back s depth (leaf t vr v rest) named = leaf_back s depth (fate_as options depth AsBytes t) t vr v rest refl named.0 named.1 (λ k h. set_back k depth rest h)
    set_back s depth (sequence t vr declared items rest) named =
        sequence_back s depth (fate_as options depth AsItems t) t vr (without_items items) (without depth rest) refl (items_back s items named.0) (set_back s depth rest named.1)
    set_back s depth (fragments t vr parts rest) named = fragments_back s depth (fate_as options depth AsBytes t) t vr parts (without depth rest) refl (set_back s depth rest named)

    pub items_back : (s : Syntax) (x : Items) → ItemsAreNamed s x → CleanItems (normal_items s (without_items x))
    items_back s no_item named = tt
    items_back s (item declared set rest) named = (set_back s Inside set named.0, items_back s rest named.1)

  -- ---- without some elements

  pub unsaid_clean : (depth : Depth) (x : Trees) → Clean depth x → Clean depth (unsaid x)
  unsaid_clean depth no_tree h = tt
  unsaid_clean depth (leaf t vr v rest) h = let more = unsaid_clean depth rest h.1 in set_if depth (says t) _ _ more (h.0, more)
  unsaid_clean depth (sequence t vr declared items rest) h = let more = unsaid_clean depth rest h.1 in set_if depth (says t) _ _ more (h.0, more)
  unsaid_clean depth (fragments t vr parts rest) h = let more = unsaid_clean depth rest h.1 in set_if depth (says t) _ _ more (h.0, more)
