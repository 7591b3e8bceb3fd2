-- The elements that say what was done are put again where they were.
use Rattle.std.proofs.Common.{◌≡◌, ◌≢◌, ◌∙◌, ap, sym, refl, subst, ℕ, List, length, map, Bool, true, false, ◌||◌, not, ◌==◌, if◌then◌else◌}
use Rattle.std.specs.Prelude.{codes}
use Rattle.dcm_base.specs.declared.dictionary.Dictionary.{Dictionary}
use Rattle.dcm_base.specs.declared.dictionary.Dictionary.TheVariants.{Extract, Standard, Signed}
use Rattle.dcm_base.specs.declared.length.Length.TheVariants.{Undefined}
use Rattle.dcm_base.specs.declared.syntax.Syntax.{Syntax}
use Rattle.dcm_base.specs.declared.syntax.Syntax.TheVariants.{Implicit as implicit_in, Little as little_in, Big as big_in}
use Rattle.dcm_base.specs.declared.tag.Tag.{Tag}
use Rattle.dcm_base.specs.declared.vr.Vr.{Vr}
use Rattle.dcm_base.specs.declared.vr.Vr.TheVariants.{CS, LO, SQ}
use Rattle.dcm_base.specs.Bytes.Spelling.{after, dictionary_after, is_one, says_sign, sign_after}
use Rattle.dcm_base.specs.Conversion.Normal.{normal, normal_items, normal_sequence_vr, normal_value, normal_vr}
use Rattle.dcm_base.specs.Conversion.Recode.{recode_set}
use Rattle.dcm_base.specs.Tables.Dictionary as D
use Rattle.dcm_base.specs.Tables.Dictionary.{if_signed}
use Rattle.dcm_base.specs.Tables.Syntax.{dictionary_of, read_by}
use Rattle.dcm_base.specs.Tables.Tag.{below}
use Rattle.dcm_base.specs.Tree.Tree.{Trees, no_tree, leaf, sequence, fragments, Items, no_item, item, then_trees}
use Rattle.dcm_base.specs.Tree.Value.{evened}
use Rattle.dcm_base.proofs.Conversions.NormalForm.{own_dictionary}
use Rattle.dcm_base.proofs.DataSets.Alike.{read_by_dictionary}
use Rattle.dcm_deid.specs.MadeNew.{made_new}
use Rattle.dcm_deid.specs.declared.fate.Fate.{Fate}
use Rattle.dcm_deid.specs.declared.fate.Fate.TheVariants.{Remove, Empty, Replace, Anew, Keep}
use Rattle.dcm_deid.specs.declared.fate.Options.{Options}
use Rattle.dcm_deid.specs.declared.fate.Depth.{Depth}
use Rattle.dcm_deid.specs.declared.fate.Depth.TheVariants.{Outermost, Inside}
use Rattle.dcm_deid.specs.declared.fate.ReadAs.TheVariants.{AsBytes, AsItems}
use Rattle.dcm_deid.specs.Fate.{actions, fate_as, are_full}
use Rattle.dcm_deid_laws.specs.Laws.{MakesNothingAnew}
use Rattle.dcm_deid.specs.Deidentify.{value_by, leaf_by, sequence_by, fragments_by, deidentified_set, items_by_fate}
use Rattle.dcm_deid.specs.Remains.{IsClean, ValueIsClean}
use Rattle.dcm_deid.specs.Saying.{dates_said, leaf_alone, methods, put_in, said, tag_at}
use Rattle.dcm_deid.proofs.Trees.Clean.{clean}
use Rattle.dcm_deid.proofs.Trees.Said.{set_with, set_with_all}
use Rattle.dcm_deid_laws.proofs.Clean.{no_sign}
use Rattle.dcm_deid_laws.proofs.Named.{AreNamed, IsNamed, ItemsAreNamed, same_after}
use Rattle.dcm_deid_laws.proofs.Twice.Alike.{AreAlike, all_alike, recodes_alike}
use Rattle.dcm_deid_laws.proofs.Twice.Left.{left_again}
use Rattle.dcm_deid_laws.proofs.Twice.Puts.{InOrder, IsOf, two_with, with_once}

-- ---- a syntax that is read by the whole dictionary

abbrev pub Knows : Syntax → Type 0
Knows s = dictionary_of s ≢ Extract

signed_known : (b : Bool) → if_signed b Standard ≢ Extract
signed_known true = λ k. cc
signed_known false = λ k. cc

signed_known_too : (b : Bool) → if_signed b Signed ≢ Extract
signed_known_too true = λ k. cc
signed_known_too false = λ k. cc

either_known : (a : Bool) (d e : Dictionary) → d ≢ Extract → e ≢ Extract → (if a then d else e) ≢ Extract
either_known true d e h k = h
either_known false d e h k = k

known_after : (d : Dictionary) (t : Tag) (vr : Vr) (v : List ℕ) → d ≢ Extract → dictionary_after d t vr v ≢ Extract
unfolding sign_after
known_after Extract t vr v h = h
known_after Standard t vr v h = either_known (says_sign t) _ Standard (signed_known (is_one vr v)) h
known_after Signed t vr v h = either_known (says_sign t) _ Signed (signed_known_too (is_one vr v)) h

knows_after : (s : Syntax) (t : Tag) (vr : Vr) (v : List ℕ) → Knows s → Knows (after s t vr v)
knows_after s t vr v h = λ k. known_after (dictionary_of s) t vr v h (sym (read_by_dictionary (dictionary_after (dictionary_of s) t vr v) s) ∙ k)

-- ---- rows

abbrev removed_tag : Tag
removed_tag = tag_at 0x0012 0x0062

abbrev text_tag : Tag
text_tag = tag_at 0x0012 0x0063

abbrev method_tag : Tag
method_tag = tag_at 0x0012 0x0064

abbrev dates_tag : Tag
dates_tag = tag_at 0x0028 0x0303

removed_goes : (options : Options) → fate_as options Outermost AsBytes removed_tag ≡ Remove
unfolding fate_as D.vr_in D.element_in D.elements_in D.entries D.ambiguous actions
removed_goes options = refl

text_goes : (options : Options) → fate_as options Outermost AsBytes text_tag ≡ Remove
unfolding fate_as D.vr_in D.element_in D.elements_in D.entries D.ambiguous actions
text_goes options = refl

method_goes : (options : Options) → fate_as options Outermost AsItems method_tag ≡ Remove
unfolding fate_as D.vr_in D.element_in D.elements_in D.entries D.ambiguous actions
method_goes options = refl

not_kept : (b : Bool) (f : Fate) → b ≡ false → (if not b || false then Remove else f) ≡ Remove
not_kept true f e = absurd (cc)
not_kept false f e = refl

kept : (b : Bool) (f : Fate) → b ≡ true → f ≡ Keep → (if not b || false then Remove else f) ≡ Keep
kept true f e k = k
kept false f e k = absurd (cc)

dates_go : (options : Options) → are_full options.dates ≡ false → fate_as options Outermost AsBytes dates_tag ≡ Remove
unfolding fate_as D.vr_in D.element_in D.elements_in D.entries D.ambiguous actions
dates_go options e = not_kept (are_full options.dates) Keep e

dates_stay : (options : Options) → are_full options.dates ≡ true → fate_as options Outermost AsBytes dates_tag ≡ Keep
unfolding fate_as D.vr_in D.element_in D.elements_in D.entries D.ambiguous actions
dates_stay options e = kept (are_full options.dates) Keep e refl

dates_named : (d : Dictionary) → d ≢ Extract → CS ≡ D.vr_in d dates_tag
unfolding D.vr_in D.element_in D.elements_in D.entries D.ambiguous
dates_named Extract h = absurd (h refl)
dates_named Standard h = refl
dates_named Signed h = refl

are_named : (s : Syntax) → Knows s → IsNamed s dates_tag CS
are_named (implicit_in d) h = dates_named d h
are_named (little_in d) h = tt
are_named (big_in d) h = tt

-- ---- what is left

module _ (options : Options) (key : List ℕ) where
  abbrev without : Depth → Trees → Trees
  without depth x = deidentified_set options (made_new options key) depth x

  abbrev without_items : Items → Items
  without_items x = items_by_fate (fate_as options) (value_by (made_new options key)) x

  abbrev first : Tag × Trees
  first = leaf_alone removed_tag CS (codes "YES")

  abbrev second : Tag × Trees
  second = leaf_alone text_tag LO (codes "dcmtools dcmdeid, PS3.15 2021b")

  abbrev third : Tag × Trees
  third = (method_tag, sequence method_tag SQ Undefined (methods options) no_tree)

  abbrev fourth : Tag × Trees
  fourth = leaf_alone dates_tag CS (dates_said options)

  -- all but the last one
  abbrev with_three : Trees → Trees
  with_three x = set_with third (set_with second (set_with first x))

  -- ---- its representations are those of the dictionary

  leaf_named : (k : Syntax) (depth : Depth) (fate : Fate) (t : Tag) (vr : Vr) (v : List ℕ) (left : Trees) → fate_as options depth AsBytes t ≡ fate → IsNamed k t vr → AreNamed (after k t vr v) left
      → AreNamed k (leaf_by fate t vr (value_by (made_new options key) fate vr v) left)
  leaf_named k depth Remove t vr v left e is h = subst (λ (j : Syntax). AreNamed j left) (same_after k t vr v (no_sign options depth t Remove e (λ q. cc))) h
  leaf_named k depth Empty t vr v left e is h =
      let none = no_sign options depth t Empty e (λ q. cc) in
      (is, subst (λ (j : Syntax). AreNamed j left) (same_after k t vr v none ∙ sym (same_after k t vr _ none)) h)
  leaf_named k depth Replace t vr v left e is h =
      let none = no_sign options depth t Replace e (λ q. cc) in
      (is, subst (λ (j : Syntax). AreNamed j left) (same_after k t vr v none ∙ sym (same_after k t vr _ none)) h)
  leaf_named k depth (Anew made) t vr v left e is h =
      let none = no_sign options depth t (Anew made) e (λ q. cc) in
      (is, subst (λ (j : Syntax). AreNamed j left) (same_after k t vr v none ∙ sym (same_after k t vr _ none)) h)
  leaf_named k depth Keep t vr v left e is h = (is, h)

  sequence_named : (k : Syntax) (fate : Fate) (t : Tag) (vr : Vr) (items : Items) (left : Trees) → ItemsAreNamed k items → AreNamed k left → AreNamed k (sequence_by fate t vr items left)
  sequence_named k Remove t vr items left i h = h
  sequence_named k Empty t vr items left i h = (tt, h)
  sequence_named k Replace t vr items left i h = (tt, h)
  sequence_named k (Anew made) t vr items left i h = (tt, h)
  sequence_named k Keep t vr items left i h = (i, h)

  fragments_named : (k : Syntax) (fate : Fate) (t : Tag) (vr : Vr) (parts : List (List ℕ)) (left : Trees) → AreNamed k left → AreNamed k (fragments_by fate t vr parts left)
  fragments_named k Remove t vr parts left h = h
  fragments_named k Empty t vr parts left h = h
  fragments_named k Replace t vr parts left h = h
  fragments_named k (Anew made) t vr parts left h = h
  fragments_named k Keep t vr parts left h = h

  mutual
    pub left_named : (k : Syntax) (depth : Depth) (x : Trees) → AreNamed k x → AreNamed k (without depth x)
    left_named k depth no_tree h = tt
    left_named k depth (leaf t vr v rest) h = leaf_named k depth (fate_as options depth AsBytes t) t vr v (without depth rest) refl h.0 (left_named (after k t vr v) depth rest h.1)
    left_named k depth (sequence t vr declared items rest) h =
        sequence_named k (fate_as options depth AsItems t) t vr (without_items items) (without depth rest) (items_named k items h.0) (left_named k depth rest h.1)
    left_named k depth (fragments t vr parts rest) h = fragments_named k (fate_as options depth AsBytes t) t vr parts (without depth rest) (left_named k depth rest h)

    items_named : (k : Syntax) (x : Items) → ItemsAreNamed k x → ItemsAreNamed k (without_items x)
    items_named k no_item h = tt
    items_named k (item declared set rest) h = (left_named k Inside set h.0, items_named k rest h.1)

  -- ---- with the element that says of dates what was done, where they are kept

  abbrev Clean : Trees → Type 0
  Clean x = IsClean (fate_as options) (made_new options key) Outermost x

  clean_if : (c : Bool) (x y : Trees) → Clean x → Clean y → Clean (if c then x else y)
  clean_if true x y h k = h
  clean_if false x y h k = k

  named_if : (k : Syntax) (c : Bool) (x y : Trees) → AreNamed k x → AreNamed k y → AreNamed k (if c then x else y)
  named_if k true x y h g = h
  named_if k false x y h g = g

  module _ (dates : are_full options.dates ≡ true) where
    dates_clean : ValueIsClean (made_new options key) (fate_as options Outermost AsBytes dates_tag) CS (dates_said options)
    dates_clean = subst (λ (f : Fate). ValueIsClean (made_new options key) f CS (dates_said options)) (sym (dates_stay options dates)) tt

    put_clean : (x : Trees) → Clean x → Clean (put_in dates_tag fourth.1 x)
    put_clean no_tree h = (dates_clean, tt)
    put_clean (leaf t vr v rest) h = clean_if (below dates_tag t) _ _ (dates_clean, h) (h.0, put_clean rest h.1)
    put_clean (sequence t vr declared items rest) h = clean_if (below dates_tag t) _ _ (dates_clean, h) (h.0, put_clean rest h.1)
    put_clean (fragments t vr parts rest) h = clean_if (below dates_tag t) _ _ (dates_clean, h) (h.0, put_clean rest h.1)

    dates_before : (k : Syntax) (x : Trees) → Knows k → AreNamed k x → AreNamed k (leaf dates_tag CS (dates_said options) x)
    dates_before k x knows h = (are_named k knows, subst (λ (j : Syntax). AreNamed j x) (sym (same_after k dates_tag CS (dates_said options) refl)) h)

    put_named : (k : Syntax) (x : Trees) → Knows k → AreNamed k x → AreNamed k (put_in dates_tag fourth.1 x)
    put_named k no_tree knows h = dates_before k no_tree knows tt
    put_named k (leaf t vr v rest) knows h = named_if k (below dates_tag t) _ _ (dates_before k (leaf t vr v rest) knows h) (h.0, put_named (after k t vr v) rest (knows_after k t vr v knows) h.1)
    put_named k (sequence t vr declared items rest) knows h = named_if k (below dates_tag t) _ _ (dates_before k (sequence t vr declared items rest) knows h) (h.0, put_named k rest knows h.1)
    put_named k (fragments t vr parts rest) knows h = named_if k (below dates_tag t) _ _ (dates_before k (fragments t vr parts rest) knows h) (put_named k rest knows h)

  -- ---- what is put goes again

  pub record Goes (new : Tag × Trees) : Type 0 where
    before : (k : Syntax) (x : Trees) → without Outermost (normal k (then_trees new.1 x)) ≡ without Outermost (normal k x)
    alone : (k : Syntax) → without Outermost (normal k new.1) ≡ no_tree

  leaf_goes : (k : Syntax) (t : Tag) (vr : Vr) (v : List ℕ) (x : Trees) → (t.element == 0) ≡ false → says_sign t ≡ false → fate_as options Outermost AsBytes t ≡ Remove
      → without Outermost (normal k (leaf t vr v x)) ≡ without Outermost (normal k x)
  unfolding normal
  leaf_goes k t vr v x written none e =
      let w : Vr = normal_vr k t vr (length v) in
      let y : List ℕ = normal_value k t vr v in
      let more : Trees = normal (after k t w y) x in
      ap (λ (b : Bool). without Outermost (if b then more else leaf t w y more)) written
      ∙ ap (λ (f : Fate). leaf_by f t w (value_by (made_new options key) f w y) (without Outermost more)) e
      ∙ ap (λ (j : Syntax). without Outermost (normal j x)) (same_after k t w y none)

  leaf_is_gone : (t : Tag) (vr : Vr) (v : List ℕ) → (t.element == 0) ≡ false → says_sign t ≡ false → fate_as options Outermost AsBytes t ≡ Remove → Goes (leaf_alone t vr v)
  unfolding normal
  leaf_is_gone t vr v written none e = record { before = λ k x. leaf_goes k t vr v x written none e; alone = λ k. leaf_goes k t vr v no_tree written none e }

  sequence_goes : (k : Syntax) (t : Tag) (vr : Vr) (items : Items) (x : Trees) → (t.element == 0) ≡ false → fate_as options Outermost AsItems t ≡ Remove → without Outermost (normal k (sequence t vr Undefined items x)) ≡ without Outermost (normal k x)
  unfolding normal
  sequence_goes k t vr items x written e =
      let w : Vr = normal_sequence_vr k t in
      let more : Trees = normal k x in
      ap (λ (b : Bool). without Outermost (if b then more else sequence t w Undefined (normal_items k items) more)) written
      ∙ ap (λ (f : Fate). sequence_by f t w (without_items (normal_items k items)) (without Outermost more)) e

  third_goes : Goes third
  unfolding normal
  third_goes = record { before = λ k x. sequence_goes k method_tag SQ (methods options) x refl (method_goes options); alone = λ k. sequence_goes k method_tag SQ (methods options) no_tree refl (method_goes options) }

  left_if : (k : Syntax) (c : Bool) (x y z : Trees) → without Outermost (normal k x) ≡ without Outermost (normal k z) → without Outermost (normal k y) ≡ without Outermost (normal k z) → without Outermost (normal k (if c then x else y)) ≡ without Outermost (normal k z)
  left_if k true x y z h g = h
  left_if k false x y z h g = g

  dropped_or : (c : Bool) (tree : Trees → Trees) (x y : Trees) → (without Outermost x ≡ without Outermost y → without Outermost (tree x) ≡ without Outermost (tree y)) → without Outermost x ≡ without Outermost y
      → without Outermost (if c then x else tree x) ≡ without Outermost (if c then y else tree y)
  dropped_or true tree x y go h = h
  dropped_or false tree x y go h = go h

  put_goes : (new : Tag × Trees) (k : Syntax) (x : Trees) → Goes new → without Outermost (normal k (put_in new.0 new.1 x)) ≡ without Outermost (normal k x)
  unfolding normal
  put_goes new k no_tree g = g.alone k
  put_goes new k (leaf t vr v rest) g =
      let w : Vr = normal_vr k t vr (length v) in
      let y : List ℕ = normal_value k t vr v in
      left_if k (below new.0 t) _ _ (leaf t vr v rest) (g.before k (leaf t vr v rest))
      (dropped_or (t.element == 0) (leaf t w y) _ _ (ap (leaf_by (fate_as options Outermost AsBytes t) t w (value_by (made_new options key) (fate_as options Outermost AsBytes t) w y))) (put_goes new (after k t w y) rest g))
  put_goes new k (sequence t vr declared items rest) g =
      let w : Vr = normal_sequence_vr k t in
      left_if k (below new.0 t) _ _ (sequence t vr declared items rest) (g.before k (sequence t vr declared items rest))
      (dropped_or (t.element == 0) (sequence t w Undefined (normal_items k items)) _ _ (ap (sequence_by (fate_as options Outermost AsItems t) t w (without_items (normal_items k items)))) (put_goes new k rest g))
  put_goes new k (fragments t vr parts rest) g =
      left_if k (below new.0 t) _ _ (fragments t vr parts rest) (g.before k (fragments t vr parts rest))
      (dropped_or (t.element == 0) (fragments t vr (map (evened 0) parts)) _ _ (ap (fragments_by (fate_as options Outermost AsBytes t) t vr (map (evened 0) parts))) (put_goes new k rest g))

  with_goes : (new : Tag × Trees) (k : Syntax) (x : Trees) → Goes new → without Outermost (normal k (set_with new x)) ≡ without Outermost (normal k x)
  with_goes new k x g = left_if k _ x (put_in new.0 new.1 x) x refl (put_goes new k x g)

  three_go : (k : Syntax) (x : Trees) → without Outermost (normal k (with_three x)) ≡ without Outermost (normal k x)
  three_go k x =
      with_goes third k (set_with second (set_with first x)) third_goes
      ∙ with_goes second k (set_with first x) (leaf_is_gone text_tag LO (codes "dcmtools dcmdeid, PS3.15 2021b") refl refl (text_goes options))
      ∙ with_goes first k x (leaf_is_gone removed_tag CS (codes "YES") refl refl (removed_goes options))

  -- where dates do not stay, all that says what was done goes
  pub said_goes : are_full options.dates ≡ false → (k : Syntax) (x : Trees) → without Outermost (normal k (set_with_all (said options) x)) ≡ without Outermost (normal k x)
  said_goes e k x = with_goes fourth k (with_three x) (leaf_is_gone dates_tag CS (dates_said options) refl refl (dates_go options e)) ∙ three_go k x

  -- ---- and is put again

  first_before : InOrder first fourth
  first_before = record {
    order = refl;
    first_misses = λ x. refl;
    first_alone = refl;
    second_misses = λ x. refl;
    second_alone = refl;
    before = λ x. refl;
    before_alone = refl;
    behind = λ x. refl;
    behind_alone = refl;
  }

  second_before : InOrder second fourth
  second_before = record {
    order = refl;
    first_misses = λ x. refl;
    first_alone = refl;
    second_misses = λ x. refl;
    second_alone = refl;
    before = λ x. refl;
    before_alone = refl;
    behind = λ x. refl;
    behind_alone = refl;
  }

  third_before : InOrder third fourth
  third_before = record {
    order = refl;
    first_misses = λ x. refl;
    first_alone = refl;
    second_misses = λ x. refl;
    second_alone = refl;
    before = λ x. refl;
    before_alone = refl;
    behind = λ x. refl;
    behind_alone = refl;
  }

  three_and_fourth : (x : Trees) → with_three (set_with fourth x) ≡ set_with fourth (with_three x)
  three_and_fourth x =
      ap (λ (z : Trees). set_with third (set_with second z)) (two_with first fourth first_before x)
      ∙ ap (set_with third) (two_with second fourth second_before (set_with first x))
      ∙ two_with third fourth third_before (set_with second (set_with first x))

  fourth_is : IsOf fourth.0 fourth.1
  fourth_is = record { is_there = λ x. refl; alone = refl }

  module _ (given : MakesNothingAnew options) (s : Syntax) where
    abbrev all_with : Trees → Trees
    all_with x = set_with_all (said options) x

    written_again : (x z u : Trees) → without Outermost z ≡ without Outermost (normal s u) → AreAlike s (without Outermost (normal s u)) u → all_with u ≡ all_with x → recode_set s (all_with (without Outermost z)) ≡ recode_set s (all_with x)
    written_again x z u same alike all =
        ap (λ (y : Trees). recode_set s (all_with y)) same ∙ recodes_alike s _ _ (all_alike s (said options) (without Outermost (normal s u)) u alike) ∙ ap (recode_set s) all

    own : s ≡ read_by (dictionary_of s) s
    own = sym (own_dictionary s)

    by_dates : (b : Bool) → are_full options.dates ≡ b → (x : Trees) → AreNamed s x → Knows s → Clean x → recode_set s (all_with (without Outermost (normal s (all_with x)))) ≡ recode_set s (all_with x)
    by_dates false e x named knows is_clean =
        written_again x (normal s (all_with x)) x (said_goes e s x) (left_again options key given s s Outermost x (dictionary_of s, own) named is_clean) refl
    by_dates true e x named knows is_clean =
        let u : Trees = set_with fourth x in
        let u_named : AreNamed s u = named_if s _ x (put_in dates_tag fourth.1 x) named (put_named e s x knows named) in
        let u_clean : Clean u = clean_if _ x (put_in dates_tag fourth.1 x) is_clean (put_clean e x is_clean) in
        written_again x (normal s (all_with x)) u (ap (λ (z : Trees). without Outermost (normal s z)) (sym (three_and_fourth x)) ∙ three_go s u) (left_again options key given s s Outermost u (dictionary_of s, own) u_named u_clean)
        (ap (set_with fourth) (three_and_fourth x) ∙ with_once fourth (with_three x) fourth_is)

    -- what is left of the normal form of what is left is written alike
    pub twice : (x : Trees) → AreNamed s x → Knows s → recode_set s (all_with (without Outermost (normal s (all_with (without Outermost x))))) ≡ recode_set s (all_with (without Outermost x))
    twice x named knows = by_dates (are_full options.dates) refl (without Outermost x) (left_named s Outermost x named) knows (clean (fate_as options) (made_new options key) Outermost x)
