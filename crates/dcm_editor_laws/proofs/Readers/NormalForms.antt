-- Normal forms without some elements, and what a dictionary opens of them.
use Rattle.std.proofs.Common.{◌≡◌, ◌∙◌, ap, sym, refl, length, map, Bool, true, false, subst, ℕ, List}
use Rattle.std.specs.Prelude.{if◌then◌else◌, ◌==◌}
use Rattle.dcm_lemmas.proofs.Choice.{if_false, if_true}
use Rattle.dcm_base.specs.declared.length.Length.TheVariants.{Undefined}
use Rattle.dcm_base.specs.declared.syntax.Syntax.{Syntax}
use Rattle.dcm_base.specs.declared.tag.Tag.{Tag}
use Rattle.dcm_base.specs.Tree.Front.{Front, front}
use Rattle.dcm_base.specs.Conversion.Normal.{normal, normal_items, normal_front, normal_vr, normal_sequence_vr, normal_value, UnlessGroupLength, TellsValue, TellsSequence, FitsTarget, ItemsFit, FrontFits}
use Rattle.dcm_base.specs.Tree.Tree.{Trees, no_tree, leaf, sequence, fragments, Items, no_item, item}
use Rattle.dcm_base.specs.Tree.Value.{evened}
use Rattle.dcm_editor_laws.specs.Others.{without, items_without, set_without, KeepsSign, any_changes}
use Rattle.dcm_base.specs.declared.syntax.Syntax.TheVariants.{Implicit as implicit_in, Little as little_in, Big as big_in}
use Rattle.dcm_base.specs.declared.dictionary.Dictionary.{Dictionary}
use Rattle.dcm_base.specs.declared.dictionary.Dictionary.TheVariants.{Extract, Standard, Signed}
use Rattle.dcm_base.specs.declared.vr.Vr.{Vr}
use Rattle.dcm_base.specs.Bytes.Spelling.{after, dictionary_after, sign_after, says_sign, is_one, read_as}
use Rattle.dcm_base.specs.Tables.Dictionary.{if_signed}
use Rattle.dcm_base.specs.Tables.Syntax.{dictionary_of, read_by}
use Rattle.dcm_edits.specs.Edit.{Edit}
use Rattle.dcm_base.proofs.DataSets.After.{read_by_twice}
use Rattle.dcm_base.proofs.Conversions.NormalForm.{leaf_once, items_alike}

-- ---- without some elements

lists_alike : (t : Tag) (w : Vr) (i j : Items) (x y : Trees) → i ≡ j → x ≡ y → (if t.element == 0 then x else sequence t w Undefined i x) ≡ (if t.element == 0 then y else sequence t w Undefined j y)
lists_alike t w i j x y h k = ap (λ (c : Items). if t.element == 0 then x else sequence t w Undefined c x) h ∙ ap (λ (z : Trees). if t.element == 0 then z else sequence t w Undefined j z) k

-- an explicit one depends on no dictionary
mutual
  unfolding normal

  pub little_alike : (d e : Dictionary) (x : Trees) → normal (little_in d) x ≡ normal (little_in e) x
  little_alike d e no_tree = refl
  little_alike d e (leaf t vr v rest) =
      let w : Vr = normal_vr (little_in d) t vr (length v) in
      let y : List ℕ = normal_value (little_in d) t vr v in
      ap (λ (r : Trees). if t.element == 0 then r else leaf t w y r) (little_alike (dictionary_after d t w y) (dictionary_after e t w y) rest)
  little_alike d e (sequence t vr size items rest) = lists_alike t _ _ _ _ _ (little_items d e items) (little_alike d e rest)
  little_alike d e (fragments t vr values rest) = ap (λ (r : Trees). if t.element == 0 then r else fragments t vr (map (evened 0) values) r) (little_alike d e rest)

  little_items : (d e : Dictionary) (x : Items) → normal_items (little_in d) x ≡ normal_items (little_in e) x
  little_items d e no_item = refl
  little_items d e (item size set rest) = items_alike _ _ _ _ (little_alike d e set) (little_items d e rest)

mutual
  unfolding normal

  pub big_alike : (d e : Dictionary) (x : Trees) → normal (big_in d) x ≡ normal (big_in e) x
  big_alike d e no_tree = refl
  big_alike d e (leaf t vr v rest) =
      let w : Vr = normal_vr (big_in d) t vr (length v) in
      let y : List ℕ = normal_value (big_in d) t vr v in
      ap (λ (r : Trees). if t.element == 0 then r else leaf t w y r) (big_alike (dictionary_after d t w y) (dictionary_after e t w y) rest)
  big_alike d e (sequence t vr size items rest) = lists_alike t _ _ _ _ _ (big_items d e items) (big_alike d e rest)
  big_alike d e (fragments t vr values rest) = ap (λ (r : Trees). if t.element == 0 then r else fragments t vr (map (evened 0) values) r) (big_alike d e rest)

  big_items : (d e : Dictionary) (x : Items) → normal_items (big_in d) x ≡ normal_items (big_in e) x
  big_items d e no_item = refl
  big_items d e (item size set rest) = items_alike _ _ _ _ (big_alike d e set) (big_items d e rest)

module _ (edits : List Edit) where
  abbrev p : Tag → Bool
  p = any_changes edits

  -- the signs are kept after any leaf
  keep_any : (d : Dictionary) → ((t : Tag) → says_sign t ≡ true → p t ≡ false) → KeepsSign (implicit_in d) edits
  keep_any Extract h = tt
  keep_any Standard h = h
  keep_any Signed h = h

  keep_after : (s : Syntax) (t : Tag) (vr : Vr) (v : List ℕ) → KeepsSign s edits → KeepsSign (after s t vr v) edits
  keep_after (implicit_in Extract) t vr v h = tt
  keep_after (implicit_in Standard) t vr v h = keep_any (dictionary_after Standard t vr v) h
  keep_after (implicit_in Signed) t vr v h = keep_any (dictionary_after Signed t vr v) h
  keep_after (little_in d) t vr v h = tt
  keep_after (big_in d) t vr v h = tt

  -- what changes says no sign
  no_sign : (c : Bool) (b : Bool) (t : Tag) (d : Dictionary) → says_sign t ≡ c → p t ≡ true → ((u : Tag) → says_sign u ≡ true → p u ≡ false) → (if c then if_signed b d else d) ≡ d
  no_sign true b t d is changes h = absurd (let e : p t ≡ false = h t is in cc)
  no_sign false b t d is changes h = refl

  skipped : (s : Syntax) (t : Tag) (vr : Vr) (v : List ℕ) (x : Trees) → KeepsSign s edits → p t ≡ true → normal (after s t vr v) x ≡ normal s x
  unfolding sign_after
  skipped (implicit_in Extract) t vr v x h changes = refl
  skipped (implicit_in Standard) t vr v x h changes = ap (λ (k : Dictionary). normal (implicit_in k) x) (no_sign (says_sign t) (is_one vr v) t Standard refl changes h)
  skipped (implicit_in Signed) t vr v x h changes = ap (λ (k : Dictionary). normal (implicit_in k) x) (no_sign (says_sign t) (is_one vr v) t Signed refl changes h)
  skipped (little_in d) t vr v x h changes = little_alike (dictionary_after d t vr v) d x
  skipped (big_in d) t vr v x h changes = big_alike (dictionary_after d t vr v) d x

  -- an element in the normal form, without the others, and in the normal form of what is left
  one_kept : (s k : Syntax) (t : Tag) (g b : Bool) (made left kept again : Trees → Trees) (rest : Trees) → (t.element == 0) ≡ g → p t ≡ b
      → without p (made (normal k rest)) ≡ (if p t then without p (normal k rest) else left (without p (normal k rest)))
      → normal s (kept (without p rest)) ≡ (if t.element == 0 then normal k (without p rest) else again (normal k (without p rest)))
      → ((r : Trees) → left r ≡ again r) → (p t ≡ true → normal k (without p rest) ≡ normal s (without p rest)) → without p (normal k rest) ≡ normal k (without p rest)
      → without p (if g then normal k rest else made (normal k rest)) ≡ normal s (if b then without p rest else kept (without p rest))
  one_kept s k t true true made left kept again rest e h l n same skip more = more ∙ skip h
  one_kept s k t true false made left kept again rest e h l n same skip more = more ∙ sym (n ∙ if_true (t.element == 0) _ _ e)
  one_kept s k t false true made left kept again rest e h l n same skip more = l ∙ if_true (p t) _ _ h ∙ more ∙ skip h
  one_kept s k t false false made left kept again rest e h l n same skip more =
      l ∙ if_false (p t) _ _ h ∙ ap left more ∙ same (normal k (without p rest)) ∙ sym (n ∙ if_false (t.element == 0) _ _ e)

  mutual
    unfolding normal

    normal_without : (s : Syntax) (x : Trees) → KeepsSign s edits → without p (normal s x) ≡ normal s (without p x)
    normal_without s no_tree keep = refl
    normal_without s (leaf t vr v rest) keep =
        let w : Vr = normal_vr s t vr (length v) in
        let y : List ℕ = normal_value s t vr v in
        let made : Trees → Trees = leaf t w y in
        one_kept s (after s t w y) t (t.element == 0) (p t) made made (leaf t vr v) made rest refl refl refl refl (λ r. refl) (λ h. skipped s t w y (without p rest) keep h) (normal_without (after s t w y) rest (keep_after s t w y keep))
    normal_without s (sequence t vr size items rest) keep =
        let inner = items_without_normal s items keep in
        one_kept s s t (t.element == 0) (p t) (sequence t (normal_sequence_vr s t) Undefined (normal_items s items)) (sequence t (normal_sequence_vr s t) Undefined (items_without p (normal_items s items)))
        (sequence t vr size (items_without p items)) (sequence t (normal_sequence_vr s t) Undefined (normal_items s (items_without p items))) rest refl refl refl refl
        (λ r. ap (λ (i : Items). sequence t (normal_sequence_vr s t) Undefined i r) inner) (λ h. refl) (normal_without s rest keep)
    normal_without s (fragments t vr values rest) keep =
        let made : Trees → Trees = fragments t vr (map (evened 0) values) in
        one_kept s s t (t.element == 0) (p t) made made (fragments t vr values) made rest refl refl refl refl (λ r. refl) (λ h. refl) (normal_without s rest keep)

    items_without_normal : (s : Syntax) (x : Items) → KeepsSign s edits → items_without p (normal_items s x) ≡ normal_items s (items_without p x)
    items_without_normal s no_item keep = refl
    items_without_normal s (item size set rest) keep = items_alike _ _ _ _ (normal_without s set keep) (items_without_normal s rest keep)

  front_without : (s : Syntax) (f : Front) → KeepsSign s edits → set_without p (normal_front s f) ≡ normal s (set_without p f)
  front_without s (front whole o reached closed) keep = normal_without s whole keep

  -- what is the same without some elements has the same normal form without them
  pub normal_forms_without : (s : Syntax) → KeepsSign s edits → (f g : Front) → set_without p f ≡ set_without p g → set_without p (normal_front s f) ≡ set_without p (normal_front s g)
  normal_forms_without s keep f g same = front_without s f keep ∙ ap (normal s) same ∙ sym (front_without s g keep)

-- ---- what fits a target

-- the normal form of a value, once more
pub vr_again : (s : Syntax) (t : Tag) (vr : Vr) (v : List ℕ) → normal_vr s t (normal_vr s t vr (length v)) (length (normal_value s t vr v)) ≡ normal_vr s t vr (length v)
vr_again s t vr v = (leaf_once s t vr v).vrs

module _ (e : Dictionary) where
  -- the element of a normal form, and the rest
  back : (target : Syntax) (t : Tag) (P Q : Type 0) (g : Bool) (tree : Trees → Trees) (r : Trees) (R : Type 0) → (t.element == 0) ≡ g → (FitsTarget target (tree r) → UnlessGroupLength t P × FitsTarget target r)
      → (P → Q) → (FitsTarget target r → R) → FitsTarget target (if g then r else tree r) → UnlessGroupLength t Q × R
  back target t P Q true tree r R is split turn more h = (λ k. absurd (cc), more h)
  back target t P Q false tree r R is split turn more h = let two = split h in (λ k. turn (two.0 k), more two.1)

  on : (target : Syntax) (t : Tag) (P Q : Type 0) (g : Bool) (tree : Trees → Trees) (r : Trees) → (UnlessGroupLength t Q → FitsTarget target r → FitsTarget target (tree r)) → (P → Q) → UnlessGroupLength t P → FitsTarget target r
      → FitsTarget target (if g then r else tree r)
  on target t P Q true tree r join turn k h = h
  on target t P Q false tree r join turn k h = join (λ u. turn (k u)) h

  told_back : (s : Syntax) (t : Tag) (vr : Vr) (v : List ℕ) → TellsValue (read_by e s) t (normal_vr s t vr (length v)) (length (normal_value s t vr v)) → TellsValue (read_by e s) t vr (length v)
  told_back (implicit_in d) t vr v h = h
  told_back (little_in d) t vr v h = subst (λ (u : Vr). read_as (little_in e) t u ≡ u) (vr_again (little_in d) t vr v) h
  told_back (big_in d) t vr v h = subst (λ (u : Vr). read_as (big_in e) t u ≡ u) (vr_again (big_in d) t vr v) h

  told_on : (s : Syntax) (t : Tag) (vr : Vr) (v : List ℕ) → TellsValue (read_by e s) t vr (length v) → TellsValue (read_by e s) t (normal_vr s t vr (length v)) (length (normal_value s t vr v))
  told_on (implicit_in d) t vr v h = h
  told_on (little_in d) t vr v h = subst (λ (u : Vr). read_as (little_in e) t u ≡ u) (sym (vr_again (little_in d) t vr v)) h
  told_on (big_in d) t vr v h = subst (λ (u : Vr). read_as (big_in e) t u ≡ u) (sym (vr_again (big_in d) t vr v)) h

  -- after a leaf the dictionary is the same
  still : (s : Syntax) (t : Tag) (vr : Vr) (v : List ℕ) → read_by e (after s t vr v) ≡ read_by e s
  still s t vr v = read_by_twice e (dictionary_after (dictionary_of s) t vr v) s

  mutual
    unfolding normal FitsTarget

    fits_back : (s : Syntax) (x : Trees) → FitsTarget (read_by e s) (normal s x) → FitsTarget (read_by e s) x
    fits_back s no_tree h = tt
    fits_back s (leaf t vr v rest) h =
        let w : Vr = normal_vr s t vr (length v) in
        let y : List ℕ = normal_value s t vr v in
        let k : Syntax = after s t w y in
        back (read_by e s) t (TellsValue (read_by e s) t w (length y)) (TellsValue (read_by e s) t vr (length v)) (t.element == 0) (leaf t w y) (normal k rest) (FitsTarget (read_by e s) rest) refl (λ u. u) (told_back s t vr v)
        (λ u. subst (λ (to : Syntax). FitsTarget to rest) (still s t w y) (fits_back k rest (subst (λ (to : Syntax). FitsTarget to (normal k rest)) (sym (still s t w y)) u))) h
    fits_back s (sequence t vr size items rest) h =
        back (read_by e s) t (TellsSequence (read_by e s) t × ItemsFit (read_by e s) (normal_items s items)) (TellsSequence (read_by e s) t × ItemsFit (read_by e s) items) (t.element == 0)
        (sequence t (normal_sequence_vr s t) Undefined (normal_items s items)) (normal s rest) (FitsTarget (read_by e s) rest) refl
        (λ u. u) (λ u. (u.0, items_back s items u.1)) (λ u. fits_back s rest u) h
    fits_back s (fragments t vr values rest) h =
        (back (read_by e s) t (Unit {0}) (Unit {0}) (t.element == 0) (fragments t vr (map (evened 0) values)) (normal s rest) (FitsTarget (read_by e s) rest) refl (λ u. (λ k. tt, u)) (λ u. u) (λ u. fits_back s rest u) h).1

    items_back : (s : Syntax) (x : Items) → ItemsFit (read_by e s) (normal_items s x) → ItemsFit (read_by e s) x
    items_back s no_item h = tt
    items_back s (item size set rest) h = (fits_back s set h.0, items_back s rest h.1)

  mutual
    unfolding normal FitsTarget

    fits_on : (s : Syntax) (x : Trees) → FitsTarget (read_by e s) x → FitsTarget (read_by e s) (normal s x)
    fits_on s no_tree h = tt
    fits_on s (leaf t vr v rest) h =
        let w : Vr = normal_vr s t vr (length v) in
        let y : List ℕ = normal_value s t vr v in
        let k : Syntax = after s t w y in
        on (read_by e s) t (TellsValue (read_by e s) t vr (length v)) (TellsValue (read_by e s) t w (length y)) (t.element == 0) (leaf t w y) (normal k rest) (λ u r. (u, r)) (told_on s t vr v) h.0
        (subst (λ (to : Syntax). FitsTarget to (normal k rest)) (still s t w y) (fits_on k rest (subst (λ (to : Syntax). FitsTarget to rest) (sym (still s t w y)) h.1)))
    fits_on s (sequence t vr size items rest) h =
        on (read_by e s) t (TellsSequence (read_by e s) t × ItemsFit (read_by e s) items) (TellsSequence (read_by e s) t × ItemsFit (read_by e s) (normal_items s items)) (t.element == 0)
        (sequence t (normal_sequence_vr s t) Undefined (normal_items s items)) (normal s rest)
        (λ u r. (u, r)) (λ u. (u.0, items_on s items u.1)) h.0 (fits_on s rest h.1)
    fits_on s (fragments t vr values rest) h =
        on (read_by e s) t (Unit {0}) (Unit {0}) (t.element == 0) (fragments t vr (map (evened 0) values)) (normal s rest) (λ u r. r) (λ u. u) (λ u. tt) (fits_on s rest h)

    items_on : (s : Syntax) (x : Items) → ItemsFit (read_by e s) x → ItemsFit (read_by e s) (normal_items s x)
    items_on s no_item h = tt
    items_on s (item size set rest) h = (fits_on s set h.0, items_on s rest h.1)

  pub normal_fits_back : (s : Syntax) (f : Front) → FrontFits (read_by e s) (normal_front s f) → FrontFits (read_by e s) f
  normal_fits_back s (front whole o reached closed) h = fits_back s whole h

  pub normal_fits : (s : Syntax) (f : Front) → FrontFits (read_by e s) f → FrontFits (read_by e s) (normal_front s f)
  normal_fits s (front whole o reached closed) h = fits_on s whole h
