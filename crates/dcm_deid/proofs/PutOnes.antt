-- What says what was done, put one after another and all at once.
use Rattle.std.proofs.Common.{◌≡◌, ℕ, List, [], ◌∷◌, ◌++◌, Option, Some, Bool, true, false, ◌||◌, ◌&&◌, refl, sym, ap, ◌∙◌}
use Rattle.std.specs.Prelude.{if◌then◌else◌}
use Rattle.dcm_lemmas.proofs.Choice.{if_false, if_true}
use Rattle.dcm_lemmas.proofs.Truth.{or_after_false}
use Rattle.dcm_base.specs.declared.tag.Tag.{Tag}
use Rattle.dcm_base.specs.declared.vr.Vr.{Vr}
use Rattle.dcm_base.specs.declared.length.Length.{Length}
use Rattle.dcm_base.specs.declared.length.Length.TheVariants.{Undefined}
use Rattle.dcm_base.specs.Tables.Tag.{same_tag, below}
use Rattle.dcm_base.specs.Tree.Tree.{Trees, leaf, sequence, fragments, Items, then_trees}
use Rattle.dcm_base.proofs.Dictionaries.TagOrder.{below_other_way}
use Rattle.dcm_edits.specs.Edit.{has}
use Rattle.dcm_edits.proofs.Trees.NewOnes.{below_not_back, same_above}
use Rattle.dcm_deid.specs.declared.fate.Options.{Options}
use Rattle.dcm_deid.specs.declared.fate.Fate.{Fate}
use Rattle.dcm_deid.specs.declared.fate.Fate.TheVariants.{Remove, Empty, Replace, Anew, Keep}
use Rattle.dcm_deid.specs.Deidentify.{leaf_by, sequence_by, fragments_by}
use Rattle.dcm_deid.specs.Saying.{put_in}
use Rattle.dcm_deid.specs.DeidentifySink.{is_due, is_after}
use Rattle.dcm_deid.proofs.Walked.{then_if, due_trees}

-- ---- an element before others

pub record Part (tag : Tag) (part : Trees → Trees) : Type 0 where
  pub skips : (t : Tag) (e x : Trees) → below t tag ≡ false → put_in t e (part x) ≡ part (put_in t e x)
  pub stops : (t : Tag) (e x : Trees) → below t tag ≡ true → put_in t e x ≡ then_trees e x → put_in t e (part x) ≡ then_trees e (part x)
  pub other : (t : Tag) (x : Trees) → same_tag t tag ≡ false → has t (part x) ≡ has t x

pub none_part : (tag : Tag) → Part tag (λ x. x)
none_part tag = record { skips = λ t e x h. refl; stops = λ t e x h q. q; other = λ t x h. refl }

pub leaf_part : (tag : Tag) (vr : Vr) (v : List ℕ) → Part tag (leaf tag vr v)
leaf_part tag vr v = record { skips = λ t e x h. if_false _ _ _ h; stops = λ t e x h q. if_true _ _ _ h; other = λ t x h. or_after_false _ _ h }

pub sequence_part : (tag : Tag) (vr : Vr) (declared : Length) (items : Items) → Part tag (sequence tag vr declared items)
sequence_part tag vr declared items = record { skips = λ t e x h. if_false _ _ _ h; stops = λ t e x h q. if_true _ _ _ h; other = λ t x h. or_after_false _ _ h }

fragments_part : (tag : Tag) (vr : Vr) (values : List (List ℕ)) → Part tag (fragments tag vr values)
fragments_part tag vr values = record { skips = λ t e x h. if_false _ _ _ h; stops = λ t e x h q. if_true _ _ _ h; other = λ t x h. or_after_false _ _ h }

pub leaf_by_part : (fate : Fate) (tag : Tag) (vr : Vr) (v : List ℕ) → Part tag (leaf_by fate tag vr v)
leaf_by_part Remove tag vr v = none_part tag
leaf_by_part Empty tag vr v = leaf_part tag vr v
leaf_by_part Replace tag vr v = leaf_part tag vr v
leaf_by_part (Anew made) tag vr v = leaf_part tag vr v
leaf_by_part Keep tag vr v = leaf_part tag vr v

pub sequence_by_part : (fate : Fate) (tag : Tag) (vr : Vr) (items : Items) → Part tag (sequence_by fate tag vr items)
sequence_by_part Remove tag vr items = none_part tag
sequence_by_part Empty tag vr items = sequence_part tag vr Undefined _
sequence_by_part Replace tag vr items = sequence_part tag vr Undefined _
sequence_by_part (Anew made) tag vr items = sequence_part tag vr Undefined _
sequence_by_part Keep tag vr items = sequence_part tag vr Undefined items

pub fragments_by_part : (fate : Fate) (tag : Tag) (vr : Vr) (values : List (List ℕ)) → Part tag (fragments_by fate tag vr values)
fragments_by_part Remove tag vr values = none_part tag
fragments_by_part Empty tag vr values = none_part tag
fragments_by_part Replace tag vr values = none_part tag
fragments_by_part (Anew made) tag vr values = none_part tag
fragments_by_part Keep tag vr values = fragments_part tag vr values

-- ---- new elements, whose tags are all below one

abbrev pub AllLess : List (Tag × Trees) → Tag → Type 0
AllLess [] t = Unit {0}
AllLess (n ∷ news) t = Part n.0 (then_trees n.1) × (below n.0 t ≡ true) × AllLess news t

if_skips : (b : Bool) (n : Tag × Trees) (t : Tag) (e x y : Trees) → Part n.0 (then_trees n.1) → below n.0 t ≡ true → put_in t e x ≡ y → put_in t e (then_if b n.1 x) ≡ then_if b n.1 y
if_skips true n t e x y p l h = p.skips t e x (below_not_back n.0 t l) ∙ ap (then_trees n.1) h
if_skips false n t e x y p l h = h

pub due_skips : (passes : Tag → Bool) (news : List (Tag × Trees)) (t : Tag) (e x : Trees) → AllLess news t → put_in t e (due_trees passes news x) ≡ due_trees passes news (put_in t e x)
due_skips passes [] t e x a = refl
due_skips passes (n ∷ news) t e x a = if_skips (passes n.0) n t e (due_trees passes news x) _ a.0 a.1 (due_skips passes news t e x a.2)

if_other : (b : Bool) (n : Tag × Trees) (t : Tag) (x : Trees) (y : Bool) → Part n.0 (then_trees n.1) → below n.0 t ≡ true → has t x ≡ y → has t (then_if b n.1 x) ≡ y
if_other true n t x y p l h = p.other t x (same_above t n.0 l) ∙ h
if_other false n t x y p l h = h

pub due_other : (passes : Tag → Bool) (news : List (Tag × Trees)) (t : Tag) (x : Trees) → AllLess news t → has t (due_trees passes news x) ≡ has t x
due_other passes [] t x a = refl
due_other passes (n ∷ news) t x a = if_other (passes n.0) n t (due_trees passes news x) _ a.0 a.1 (due_other passes news t x a.2)

pub due_append : (passes : Tag → Bool) (news : List (Tag × Trees)) (n : Tag × Trees) (x : Trees) → due_trees passes (news ++ n ∷ []) x ≡ due_trees passes news (then_if (passes n.0) n.1 x)
due_append passes [] n x = refl
due_append passes (m ∷ news) n x = ap (then_if (passes m.0) m.1) (due_append passes news n x)

-- ---- one element, and one that is put

abbrev pub put_if : Bool → Tag → Trees → Trees → Trees
put_if there t e w = if there then w else put_in t e w

module _ (o : Options) (news : List (Tag × Trees)) (n : Tag × Trees) (less : AllLess news n.0) (last : Option Tag) (tag : Tag) (part : Trees → Trees) (is : Part tag part) (x more : Trees) (opens : Bool) where
  abbrev with_more : Trees
  with_more = due_trees (is_due o last (Some tag)) (news ++ n ∷ []) (part more)

  abbrev without : Trees
  without = due_trees (is_due o last (Some tag)) news (part x)

  put_due : (due : Bool) → is_due o last (Some tag) n.0 ≡ due → with_more ≡ due_trees (is_due o last (Some tag)) news (then_if due n.1 (part more))
  put_due due e = due_append (is_due o last (Some tag)) news n (part more) ∙ ap (λ (b : Bool). due_trees (is_due o last (Some tag)) news (then_if b n.1 (part more))) e

  both_true : (a b : Bool) → a ≡ true → b ≡ true → (a && b) ≡ true
  both_true a b p q = cc

  second_false : (a b : Bool) → b ≡ false → (a && b) ≡ false
  second_false true b p = p
  second_false false b p = refl

  none_of : (a b : Bool) → a ≡ false → b ≡ false → (a || b) ≡ false
  none_of a b p q = cc

  -- it is put here
  pub put_here : is_after o last n.0 ≡ true → below n.0 tag ≡ true → more ≡ x → has n.0 x ≡ false → put_in n.0 n.1 x ≡ then_trees n.1 x → opens ≡ false → with_more ≡ put_if (has n.0 without || opens) n.0 n.1 without
  put_here after low same lacks front none =
      put_due true (both_true _ _ after low)
      ∙ ap (λ (y : Trees). due_trees (is_due o last (Some tag)) news (then_trees n.1 (part y))) same
      ∙ ap (due_trees (is_due o last (Some tag)) news) (sym (is.stops n.0 n.1 x low front))
      ∙ sym (due_skips (is_due o last (Some tag)) news n.0 n.1 (part x) less)
      ∙ sym (if_false _ _ _ (none_of _ _ (due_other (is_due o last (Some tag)) news n.0 (part x) less ∙ is.other n.0 x (below_other_way n.0 tag low) ∙ lacks) none))

  goes_on : (b : Bool) → below n.0 tag ≡ false → more ≡ put_if b n.0 n.1 x → due_trees (is_due o last (Some tag)) news (part more) ≡ put_if b n.0 n.1 without
  goes_on true high same = ap (λ (y : Trees). due_trees (is_due o last (Some tag)) news (part y)) same
  goes_on false high same =
      ap (λ (y : Trees). due_trees (is_due o last (Some tag)) news (part y)) same
      ∙ ap (due_trees (is_due o last (Some tag)) news) (sym (is.skips n.0 n.1 x high))
      ∙ sym (due_skips (is_due o last (Some tag)) news n.0 n.1 (part x) less)

  -- it is put later, if at all
  pub put_later : below n.0 tag ≡ false → has n.0 (part x) ≡ has n.0 x → more ≡ put_if (has n.0 x || opens) n.0 n.1 x → with_more ≡ put_if (has n.0 without || opens) n.0 n.1 without
  put_later high alike same =
      put_due false (second_false _ _ high)
      ∙ goes_on (has n.0 x || opens) high same
      ∙ ap (λ (b : Bool). put_if (b || opens) n.0 n.1 without) (sym (due_other (is_due o last (Some tag)) news n.0 (part x) less ∙ alike))

  -- it is there
  pub put_never : below n.0 tag ≡ false → has n.0 (part x) ≡ true → more ≡ x → with_more ≡ put_if (has n.0 without || opens) n.0 n.1 without
  put_never high there same =
      put_due false (second_false _ _ high)
      ∙ ap (λ (y : Trees). due_trees (is_due o last (Some tag)) news (part y)) same
      ∙ sym (ap (λ (b : Bool). put_if (b || opens) n.0 n.1 without) (due_other (is_due o last (Some tag)) news n.0 (part x) less ∙ there))
