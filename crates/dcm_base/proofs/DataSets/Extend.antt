-- What bytes begin with, longer bytes begin with too.
use Rattle.std.proofs.Common.{◌≡◌, ℕ, ◌+◌, ◌≤◌, List, [], ◌∷◌, ◌++◌, length, drop, get_or, Some, Bool, true, false, cond, sym, ap, ◌∙◌, subst, arith, length-append, append_assoc}
use Rattle.std.proofs.lemmas.List.{drop-append-le, length-drop}
use Rattle.std.proofs.Math.ListN.{get_or-append}
use Rattle.byteorder.specs.Numbers.{little_from-append, big_from-append}
use Rattle.dcm_base.specs.declared.tag.Tag.{Tag}
use Rattle.dcm_base.specs.declared.vr.Vr.{Vr}
use Rattle.dcm_base.specs.declared.syntax.Syntax.{Syntax}
use Rattle.dcm_base.specs.declared.syntax.Syntax.TheVariants.{Implicit as implicit_in, Little as little_in, Big as big_in}
use Rattle.dcm_base.specs.declared.length.Length.{Length}
use Rattle.dcm_base.specs.declared.length.Length.TheVariants.{Known, Undefined}
use Rattle.dcm_base.specs.Tree.Tree.{Trees, no_tree, leaf, sequence, fragments, Items, no_item, item}
use Rattle.dcm_base.specs.Tables.Number.{number}
use Rattle.dcm_base.specs.Tables.Representation.{is_long, vr_read}
use Rattle.dcm_base.specs.Tables.Dictionary.{vr_in}
use Rattle.dcm_base.specs.Bytes.Head.{ElementHead, ItemHead, Delimiter, tag_at, vr_at, length_at, long_length, head_size}
use Rattle.dcm_base.specs.Tables.Tag.{item_end_tag, sequence_end_tag}
use Rattle.dcm_base.specs.Tree.Value.{order}
use Rattle.dcm_base.specs.Bytes.Spelling.{inside, Enclosed, FragmentsAt, TreesAt, ItemsAt, after}
use Rattle.dcm_base.proofs.DataSets.Heads.{eight_le_head_size}

pub number_extends : (s : Syntax) (n : ℕ) (b z : List ℕ) → n ≤ length b → number s n (b ++ z) ≡ number s n b
number_extends (implicit_in d) n b z le = little_from-append n b z le
number_extends (little_in d) n b z le = little_from-append n b z le
number_extends (big_in d) n b z le = big_from-append n b z le

pub number_behind_extends : (s : Syntax) (k n : ℕ) (b z : List ℕ) → k + n ≤ length b → number s n (drop k (b ++ z)) ≡ number s n (drop k b)
number_behind_extends s k n b z le =
    ap (number s n) (drop-append-le k b z (omega arith)) ∙ number_extends s n (drop k b) z (omega (arith, length-drop k b))

pub tag_at_extends : (s : Syntax) (b z : List ℕ) → 4 ≤ length b → tag_at s (b ++ z) ≡ tag_at s b
tag_at_extends s b z le =
    let group = number_extends s 2 b z (omega arith) in
    let element = number_behind_extends s 2 2 b z (omega arith) in
    λ i. record { group = group i; element = element i }

letters_extend : (b z : List ℕ) → 8 ≤ length b → vr_read (get_or (b ++ z) 4 0) (get_or (b ++ z) 5 0) ≡ vr_read (get_or b 4 0) (get_or b 5 0)
letters_extend b z le =
    ap (λ (x : ℕ). vr_read x (get_or (b ++ z) 5 0)) (get_or-append b z 0 4 (omega arith)) ∙ ap (λ (x : ℕ). vr_read (get_or b 4 0) x) (get_or-append b z 0 5 (omega arith))

pub vr_at_extends : (s : Syntax) (b z : List ℕ) → 8 ≤ length b → vr_at s (b ++ z) ≡ vr_at s b
unfolding vr_at
vr_at_extends (implicit_in d) b z le = ap (λ (t : Tag). Some (vr_in d t)) (tag_at_extends (implicit_in d) b z (omega arith))
vr_at_extends (little_in d) b z le = letters_extend b z le
vr_at_extends (big_in d) b z le = letters_extend b z le

explicit_length_extends : (s : Syntax) (long : Bool) (b z : List ℕ) → cond long 12 8 ≤ length b
    → cond long (long_length (number s 4 (drop 8 (b ++ z)))) (Known (number s 2 (drop 6 (b ++ z)))) ≡ cond long (long_length (number s 4 (drop 8 b))) (Known (number s 2 (drop 6 b)))
explicit_length_extends s true b z le = ap long_length (number_behind_extends s 8 4 b z (omega arith))
explicit_length_extends s false b z le = ap Known (number_behind_extends s 6 2 b z (omega arith))

pub length_at_extends : (s : Syntax) (v : Vr) (b z : List ℕ) → head_size s v ≤ length b → length_at s v (b ++ z) ≡ length_at s v b
unfolding length_at
length_at_extends (implicit_in d) v b z le = ap long_length (number_behind_extends (implicit_in d) 4 4 b z (omega arith))
length_at_extends (little_in d) v b z le = explicit_length_extends (little_in d) (is_long v) b z le
length_at_extends (big_in d) v b z le = explicit_length_extends (big_in d) (is_long v) b z le

pub element_extends : (s : Syntax) (t : Tag) (v : Vr) (l : Length) (b c z : List ℕ) → ElementHead s t v l b c → ElementHead s t v l (b ++ z) (c ++ z)
element_extends s t v l b c z h =
    let hs = eight_le_head_size s v in
    let eight : 8 ≤ length b = omega (arith, hs, h.whole) in
    record {
      no_item = h.no_item;
      head = record {
        tag_is = h.tag_is ∙ sym (tag_at_extends s b z (omega arith));
        vr_is = h.vr_is ∙ sym (vr_at_extends s b z eight);
        whole = omega (arith, h.whole, length-append b z);
        length_is = h.length_is ∙ sym (length_at_extends s v b z h.whole);
        after_is = ap (λ (x : List ℕ). x ++ z) h.after_is ∙ sym (drop-append-le (head_size s v) b z h.whole);
      };
    }

pub item_extends : (s : Syntax) (l : Length) (b c z : List ℕ) → ItemHead s l b c → ItemHead s l (b ++ z) (c ++ z)
item_extends s l b c z h =
    record {
      tag_is = h.tag_is ∙ sym (tag_at_extends s b z (omega (arith, h.whole)));
      whole = omega (arith, h.whole, length-append b z);
      length_is = h.length_is ∙ sym (ap long_length (number_behind_extends s 4 4 b z (omega (arith, h.whole))));
      after_is = ap (λ (x : List ℕ). x ++ z) h.after_is ∙ sym (drop-append-le 8 b z h.whole);
    }

pub delimiter_extends : (s : Syntax) (t : Tag) (b c z : List ℕ) → Delimiter s t b c → Delimiter s t (b ++ z) (c ++ z)
delimiter_extends s t b c z h =
    record {
      tag_is = h.tag_is ∙ sym (tag_at_extends s b z (omega (arith, h.whole)));
      whole = omega (arith, h.whole, length-append b z);
      after_is = ap (λ (x : List ℕ). x ++ z) h.after_is ∙ sym (drop-append-le 8 b z h.whole);
    }

pub enclosed_extends : (s : Syntax) (end_tag : Tag) (declared : Length) (R : List ℕ → List ℕ → Type 0) (c e z : List ℕ)
    → ((b p : List ℕ) → R b p → R (b ++ z) (p ++ z)) → Enclosed s end_tag declared R c e → Enclosed s end_tag declared R (c ++ z) (e ++ z)
enclosed_extends s end_tag (Known n) R c e z more (i, ci, li, r) = (i, ap (λ (x : List ℕ). x ++ z) ci ∙ append_assoc i e z, li, r)
enclosed_extends s end_tag Undefined R c e z more (d, r, x) = (d ++ z, more c d r, delimiter_extends s end_tag d e z x)

pub fragments_extend : (s : Syntax) (values : List (List ℕ)) (b p z : List ℕ) → FragmentsAt s values b p → FragmentsAt s values (b ++ z) (p ++ z)
unfolding FragmentsAt
fragments_extend s [] b p z h = ap (λ (x : List ℕ). x ++ z) h
fragments_extend s (v ∷ vs) b p z (others, head, more) =
    (others ++ z, subst (λ (x : List ℕ). ItemHead s (Known (length v)) (b ++ z) x) (append_assoc v others z) (item_extends s (Known (length v)) b (v ++ others) z head), fragments_extend s vs others p z more)

mutual
  unfolding TreesAt

  pub trees_extend : (s : Syntax) (x : Trees) (b p z : List ℕ) → TreesAt s x b p → TreesAt s x (b ++ z) (p ++ z)
  trees_extend s no_tree b p z h = ap (λ (x : List ℕ). x ++ z) h
  trees_extend s (leaf tag vr value rest) b p z (others, fo, head, more) =
      (others ++ z, fo, subst (λ (x : List ℕ). ElementHead s tag vr (Known (length value)) (b ++ z) x) (append_assoc (order s vr value) others z) (element_extends s tag vr (Known (length value)) b (order s vr value ++ others) z head), trees_extend (after s tag vr value) rest others p z more)
  trees_extend s (sequence tag vr declared items rest) b p z (contents, others, fo, head, inner, more) = (
    contents ++ z,
    others ++ z,
    fo,
    element_extends s tag vr declared b contents z head,
    enclosed_extends (inside s vr) sequence_end_tag declared (ItemsAt (inside s vr) items) contents others z (λ b p r. items_extend (inside s vr) items b p z r) inner,
    trees_extend s rest others p z more,
  )
  trees_extend s (fragments tag vr values rest) b p z (contents, others, fo, head, inner, more) = (
    contents ++ z,
    others ++ z,
    fo,
    element_extends s tag vr Undefined b contents z head,
    enclosed_extends s sequence_end_tag Undefined (FragmentsAt s values) contents others z (λ b p r. fragments_extend s values b p z r) inner,
    trees_extend s rest others p z more,
  )

  pub items_extend : (s : Syntax) (x : Items) (b p z : List ℕ) → ItemsAt s x b p → ItemsAt s x (b ++ z) (p ++ z)
  items_extend s no_item b p z h = ap (λ (x : List ℕ). x ++ z) h
  items_extend s (item declared set rest) b p z (contents, others, head, inner, more) = (
    contents ++ z,
    others ++ z,
    item_extends s declared b contents z head,
    enclosed_extends s item_end_tag declared (TreesAt s set) contents others z (λ b p r. trees_extend s set b p z r) inner,
    items_extend s rest others p z more,
  )
