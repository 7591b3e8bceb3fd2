-- No front ends inside a head: where a front that awaits a head is spelled, the next longer bytes that spell a front have the whole head.
use Rattle.std.proofs.Common.{◌≡◌, ◌≢◌, ℕ, ◌≤◌, List, [], ◌∷◌, ◌++◌, length, Option, Some, None, Bool, true, false, ◌⊎◌, inl, inr, refl, sym, ap, ◌∙◌, subst, arith, length-append}
use Rattle.std.proofs.lemmas.List.{append-nil}
use Rattle.dcm_base.specs.declared.tag.Tag.{Tag}
use Rattle.dcm_base.specs.declared.vr.Vr.{Vr}
use Rattle.dcm_base.specs.declared.syntax.Syntax.{Syntax}
use Rattle.dcm_base.specs.declared.length.Length.{Length}
use Rattle.dcm_base.specs.declared.length.Length.TheVariants.{Known, Undefined}
use Rattle.dcm_base.specs.declared.dictionary.Dictionary.{Dictionary}
use Rattle.dcm_base.specs.Tables.Syntax.{read_by}
use Rattle.dcm_base.specs.Tree.Tree.{Trees, no_tree, leaf, sequence, fragments, Items, no_item, item}
use Rattle.dcm_base.specs.Tree.Front.{Front, front, OpenTree, nothing_open, open_leaf, open_sequence, open_fragments, OpenItem, no_open_item, open_item}
use Rattle.dcm_base.specs.Bytes.Head.{ElementHead, ItemHead, Delimiter, tag_at, vr_at, head_size}
use Rattle.dcm_base.specs.Tables.Tag.{item_end_tag, sequence_end_tag}
use Rattle.dcm_base.specs.Tree.Value.{order}
use Rattle.dcm_base.specs.Bytes.Spelling.{a_value, a_sequence, a_fragment_list, form, inside, Enclosed, FragmentsAt, TreesAt, ItemsAt, is_open_item, holds_open, StaysOpen, SpellsOpenFragment, SpellsFront, SpellsOpen, SpellsOpenItem, after, after_trees, read_as}
use Rattle.dcm_base.specs.Reading.Place.{value_open, value_open_in_tree, value_open_in_item}
use Rattle.dcm_base.proofs.DataSets.Heads.{known_same, element_same, item_same, NoElement, NoItem, element_begins, item_begins, eight_le_head_size}
use Rattle.dcm_base.proofs.DataSets.After.{after_same, behind_same, delimiter_by}
use Rattle.dcm_base.proofs.DataSets.Whole.{append_same, at_end_NoElement, at_end_NoItem, delimiter_NoElement, delimiter_NoItem, enclosed_same, fragments_same, forms_same, value_sequence, value_fragments, sequence_fragments, leaf_same, enclosed_along, trees_same, items_same}
use Rattle.dcm_base.proofs.DataSets.Apart.{leaf_first, sequence_first, fragments_first, fragment_first, item_first, trees_apart, items_apart}
use Rattle.dcm_base.proofs.DataSets.Extend.{tag_at_extends, vr_at_extends, element_extends, item_extends, trees_extend, items_extend, fragments_extend}

-- bytes begin with a whole head
pub record WholeHead (s : Syntax) (x : List ℕ) : Type 0 where
  pub eight : 8 ≤ length x
  pub twelve : (tag_at s x).group ≢ 0xFFFE → (vr : Vr) × (Some vr ≡ vr_at s x) × (head_size s vr ≤ length x)

abbrev pub Goes : Syntax → List ℕ → Type 0
Goes s x = (x ≡ []) ⊎ WholeHead s x

pub element_goes : (s : Syntax) (t : Tag) (v : Vr) (l : Length) (x c : List ℕ) → ElementHead s t v l x c → WholeHead s x
element_goes s t v l x c h =
    let le = eight_le_head_size s v in
    record { eight = omega (arith, le, h.whole); twelve = λ n. (v, h.vr_is, h.whole) }

pub item_goes : (s : Syntax) (l : Length) (x c : List ℕ) → ItemHead s l x c → WholeHead s x
item_goes s l x c h = record { eight = h.whole; twelve = λ n. absurd (n (ap (λ (t : Tag). t.group) (sym h.tag_is))) }

pub delimiter_goes : (s : Syntax) (t : Tag) (x c : List ℕ) → t.group ≡ 0xFFFE → Delimiter s t x c → WholeHead s x
delimiter_goes s t x c g h = record { eight = h.whole; twelve = λ n. absurd (n (ap (λ (t : Tag). t.group) (sym h.tag_is) ∙ g)) }

pub whole_head_extends : (s : Syntax) (x z : List ℕ) → WholeHead s x → WholeHead s (x ++ z)
whole_head_extends s x z h =
    record {
      eight = omega (arith, h.eight, length-append x z);
      twelve = λ n. let f = h.twelve (subst (λ (t : Tag). t.group ≢ 0xFFFE) (tag_at_extends s x z (omega (arith, h.eight))) n) in
          (f.0, f.1 ∙ sym (vr_at_extends s x z h.eight), omega (arith, f.2, length-append x z));
    }

-- the end of a list: no bytes, or its delimiter
abbrev pub EndAt : Syntax → Tag → List ℕ → Type 0
EndAt s t p = (p ≡ []) ⊎ ((e : List ℕ) × Delimiter s t p e)

pub end_goes : (s : Syntax) (t : Tag) (p : List ℕ) → t.group ≡ 0xFFFE → EndAt s t p → Goes s p
end_goes s t p g (inl e) = inl e
end_goes s t p g (inr (e, d)) = inr (delimiter_goes s t p e g d)

pub end_NoElement : (s : Syntax) (p : List ℕ) → EndAt s item_end_tag p → NoElement s p
end_NoElement s p (inl e) = subst (NoElement s) (sym e) (at_end_NoElement s)
end_NoElement s p (inr (e, d)) = delimiter_NoElement s p e d

pub end_NoItem : (s : Syntax) (p : List ℕ) → EndAt s sequence_end_tag p → NoItem s p
end_NoItem s p (inl e) = subst (NoItem s) (sym e) (at_end_NoItem s)
end_NoItem s p (inr (e, d)) = delimiter_NoItem s p e d

end_by : (e : Dictionary) (s : Syntax) (end_tag : Tag) (p : List ℕ) → EndAt s end_tag p → EndAt (read_by e s) end_tag p
end_by e s end_tag p (inl h) = inl h
end_by e s end_tag p (inr (q, d)) = inr (q, delimiter_by e s end_tag p q d)

-- the end is one in the syntax after trees too
end_behind : (s : Syntax) (x : Trees) (end_tag : Tag) (p : List ℕ) → EndAt s end_tag p → EndAt (after_trees s x) end_tag p
end_behind s no_tree end_tag p h = h
end_behind s (leaf tag vr value rest) end_tag p h = end_behind (after s tag vr value) rest end_tag p (end_by _ s end_tag p h)
end_behind s (sequence tag vr declared items rest) end_tag p h = end_behind s rest end_tag p h
end_behind s (fragments tag vr values rest) end_tag p h = end_behind s rest end_tag p h

-- what follows whole trees, whole items or whole fragments: their end, or an open one
pub data Tail (Open : Type 0) : Type 0 where
  the_end : Tail Open
  an_open : Open → Tail Open

abbrev pub SetTail : Syntax → Tail OpenTree → List ℕ → Type 0
SetTail s the_end p = EndAt s item_end_tag p
SetTail s (an_open o) p = SpellsOpen s o p

abbrev pub ItemsTail : Syntax → Tail OpenItem → List ℕ → Type 0
ItemsTail s the_end p = EndAt s sequence_end_tag p
ItemsTail s (an_open o) p = SpellsOpenItem s o p

abbrev pub FragmentsTail : Syntax → Tail (Option (ℕ × List ℕ)) → List ℕ → Type 0
FragmentsTail s the_end p = EndAt s sequence_end_tag p
FragmentsTail s (an_open o) p = SpellsOpenFragment s o p

-- ---- a whole one is no tail

leaf_no_tail : (s : Syntax) (tag : Tag) (vr : Vr) (value : List ℕ) (tail : Tail OpenTree) (b others : List ℕ) → form s (read_as s tag vr) (Known (length value)) ≡ a_value
    → ElementHead s tag vr (Known (length value)) b (order s vr value ++ others) → SetTail s tail b → ⊥
leaf_no_tail s tag vr value the_end b others fo head t = element_begins s _ _ _ b _ head (end_NoElement s b t)
leaf_no_tail s tag vr value (an_open o) b others fo head t = leaf_first s tag vr value o b others fo head t

sequence_no_tail : (s : Syntax) (tag : Tag) (vr : Vr) (declared : Length) (items : Items) (tail : Tail OpenTree) (b contents others : List ℕ) → form s (read_as s tag vr) declared ≡ a_sequence
    → ElementHead s tag vr declared b contents → Enclosed (inside s vr) sequence_end_tag declared (ItemsAt (inside s vr) items) contents others → SetTail s tail b → ⊥
sequence_no_tail s tag vr declared items the_end b contents others fo head inner t = element_begins s _ _ _ b _ head (end_NoElement s b t)
sequence_no_tail s tag vr declared items (an_open o) b contents others fo head inner t =
    sequence_first s tag vr declared items o b contents others fo head inner (λ s' y last b p c. items_apart s' items y last b p c) t

fragments_no_tail : (s : Syntax) (tag : Tag) (vr : Vr) (values : List (List ℕ)) (tail : Tail OpenTree) (b contents others : List ℕ) → form s (read_as s tag vr) Undefined ≡ a_fragment_list
    → ElementHead s tag vr Undefined b contents → Enclosed s sequence_end_tag Undefined (FragmentsAt s values) contents others → SetTail s tail b → ⊥
fragments_no_tail s tag vr values the_end b contents others fo head inner t = element_begins s _ _ _ b _ head (end_NoElement s b t)
fragments_no_tail s tag vr values (an_open o) b contents others fo head inner t = fragments_first s tag vr values o b contents others fo head inner t

item_no_tail : (s : Syntax) (declared : Length) (set : Trees) (tail : Tail OpenItem) (b contents others : List ℕ)
    → ItemHead s declared b contents → Enclosed s item_end_tag declared (TreesAt s set) contents others → ItemsTail s tail b → ⊥
item_no_tail s declared set the_end b contents others head inner t = item_begins s _ b _ head (end_NoItem s b t)
item_no_tail s declared set (an_open o) b contents others head inner t = item_first s declared set o b contents others head inner (λ y o b p c. trees_apart s set y o b p c) t

fragment_no_tail : (s : Syntax) (value : List ℕ) (tail : Tail (Option (ℕ × List ℕ))) (b others : List ℕ) → ItemHead s (Known (length value)) b (value ++ others) → FragmentsTail s tail b → ⊥
fragment_no_tail s value the_end b others head t = item_begins s _ b _ head (end_NoItem s b t)
fragment_no_tail s value (an_open o) b others head t = fragment_first s value o b others head t

-- ---- the same whole ones stand in front

trees_align : (s : Syntax) (w y : Trees) (tail : Tail OpenTree) (b c d : List ℕ) → TreesAt s w b c → TreesAt s y b d → SetTail (after_trees s y) tail d → (z : Trees) × TreesAt (after_trees s w) z c d × SetTail (after_trees (after_trees s w) z) tail d
unfolding TreesAt
trees_align s no_tree y tail b c d h k t = (y, subst (λ (z : List ℕ). TreesAt s y z d) h k, t)
trees_align s (leaf tag vr value rest) no_tree tail b c d (others, fo, head, more) k t = absurd (leaf_no_tail s tag vr value tail b others fo head (subst (SetTail s tail) (sym k) t))
trees_align s (sequence tag vr declared items rest) no_tree tail b c d (contents, others, fo, head, inner, more) k t =
    absurd (sequence_no_tail s tag vr declared items tail b contents others fo head inner (subst (SetTail s tail) (sym k) t))
trees_align s (fragments tag vr values rest) no_tree tail b c d (contents, others, fo, head, inner, more) k t =
    absurd (fragments_no_tail s tag vr values tail b contents others fo head inner (subst (SetTail s tail) (sym k) t))
trees_align s (leaf tag vr value rest) (leaf tag' vr' value' rest') tail b c d (others, fo, head, more) (others', fo', head', more') t =
    let h = leaf_same s tag tag' vr vr' value value' b others others' head head' in
    trees_align (after s tag vr value) rest rest' tail others c d more (behind_same s tag tag' vr vr' value value' others others' d rest' h more') (subst (λ (k : Syntax). SetTail (after_trees k rest') tail d) (sym (after_same s tag tag' vr vr' value value' others others' h)) t)
trees_align s (leaf tag vr value rest) (sequence tag' vr' declared' items' rest') tail b c d (others, fo, head, more) (contents', others', fo', head', inner', more') t =
    absurd (value_sequence (forms_same s _ _ _ _ _ _ b _ _ _ _ fo fo' head head'))
trees_align s (leaf tag vr value rest) (fragments tag' vr' values' rest') tail b c d (others, fo, head, more) (contents', others', fo', head', inner', more') t =
    absurd (value_fragments (forms_same s _ _ _ _ _ _ b _ _ _ _ fo fo' head head'))
trees_align s (sequence tag vr declared items rest) (leaf tag' vr' value' rest') tail b c d (contents, others, fo, head, inner, more) (others', fo', head', more') t =
    absurd (value_sequence (forms_same s _ _ _ _ _ _ b _ _ _ _ fo' fo head' head))
trees_align s (sequence tag vr declared items rest) (sequence tag' vr' declared' items' rest') tail b c d (contents, others, fo, head, inner, more) (contents', others', fo', head', inner', more') t =
    let h = element_same s tag tag' vr vr' declared declared' b contents contents' head head' in
    let one = enclosed_same (inside s vr) sequence_end_tag (NoItem (inside s vr)) (at_end_NoItem (inside s vr)) (delimiter_NoItem (inside s vr)) declared
    (ItemsAt (inside s vr) items) (ItemsAt (inside s vr) items') (items ≡ items')
    (λ c e f r r' ne nf. items_same (inside s vr) items items' c e f r r' ne nf)
    contents others others' inner (enclosed_along s vr vr' declared declared' items' contents contents' others' h.vrs h.lengths h.contents inner') in
    trees_align s rest rest' tail others c d more (subst (λ (z : List ℕ). TreesAt s rest' z d) (sym one.1) more') t
trees_align s (sequence tag vr declared items rest) (fragments tag' vr' values' rest') tail b c d (contents, others, fo, head, inner, more) (contents', others', fo', head', inner', more') t =
    absurd (sequence_fragments (forms_same s _ _ _ _ _ _ b _ _ _ _ fo fo' head head'))
trees_align s (fragments tag vr values rest) (leaf tag' vr' value' rest') tail b c d (contents, others, fo, head, inner, more) (others', fo', head', more') t =
    absurd (value_fragments (forms_same s _ _ _ _ _ _ b _ _ _ _ fo' fo head' head))
trees_align s (fragments tag vr values rest) (sequence tag' vr' declared' items' rest') tail b c d (contents, others, fo, head, inner, more) (contents', others', fo', head', inner', more') t =
    absurd (sequence_fragments (forms_same s _ _ _ _ _ _ b _ _ _ _ fo' fo head' head))
trees_align s (fragments tag vr values rest) (fragments tag' vr' values' rest') tail b c d (contents, others, fo, head, inner, more) (contents', others', fo', head', inner', more') t =
    let h = element_same s tag tag' vr vr' Undefined Undefined b contents contents' head head' in
    let one = enclosed_same s sequence_end_tag (NoItem s) (at_end_NoItem s) (delimiter_NoItem s) Undefined
    (FragmentsAt s values) (FragmentsAt s values') (values ≡ values')
    (λ c e f r r' ne nf. fragments_same s values values' c e f r r' ne nf)
    contents others others' inner (subst (λ (z : List ℕ). Enclosed s sequence_end_tag Undefined (FragmentsAt s values') z others') (sym h.contents) inner') in
    trees_align s rest rest' tail others c d more (subst (λ (z : List ℕ). TreesAt s rest' z d) (sym one.1) more') t

items_align : (s : Syntax) (w y : Items) (tail : Tail OpenItem) (b c d : List ℕ) → ItemsAt s w b c → ItemsAt s y b d → ItemsTail s tail d → (z : Items) × ItemsAt s z c d
unfolding ItemsAt
items_align s no_item y tail b c d h k t = (y, subst (λ (z : List ℕ). ItemsAt s y z d) h k)
items_align s (item declared set rest) no_item tail b c d (contents, others, head, inner, more) k t = absurd (item_no_tail s declared set tail b contents others head inner (subst (ItemsTail s tail) (sym k) t))
items_align s (item declared set rest) (item declared' set' rest') tail b c d (contents, others, head, inner, more) (contents', others', head', inner', more') t =
    let h = item_same s declared declared' b contents contents' head head' in
    let inner1 = subst (λ (z : Length). Enclosed s item_end_tag z (TreesAt s set') contents' others') (sym h.0) inner' in
    let inner2 = subst (λ (z : List ℕ). Enclosed s item_end_tag declared (TreesAt s set') z others') (sym h.1) inner1 in
    let one = enclosed_same s item_end_tag (NoElement s) (at_end_NoElement s) (delimiter_NoElement s) declared
    (TreesAt s set) (TreesAt s set') (set ≡ set')
    (λ c e f r r' ne nf. trees_same s set set' c e f r r' ne nf)
    contents others others' inner inner2 in
    items_align s rest rest' tail others c d more (subst (λ (z : List ℕ). ItemsAt s rest' z d) (sym one.1) more') t

fragments_align : (s : Syntax) (w y : List (List ℕ)) (tail : Tail (Option (ℕ × List ℕ))) (b c d : List ℕ) → FragmentsAt s w b c → FragmentsAt s y b d → FragmentsTail s tail d → (z : List (List ℕ)) × FragmentsAt s z c d
unfolding FragmentsAt
fragments_align s [] y tail b c d h k t = (y, subst (λ (z : List ℕ). FragmentsAt s y z d) h k)
fragments_align s (v ∷ vs) [] tail b c d (others, head, more) k t = absurd (fragment_no_tail s v tail b others head (subst (FragmentsTail s tail) (sym k) t))
fragments_align s (v ∷ vs) (w ∷ ws) tail b c d (others, head, more) (others', head', more') t =
    let h = item_same s (Known (length v)) (Known (length w)) b (v ++ others) (w ++ others') head head' in
    let both = append_same v w others others' (known_same _ _ h.0) h.1 in
    fragments_align s vs ws tail others c d more (subst (λ (z : List ℕ). FragmentsAt s ws z d) (sym both.1) more') t

-- ---- what begins with trees, items or fragments and their tail begins with a head

trees_begin : (s : Syntax) (z : Trees) (tail : Tail OpenTree) (x d : List ℕ) → TreesAt s z x d → SetTail (after_trees s z) tail d → Goes s x
unfolding TreesAt SpellsOpen
trees_begin s no_tree the_end x d h t = subst (Goes s) (sym h) (end_goes s item_end_tag d refl t)
trees_begin s no_tree (an_open nothing_open) x d h t = inl (h ∙ t)
trees_begin s no_tree (an_open (open_leaf tag vr size value)) x d h (fo, lt, head) = inr (subst (WholeHead s) (sym h) (element_goes s _ _ _ d _ head))
trees_begin s no_tree (an_open (open_sequence tag vr declared items last)) x d h (contents, others, fo, head, stays, inner, more) = inr (subst (WholeHead s) (sym h) (element_goes s _ _ _ d _ head))
trees_begin s no_tree (an_open (open_fragments tag vr values last)) x d h (contents, others, fo, head, inner, more) = inr (subst (WholeHead s) (sym h) (element_goes s _ _ _ d _ head))
trees_begin s (leaf tag vr value rest) tail x d (others, fo, head, more) t = inr (element_goes s _ _ _ x _ head)
trees_begin s (sequence tag vr declared items rest) tail x d (contents, others, fo, head, inner, more) t = inr (element_goes s _ _ _ x _ head)
trees_begin s (fragments tag vr values rest) tail x d (contents, others, fo, head, inner, more) t = inr (element_goes s _ _ _ x _ head)

items_begin : (s : Syntax) (z : Items) (tail : Tail OpenItem) (x d : List ℕ) → ItemsAt s z x d → ItemsTail s tail d → Goes s x
unfolding ItemsAt SpellsOpenItem
items_begin s no_item the_end x d h t = subst (Goes s) (sym h) (end_goes s sequence_end_tag d refl t)
items_begin s no_item (an_open no_open_item) x d h t = inl (h ∙ t)
items_begin s no_item (an_open (open_item declared set)) x d h (contents, head, stays, more) = inr (subst (WholeHead s) (sym h) (item_goes s _ d _ head))
items_begin s (item declared set rest) tail x d (contents, others, head, inner, more) t = inr (item_goes s _ x _ head)

fragments_begin : (s : Syntax) (z : List (List ℕ)) (tail : Tail (Option (ℕ × List ℕ))) (x d : List ℕ) → FragmentsAt s z x d → FragmentsTail s tail d → Goes s x
unfolding FragmentsAt
fragments_begin s [] the_end x d h t = subst (Goes s) (sym h) (end_goes s sequence_end_tag d refl t)
fragments_begin s [] (an_open None) x d h t = inl (h ∙ t)
fragments_begin s [] (an_open (Some fragment)) x d h t = inr (subst (WholeHead s) (sym h) (item_goes s _ d _ t.1))
fragments_begin s (v ∷ vs) tail x d (others, head, more) t = inr (item_goes s _ x _ head)

-- ---- what is enclosed goes on with a head

split : (a x b y : List ℕ) → a ++ x ≡ b ++ y → length a ≤ length b → (m : List ℕ) × (b ≡ a ++ m) × (x ≡ m ++ y)
split [] x b y e le = (b, refl, e)
split (h ∷ a) x [] y e le = absurd (omega arith)
split (h ∷ a) x (k ∷ b) y e le =
    let heads : h ≡ k = cc in
    let tails : a ++ x ≡ b ++ y = cc in
    let (m, p, q) = split a x b y tails (omega arith) in
    (m, cc, q)

enclosed_goes : (s : Syntax) (end_tag : Tag) (declared : Length) (R : List ℕ → List ℕ → Type 0) (held : Bool) (n : Syntax) (c x others : List ℕ)
    → StaysOpen declared held c → Enclosed s end_tag declared R (c ++ x) others
    → ((x1 p : List ℕ) → R (c ++ x1) p → EndAt s end_tag p → Goes n x1)
    → (R c [] → held ≡ true → ⊥) → Goes n x
enclosed_goes s end_tag (Known size) R true n c x others stays (inner, e, len, r) goes apart =
    let (m, p, q) = split c x inner others e (omega arith) in
    let r' : R (c ++ m) [] = subst (λ (z : List ℕ). R z []) p r in
    elim (goes m [] r' (inl refl)) [
      | inl nil ↦ absurd (apart (subst (λ (z : List ℕ). R z []) (ap (λ (z : List ℕ). c ++ z) nil ∙ append-nil c) r') refl)
      | inr head ↦ inr (subst (WholeHead n) (sym q) (whole_head_extends n m others head))
    ]
enclosed_goes s end_tag (Known size) R false n c x others stays (inner, e, len, r) goes apart =
    let (m, p, q) = split c x inner others e (omega arith) in
    let r' : R (c ++ m) [] = subst (λ (z : List ℕ). R z []) p r in
    elim (goes m [] r' (inl refl)) [
      | inl nil ↦ absurd (omega (arith, ap length p, ap length nil, length-append c m))
      | inr head ↦ inr (subst (WholeHead n) (sym q) (whole_head_extends n m others head))
    ]
enclosed_goes s end_tag Undefined R held n c x others stays (d, r, delimiter) goes apart = goes x d r (inr (others, delimiter))

-- ---- the syntax of the next head

unfoldable mutual
  pub next_syntax : Syntax → Front → Syntax
  next_syntax s (front whole open_tree reached closed) = next_in_tree (after_trees s whole) open_tree

  pub next_in_tree : Syntax → OpenTree → Syntax
  next_in_tree s nothing_open = s
  next_in_tree s (open_leaf tag vr size value) = s
  next_in_tree s (open_sequence tag vr declared items last) = next_in_item (inside s vr) last
  next_in_tree s (open_fragments tag vr values last) = s

  pub next_in_item : Syntax → OpenItem → Syntax
  next_in_item s no_open_item = s
  next_in_item s (open_item declared set) = next_syntax s set

-- an open sequence goes on with a head, where its last item does
sequence_goes : (s : Syntax) (tag : Tag) (vr : Vr) (declared : Length) (items : Items) (last : OpenItem) (z : Trees) (tail : Tail OpenTree) (c x d : List ℕ) (n : Syntax)
    → SpellsOpen s (open_sequence tag vr declared items last) c
    → ((y : Items) (tail : Tail OpenItem) (c x d : List ℕ) → SpellsOpenItem (inside s vr) last c → ItemsAt (inside s vr) y (c ++ x) d → ItemsTail (inside s vr) tail d → Goes n x)
    → TreesAt s z (c ++ x) d → SetTail (after_trees s z) tail d → Goes n x
unfolding TreesAt SpellsOpen
sequence_goes s tag vr declared items last no_tree the_end c x d n (contents, others, fo, head, stays, inner, more) goes k t =
    absurd (element_begins s _ _ _ (c ++ x) _ (element_extends s tag vr declared c contents x head) (subst (NoElement s) (sym k) (end_NoElement s d t)))
sequence_goes s tag vr declared items last no_tree (an_open nothing_open) c x d n (contents, others, fo, head, stays, inner, more) goes k t =
    absurd (element_begins s _ _ _ (c ++ x) _ (element_extends s tag vr declared c contents x head) (subst (NoElement s) (sym (k ∙ t)) (at_end_NoElement s)))
sequence_goes s tag vr declared items last no_tree (an_open (open_leaf tag' vr' size' value')) c x d n (contents, others, fo, head, stays, inner, more) goes k (fo', lt', head') =
    absurd (value_sequence (forms_same s _ _ _ _ _ _ d _ _ _ _ fo' fo head' (subst (λ (y : List ℕ). ElementHead s tag vr declared y (contents ++ x)) k (element_extends s tag vr declared c contents x head))))
sequence_goes s tag vr declared items last no_tree (an_open (open_sequence tag' vr' declared' items' last')) c x d n (contents, others, fo, head, stays, inner, more) goes k (contents', others', fo', head', stays', inner', more') =
    let h = element_same s tag tag' vr vr' declared declared' (c ++ x) (contents ++ x) contents' (element_extends s tag vr declared c contents x head) (subst (λ (y : List ℕ). ElementHead s tag' vr' declared' y contents') (sym k) head') in
    let inner1 = subst (λ (y : Vr). ItemsAt (inside s y) items' contents' others') (sym h.vrs) inner' in
    let inner2 = subst (λ (y : List ℕ). ItemsAt (inside s vr) items' y others') (sym h.contents) inner1 in
    let more1 = subst (λ (y : Vr). SpellsOpenItem (inside s y) last' others') (sym h.vrs) more' in
    let aligned = items_align (inside s vr) items items' (an_open last') (contents ++ x) (others ++ x) others' (items_extend (inside s vr) items contents others x inner) inner2 more1 in
    goes aligned.0 (an_open last') others x others' more aligned.1 more1
sequence_goes s tag vr declared items last no_tree (an_open (open_fragments tag' vr' values' last')) c x d n (contents, others, fo, head, stays, inner, more) goes k (contents', others', fo', head', inner', more') =
    absurd (sequence_fragments (forms_same s _ _ _ _ _ _ d _ _ _ _ fo fo' (subst (λ (y : List ℕ). ElementHead s tag vr declared y (contents ++ x)) k (element_extends s tag vr declared c contents x head)) head'))
sequence_goes s tag vr declared items last (leaf tag' vr' value' rest') tail c x d n (contents, others, fo, head, stays, inner, more) goes (others', fo', head', more') t =
    absurd (value_sequence (forms_same s _ _ _ _ _ _ (c ++ x) _ _ _ _ fo' fo head' (element_extends s tag vr declared c contents x head)))
sequence_goes s tag vr declared items last (sequence tag' vr' declared' items' rest') tail c x d n (contents, others, fo, head, stays, inner, more) goes (contents', others', fo', head', inner', more') t =
    let h = element_same s tag tag' vr vr' declared declared' (c ++ x) (contents ++ x) contents' (element_extends s tag vr declared c contents x head) head' in
    let moved = enclosed_along s vr vr' declared declared' items' (contents ++ x) contents' others' h.vrs h.lengths h.contents inner' in
    enclosed_goes (inside s vr) sequence_end_tag declared (ItemsAt (inside s vr) items') (is_open_item last) n contents x others' stays moved
    (λ x1 p r e. let aligned = items_align (inside s vr) items items' the_end (contents ++ x1) (others ++ x1) p (items_extend (inside s vr) items contents others x1 inner) r e in
    goes aligned.0 the_end others x1 p more aligned.1 e)
    (λ r held. items_apart (inside s vr) items' items last contents [] others r (at_end_NoItem (inside s vr)) inner more held)
sequence_goes s tag vr declared items last (fragments tag' vr' values' rest') tail c x d n (contents, others, fo, head, stays, inner, more) goes (contents', others', fo', head', inner', more') t =
    absurd (sequence_fragments (forms_same s _ _ _ _ _ _ (c ++ x) _ _ _ _ fo fo' (element_extends s tag vr declared c contents x head) head'))

-- an open fragment list with no open fragment goes on with a head
fragment_list_goes : (s : Syntax) (tag : Tag) (vr : Vr) (values : List (List ℕ)) (z : Trees) (tail : Tail OpenTree) (c x d : List ℕ)
    → SpellsOpen s (open_fragments tag vr values None) c → TreesAt s z (c ++ x) d → SetTail (after_trees s z) tail d → Goes s x
unfolding TreesAt SpellsOpen
fragment_list_goes s tag vr values no_tree the_end c x d (contents, others, fo, head, inner, more) k t =
    absurd (element_begins s _ _ _ (c ++ x) _ (element_extends s tag vr Undefined c contents x head) (subst (NoElement s) (sym k) (end_NoElement s d t)))
fragment_list_goes s tag vr values no_tree (an_open nothing_open) c x d (contents, others, fo, head, inner, more) k t =
    absurd (element_begins s _ _ _ (c ++ x) _ (element_extends s tag vr Undefined c contents x head) (subst (NoElement s) (sym (k ∙ t)) (at_end_NoElement s)))
fragment_list_goes s tag vr values no_tree (an_open (open_leaf tag' vr' size' value')) c x d (contents, others, fo, head, inner, more) k (fo', lt', head') =
    absurd (value_fragments (forms_same s _ _ _ _ _ _ d _ _ _ _ fo' fo head' (subst (λ (y : List ℕ). ElementHead s tag vr Undefined y (contents ++ x)) k (element_extends s tag vr Undefined c contents x head))))
fragment_list_goes s tag vr values no_tree (an_open (open_sequence tag' vr' declared' items' last')) c x d (contents, others, fo, head, inner, more) k (contents', others', fo', head', stays', inner', more') =
    absurd (sequence_fragments (forms_same s _ _ _ _ _ _ d _ _ _ _ fo' fo head' (subst (λ (y : List ℕ). ElementHead s tag vr Undefined y (contents ++ x)) k (element_extends s tag vr Undefined c contents x head))))
fragment_list_goes s tag vr values no_tree (an_open (open_fragments tag' vr' values' last')) c x d (contents, others, fo, head, inner, more) k (contents', others', fo', head', inner', more') =
    let h = element_same s tag tag' vr vr' Undefined Undefined (c ++ x) (contents ++ x) contents' (element_extends s tag vr Undefined c contents x head) (subst (λ (y : List ℕ). ElementHead s tag' vr' Undefined y contents') (sym k) head') in
    let aligned = fragments_align s values values' (an_open last') (contents ++ x) (others ++ x) others' (fragments_extend s values contents others x inner) (subst (λ (y : List ℕ). FragmentsAt s values' y others') (sym h.contents) inner') more' in
    fragments_begin s aligned.0 (an_open last') x others' (subst (λ (y : List ℕ). FragmentsAt s aligned.0 (y ++ x) others') more aligned.1) more'
fragment_list_goes s tag vr values (leaf tag' vr' value' rest') tail c x d (contents, others, fo, head, inner, more) (others', fo', head', more') t =
    absurd (value_fragments (forms_same s _ _ _ _ _ _ (c ++ x) _ _ _ _ fo' fo head' (element_extends s tag vr Undefined c contents x head)))
fragment_list_goes s tag vr values (sequence tag' vr' declared' items' rest') tail c x d (contents, others, fo, head, inner, more) (contents', others', fo', head', inner', more') t =
    absurd (sequence_fragments (forms_same s _ _ _ _ _ _ (c ++ x) _ _ _ _ fo' fo head' (element_extends s tag vr Undefined c contents x head)))
fragment_list_goes s tag vr values (fragments tag' vr' values' rest') tail c x d (contents, others, fo, head, inner, more) (contents', others', fo', head', inner', more') t =
    let h = element_same s tag tag' vr vr' Undefined Undefined (c ++ x) (contents ++ x) contents' (element_extends s tag vr Undefined c contents x head) head' in
    let (p, r, delimiter) = subst (λ (y : List ℕ). Enclosed s sequence_end_tag Undefined (FragmentsAt s values') y others') (sym h.contents) inner' in
    let e : EndAt s sequence_end_tag p = inr (others', delimiter) in
    let aligned = fragments_align s values values' the_end (contents ++ x) (others ++ x) p (fragments_extend s values contents others x inner) r e in
    fragments_begin s aligned.0 the_end x p (subst (λ (y : List ℕ). FragmentsAt s aligned.0 (y ++ x) p) more aligned.1) e

-- whole trees aren't a front that holds an open one
front_apart : (s : Syntax) (f : Front) (y : Trees) (c : List ℕ) → SpellsFront s f c → TreesAt s y c [] → holds_open f ≡ true → ⊥
unfolding SpellsFront
front_apart s (front whole o reached closed) y c (d, at, op, re, cl) k held = trees_apart s y whole o c [] d k (at_end_NoElement s) at op held

mutual
  unfolding SpellsFront ItemsAt next_syntax value_open

  front_goes : (s : Syntax) (f : Front) (y : Trees) (tail : Tail OpenTree) (b x d : List ℕ) → SpellsFront s f b → value_open f ≡ false → TreesAt s y (b ++ x) d → SetTail (after_trees s y) tail d → Goes (next_syntax s f) x
  front_goes s (front whole o reached closed) y tail b x d (c, at, op, re, cl) v k t =
      let aligned = trees_align s whole y tail (b ++ x) (c ++ x) d (trees_extend s whole b c x at) k t in
      open_goes (after_trees s whole) o aligned.0 tail c x d op v aligned.1 aligned.2

  open_goes : (s : Syntax) (o : OpenTree) (z : Trees) (tail : Tail OpenTree) (c x d : List ℕ) → SpellsOpen s o c → value_open_in_tree o ≡ false → TreesAt s z (c ++ x) d → SetTail (after_trees s z) tail d → Goes (next_in_tree s o) x
  open_goes s nothing_open z tail c x d op v k t = trees_begin s z tail x d (subst (λ (y : List ℕ). TreesAt s z (y ++ x) d) op k) t
  open_goes s (open_leaf tag vr size value) z tail c x d op v k t = absurd cc
  open_goes s (open_sequence tag vr declared items last) z tail c x d op v k t =
      sequence_goes s tag vr declared items last z tail c x d (next_in_item (inside s vr) last) op
      (λ y tail c x d spelled at t. open_item_goes (inside s vr) last y tail c x d spelled v at t) k t
  open_goes s (open_fragments tag vr values None) z tail c x d op v k t = fragment_list_goes s tag vr values z tail c x d op k t
  open_goes s (open_fragments tag vr values (Some fragment)) z tail c x d op v k t = absurd cc

  open_item_goes : (s : Syntax) (o : OpenItem) (z : Items) (tail : Tail OpenItem) (c x d : List ℕ) → SpellsOpenItem s o c → value_open_in_item o ≡ false → ItemsAt s z (c ++ x) d → ItemsTail s tail d → Goes (next_in_item s o) x
  open_item_goes s no_open_item z tail c x d op v k t = items_begin s z tail x d (subst (λ (y : List ℕ). ItemsAt s z (y ++ x) d) op k) t
  open_item_goes s (open_item declared set) no_item the_end c x d (contents, head, stays, more) v k t =
      absurd (item_begins s _ (c ++ x) _ (item_extends s declared c contents x head) (subst (NoItem s) (sym k) (end_NoItem s d t)))
  open_item_goes s (open_item declared set) no_item (an_open no_open_item) c x d (contents, head, stays, more) v k t =
      absurd (item_begins s _ (c ++ x) _ (item_extends s declared c contents x head) (subst (NoItem s) (sym (k ∙ t)) (at_end_NoItem s)))
  open_item_goes s (open_item declared set) no_item (an_open (open_item declared' (front whole' o' reached' closed'))) c x d (contents, head, stays, more) v k (contents', head', stays', more') =
      let h = item_same s declared declared' (c ++ x) (contents ++ x) contents' (item_extends s declared c contents x head) (subst (λ (y : List ℕ). ItemHead s declared' y contents') (sym k) head') in
      front_goes s set whole' (an_open o') contents x more'.0 more v (subst (λ (y : List ℕ). TreesAt s whole' y more'.0) (sym h.1) more'.1) more'.2
  open_item_goes s (open_item declared set) (item declared' set' rest') tail c x d (contents, head, stays, more) v (contents', others', head', inner', more') t =
      let h = item_same s declared declared' (c ++ x) (contents ++ x) contents' (item_extends s declared c contents x head) head' in
      let inner1 = subst (λ (z : Length). Enclosed s item_end_tag z (TreesAt s set') contents' others') (sym h.0) inner' in
      let inner2 = subst (λ (z : List ℕ). Enclosed s item_end_tag declared (TreesAt s set') z others') (sym h.1) inner1 in
      enclosed_goes s item_end_tag declared (TreesAt s set') (holds_open set) (next_syntax s set) contents x others' stays inner2
      (λ x1 p r e. front_goes s set set' the_end contents x1 p more v r (end_behind s set' item_end_tag p e))
      (λ r held. front_apart s set set' contents more r held)

-- between two fronts, of which the first awaits a head, stands a whole head
pub between : (s : Syntax) (f g : Front) (b x : List ℕ) → SpellsFront s f b → value_open f ≡ false → SpellsFront s g (b ++ x) → Goes (next_syntax s f) x
unfolding SpellsFront
between s f (front whole o reached closed) b x p v (c, at, op, re, cl) = front_goes s f whole (an_open o) b x c p v at op
