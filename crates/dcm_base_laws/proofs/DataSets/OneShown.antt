-- Atoms show one front.
use Rattle.std.proofs.Common.{◌≡◌, ℕ, List, [], ◌∷◌, ◌++◌, length, Option, Some, None, Bool, true, false, refl, sym, ap, ◌∙◌, subst}
use Rattle.std.specs.Prelude.{map}
use Rattle.dcm_base.specs.declared.tag.Tag.{Tag}
use Rattle.dcm_base.specs.declared.vr.Vr.{Vr}
use Rattle.dcm_base.specs.declared.syntax.Syntax.{Syntax}
use Rattle.dcm_base.specs.declared.length.Length.{Length}
use Rattle.dcm_base.specs.declared.length.Length.TheVariants.{Known, Undefined}
use Rattle.dcm_base.specs.Tree.Tree.{Trees, no_tree, leaf, sequence, fragments, Items, no_item, item}
use Rattle.dcm_base.specs.Tree.Front.{Front, front, OpenTree, nothing_open, open_leaf, open_sequence, open_fragments, OpenItem, no_open_item, open_item}
use Rattle.dcm_base.specs.Tree.Value.{order}
use Rattle.dcm_base.specs.declared.form.Form.{Form}
use Rattle.dcm_base.specs.declared.form.Form.TheVariants.{Value as a_value, Sequence as a_sequence, FragmentList as a_fragment_list}
use Rattle.dcm_base.specs.Bytes.Spelling.{form, reached_tag, read_as}
use Rattle.dcm_base.specs.Steps.Atoms.{Atom, opens, value_byte, closes_leaf, opens_item, closes_item, closes_sequence, opens_fragment, ends, fragments_then, ShowTrees, ShowItems, open_fragment_atoms, end_atoms, MayEnd, Shows, ShowsOpen, ShowsOpenItem}
use Rattle.dcm_base.proofs.DataSets.Heads.{known_same}
use Rattle.dcm_base.proofs.Conversions.Order.{order_same}
use Rattle.dcm_base.proofs.DataSets.Whole.{value_sequence, value_fragments, sequence_fragments}

-- ---- one opening

record SameOpening (t u : Tag) (v w : Vr) (l m : Length) (s r : Syntax) (a b : List Atom) : Type 0 where
  tags : t ≡ u
  vrs : v ≡ w
  lengths : l ≡ m
  syntaxes : s ≡ r
  rest : a ≡ b

opening_same : (x : List Atom) (t u : Tag) (v w : Vr) (l m : Length) (s r : Syntax) (a b : List Atom) → x ≡ opens t v l s ∷ a → x ≡ opens u w m r ∷ b → SameOpening t u v w l m s r a b
opening_same x t u v w l m s r a b p q = record { tags = cc; vrs = cc; lengths = cc; syntaxes = cc; rest = cc }

forms_one : (x : List Atom) (t u : Tag) (v w : Vr) (l m : Length) (s r : Syntax) (a b : List Atom) (f g : Form) → x ≡ opens t v l s ∷ a → x ≡ opens u w m r ∷ b → form s (read_as s t v) l ≡ f → form r (read_as r u w) m ≡ g → f ≡ g
forms_one x t u v w l m s r a b f g p q e h =
    let same = opening_same x t u v w l m s r a b p q in
    sym e ∙ ap (λ (y : Syntax). form y (read_as y t v) l) same.syntaxes ∙ ap (λ (y : Tag). form r (read_as r y v) l) same.tags ∙ ap (λ (y : Vr). form r (read_as r u y) l) same.vrs
    ∙ ap (λ (y : Length). form r (read_as r u w) y) same.lengths ∙ h

abbrev NotTree : List Atom → Type 0
NotTree x = (t : Tag) (v : Vr) (l : Length) (s : Syntax) (a : List Atom) → x ≡ opens t v l s ∷ a → ⊥

abbrev NotItem : List Atom → Type 0
NotItem x = (l : Length) (a : List Atom) → x ≡ opens_item l ∷ a → ⊥

closes_item_ends : (p : List Atom) → NotTree (closes_item ∷ p)
closes_item_ends p t v l s a e = cc

closes_sequence_ends : (p : List Atom) → NotItem (closes_sequence ∷ p)
closes_sequence_ends p l a e = cc

end_ends : (closed : Bool) → NotTree (end_atoms closed)
end_ends true t v l s a e = cc
end_ends false t v l s a e = cc

-- ---- bytes

bytes_one : (u w : List ℕ) (a b : List Atom) → map value_byte u ++ closes_leaf ∷ a ≡ map value_byte w ++ closes_leaf ∷ b → (u ≡ w) × (a ≡ b)
bytes_one [] [] a b e = (refl, cc)
bytes_one [] (y ∷ w) a b e = absurd cc
bytes_one (x ∷ u) [] a b e = absurd cc
bytes_one (x ∷ u) (y ∷ w) a b e =
    let heads : x ≡ y = cc in
    let tails : map value_byte u ++ closes_leaf ∷ a ≡ map value_byte w ++ closes_leaf ∷ b = cc in
    let ih = bytes_one u w a b tails in
    let ih0 = ih.0 in
    (cc, ih.1)

bytes_open : (u w : List ℕ) (a : List Atom) → map value_byte u ++ closes_leaf ∷ a ≡ map value_byte w → ⊥
bytes_open [] [] a e = cc
bytes_open [] (y ∷ w) a e = cc
bytes_open (x ∷ u) [] a e = cc
bytes_open (x ∷ u) (y ∷ w) a e = let tails : map value_byte u ++ closes_leaf ∷ a ≡ map value_byte w = cc in bytes_open u w a tails

open_bytes_one : (u w : List ℕ) → map value_byte u ≡ map value_byte w → u ≡ w
open_bytes_one [] [] e = refl
open_bytes_one [] (y ∷ w) e = absurd cc
open_bytes_one (x ∷ u) [] e = absurd cc
open_bytes_one (x ∷ u) (y ∷ w) e =
    let heads : x ≡ y = cc in
    let tails : map value_byte u ≡ map value_byte w = cc in
    let ih = open_bytes_one u w tails in
    cc

-- ---- fragments

fragments_one : (x y : List (List ℕ)) (a b : List Atom) → fragments_then x (closes_sequence ∷ a) ≡ fragments_then y (closes_sequence ∷ b) → (x ≡ y) × (a ≡ b)
unfolding fragments_then
fragments_one [] [] a b e = (refl, cc)
fragments_one [] (w ∷ ws) a b e = absurd cc
fragments_one (v ∷ vs) [] a b e = absurd cc
fragments_one (v ∷ vs) (w ∷ ws) a b e =
    let tails : map value_byte v ++ closes_leaf ∷ fragments_then vs (closes_sequence ∷ a) ≡ map value_byte w ++ closes_leaf ∷ fragments_then ws (closes_sequence ∷ b) = cc in
    let one = bytes_one v w (fragments_then vs (closes_sequence ∷ a)) (fragments_then ws (closes_sequence ∷ b)) tails in
    let one0 = one.0 in
    let ih = fragments_one vs ws a b one.1 in
    let ih0 = ih.0 in
    (cc, ih.1)

fragments_open : (x y : List (List ℕ)) (last : Option (ℕ × List ℕ)) (a : List Atom) → fragments_then x (closes_sequence ∷ a) ≡ fragments_then y (open_fragment_atoms last) → ⊥
unfolding fragments_then
fragments_open [] [] None a e = cc
fragments_open [] [] (Some f) a e = cc
fragments_open [] (w ∷ ws) last a e = cc
fragments_open (v ∷ vs) [] None a e = cc
fragments_open (v ∷ vs) [] (Some f) a e =
    let tails : map value_byte v ++ closes_leaf ∷ fragments_then vs (closes_sequence ∷ a) ≡ map value_byte f.1 = cc in
    bytes_open v f.1 (fragments_then vs (closes_sequence ∷ a)) tails
fragments_open (v ∷ vs) (w ∷ ws) last a e =
    let tails : map value_byte v ++ closes_leaf ∷ fragments_then vs (closes_sequence ∷ a) ≡ map value_byte w ++ closes_leaf ∷ fragments_then ws (open_fragment_atoms last) = cc in
    let one = bytes_one v w (fragments_then vs (closes_sequence ∷ a)) (fragments_then ws (open_fragment_atoms last)) tails in
    fragments_open vs ws last a one.1

pair_one : (m n : ℕ) (v w : List ℕ) (a b : List Atom) → opens_fragment m ∷ a ≡ opens_fragment n ∷ b → (m ≡ n) × (a ≡ b)
pair_one m n v w a b e = (cc, cc)

open_fragments_one : (x y : List (List ℕ)) (last last' : Option (ℕ × List ℕ)) → fragments_then x (open_fragment_atoms last) ≡ fragments_then y (open_fragment_atoms last') → (x ≡ y) × (last ≡ last')
unfolding fragments_then
open_fragments_one [] [] None None e = (refl, refl)
open_fragments_one [] [] None (Some f) e = absurd cc
open_fragments_one [] [] (Some f) None e = absurd cc
open_fragments_one [] [] (Some (m, v)) (Some (n, w)) e =
    let both = pair_one m n v w (map value_byte v) (map value_byte w) e in
    let values = open_bytes_one v w both.1 in
    (refl, ap (λ (k : ℕ). Some (k, v)) both.0 ∙ ap (λ (u : List ℕ). Some (n, u)) values)
open_fragments_one [] (w ∷ ws) None last' e = absurd cc
open_fragments_one [] (w ∷ ws) (Some f) last' e =
    let tails : map value_byte f.1 ≡ map value_byte w ++ closes_leaf ∷ fragments_then ws (open_fragment_atoms last') = cc in
    absurd (bytes_open w f.1 (fragments_then ws (open_fragment_atoms last')) (sym tails))
open_fragments_one (v ∷ vs) [] last None e = absurd cc
open_fragments_one (v ∷ vs) [] last (Some f) e =
    let tails : map value_byte v ++ closes_leaf ∷ fragments_then vs (open_fragment_atoms last) ≡ map value_byte f.1 = cc in
    absurd (bytes_open v f.1 (fragments_then vs (open_fragment_atoms last)) tails)
open_fragments_one (v ∷ vs) (w ∷ ws) last last' e =
    let tails : map value_byte v ++ closes_leaf ∷ fragments_then vs (open_fragment_atoms last) ≡ map value_byte w ++ closes_leaf ∷ fragments_then ws (open_fragment_atoms last') = cc in
    let one = bytes_one v w (fragments_then vs (open_fragment_atoms last)) (fragments_then ws (open_fragment_atoms last')) tails in
    let one0 = one.0 in
    let ih = open_fragments_one vs ws last last' one.1 in
    let ih0 = ih.0 in
    (cc, ih.1)

-- ---- whole ones

leaf_one : (x : List Atom) (t u : Tag) (v w : Vr) (val wal : List ℕ) (s r : Syntax) (a b : List Atom)
    → x ≡ opens t v (Known (length val)) s ∷ (map value_byte (order s v val) ++ closes_leaf ∷ a) → x ≡ opens u w (Known (length wal)) r ∷ (map value_byte (order r w wal) ++ closes_leaf ∷ b)
    → (t ≡ u) × (v ≡ w) × (val ≡ wal) × (a ≡ b)
leaf_one x t u v w val wal s r a b p q =
    let same = opening_same x t u v w (Known (length val)) (Known (length wal)) s r (map value_byte (order s v val) ++ closes_leaf ∷ a) (map value_byte (order r w wal) ++ closes_leaf ∷ b) p q in
    let one = bytes_one (order s v val) (order r w wal) a b same.rest in
    (same.tags, same.vrs, order_same s v val wal (one.0 ∙ ap (λ (y : Syntax). order y w wal) (sym same.syntaxes) ∙ ap (λ (y : Vr). order s y wal) (sym same.vrs)), one.1)

mutual
  unfolding ShowTrees

  trees_one : (x y : Trees) (a p q : List Atom) → ShowTrees x a p → ShowTrees y a q → NotTree p → NotTree q → (x ≡ y) × (p ≡ q)
  trees_one no_tree no_tree a p q h k np nq = (refl, sym h ∙ k)
  trees_one no_tree (leaf tag vr value rest) a p q h (s, others, fo, is, more) np nq = absurd (np _ _ _ _ _ (sym h ∙ is))
  trees_one no_tree (sequence tag vr declared items rest) a p q h (s, contents, others, fo, is, inner, more) np nq = absurd (np _ _ _ _ _ (sym h ∙ is))
  trees_one no_tree (fragments tag vr values rest) a p q h (s, others, fo, is, more) np nq = absurd (np _ _ _ _ _ (sym h ∙ is))
  trees_one (leaf tag vr value rest) no_tree a p q (s, others, fo, is, more) k np nq = absurd (nq _ _ _ _ _ (sym k ∙ is))
  trees_one (sequence tag vr declared items rest) no_tree a p q (s, contents, others, fo, is, inner, more) k np nq = absurd (nq _ _ _ _ _ (sym k ∙ is))
  trees_one (fragments tag vr values rest) no_tree a p q (s, others, fo, is, more) k np nq = absurd (nq _ _ _ _ _ (sym k ∙ is))
  trees_one (leaf tag vr value rest) (leaf tag' vr' value' rest') a p q (s, others, fo, is, more) (s', others', fo', is', more') np nq =
      let h = leaf_one a tag tag' vr vr' value value' s s' others others' is is' in
      let h0 = h.0 in
      let h1 = h.1 in
      let h2 = h.2 in
      let ih = trees_one rest rest' others p q more (subst (λ (z : List Atom). ShowTrees rest' z q) (sym h.3) more') np nq in
      let ih0 = ih.0 in
      (cc, ih.1)
  trees_one (leaf tag vr value rest) (sequence tag' vr' declared' items' rest') a p q (s, others, fo, is, more) (s', contents', others', fo', is', inner', more') np nq =
      absurd (value_sequence (forms_one a _ _ _ _ _ _ _ _ _ _ _ _ is is' fo fo'))
  trees_one (leaf tag vr value rest) (fragments tag' vr' values' rest') a p q (s, others, fo, is, more) (s', others', fo', is', more') np nq =
      absurd (value_fragments (forms_one a _ _ _ _ _ _ _ _ _ _ _ _ is is' fo fo'))
  trees_one (sequence tag vr declared items rest) (leaf tag' vr' value' rest') a p q (s, contents, others, fo, is, inner, more) (s', others', fo', is', more') np nq =
      absurd (value_sequence (forms_one a _ _ _ _ _ _ _ _ _ _ _ _ is' is fo' fo))
  trees_one (sequence tag vr declared items rest) (sequence tag' vr' declared' items' rest') a p q (s, contents, others, fo, is, inner, more) (s', contents', others', fo', is', inner', more') np nq =
      let h = opening_same a tag tag' vr vr' declared declared' s s' contents contents' is is' in
      let h0 = h.tags in
      let h1 = h.vrs in
      let h2 = h.lengths in
      let one = items_one items items' contents (closes_sequence ∷ others) (closes_sequence ∷ others') inner (subst (λ (z : List Atom). ShowItems items' z (closes_sequence ∷ others')) (sym h.rest) inner') (closes_sequence_ends others) (closes_sequence_ends others') in
      let h3 = one.0 in
      let tails : others ≡ others' = let e = one.1 in cc in
      let ih = trees_one rest rest' others p q more (subst (λ (z : List Atom). ShowTrees rest' z q) (sym tails) more') np nq in
      let ih0 = ih.0 in
      (cc, ih.1)
  trees_one (sequence tag vr declared items rest) (fragments tag' vr' values' rest') a p q (s, contents, others, fo, is, inner, more) (s', others', fo', is', more') np nq =
      absurd (sequence_fragments (forms_one a _ _ _ _ _ _ _ _ _ _ _ _ is is' fo fo'))
  trees_one (fragments tag vr values rest) (leaf tag' vr' value' rest') a p q (s, others, fo, is, more) (s', others', fo', is', more') np nq =
      absurd (value_fragments (forms_one a _ _ _ _ _ _ _ _ _ _ _ _ is' is fo' fo))
  trees_one (fragments tag vr values rest) (sequence tag' vr' declared' items' rest') a p q (s, others, fo, is, more) (s', contents', others', fo', is', inner', more') np nq =
      absurd (sequence_fragments (forms_one a _ _ _ _ _ _ _ _ _ _ _ _ is' is fo' fo))
  trees_one (fragments tag vr values rest) (fragments tag' vr' values' rest') a p q (s, others, fo, is, more) (s', others', fo', is', more') np nq =
      let h = opening_same a tag tag' vr vr' Undefined Undefined s s' (fragments_then values (closes_sequence ∷ others)) (fragments_then values' (closes_sequence ∷ others')) is is' in
      let h0 = h.tags in
      let h1 = h.vrs in
      let one = fragments_one values values' others others' h.rest in
      let h3 = one.0 in
      let ih = trees_one rest rest' others p q more (subst (λ (z : List Atom). ShowTrees rest' z q) (sym one.1) more') np nq in
      let ih0 = ih.0 in
      (cc, ih.1)

  items_one : (x y : Items) (a p q : List Atom) → ShowItems x a p → ShowItems y a q → NotItem p → NotItem q → (x ≡ y) × (p ≡ q)
  items_one no_item no_item a p q h k np nq = (refl, sym h ∙ k)
  items_one no_item (item declared set rest) a p q h (contents, others, is, inner, more) np nq = absurd (np _ _ (sym h ∙ is))
  items_one (item declared set rest) no_item a p q (contents, others, is, inner, more) k np nq = absurd (nq _ _ (sym k ∙ is))
  items_one (item declared set rest) (item declared' set' rest') a p q (contents, others, is, inner, more) (contents', others', is', inner', more') np nq =
      let h0 : declared ≡ declared' = cc in
      let h1 : contents ≡ contents' = cc in
      let one = trees_one set set' contents (closes_item ∷ others) (closes_item ∷ others') inner (subst (λ (z : List Atom). ShowTrees set' z (closes_item ∷ others')) (sym h1) inner') (closes_item_ends others) (closes_item_ends others') in
      let h3 = one.0 in
      let tails : others ≡ others' = let e = one.1 in cc in
      let ih = items_one rest rest' others p q more (subst (λ (z : List Atom). ShowItems rest' z q) (sym tails) more') np nq in
      let ih0 = ih.0 in
      (cc, ih.1)

-- ---- whole ones are no open ones

open_at_close : (o : OpenTree) (k : Bool) (p : List Atom) → ShowsOpen o (end_atoms k) (closes_item ∷ p) → ⊥
unfolding ShowsOpen
open_at_close nothing_open true p h = cc
open_at_close nothing_open false p h = cc
open_at_close (open_leaf tag vr size value) k p (s, fo, le, is) = cc
open_at_close (open_sequence tag vr declared items last) k p (s, contents, others, fo, is, inner, more) = cc
open_at_close (open_fragments tag vr values last) k p (s, fo, mi, is) = cc

open_item_at_close : (o : OpenItem) (p : List Atom) → ShowsOpenItem o (closes_sequence ∷ p) → ⊥
unfolding ShowsOpenItem
open_item_at_close no_open_item p h = cc
open_item_at_close (open_item declared set) p (contents, is, open_still, more) = cc

leaf_closed : (x b : List Atom) (t : Tag) (v : Vr) (val : List ℕ) (s : Syntax) (o : OpenTree) (k : Bool)
    → form s (read_as s t v) (Known (length val)) ≡ a_value → x ≡ opens t v (Known (length val)) s ∷ (map value_byte (order s v val) ++ closes_leaf ∷ b) → ShowsOpen o (end_atoms k) x → ⊥
unfolding ShowsOpen
leaf_closed x b t v val s nothing_open k fo is h = end_ends k _ _ _ _ _ (sym h ∙ is)
leaf_closed x b t v val s (open_leaf tag' vr' size' value') k fo is (s', fo', le', is') =
    let same = opening_same x t tag' v vr' (Known (length val)) (Known size') s s' (map value_byte (order s v val) ++ closes_leaf ∷ b) (map value_byte (order s' vr' value')) is is' in
    bytes_open (order s v val) (order s' vr' value') b same.rest
leaf_closed x b t v val s (open_sequence tag' vr' declared' items' last') k fo is (s', contents', others', fo', is', inner', more') = value_sequence (forms_one x _ _ _ _ _ _ _ _ _ _ _ _ is is' fo fo')
leaf_closed x b t v val s (open_fragments tag' vr' values' last') k fo is (s', fo', mi', is') = value_fragments (forms_one x _ _ _ _ _ _ _ _ _ _ _ _ is is' fo fo')

sequence_closed : (x contents b : List Atom) (t : Tag) (v : Vr) (l : Length) (items : Items) (s : Syntax) (o : OpenTree) (k : Bool)
    → form s (read_as s t v) l ≡ a_sequence → x ≡ opens t v l s ∷ contents → ShowItems items contents (closes_sequence ∷ b)
    → ((y : Items) (last : OpenItem) (a p c : List Atom) → ShowItems items a (closes_sequence ∷ p) → ShowItems y a c → ShowsOpenItem last c → ⊥)
    → ShowsOpen o (end_atoms k) x → ⊥
unfolding ShowsOpen
sequence_closed x contents b t v l items s nothing_open k fo is inner apart h = end_ends k _ _ _ _ _ (sym h ∙ is)
sequence_closed x contents b t v l items s (open_leaf tag' vr' size' value') k fo is inner apart (s', fo', le', is') = value_sequence (forms_one x _ _ _ _ _ _ _ _ _ _ _ _ is' is fo' fo)
sequence_closed x contents b t v l items s (open_sequence tag' vr' declared' items' last') k fo is inner apart (s', contents', others', fo', is', inner', more') =
    let same = opening_same x t tag' v vr' l declared' s s' contents contents' is is' in
    apart items' last' contents b others' inner (subst (λ (z : List Atom). ShowItems items' z others') (sym same.rest) inner') more'
sequence_closed x contents b t v l items s (open_fragments tag' vr' values' last') k fo is inner apart (s', fo', mi', is') = sequence_fragments (forms_one x _ _ _ _ _ _ _ _ _ _ _ _ is is' fo fo')

fragments_closed : (x b : List Atom) (t : Tag) (v : Vr) (values : List (List ℕ)) (s : Syntax) (o : OpenTree) (k : Bool)
    → form s (read_as s t v) Undefined ≡ a_fragment_list → x ≡ opens t v Undefined s ∷ fragments_then values (closes_sequence ∷ b) → ShowsOpen o (end_atoms k) x → ⊥
unfolding ShowsOpen
fragments_closed x b t v values s nothing_open k fo is h = end_ends k _ _ _ _ _ (sym h ∙ is)
fragments_closed x b t v values s (open_leaf tag' vr' size' value') k fo is (s', fo', le', is') = value_fragments (forms_one x _ _ _ _ _ _ _ _ _ _ _ _ is' is fo' fo)
fragments_closed x b t v values s (open_sequence tag' vr' declared' items' last') k fo is (s', contents', others', fo', is', inner', more') = sequence_fragments (forms_one x _ _ _ _ _ _ _ _ _ _ _ _ is' is fo' fo)
fragments_closed x b t v values s (open_fragments tag' vr' values' last') k fo is (s', fo', mi', is') =
    let same = opening_same x t tag' v vr' Undefined Undefined s s' (fragments_then values (closes_sequence ∷ b)) (fragments_then values' (open_fragment_atoms last')) is is' in
    fragments_open values values' last' b same.rest

item_closed : (x contents b : List Atom) (l : Length) (set : Trees) (last : OpenItem) → x ≡ opens_item l ∷ contents → ShowTrees set contents (closes_item ∷ b)
    → ((y : Trees) (o : OpenTree) (k : Bool) (a p c : List Atom) → ShowTrees set a (closes_item ∷ p) → ShowTrees y a c → ShowsOpen o (end_atoms k) c → ⊥)
    → ShowsOpenItem last x → ⊥
unfolding Shows
item_closed x contents b l set no_open_item is inner apart h = cc
item_closed x contents b l set (open_item l' (front whole' o' reached' closed')) is inner apart (contents', is', still, (others', at', op', may', re')) =
    let same : contents ≡ contents' = cc in
    apart whole' o' closed' contents b others' inner (subst (λ (z : List Atom). ShowTrees whole' z others') (sym same) at') op'

mutual
  unfolding ShowTrees

  trees_closed : (x y : Trees) (o : OpenTree) (k : Bool) (a p c : List Atom) → ShowTrees x a (closes_item ∷ p) → ShowTrees y a c → ShowsOpen o (end_atoms k) c → ⊥
  trees_closed no_tree no_tree o k a p c h g l = open_at_close o k p (subst (ShowsOpen o (end_atoms k)) (sym g ∙ h) l)
  trees_closed no_tree (leaf tag vr value rest) o k a p c h (s, others, fo, is, more) l = closes_item_ends p _ _ _ _ _ (sym h ∙ is)
  trees_closed no_tree (sequence tag vr declared items rest) o k a p c h (s, contents, others, fo, is, inner, more) l = closes_item_ends p _ _ _ _ _ (sym h ∙ is)
  trees_closed no_tree (fragments tag vr values rest) o k a p c h (s, others, fo, is, more) l = closes_item_ends p _ _ _ _ _ (sym h ∙ is)
  trees_closed (leaf tag vr value rest) no_tree o k a p c (s, others, fo, is, more) g l = leaf_closed a others tag vr value s o k fo is (subst (ShowsOpen o (end_atoms k)) (sym g) l)
  trees_closed (sequence tag vr declared items rest) no_tree o k a p c (s, contents, others, fo, is, inner, more) g l =
      sequence_closed a contents others tag vr declared items s o k fo is inner (λ y last a p c. items_closed items y last a p c) (subst (ShowsOpen o (end_atoms k)) (sym g) l)
  trees_closed (fragments tag vr values rest) no_tree o k a p c (s, others, fo, is, more) g l = fragments_closed a others tag vr values s o k fo is (subst (ShowsOpen o (end_atoms k)) (sym g) l)
  trees_closed (leaf tag vr value rest) (leaf tag' vr' value' rest') o k a p c (s, others, fo, is, more) (s', others', fo', is', more') l =
      let h = leaf_one a tag tag' vr vr' value value' s s' others others' is is' in
      trees_closed rest rest' o k others p c more (subst (λ (z : List Atom). ShowTrees rest' z c) (sym h.3) more') l
  trees_closed (leaf tag vr value rest) (sequence tag' vr' declared' items' rest') o k a p c (s, others, fo, is, more) (s', contents', others', fo', is', inner', more') l =
      value_sequence (forms_one a _ _ _ _ _ _ _ _ _ _ _ _ is is' fo fo')
  trees_closed (leaf tag vr value rest) (fragments tag' vr' values' rest') o k a p c (s, others, fo, is, more) (s', others', fo', is', more') l =
      value_fragments (forms_one a _ _ _ _ _ _ _ _ _ _ _ _ is is' fo fo')
  trees_closed (sequence tag vr declared items rest) (leaf tag' vr' value' rest') o k a p c (s, contents, others, fo, is, inner, more) (s', others', fo', is', more') l =
      value_sequence (forms_one a _ _ _ _ _ _ _ _ _ _ _ _ is' is fo' fo)
  trees_closed (sequence tag vr declared items rest) (sequence tag' vr' declared' items' rest') o k a p c (s, contents, others, fo, is, inner, more) (s', contents', others', fo', is', inner', more') l =
      let h = opening_same a tag tag' vr vr' declared declared' s s' contents contents' is is' in
      let one = items_one items items' contents (closes_sequence ∷ others) (closes_sequence ∷ others') inner (subst (λ (z : List Atom). ShowItems items' z (closes_sequence ∷ others')) (sym h.rest) inner') (closes_sequence_ends others) (closes_sequence_ends others') in
      let tails : others ≡ others' = let e = one.1 in cc in
      trees_closed rest rest' o k others p c more (subst (λ (z : List Atom). ShowTrees rest' z c) (sym tails) more') l
  trees_closed (sequence tag vr declared items rest) (fragments tag' vr' values' rest') o k a p c (s, contents, others, fo, is, inner, more) (s', others', fo', is', more') l =
      sequence_fragments (forms_one a _ _ _ _ _ _ _ _ _ _ _ _ is is' fo fo')
  trees_closed (fragments tag vr values rest) (leaf tag' vr' value' rest') o k a p c (s, others, fo, is, more) (s', others', fo', is', more') l =
      value_fragments (forms_one a _ _ _ _ _ _ _ _ _ _ _ _ is' is fo' fo)
  trees_closed (fragments tag vr values rest) (sequence tag' vr' declared' items' rest') o k a p c (s, others, fo, is, more) (s', contents', others', fo', is', inner', more') l =
      sequence_fragments (forms_one a _ _ _ _ _ _ _ _ _ _ _ _ is' is fo' fo)
  trees_closed (fragments tag vr values rest) (fragments tag' vr' values' rest') o k a p c (s, others, fo, is, more) (s', others', fo', is', more') l =
      let h = opening_same a tag tag' vr vr' Undefined Undefined s s' (fragments_then values (closes_sequence ∷ others)) (fragments_then values' (closes_sequence ∷ others')) is is' in
      let one = fragments_one values values' others others' h.rest in
      trees_closed rest rest' o k others p c more (subst (λ (z : List Atom). ShowTrees rest' z c) (sym one.1) more') l

  items_closed : (x y : Items) (o : OpenItem) (a p c : List Atom) → ShowItems x a (closes_sequence ∷ p) → ShowItems y a c → ShowsOpenItem o c → ⊥
  items_closed no_item no_item o a p c h g l = open_item_at_close o p (subst (ShowsOpenItem o) (sym g ∙ h) l)
  items_closed no_item (item declared set rest) o a p c h (contents, others, is, inner, more) l = closes_sequence_ends p _ _ (sym h ∙ is)
  items_closed (item declared set rest) no_item o a p c (contents, others, is, inner, more) g l =
      item_closed a contents others declared set o is inner (λ y o k a p c. trees_closed set y o k a p c) (subst (ShowsOpenItem o) (sym g) l)
  items_closed (item declared set rest) (item declared' set' rest') o a p c (contents, others, is, inner, more) (contents', others', is', inner', more') l =
      let h1 : contents ≡ contents' = cc in
      let one = trees_one set set' contents (closes_item ∷ others) (closes_item ∷ others') inner (subst (λ (z : List Atom). ShowTrees set' z (closes_item ∷ others')) (sym h1) inner') (closes_item_ends others) (closes_item_ends others') in
      let tails : others ≡ others' = let e = one.1 in cc in
      items_closed rest rest' o others p c more (subst (λ (z : List Atom). ShowItems rest' z c) (sym tails) more') l

-- ---- the whole part

whole_one : (x y : Trees) (o o' : OpenTree) (k k' : Bool) (a c d : List Atom) → ShowTrees x a c → ShowsOpen o (end_atoms k) c → ShowTrees y a d → ShowsOpen o' (end_atoms k') d → (x ≡ y) × (c ≡ d)
unfolding ShowTrees
whole_one no_tree no_tree o o' k k' a c d h l g m = (refl, sym h ∙ g)
whole_one no_tree (leaf tag vr value rest) o o' k k' a c d h l (s, others, fo, is, more) m = absurd (leaf_closed a others tag vr value s o k fo is (subst (ShowsOpen o (end_atoms k)) (sym h) l))
whole_one no_tree (sequence tag vr declared items rest) o o' k k' a c d h l (s, contents, others, fo, is, inner, more) m =
    absurd (sequence_closed a contents others tag vr declared items s o k fo is inner (λ y last a p c. items_closed items y last a p c) (subst (ShowsOpen o (end_atoms k)) (sym h) l))
whole_one no_tree (fragments tag vr values rest) o o' k k' a c d h l (s, others, fo, is, more) m = absurd (fragments_closed a others tag vr values s o k fo is (subst (ShowsOpen o (end_atoms k)) (sym h) l))
whole_one (leaf tag vr value rest) no_tree o o' k k' a c d (s, others, fo, is, more) l g m = absurd (leaf_closed a others tag vr value s o' k' fo is (subst (ShowsOpen o' (end_atoms k')) (sym g) m))
whole_one (sequence tag vr declared items rest) no_tree o o' k k' a c d (s, contents, others, fo, is, inner, more) l g m =
    absurd (sequence_closed a contents others tag vr declared items s o' k' fo is inner (λ y last a p c. items_closed items y last a p c) (subst (ShowsOpen o' (end_atoms k')) (sym g) m))
whole_one (fragments tag vr values rest) no_tree o o' k k' a c d (s, others, fo, is, more) l g m = absurd (fragments_closed a others tag vr values s o' k' fo is (subst (ShowsOpen o' (end_atoms k')) (sym g) m))
whole_one (leaf tag vr value rest) (leaf tag' vr' value' rest') o o' k k' a c d (s, others, fo, is, more) l (s', others', fo', is', more') m =
    let h = leaf_one a tag tag' vr vr' value value' s s' others others' is is' in
    let h0 = h.0 in
    let h1 = h.1 in
    let h2 = h.2 in
    let ih = whole_one rest rest' o o' k k' others c d more l (subst (λ (z : List Atom). ShowTrees rest' z d) (sym h.3) more') m in
    let ih0 = ih.0 in
    (cc, ih.1)
whole_one (leaf tag vr value rest) (sequence tag' vr' declared' items' rest') o o' k k' a c d (s, others, fo, is, more) l (s', contents', others', fo', is', inner', more') m =
    absurd (value_sequence (forms_one a _ _ _ _ _ _ _ _ _ _ _ _ is is' fo fo'))
whole_one (leaf tag vr value rest) (fragments tag' vr' values' rest') o o' k k' a c d (s, others, fo, is, more) l (s', others', fo', is', more') m =
    absurd (value_fragments (forms_one a _ _ _ _ _ _ _ _ _ _ _ _ is is' fo fo'))
whole_one (sequence tag vr declared items rest) (leaf tag' vr' value' rest') o o' k k' a c d (s, contents, others, fo, is, inner, more) l (s', others', fo', is', more') m =
    absurd (value_sequence (forms_one a _ _ _ _ _ _ _ _ _ _ _ _ is' is fo' fo))
whole_one (sequence tag vr declared items rest) (sequence tag' vr' declared' items' rest') o o' k k' a c d (s, contents, others, fo, is, inner, more) l (s', contents', others', fo', is', inner', more') m =
    let h = opening_same a tag tag' vr vr' declared declared' s s' contents contents' is is' in
    let h0 = h.tags in
    let h1 = h.vrs in
    let h2 = h.lengths in
    let one = items_one items items' contents (closes_sequence ∷ others) (closes_sequence ∷ others') inner (subst (λ (z : List Atom). ShowItems items' z (closes_sequence ∷ others')) (sym h.rest) inner') (closes_sequence_ends others) (closes_sequence_ends others') in
    let h3 = one.0 in
    let tails : others ≡ others' = let e = one.1 in cc in
    let ih = whole_one rest rest' o o' k k' others c d more l (subst (λ (z : List Atom). ShowTrees rest' z d) (sym tails) more') m in
    let ih0 = ih.0 in
    (cc, ih.1)
whole_one (sequence tag vr declared items rest) (fragments tag' vr' values' rest') o o' k k' a c d (s, contents, others, fo, is, inner, more) l (s', others', fo', is', more') m =
    absurd (sequence_fragments (forms_one a _ _ _ _ _ _ _ _ _ _ _ _ is is' fo fo'))
whole_one (fragments tag vr values rest) (leaf tag' vr' value' rest') o o' k k' a c d (s, others, fo, is, more) l (s', others', fo', is', more') m =
    absurd (value_fragments (forms_one a _ _ _ _ _ _ _ _ _ _ _ _ is' is fo' fo))
whole_one (fragments tag vr values rest) (sequence tag' vr' declared' items' rest') o o' k k' a c d (s, others, fo, is, more) l (s', contents', others', fo', is', inner', more') m =
    absurd (sequence_fragments (forms_one a _ _ _ _ _ _ _ _ _ _ _ _ is' is fo' fo))
whole_one (fragments tag vr values rest) (fragments tag' vr' values' rest') o o' k k' a c d (s, others, fo, is, more) l (s', others', fo', is', more') m =
    let h = opening_same a tag tag' vr vr' Undefined Undefined s s' (fragments_then values (closes_sequence ∷ others)) (fragments_then values' (closes_sequence ∷ others')) is is' in
    let h0 = h.tags in
    let h1 = h.vrs in
    let one = fragments_one values values' others others' h.rest in
    let h3 = one.0 in
    let ih = whole_one rest rest' o o' k k' others c d more l (subst (λ (z : List Atom). ShowTrees rest' z d) (sym one.1) more') m in
    let ih0 = ih.0 in
    (cc, ih.1)

whole_items_one : (x y : Items) (o o' : OpenItem) (a c d : List Atom) → ShowItems x a c → ShowsOpenItem o c → ShowItems y a d → ShowsOpenItem o' d → (x ≡ y) × (c ≡ d)
unfolding ShowItems
whole_items_one no_item no_item o o' a c d h l g m = (refl, sym h ∙ g)
whole_items_one no_item (item declared set rest) o o' a c d h l (contents, others, is, inner, more) m =
    absurd (item_closed a contents others declared set o is inner (λ y o k a p c. trees_closed set y o k a p c) (subst (ShowsOpenItem o) (sym h) l))
whole_items_one (item declared set rest) no_item o o' a c d (contents, others, is, inner, more) l g m =
    absurd (item_closed a contents others declared set o' is inner (λ y o k a p c. trees_closed set y o k a p c) (subst (ShowsOpenItem o') (sym g) m))
whole_items_one (item declared set rest) (item declared' set' rest') o o' a c d (contents, others, is, inner, more) l (contents', others', is', inner', more') m =
    let h0 : declared ≡ declared' = cc in
    let h1 : contents ≡ contents' = cc in
    let one = trees_one set set' contents (closes_item ∷ others) (closes_item ∷ others') inner (subst (λ (z : List Atom). ShowTrees set' z (closes_item ∷ others')) (sym h1) inner') (closes_item_ends others) (closes_item_ends others') in
    let h3 = one.0 in
    let tails : others ≡ others' = let e = one.1 in cc in
    let ih = whole_items_one rest rest' o o' others c d more l (subst (λ (z : List Atom). ShowItems rest' z d) (sym tails) more') m in
    let ih0 = ih.0 in
    (cc, ih.1)

-- ---- fronts

end_one : (o o' : OpenTree) (k k' : Bool) (c : List Atom) → MayEnd o k → MayEnd o' k' → ShowsOpen o (end_atoms k) c → ShowsOpen o' (end_atoms k') c → o ≡ o' → k ≡ k'
unfolding ShowsOpen
end_one o o' true true c p q l m e = refl
end_one o o' false false c p q l m e = refl
end_one o o' true false c p q l m e =
    let l' : c ≡ ends ∷ [] = subst (λ (z : OpenTree). ShowsOpen z (ends ∷ []) c) p l in
    let m' : c ≡ [] = subst (λ (z : OpenTree). ShowsOpen z [] c) (sym e ∙ p) m in
    absurd cc
end_one o o' false true c p q l m e =
    let l' : c ≡ [] = subst (λ (z : OpenTree). ShowsOpen z [] c) (e ∙ q) l in
    let m' : c ≡ ends ∷ [] = subst (λ (z : OpenTree). ShowsOpen z (ends ∷ []) c) q m in
    absurd cc

mutual
  unfolding Shows

  pub front_one : (f g : Front) (a : List Atom) → Shows f a → Shows g a → f ≡ g
  front_one (front whole o reached closed) (front whole' o' reached' closed') a (others, at, op, may, re) (others', at', op', may', re') =
      let w = whole_one whole whole' o o' closed closed' a others others' at op at' op' in
      let w0 = w.0 in
      let op1 = subst (ShowsOpen o' (end_atoms closed')) (sym w.1) op' in
      let oo = open_one o o' closed closed' others op op1 in
      let kk = end_one o o' closed closed' others may may' op op1 oo in
      let rr : reached ≡ reached' = re ∙ ap (λ (z : Trees). reached_tag z o) w.0 ∙ ap (λ (z : OpenTree). reached_tag whole' z) oo ∙ sym re' in
      cc

  pub open_one : (o o' : OpenTree) (k k' : Bool) (a : List Atom) → ShowsOpen o (end_atoms k) a → ShowsOpen o' (end_atoms k') a → o ≡ o'
  open_one nothing_open nothing_open k k' a l m = refl
  open_one nothing_open (open_leaf tag vr size value) k k' a l (s, fo, le, is) = absurd (end_ends k _ _ _ _ _ (sym l ∙ is))
  open_one nothing_open (open_sequence tag vr declared items last) k k' a l (s, contents, others, fo, is, inner, more) = absurd (end_ends k _ _ _ _ _ (sym l ∙ is))
  open_one nothing_open (open_fragments tag vr values last) k k' a l (s, fo, mi, is) = absurd (end_ends k _ _ _ _ _ (sym l ∙ is))
  open_one (open_leaf tag vr size value) nothing_open k k' a (s, fo, le, is) m = absurd (end_ends k' _ _ _ _ _ (sym m ∙ is))
  open_one (open_leaf tag vr size value) (open_leaf tag' vr' size' value') k k' a (s, fo, le, is) (s', fo', le', is') =
      let h = opening_same a tag tag' vr vr' (Known size) (Known size') s s' (map value_byte (order s vr value)) (map value_byte (order s' vr' value')) is is' in
      let h0 = h.tags in
      let h1 = h.vrs in
      let h2 = known_same _ _ h.lengths in
      let raw = open_bytes_one (order s vr value) (order s' vr' value') h.rest in
      let h3 = order_same s vr value value' (raw ∙ ap (λ (y : Syntax). order y vr' value') (sym h.syntaxes) ∙ ap (λ (y : Vr). order s y value') (sym h.vrs)) in
      cc
  open_one (open_leaf tag vr size value) (open_sequence tag' vr' declared' items' last') k k' a (s, fo, le, is) (s', contents', others', fo', is', inner', more') =
      absurd (value_sequence (forms_one a _ _ _ _ _ _ _ _ _ _ _ _ is is' fo fo'))
  open_one (open_leaf tag vr size value) (open_fragments tag' vr' values' last') k k' a (s, fo, le, is) (s', fo', mi', is') =
      absurd (value_fragments (forms_one a _ _ _ _ _ _ _ _ _ _ _ _ is is' fo fo'))
  open_one (open_sequence tag vr declared items last) nothing_open k k' a (s, contents, others, fo, is, inner, more) m = absurd (end_ends k' _ _ _ _ _ (sym m ∙ is))
  open_one (open_sequence tag vr declared items last) (open_leaf tag' vr' size' value') k k' a (s, contents, others, fo, is, inner, more) (s', fo', le', is') =
      absurd (value_sequence (forms_one a _ _ _ _ _ _ _ _ _ _ _ _ is' is fo' fo))
  open_one (open_sequence tag vr declared items last) (open_sequence tag' vr' declared' items' last') k k' a (s, contents, others, fo, is, inner, more) (s', contents', others', fo', is', inner', more') =
      let h = opening_same a tag tag' vr vr' declared declared' s s' contents contents' is is' in
      let h0 = h.tags in
      let h1 = h.vrs in
      let h2 = h.lengths in
      let w = whole_items_one items items' last last' contents others others' inner more (subst (λ (z : List Atom). ShowItems items' z others') (sym h.rest) inner') more' in
      let w0 = w.0 in
      let oo = open_item_one last last' others more (subst (ShowsOpenItem last') (sym w.1) more') in
      cc
  open_one (open_sequence tag vr declared items last) (open_fragments tag' vr' values' last') k k' a (s, contents, others, fo, is, inner, more) (s', fo', mi', is') =
      absurd (sequence_fragments (forms_one a _ _ _ _ _ _ _ _ _ _ _ _ is is' fo fo'))
  open_one (open_fragments tag vr values last) nothing_open k k' a (s, fo, mi, is) m = absurd (end_ends k' _ _ _ _ _ (sym m ∙ is))
  open_one (open_fragments tag vr values last) (open_leaf tag' vr' size' value') k k' a (s, fo, mi, is) (s', fo', le', is') =
      absurd (value_fragments (forms_one a _ _ _ _ _ _ _ _ _ _ _ _ is' is fo' fo))
  open_one (open_fragments tag vr values last) (open_sequence tag' vr' declared' items' last') k k' a (s, fo, mi, is) (s', contents', others', fo', is', inner', more') =
      absurd (sequence_fragments (forms_one a _ _ _ _ _ _ _ _ _ _ _ _ is' is fo' fo))
  open_one (open_fragments tag vr values last) (open_fragments tag' vr' values' last') k k' a (s, fo, mi, is) (s', fo', mi', is') =
      let h = opening_same a tag tag' vr vr' Undefined Undefined s s' (fragments_then values (open_fragment_atoms last)) (fragments_then values' (open_fragment_atoms last')) is is' in
      let h0 = h.tags in
      let h1 = h.vrs in
      let both = open_fragments_one values values' last last' h.rest in
      let b0 = both.0 in
      let b1 = both.1 in
      cc

  pub open_item_one : (o o' : OpenItem) (a : List Atom) → ShowsOpenItem o a → ShowsOpenItem o' a → o ≡ o'
  open_item_one no_open_item no_open_item a l m = refl
  open_item_one no_open_item (open_item declared set) a l (contents, is, still, more) = absurd cc
  open_item_one (open_item declared set) no_open_item a (contents, is, still, more) m = absurd cc
  open_item_one (open_item declared set) (open_item declared' set') a (contents, is, still, more) (contents', is', still', more') =
      let h0 : declared ≡ declared' = cc in
      let h1 : contents ≡ contents' = cc in
      let ff = front_one set set' contents more (subst (Shows set') (sym h1) more') in
      cc
