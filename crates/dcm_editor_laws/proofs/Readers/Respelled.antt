-- What implicit bytes spell to another dictionary, where a value that is a sequence to it is empty.
use Rattle.std.proofs.Common.{◌≡◌, ap, sym, refl, subst, ℕ, List, [], ◌++◌, length, Bool, true, false, Option, Some, ◌∙◌}
use Rattle.dcm_base.specs.declared.form.Form.TheVariants.{Value as a_value, Sequence as a_sequence, FragmentList as a_fragment_list}
use Rattle.dcm_base.specs.declared.length.Length.{Length}
use Rattle.dcm_base.specs.declared.length.Length.TheVariants.{Known, Undefined}
use Rattle.dcm_base.specs.declared.dictionary.Dictionary.{Dictionary}
use Rattle.dcm_base.specs.declared.syntax.Syntax.{Syntax}
use Rattle.dcm_base.specs.declared.syntax.Syntax.TheVariants.{Implicit as implicit_in}
use Rattle.dcm_base.specs.declared.tag.Tag.{Tag}
use Rattle.dcm_base.specs.declared.vr.Vr.{Vr}
use Rattle.dcm_base.specs.declared.vr.Vr.TheVariants.{SQ, UN}
use Rattle.dcm_base.specs.Tables.Dictionary.{vr_in}
use Rattle.dcm_base.specs.Bytes.Head.{Delimiter, ElementHead, ItemHead, length_at, vr_at}
use Rattle.dcm_base.specs.Tables.Representation.{is_sequence}
use Rattle.dcm_base.specs.Bytes.Spelling.{Enclosed, ItemsAt, TreesAt, form, inside, dictionary_after}
use Rattle.dcm_base.specs.Tables.Tag.{item_end_tag, sequence_end_tag}
use Rattle.dcm_base.specs.Tree.Tree.{Trees, no_tree, leaf, sequence, fragments, Items, no_item, item}
use Rattle.dcm_editor_laws.specs.Everywhere.{Content, Everywhere, InEachItem, a_value as holds_value, a_list}
use Rattle.dcm_editor_laws.specs.Readers.{HoldsNothing, NoItemHidden, NothingHidden, IsSequence}
use Rattle.dcm_base.proofs.DataSets.Alike.{Alike, unsigned, unsigned_sequence, sequence_alike, alike_self, alike_behind}

-- a value of a tag that is a sequence is an empty one
abbrev seen_value : Bool → Tag → Vr → List ℕ → Trees → Trees
seen_value true t vr v rest = sequence t vr (Known 0) no_item rest
seen_value false t vr v rest = leaf t vr v rest

-- after an empty sequence the dictionary is as it was
abbrev seen_after : Bool → Dictionary → Tag → List ℕ → Dictionary
seen_after true e t v = e
seen_after false e t v = dictionary_after e t (vr_in e t) v

abbrev mutual
  pub seen : Dictionary → Trees → Trees
  seen e no_tree = no_tree
  seen e (leaf t vr v rest) = seen_value (is_sequence (vr_in e t)) t (vr_in e t) v (seen (seen_after (is_sequence (vr_in e t)) e t v) rest)
  seen e (sequence t vr declared items rest) = sequence t (vr_in e t) declared (seen_items e items) (seen e rest)
  seen e (fragments t vr values rest) = fragments t vr values (seen e rest)

  seen_items : Dictionary → Items → Items
  seen_items e no_item = no_item
  seen_items e (item declared set rest) = item declared (seen e set) (seen_items e rest)

-- ---- what holds of each element by its tag holds there

module _ (P : Tag → Content → Type 0) (alike : (t : Tag) (c x : Content) → P t c → P t x) where
  value_has : (b : Bool) (t : Tag) (vr w : Vr) (v : List ℕ) (rest : Trees) → P t (holds_value vr v) → Everywhere P rest → Everywhere P (seen_value b t w v rest)
  value_has true t vr w v rest h more = (alike t (holds_value vr v) a_list h, tt, more)
  value_has false t vr w v rest h more = (alike t (holds_value vr v) (holds_value w v) h, more)

  mutual
    pub seen_has : (e : Dictionary) (x : Trees) → Everywhere P x → Everywhere P (seen e x)
    seen_has e no_tree h = tt
    seen_has e (leaf t vr v rest) h =
        let b : Bool = is_sequence (vr_in e t) in
        value_has b t vr (vr_in e t) v (seen (seen_after b e t v) rest) h.0 (seen_has (seen_after b e t v) rest h.1)
    seen_has e (sequence t vr declared items rest) h = (h.0, seen_items_have e items h.1, seen_has e rest h.2)
    seen_has e (fragments t vr values rest) h = (h.0, seen_has e rest h.1)

    seen_items_have : (e : Dictionary) (x : Items) → InEachItem P x → InEachItem P (seen_items e x)
    seen_items_have e no_item h = tt
    seen_items_have e (item declared set rest) h = (seen_has e set h.0, seen_items_have e rest h.1)

known_sequence : (s : Syntax) (vr : Vr) (n : ℕ) → form s vr (Known n) ≡ a_sequence → vr ≡ SQ
unfolding form
known_sequence s SQ n h = refl
known_sequence s vr n h = absurd (cc)

sequence_known : (s : Syntax) (n : ℕ) → form s SQ (Known n) ≡ a_sequence
unfolding form
sequence_known s n = refl

known_alike : (d e : Dictionary) (v w : Vr) (n : ℕ) → unsigned v ≡ unsigned w → form (implicit_in e) v (Known n) ≡ a_sequence → form (implicit_in d) w (Known n) ≡ a_sequence
known_alike d e v w n same h =
    let is : w ≡ SQ = unsigned_sequence w (sym same ∙ ap unsigned (known_sequence (implicit_in e) v n h)) in
    subst (λ (x : Vr). form (implicit_in d) x (Known n) ≡ a_sequence) (sym is) (sequence_known (implicit_in d) n)

-- ---- what hides nothing from a dictionary hides nothing from it after a leaf

hold_by : (d e : Dictionary) (t : Tag) (vr : Vr) (v : List ℕ) → Alike d e → HoldsNothing (implicit_in e) t vr v → HoldsNothing (implicit_in d) t vr v
hold_by d e t vr v same h = λ is. h (unsigned_sequence (vr_in e t) (sym (same t).0 ∙ ap unsigned is))

is_by : (d e : Dictionary) (t : Tag) (l : Length) → Alike d e → IsSequence (implicit_in e) t l → IsSequence (implicit_in d) t l
is_by d e t (Known n) same h = known_alike d e (vr_in e t) (vr_in d t) n (sym (same t).0) h
is_by d e t Undefined same h = sequence_alike e d (vr_in e t) (vr_in d t) (sym (same t).0) h

mutual
  pub hidden_by : (d e : Dictionary) (x : Trees) → Alike d e → NothingHidden (implicit_in e) x → NothingHidden (implicit_in d) x
  hidden_by d e no_tree same h = tt
  hidden_by d e (leaf t vr v rest) same h = (hold_by d e t vr v same h.0, hidden_by d e rest same h.1)
  hidden_by d e (sequence t vr declared items rest) same h = (is_by d e t declared same h.0, items_hidden_by d e items same h.1, hidden_by d e rest same h.2)
  hidden_by d e (fragments t vr values rest) same h = hidden_by d e rest same h

  items_hidden_by : (d e : Dictionary) (x : Items) → Alike d e → NoItemHidden (implicit_in e) x → NoItemHidden (implicit_in d) x
  items_hidden_by d e no_item same h = tt
  items_hidden_by d e (item declared set rest) same h = (hidden_by d e set same h.0, items_hidden_by d e rest same h.1)

seen_alike : (b : Bool) (e : Dictionary) (t : Tag) (v : List ℕ) → Alike (seen_after b e t v) e
seen_alike true e t v = alike_self e
seen_alike false e t v = alike_behind e e t (vr_in e t) v (alike_self e)

-- ---- the spelling

value_form : (s : Syntax) (vr : Vr) (n : ℕ) → is_sequence vr ≡ false → form s vr (Known n) ≡ a_value
unfolding form
value_form s SQ n h = absurd (cc)
value_form s _ n h = refl

sequence_form : (s : Syntax) (vr : Vr) (l : Length) → is_sequence vr ≡ true → form s vr l ≡ a_sequence
unfolding form
sequence_form s SQ l h = refl
sequence_form s _ l h = absurd (cc)

is_SQ : (vr : Vr) → is_sequence vr ≡ true → vr ≡ SQ
is_SQ SQ h = refl
is_SQ _ h = absurd (cc)

module _ (d e : Dictionary) where
  still_implicit : (k : Dictionary) (vr : Vr) → inside (implicit_in k) vr ≡ implicit_in k
  unfolding inside
  still_implicit k UN = refl
  still_implicit k vr = refl

  no_fragments : (vr : Vr) → form (implicit_in d) vr Undefined ≡ a_fragment_list → ⊥
  unfolding form
  no_fragments SQ h = cc
  no_fragments UN h = cc
  no_fragments vr h = cc

  head_by : (t : Tag) (vr : Vr) (l : Length) (b c : List ℕ) → ElementHead (implicit_in d) t vr l b c → ElementHead (implicit_in e) t (vr_in e t) l b c
  unfolding vr_at length_at
  head_by t vr l b c h = record {
    no_item = h.no_item;
    head = record { tag_is = h.tag_is; vr_is = ap (λ (x : Tag). let o : Option Vr = Some (vr_in e x) in o) h.tag_is; whole = h.whole; length_is = h.length_is; after_is = h.after_is };
  }

  item_by : (l : Length) (b c : List ℕ) → ItemHead (implicit_in d) l b c → ItemHead (implicit_in e) l b c
  item_by l b c h = record { tag_is = h.tag_is; whole = h.whole; length_is = h.length_is; after_is = h.after_is }

  delimiter_by : (t : Tag) (b c : List ℕ) → Delimiter (implicit_in d) t b c → Delimiter (implicit_in e) t b c
  delimiter_by t b c h = record { tag_is = h.tag_is; whole = h.whole; after_is = h.after_is }

  enclosed_by : (end_tag : Tag) (l : Length) (R S : List ℕ → List ℕ → Type 0) (c o : List ℕ) → ((b p : List ℕ) → R b p → S b p) → Enclosed (implicit_in d) end_tag l R c o → Enclosed (implicit_in e) end_tag l S c o
  enclosed_by end_tag (Known size) R S c o turn (inner, is, long, r) = (inner, is, long, turn inner [] r)
  enclosed_by end_tag Undefined R S c o turn (behind, r, end) = (behind, turn c behind r, delimiter_by end_tag behind o end)

  sequence_by : (vr w : Vr) (l : Length) (x y : Items) (c o : List ℕ) → ((b p : List ℕ) → ItemsAt (implicit_in d) x b p → ItemsAt (implicit_in e) y b p)
      → Enclosed (inside (implicit_in d) vr) sequence_end_tag l (ItemsAt (inside (implicit_in d) vr) x) c o → Enclosed (inside (implicit_in e) w) sequence_end_tag l (ItemsAt (inside (implicit_in e) w) y) c o
  sequence_by vr w l x y c o turn h =
      subst (λ (s : Syntax). Enclosed s sequence_end_tag l (ItemsAt s y) c o) (sym (still_implicit e w))
      (enclosed_by sequence_end_tag l (ItemsAt (implicit_in d) x) (ItemsAt (implicit_in e) y) c o turn (subst (λ (s : Syntax). Enclosed s sequence_end_tag l (ItemsAt s x) c o) (still_implicit d vr) h))

  empty_spelled : (s : Syntax) (o : List ℕ) → Enclosed s sequence_end_tag (Known 0) (ItemsAt s no_item) o o
  unfolding ItemsAt
  empty_spelled s o = ([], refl, refl, refl)

  empty_at : (t : Tag) (w : Vr) (v : List ℕ) (rest : Trees) (b others p : List ℕ) → v ≡ [] → is_sequence w ≡ true → ElementHead (implicit_in e) t w (Known (length v)) b (v ++ others) → TreesAt (implicit_in e) rest others p
      → TreesAt (implicit_in e) (sequence t w (Known 0) no_item rest) b p
  unfolding TreesAt
  empty_at t w v rest b others p none is head more =
      (others, others, sequence_form (implicit_in e) w (Known 0) is, subst (λ (x : List ℕ). ElementHead (implicit_in e) t w (Known (length x)) b (x ++ others)) none head, empty_spelled (inside (implicit_in e) w) others, more)

  value_by : (c : Bool) (t : Tag) (vr : Vr) (v : List ℕ) (rest : Trees) (b others p : List ℕ) → is_sequence (vr_in e t) ≡ c → HoldsNothing (implicit_in e) t vr v → ElementHead (implicit_in e) t (vr_in e t) (Known (length v)) b (v ++ others)
      → TreesAt (implicit_in (seen_after c e t v)) rest others p → TreesAt (implicit_in e) (seen_value c t (vr_in e t) v rest) b p
  unfolding TreesAt
  value_by true t vr v rest b others p is none head more = empty_at t (vr_in e t) v rest b others p (none (is_SQ (vr_in e t) is)) is head more
  value_by false t vr v rest b others p is none head more = (others, value_form (implicit_in e) (vr_in e t) (length v) is, head, more)

mutual
  unfolding TreesAt

  pub trees_by : (d e : Dictionary) (x : Trees) (b p : List ℕ) → NothingHidden (implicit_in e) x → TreesAt (implicit_in d) x b p → TreesAt (implicit_in e) (seen e x) b p
  trees_by d e no_tree b p n h = h
  trees_by d e (leaf t vr v rest) b p n (others, fo, head, more) =
      let c : Bool = is_sequence (vr_in e t) in
      let k : Dictionary = seen_after c e t v in
      value_by d e c t vr v (seen k rest) b others p refl n.0 (head_by d e t vr (Known (length v)) b (v ++ others) head)
      (trees_by (dictionary_after d t vr v) k rest others p (hidden_by k e rest (seen_alike c e t v) n.1) more)
  trees_by d e (sequence t vr declared items rest) b p n (contents, others, fo, head, inner, more) = (
    contents,
    others,
    n.0,
    head_by d e t vr declared b contents head,
    sequence_by d e vr (vr_in e t) declared items (seen_items e items) contents others (λ c q r. items_by d e items c q n.1 r) inner,
    trees_by d e rest others p n.2 more,
  )
  trees_by d e (fragments t vr values rest) b p n (contents, others, fo, head, inner, more) = absurd (no_fragments d e vr fo)

  items_by : (d e : Dictionary) (x : Items) (b p : List ℕ) → NoItemHidden (implicit_in e) x → ItemsAt (implicit_in d) x b p → ItemsAt (implicit_in e) (seen_items e x) b p
  items_by d e no_item b p n h = h
  items_by d e (item declared set rest) b p n (contents, others, head, inner, more) = (
    contents,
    others,
    item_by d e declared b contents head,
    enclosed_by d e item_end_tag declared (TreesAt (implicit_in d) set) (TreesAt (implicit_in e) (seen e set)) contents others (λ c q r. trees_by d e set c q n.0 r) inner,
    items_by d e rest others p n.1 more,
  )
