-- What the atoms of a data set say of it, and what they show, read by the extract.
use Rattle.std.proofs.Common.{◌≡◌, ◌∙◌, ap, sym, refl, subst, ℕ, List, [], ◌∷◌, ◌++◌, length, map, Bool, true, false, Option, None, Some}
use Rattle.dcm_base.specs.declared.dictionary.Dictionary.{Dictionary}
use Rattle.dcm_base.specs.declared.form.Form.TheVariants.{Value as a_value, Sequence as a_sequence, FragmentList as a_fragment_list}
use Rattle.dcm_base.specs.declared.length.Length.TheVariants.{Known, Undefined}
use Rattle.dcm_base.specs.declared.tag.Tag.{Tag}
use Rattle.dcm_base.specs.declared.vr.Vr.{Vr}
use Rattle.dcm_base.specs.declared.vr.Vr.TheVariants.{SQ}
use Rattle.dcm_base.specs.Bytes.Spelling.{form, read_as, read_in}
use Rattle.dcm_base.specs.Steps.Atoms.{Atom, ShowItems, ShowTrees, Shows, ShowsOpen, ShowsOpenItem, closes_item, closes_leaf, closes_sequence, end_atoms, ends, fragments_then, open_fragment_atoms, opens, opens_fragment, opens_item, value_byte}
use Rattle.dcm_base.specs.Tree.Front.{Front, front, OpenItem, OpenTree, no_open_item, nothing_open, open_fragments, open_item, open_leaf, open_sequence}
use Rattle.dcm_base.specs.Tree.Tree.{Trees, no_tree, leaf, sequence, fragments, Items, no_item, item}
use Rattle.dcm_base.specs.Tree.Value.{order}
use Rattle.dcm_base.proofs.DataSets.Alike.{undefined_same}
use Rattle.dcm_conversion_laws.specs.Agree.{FrontSays, ItemsSay, OpenItemSays, OpenSays, SaysItself}
use Rattle.dcm_conversion_laws.proofs.Plain.{list_read, order_plain, plain}
use Rattle.dcm_deid.proofs.Forms.{read_sq}

-- ---- all atoms

abbrev pub AllAtoms : (Atom → Type 0) → List Atom → Type 0
AllAtoms P [] = Unit {0}
AllAtoms P (a ∷ atoms) = P a × AllAtoms P atoms

pub first_all : (P : Atom → Type 0) (xs ys : List Atom) → AllAtoms P (xs ++ ys) → AllAtoms P xs
first_all P [] ys h = tt
first_all P (x ∷ xs) ys h = (h.0, first_all P xs ys h.1)

pub later_all : (P : Atom → Type 0) (xs ys : List Atom) → AllAtoms P (xs ++ ys) → AllAtoms P ys
later_all P [] ys h = h
later_all P (x ∷ xs) ys h = later_all P xs ys h.1

pub both_all : (P : Atom → Type 0) (xs ys : List Atom) → AllAtoms P xs → AllAtoms P ys → AllAtoms P (xs ++ ys)
both_all P [] ys h k = k
both_all P (x ∷ xs) ys h k = (h.0, both_all P xs ys h.1 k)

bytes_all : (P : Atom → Type 0) → ((b : ℕ) → P (value_byte b)) → (v : List ℕ) (others : List Atom) → AllAtoms P others → AllAtoms P (map value_byte v ++ others)
bytes_all P each [] others h = h
bytes_all P each (b ∷ v) others h = (each b, bytes_all P each v others h)

-- ---- atoms that say what they hold

-- the head says what it holds, and a sequence that it is one
abbrev pub AtomSays : Dictionary → Atom → Type 0
AtomSays e (opens tag vr declared s) = (read_in e tag vr ≡ vr) × (form s (read_as s tag vr) declared ≡ a_sequence → vr ≡ SQ)
AtomSays e (value_byte b) = Unit {0}
AtomSays e closes_leaf = Unit {0}
AtomSays e (opens_item declared) = Unit {0}
AtomSays e closes_item = Unit {0}
AtomSays e closes_sequence = Unit {0}
AtomSays e (opens_fragment size) = Unit {0}
AtomSays e ends = Unit {0}

abbrev pub AllSay : Dictionary → List Atom → Type 0
AllSay e = AllAtoms (AtomSays e)

value_sequence : a_value ≡ a_sequence → ⊥
value_sequence e = cc

list_sequence : a_fragment_list ≡ a_sequence → ⊥
list_sequence e = cc

sequence_says : (e : Dictionary) (tag : Tag) (vr : Vr) → vr ≡ SQ → read_in e tag vr ≡ vr
sequence_says e tag vr is = subst (λ (x : Vr). read_in e tag x ≡ x) (sym is) (read_sq e tag)

bytes_say : (e : Dictionary) (v : List ℕ) (others : List Atom) → AllSay e others → AllSay e (map value_byte v ++ others)
bytes_say e v others h = bytes_all (AtomSays e) (λ b. tt) v others h

-- bytes alone
only_bytes_say : (e : Dictionary) (v : List ℕ) → AllSay e (map value_byte v)
only_bytes_say e [] = tt
only_bytes_say e (b ∷ v) = (tt, only_bytes_say e v)

fragments_say : (e : Dictionary) (values : List (List ℕ)) (others : List Atom) → AllSay e others → AllSay e (fragments_then values others)
unfolding fragments_then
fragments_say e [] others h = h
fragments_say e (v ∷ values) others h = (tt, bytes_say e v (closes_leaf ∷ fragments_then values others) (tt, fragments_say e values others h))

open_fragment_says : (e : Dictionary) (last : Option (ℕ × List ℕ)) → AllSay e (open_fragment_atoms last)
open_fragment_says e None = tt
open_fragment_says e (Some fragment) = (tt, only_bytes_say e fragment.1)

end_says : (e : Dictionary) (closed : Bool) → AllSay e (end_atoms closed)
end_says e true = (tt, tt)
end_says e false = tt

mutual
  unfolding ShowTrees SaysItself

  trees_say : (e : Dictionary) (x : Trees) (a p : List Atom) → ShowTrees x a p → SaysItself e x → AllSay e p → AllSay e a
  trees_say e no_tree a p shown says h = subst (AllSay e) (sym shown) h
  trees_say e (leaf tag vr v rest) a p (s, others, formed, at, more) says h =
      subst (AllSay e) (sym at)
      ((says.0, λ list. absurd (value_sequence (sym formed ∙ list))), bytes_say e (order s vr v) (closes_leaf ∷ others) (tt, trees_say e rest others p more says.1 h))
  trees_say e (sequence tag vr declared items rest) a p (s, contents, others, formed, at, inner, more) says h =
      subst (AllSay e) (sym at)
      ((sequence_says e tag vr says.0, λ list. says.0), items_say e items contents (closes_sequence ∷ others) inner says.1 (tt, trees_say e rest others p more says.2 h))
  trees_say e (fragments tag vr values rest) a p (s, others, formed, at, more) says h =
      subst (AllSay e) (sym at)
      ((list_read e s tag vr (sym (undefined_same s tag vr) ∙ formed), λ list. absurd (list_sequence (sym formed ∙ list))), fragments_say e values (closes_sequence ∷ others) (tt, trees_say e rest others p more says h))

  items_say : (e : Dictionary) (x : Items) (a p : List Atom) → ShowItems x a p → ItemsSay e x → AllSay e p → AllSay e a
  items_say e no_item a p shown says h = subst (AllSay e) (sym shown) h
  items_say e (item declared set rest) a p (contents, others, at, inner, more) says h =
      subst (AllSay e) (sym at) (tt, trees_say e set contents (closes_item ∷ others) inner says.0 (tt, items_say e rest others p more says.1 h))

mutual
  unfolding Shows FrontSays

  -- the atoms of what says of itself what it holds say so
  pub front_says : (e : Dictionary) (f : Front) (a : List Atom) → Shows f a → FrontSays e f → AllSay e a
  front_says e (front whole last reached closed) a (others, at, op, may, re) says = trees_say e whole a others at says.0 (open_says e last (end_atoms closed) others op says.1 (end_says e closed))

  open_says : (e : Dictionary) (o : OpenTree) (at_end a : List Atom) → ShowsOpen o at_end a → OpenSays e o → AllSay e at_end → AllSay e a
  open_says e nothing_open at_end a shown says h = subst (AllSay e) (sym shown) h
  open_says e (open_leaf tag vr size v) at_end a (s, formed, short, at) says h =
      subst (AllSay e) (sym at) ((says, λ list. absurd (value_sequence (sym formed ∙ list))), only_bytes_say e (order s vr v))
  open_says e (open_sequence tag vr declared items last) at_end a (s, contents, others, formed, at, inner, more) says h =
      subst (AllSay e) (sym at) ((sequence_says e tag vr says.0, λ list. says.0), items_say e items contents others inner says.1 (open_item_says e last others more says.2))
  open_says e (open_fragments tag vr values last) at_end a (s, formed, misses, at) says h =
      subst (AllSay e) (sym at)
      ((list_read e s tag vr (sym (undefined_same s tag vr) ∙ formed), λ list. absurd (list_sequence (sym formed ∙ list))), fragments_say e values (open_fragment_atoms last) (open_fragment_says e last))

  open_item_says : (e : Dictionary) (o : OpenItem) (a : List Atom) → ShowsOpenItem o a → OpenItemSays e o → AllSay e a
  open_item_says e no_open_item a shown says = subst (AllSay e) (sym shown) tt
  open_item_says e (open_item declared set) a (contents, at, still, more) says = subst (AllSay e) (sym at) (tt, front_says e set contents more says)

-- ---- the same atoms, read by the extract

abbrev pub plain_atom : Atom → Atom
plain_atom (opens tag vr declared s) = opens tag vr declared (plain s)
plain_atom (value_byte b) = value_byte b
plain_atom closes_leaf = closes_leaf
plain_atom (opens_item declared) = opens_item declared
plain_atom closes_item = closes_item
plain_atom closes_sequence = closes_sequence
plain_atom (opens_fragment size) = opens_fragment size
plain_atom ends = ends

abbrev pub plain_atoms : List Atom → List Atom
plain_atoms [] = []
plain_atoms (a ∷ atoms) = plain_atom a ∷ plain_atoms atoms

-- a head has the same form
abbrev pub AtomAlike : Atom → Type 0
AtomAlike (opens tag vr declared s) = form (plain s) (read_as (plain s) tag vr) declared ≡ form s (read_as s tag vr) declared
AtomAlike (value_byte b) = Unit {0}
AtomAlike closes_leaf = Unit {0}
AtomAlike (opens_item declared) = Unit {0}
AtomAlike closes_item = Unit {0}
AtomAlike closes_sequence = Unit {0}
AtomAlike (opens_fragment size) = Unit {0}
AtomAlike ends = Unit {0}

abbrev pub AllAlike : List Atom → Type 0
AllAlike = AllAtoms AtomAlike

pub plain_both : (xs ys : List Atom) → plain_atoms (xs ++ ys) ≡ plain_atoms xs ++ plain_atoms ys
plain_both [] ys = refl
plain_both (x ∷ xs) ys = ap (λ (z : List Atom). plain_atom x ∷ z) (plain_both xs ys)

only_bytes : (v : List ℕ) → plain_atoms (map value_byte v) ≡ map value_byte v
only_bytes [] = refl
only_bytes (b ∷ v) = ap (λ (z : List Atom). value_byte b ∷ z) (only_bytes v)

plain_bytes : (v : List ℕ) (others : List Atom) → plain_atoms (map value_byte v ++ others) ≡ map value_byte v ++ plain_atoms others
plain_bytes [] others = refl
plain_bytes (b ∷ v) others = ap (λ (z : List Atom). value_byte b ∷ z) (plain_bytes v others)

plain_fragments : (values : List (List ℕ)) (others : List Atom) → plain_atoms (fragments_then values others) ≡ fragments_then values (plain_atoms others)
unfolding fragments_then
plain_fragments [] others = refl
plain_fragments (v ∷ values) others =
    ap (λ (z : List Atom). opens_fragment (length v) ∷ z)
    (plain_bytes v (closes_leaf ∷ fragments_then values others) ∙ ap (λ (z : List Atom). map value_byte v ++ closes_leaf ∷ z) (plain_fragments values others))

plain_open_fragment : (last : Option (ℕ × List ℕ)) → plain_atoms (open_fragment_atoms last) ≡ open_fragment_atoms last
plain_open_fragment None = refl
plain_open_fragment (Some fragment) = ap (λ (z : List Atom). opens_fragment fragment.0 ∷ z) (only_bytes fragment.1)

plain_end : (closed : Bool) → plain_atoms (end_atoms closed) ≡ end_atoms closed
plain_end true = refl
plain_end false = refl

fragments_later : (values : List (List ℕ)) (others : List Atom) → AllAlike (fragments_then values others) → AllAlike others
unfolding fragments_then
fragments_later [] others h = h
fragments_later (v ∷ values) others h = fragments_later values others (later_all AtomAlike (map value_byte v) (closes_leaf ∷ fragments_then values others) h.1).1

mutual
  unfolding ShowTrees

  trees_plain : (x : Trees) (a p : List Atom) → ShowTrees x a p → AllAlike a → ShowTrees x (plain_atoms a) (plain_atoms p) × AllAlike p
  trees_plain no_tree a p shown h = (ap plain_atoms shown, subst AllAlike shown h)
  trees_plain (leaf tag vr v rest) a p (s, others, formed, at, more) h =
      let all = subst AllAlike at h in
      let behind = trees_plain rest others p more (later_all AtomAlike (map value_byte (order s vr v)) (closes_leaf ∷ others) all.1).1 in (
        (
          plain s,
          plain_atoms others,
          all.0 ∙ formed,
          ap plain_atoms at
              ∙ ap (λ (z : List Atom). opens tag vr (Known (length v)) (plain s) ∷ z) (plain_bytes (order s vr v) (closes_leaf ∷ others) ∙ ap (λ (z : List ℕ). map value_byte z ++ closes_leaf ∷ plain_atoms others) (sym (order_plain s vr v))),
          behind.0,
        ),
        behind.1,
      )
  trees_plain (sequence tag vr declared items rest) a p (s, contents, others, formed, at, inner, more) h =
      let all = subst AllAlike at h in
      let within = items_plain items contents (closes_sequence ∷ others) inner all.1 in
      let behind = trees_plain rest others p more within.1.1 in
      ((plain s, plain_atoms contents, plain_atoms others, all.0 ∙ formed, ap plain_atoms at, within.0, behind.0), behind.1)
  trees_plain (fragments tag vr values rest) a p (s, others, formed, at, more) h =
      let all = subst AllAlike at h in
      let behind = trees_plain rest others p more (fragments_later values (closes_sequence ∷ others) all.1).1 in (
        (plain s, plain_atoms others, all.0 ∙ formed, ap plain_atoms at ∙ ap (λ (z : List Atom). opens tag vr Undefined (plain s) ∷ z) (plain_fragments values (closes_sequence ∷ others)), behind.0),
        behind.1,
      )

  items_plain : (x : Items) (a p : List Atom) → ShowItems x a p → AllAlike a → ShowItems x (plain_atoms a) (plain_atoms p) × AllAlike p
  items_plain no_item a p shown h = (ap plain_atoms shown, subst AllAlike shown h)
  items_plain (item declared set rest) a p (contents, others, at, inner, more) h =
      let all = subst AllAlike at h in
      let within = trees_plain set contents (closes_item ∷ others) inner all.1 in
      let behind = items_plain rest others p more within.1.1 in
      ((plain_atoms contents, plain_atoms others, ap plain_atoms at, within.0, behind.0), behind.1)

mutual
  unfolding Shows

  -- they show the same
  pub front_plain : (f : Front) (a : List Atom) → Shows f a → AllAlike a → Shows f (plain_atoms a)
  front_plain (front whole last reached closed) a (others, at, op, may, re) h =
      let behind = trees_plain whole a others at h in
      (plain_atoms others, behind.0, subst (λ (z : List Atom). ShowsOpen last z (plain_atoms others)) (plain_end closed) (open_plain last (end_atoms closed) others op behind.1), may, re)

  open_plain : (o : OpenTree) (at_end a : List Atom) → ShowsOpen o at_end a → AllAlike a → ShowsOpen o (plain_atoms at_end) (plain_atoms a)
  open_plain nothing_open at_end a shown h = ap plain_atoms shown
  open_plain (open_leaf tag vr size v) at_end a (s, formed, short, at) h =
      let all = subst AllAlike at h in (
        plain s,
        all.0 ∙ formed,
        short,
        ap plain_atoms at ∙ ap (λ (z : List Atom). opens tag vr (Known size) (plain s) ∷ z) (only_bytes (order s vr v) ∙ ap (map value_byte) (sym (order_plain s vr v))),
      )
  open_plain (open_sequence tag vr declared items last) at_end a (s, contents, others, formed, at, inner, more) h =
      let all = subst AllAlike at h in
      let within = items_plain items contents others inner all.1 in
      (plain s, plain_atoms contents, plain_atoms others, all.0 ∙ formed, ap plain_atoms at, within.0, open_item_plain last others more within.1)
  open_plain (open_fragments tag vr values last) at_end a (s, formed, misses, at) h =
      let all = subst AllAlike at h in (
        plain s,
        all.0 ∙ formed,
        misses,
        ap plain_atoms at
            ∙ ap (λ (z : List Atom). opens tag vr Undefined (plain s) ∷ z) (plain_fragments values (open_fragment_atoms last) ∙ ap (fragments_then values) (plain_open_fragment last)),
      )

  open_item_plain : (o : OpenItem) (a : List Atom) → ShowsOpenItem o a → AllAlike a → ShowsOpenItem o (plain_atoms a)
  open_item_plain no_open_item a shown h = ap plain_atoms shown
  open_item_plain (open_item declared set) a (contents, at, still, more) h =
      let all = subst AllAlike at h in
      (plain_atoms contents, ap plain_atoms at, still, front_plain set contents more all.1)
