-- What a whole head opens or closes.
use Rattle.std.proofs.Common.{◌≡◌, ℕ, zero, suc, ◌+◌, ◌≤◌, List, [], ◌∷◌, ◌++◌, length, drop, Option, Some, None, Bool, true, false, cond, refl, sym, ap, ◌∙◌, subst, arith, length-append, append_assoc}
use Rattle.std.specs.Prelude.{◌==◌}
use Rattle.std.proofs.lemmas.Bool.{eqb-false}
use Rattle.dcm_base.proofs.Conversions.Order.{order_none}
use Rattle.dcm_lemmas.proofs.Lists.{nothing_behind}
use Rattle.dcm_base.specs.declared.tag.Tag.{Tag}
use Rattle.dcm_base.specs.declared.vr.Vr.{Vr}
use Rattle.dcm_base.specs.declared.vr.Vr.TheVariants.{SQ, UN, OB, OW}
use Rattle.dcm_base.specs.declared.syntax.Syntax.{Syntax}
use Rattle.dcm_base.specs.declared.syntax.Syntax.TheVariants.{Little as little_in}
use Rattle.dcm_base.specs.declared.length.Length.{Length}
use Rattle.dcm_base.specs.declared.length.Length.TheVariants.{Known, Undefined}
use Rattle.dcm_base.specs.Tree.Tree.{Trees, no_tree, leaf, no_item}
use Rattle.dcm_base.specs.Tree.Front.{nothing_open, open_leaf, open_sequence, open_fragments, no_open_item}
use Rattle.dcm_base.specs.Tables.Number.{number}
use Rattle.dcm_base.specs.Tables.Tag.{is_item}
use Rattle.dcm_base.specs.Bytes.Head.{ElementHead, ItemHead, Delimiter, tag_at, vr_at, length_at, head_size, long_length}
use Rattle.dcm_base.specs.declared.form.Form.{Form}
use Rattle.dcm_base.specs.declared.form.Form.TheVariants.{Value as a_value, Sequence as a_sequence, FragmentList as a_fragment_list, Nothing as no_form}
use Rattle.dcm_base.specs.Bytes.Spelling.{form, inside, read_as}
use Rattle.dcm_base.specs.Reading.Size.{trees_size}
use Rattle.dcm_base.specs.declared.level.Level.{Level}
use Rattle.dcm_base.specs.declared.level.Container.TheVariants.{Sequence as sequence_container, FragmentList as fragment_container}
use Rattle.dcm_base.specs.Reading.Place.{level, room, passes, tree_levels}
use Rattle.dcm_base.specs.Reading.Stop.{has_no_form, with_length}
use Rattle.dcm_base.specs.Steps.Atoms.{Atom, opens, closes_leaf, front_atoms}
use Rattle.dcm_base.proofs.DataSets.Heads.{is_tag_true}
use Rattle.dcm_base.proofs.DataSets.Sizes.{element_takes, trees_take}
use Rattle.dcm_base.proofs.DataSets.Path.{then_trees, Path, plug, syntax_of, behind, Placed, Roomy, leaf_opens, sequence_opens, fragments_open, leaf_closes}
use Rattle.dcm_base.proofs.DataSets.Levels.{begin_of, around, plug_levels, path_position}
use Rattle.dcm_base.proofs.DataSets.Stops.{set_level}
use Rattle.dcm_base.proofs.DataSets.Row.{leaf_opens_atoms, leaf_closes_atoms, sequence_opens_atoms}
use Rattle.dcm_stream.specs.Reading.{Opened, closes, element_opens, item_opens, plain_opens, head_opens, Sign, sign_of, sign_ends, without_value}
use Rattle.dcm_stream.proofs.Containers.FragmentRow.{fragments_open_atoms}
use Rattle.dcm_stream.proofs.Containers.Full.{Opens}
use Rattle.dcm_stream.proofs.Heads.Stops.{FitsElement}
use Rattle.dcm_stream.proofs.Containers.Room.{passes_zero, passes_less, passes_later, room_at}
use Rattle.dcm_stream.proofs.Containers.Signs.{sign_so_far, set_signed, none_read}
use Rattle.dcm_base.specs.Tree.Value.{order}

-- ---- forms

pub undefined_no_value : (s : Syntax) (vr : Vr) → form s vr Undefined ≡ a_value → ⊥
unfolding form
undefined_no_value s SQ h = cc
undefined_no_value s UN h = cc
undefined_no_value (little_in d) OB h = cc
undefined_no_value (little_in d) OW h = cc
undefined_no_value s vr h = cc

known_no_fragments : (s : Syntax) (vr : Vr) (n : ℕ) → form s vr (Known n) ≡ a_fragment_list → ⊥
unfolding form
known_no_fragments s SQ n h = cc
known_no_fragments s vr n h = cc

-- ---- elements

abbrev pub Behind : Syntax → (start : ℕ) → List ℕ → List Atom → Opened → Type 0
Behind s start b atoms o = Opens s start b o.levels o.left o.sign (atoms ++ o.atoms)

-- the place of an element in a set
record InSet (s : Syntax) (start : ℕ) (path : Path) (whole : Trees) (b z : List ℕ) (begin : ℕ) (atoms : List Atom) (tag : Tag) (vr : Vr) (l : Length) : Type 0 where
  h : Placed s path whole nothing_open b
  a : atoms ≡ front_atoms s (plug path whole nothing_open)
  at : begin ≡ start + length b + length z
  head : ElementHead (behind s path whole) tag vr l z []
  free : passes (with_length (length z) l) (room (start + length b) (set_level s start path whole ∷ around s start path)) ≡ false
  roomy : Roomy s path whole nothing_open b h z

none_told : (s : Syntax) (tag : Tag) (vr : Vr) → sign_of tag vr ≡ sign_so_far tag vr (order s vr [])
none_told s tag vr = sym (none_read tag vr) ∙ ap (sign_so_far tag vr) (sym (order_none s vr))

leaf_behind : (s : Syntax) (start : ℕ) (path : Path) (whole : Trees) (b z : List ℕ) (begin : ℕ) (atoms : List Atom) (tag : Tag) (vr : Vr) (size : ℕ)
    → InSet s start path whole b z begin atoms tag vr (Known size) → form (behind s path whole) (read_as (behind s path whole) tag vr) (Known size) ≡ a_value
    → Behind s start (b ++ z) atoms (element_opens a_value (behind s path whole) tag vr (Known size) begin (set_level s start path whole ∷ around s start path))
unfolding tree_levels
leaf_behind s start path whole b z begin atoms tag vr zero i fo =
    let opened = leaf_opens s path whole tag vr 0 b z i.h i.roomy fo i.head in
    let w = then_trees whole (leaf tag vr [] no_tree) in
    let o : Atom = opens tag vr (Known 0) (behind s path whole) in
    record {
      path = path;
      whole = w;
      open_tree = nothing_open;
      placed = leaf_closes s path whole tag vr 0 [] (b ++ z) opened refl;
      levels_are =
          ap (λ (x : Option Sign). sign_ends x (set_level s start path whole ∷ around s start path)) (none_told (behind s path whole) tag vr)
          ∙ set_signed s start path whole tag vr [] ∙ sym (plug_levels s start path w nothing_open);
      atoms_are =
          sym (append_assoc atoms (o ∷ []) (closes_leaf ∷ []))
          ∙ ap (λ (x : List Atom). (x ++ o ∷ []) ++ closes_leaf ∷ []) i.a
          ∙ ap (λ (x : List Atom). x ++ closes_leaf ∷ []) (sym (leaf_opens_atoms s path whole tag vr 0 (order_none (behind s path whole) vr)))
          ∙ sym (leaf_closes_atoms s path whole tag vr 0 [] refl);
      left_is = refl;
      sign_is = refl;
      fits = passes_zero (room (start + length (b ++ z)) (sign_ends (sign_of tag vr) (set_level s start path whole ∷ around s start path)));
    }
leaf_behind s start path whole b z begin atoms tag vr (suc n) i fo =
    let o : Atom = opens tag vr (Known (suc n)) (behind s path whole) in
    let same : start + length b + length z ≡ start + length (b ++ z) = omega (arith, length-append b z) in
    record {
      path = path;
      whole = whole;
      open_tree = open_leaf tag vr (suc n) [];
      placed = leaf_opens s path whole tag vr (suc n) b z i.h i.roomy fo i.head;
      levels_are = sym (plug_levels s start path whole (open_leaf tag vr (suc n) []));
      atoms_are = ap (λ (x : List Atom). x ++ o ∷ []) i.a ∙ sym (leaf_opens_atoms s path whole tag vr (suc n) (order_none (behind s path whole) vr));
      left_is = (omega arith, omega arith);
      sign_is = none_told (behind s path whole) tag vr;
      fits = subst (λ (p : ℕ). passes (suc n) (room p (set_level s start path whole ∷ around s start path)) ≡ false) same
          (passes_later (length z) (suc n) (start + length b) (set_level s start path whole ∷ around s start path) i.free);
    }

sequence_behind : (s : Syntax) (start : ℕ) (path : Path) (whole : Trees) (b z : List ℕ) (begin : ℕ) (atoms : List Atom) (tag : Tag) (vr : Vr) (l : Length)
    → InSet s start path whole b z begin atoms tag vr l → form (behind s path whole) (read_as (behind s path whole) tag vr) l ≡ a_sequence
    → Behind s start (b ++ z) atoms (element_opens a_sequence (behind s path whole) tag vr l begin (set_level s start path whole ∷ around s start path))
unfolding tree_levels
sequence_behind s start path whole b z begin atoms tag vr l i fo =
    let s' = behind s path whole in
    let o : Atom = opens tag vr l s' in
    let at : begin ≡ begin_of s start path + trees_size (syntax_of s path) whole + head_size s' vr =
    omega (arith, i.at, path_position s start path b i.h.c i.h.path_at, trees_take (syntax_of s path) whole i.h.c i.h.d i.h.trees_at, ap length i.h.open_at, element_takes s' tag vr l z [] i.head) in
    record {
      path = path;
      whole = whole;
      open_tree = open_sequence tag vr l no_item no_open_item;
      placed = sequence_opens s path whole tag vr l b z i.h i.roomy fo i.head;
      levels_are = ap (λ (x : ℕ). level sequence_container (inside s' vr) l x ∷ set_level s start path whole ∷ around s start path) at ∙ sym (plug_levels s start path whole (open_sequence tag vr l no_item no_open_item));
      atoms_are = ap (λ (x : List Atom). x ++ o ∷ []) i.a ∙ sym (sequence_opens_atoms s path whole tag vr l);
      left_is = refl;
      sign_is = refl;
      fits = passes_zero (room (start + length (b ++ z)) (level sequence_container (inside s' vr) l begin ∷ set_level s start path whole ∷ around s start path));
    }

fragments_behind : (s : Syntax) (start : ℕ) (path : Path) (whole : Trees) (b z : List ℕ) (begin : ℕ) (atoms : List Atom) (tag : Tag) (vr : Vr)
    → InSet s start path whole b z begin atoms tag vr Undefined → form (behind s path whole) (read_as (behind s path whole) tag vr) Undefined ≡ a_fragment_list
    → Behind s start (b ++ z) atoms (element_opens a_fragment_list (behind s path whole) tag vr Undefined begin (set_level s start path whole ∷ around s start path))
unfolding tree_levels
fragments_behind s start path whole b z begin atoms tag vr i fo =
    let s' = behind s path whole in
    record {
      path = path;
      whole = whole;
      open_tree = open_fragments tag vr [] None;
      placed = fragments_open s path whole tag vr b z i.h i.roomy fo i.head;
      levels_are = sym (plug_levels s start path whole (open_fragments tag vr [] None));
      atoms_are = ap (λ (x : List Atom). x ++ opens tag vr Undefined s' ∷ []) i.a ∙ sym (fragments_open_atoms s path whole tag vr);
      left_is = refl;
      sign_is = refl;
      fits = passes_zero (room (start + length (b ++ z)) (level fragment_container s' Undefined begin ∷ set_level s start path whole ∷ around s start path));
    }

element_behind : (s : Syntax) (start : ℕ) (path : Path) (whole : Trees) (b z : List ℕ) (begin : ℕ) (atoms : List Atom) (tag : Tag) (vr : Vr) (f : Form) (l : Length)
    → InSet s start path whole b z begin atoms tag vr l → form (behind s path whole) (read_as (behind s path whole) tag vr) l ≡ f → has_no_form f ≡ false
    → Behind s start (b ++ z) atoms (element_opens f (behind s path whole) tag vr l begin (set_level s start path whole ∷ around s start path))
element_behind s start path whole b z begin atoms tag vr a_value (Known size) i fo has = leaf_behind s start path whole b z begin atoms tag vr size i fo
element_behind s start path whole b z begin atoms tag vr a_value Undefined i fo has = absurd (undefined_no_value (behind s path whole) (read_as (behind s path whole) tag vr) fo)
element_behind s start path whole b z begin atoms tag vr a_sequence l i fo has = sequence_behind s start path whole b z begin atoms tag vr l i fo
element_behind s start path whole b z begin atoms tag vr a_fragment_list (Known size) i fo has = absurd (known_no_fragments (behind s path whole) (read_as (behind s path whole) tag vr) size fo)
element_behind s start path whole b z begin atoms tag vr a_fragment_list Undefined i fo has = fragments_behind s start path whole b z begin atoms tag vr i fo
element_behind s start path whole b z begin atoms tag vr no_form l i fo has = absurd (cc)

-- ---- what a head opens, by its tag

pub opens_element : (begin : ℕ) (z : List ℕ) (inner : Level) (outer : List Level) (vr : Vr) → ((tag_at inner.syntax z).group == 0xFFFE) ≡ false → vr_at inner.syntax z ≡ Some vr
    → head_opens begin z (inner ∷ outer) ≡ element_opens (form inner.syntax (read_as inner.syntax (tag_at inner.syntax z) vr) (length_at inner.syntax vr z)) inner.syntax (tag_at inner.syntax z) vr (length_at inner.syntax vr z) begin (inner ∷ outer)
opens_element begin z inner outer vr g v =
    ap (λ (x : Bool). cond {A = Opened} x (cond (is_item (tag_at inner.syntax z)) (item_opens inner.container inner.syntax (long_length (number inner.syntax 4 (drop 4 z))) begin (inner ∷ outer)) (without_value outer (closes inner.container)))
    (plain_opens (vr_at inner.syntax z) inner.syntax begin z (inner ∷ outer))) g
    ∙ ap (λ (x : Option Vr). plain_opens x inner.syntax begin z (inner ∷ outer)) v

pub opens_other : (begin : ℕ) (z : List ℕ) (inner : Level) (outer : List Level) (i : Bool) → ((tag_at inner.syntax z).group == 0xFFFE) ≡ true → is_item (tag_at inner.syntax z) ≡ i
    → head_opens begin z (inner ∷ outer) ≡ cond i (item_opens inner.container inner.syntax (long_length (number inner.syntax 4 (drop 4 z))) begin (inner ∷ outer)) (without_value outer (closes inner.container))
opens_other begin z inner outer i g is =
    ap (λ (x : Bool). cond {A = Opened} x (cond (is_item (tag_at inner.syntax z)) (item_opens inner.container inner.syntax (long_length (number inner.syntax 4 (drop 4 z))) begin (inner ∷ outer)) (without_value outer (closes inner.container)))
    (plain_opens (vr_at inner.syntax z) inner.syntax begin z (inner ∷ outer))) g
    ∙ ap (λ (x : Bool). cond {A = Opened} x (item_opens inner.container inner.syntax (long_length (number inner.syntax 4 (drop 4 z))) begin (inner ∷ outer)) (without_value outer (closes inner.container))) is

-- the bytes are just a head
pub record JustHead (s : Syntax) (z : List ℕ) : Type 0 where
  pub other : ((tag_at s z).group == 0xFFFE) ≡ true → length z ≡ 8
  pub element : (vr : Vr) → ((tag_at s z).group == 0xFFFE) ≡ false → vr_at s z ≡ Some vr → length z ≡ head_size s vr

element_head : (s : Syntax) (vr : Vr) (z : List ℕ) → ((tag_at s z).group == 0xFFFE) ≡ false → vr_at s z ≡ Some vr → length z ≡ head_size s vr → ElementHead s (tag_at s z) vr (length_at s vr z) z []
element_head s vr z g v e =
    record { no_item = eqb-false _ _ g; head = record { tag_is = refl; vr_is = sym v; whole = omega arith; length_is = refl; after_is = nothing_behind (head_size s vr) z e } }

pub item_head : (s : Syntax) (z : List ℕ) → is_item (tag_at s z) ≡ true → length z ≡ 8 → ItemHead s (long_length (number s 4 (drop 4 z))) z []
item_head s z i e = record { tag_is = sym (is_tag_true 0xFFFE 0xE000 (tag_at s z) i); whole = omega arith; length_is = refl; after_is = nothing_behind 8 z e }

pub delimiter_head : (s : Syntax) (tag : Tag) (z : List ℕ) → tag_at s z ≡ tag → length z ≡ 8 → Delimiter s tag z []
delimiter_head s tag z i e = record { tag_is = sym i; whole = omega arith; after_is = nothing_behind 8 z e }

pub with_head : (n : ℕ) (l : Length) → n ≤ with_length n l
with_head n (Known size) = omega arith
with_head n Undefined = omega arith

-- ---- in a set

pub set_element_behind : (s : Syntax) (start : ℕ) (path : Path) (whole : Trees) (b z : List ℕ) (begin : ℕ) (atoms : List Atom) (vr : Vr) → Placed s path whole nothing_open b
    → atoms ≡ front_atoms s (plug path whole nothing_open) → begin ≡ start + length b + length z
    → ((tag_at (behind s path whole) z).group == 0xFFFE) ≡ false → FitsElement (behind s path whole) (set_level s start path whole ∷ around s start path) (start + length b) z vr → length z ≡ head_size (behind s path whole) vr
    → Behind s start (b ++ z) atoms (head_opens begin z (set_level s start path whole ∷ around s start path))
set_element_behind s start path whole b z begin atoms vr h a at g f e =
    let s' = behind s path whole in
    let l = length_at s' vr z in
    let free : passes (with_length (length z) l) (room (start + length b) (set_level s start path whole ∷ around s start path)) ≡ false =
    subst (λ (n : ℕ). passes (with_length n l) (room (start + length b) (set_level s start path whole ∷ around s start path)) ≡ false) (sym e) f.fits in
    subst (Behind s start (b ++ z) atoms) (sym (opens_element begin z (set_level s start path whole) (around s start path) vr g f.vr_is))
    (element_behind s start path whole b z begin atoms (tag_at s' z) vr (form s' (read_as s' (tag_at s' z) vr) l) l
    (record {
      h = h;
      a = a;
      at = at;
      head = element_head s' vr z g f.vr_is e;
      free = free;
      roomy = room_at s start path whole nothing_open b z h (passes_less (length z) (with_length (length z) l) (room (start + length b) (set_level s start path whole ∷ around s start path)) (with_head (length z) l) free);
    }) refl f.has_form)
