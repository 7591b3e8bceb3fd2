-- Containers that are full close, the innermost first.
use Rattle.std.proofs.Common.{◌≡◌, ℕ, zero, suc, ◌+◌, ◌≤◌, ◌<◌, List, [], ◌∷◌, ◌++◌, length, Some, None, Bool, true, false, cond, Option, inl, inr, refl, sym, ap, ◌∙◌, subst, arith, append_assoc}
use Rattle.std.proofs.lemmas.Bool.{eqb-true, eqb-false, cases_Bool}
use Rattle.std.proofs.lemmas.List.{append-nil}
use Rattle.dcm_base.specs.declared.tag.Tag.{Tag}
use Rattle.dcm_base.specs.declared.vr.Vr.{Vr}
use Rattle.dcm_base.specs.declared.syntax.Syntax.{Syntax}
use Rattle.dcm_base.specs.declared.length.Length.{Length}
use Rattle.dcm_base.specs.declared.length.Length.TheVariants.{Known, Undefined}
use Rattle.dcm_base.specs.Tree.Tree.{Trees, no_tree, sequence, Items, no_item, item}
use Rattle.dcm_base.specs.Tree.Front.{OpenTree, nothing_open, open_leaf, open_sequence, open_fragments, no_open_item, open_item}
use Rattle.dcm_base.specs.Bytes.Head.{head_size}
use Rattle.dcm_base.specs.Bytes.Spelling.{inside, StaysOpen, SpellsFront}
use Rattle.dcm_base.specs.Reading.Size.{trees_size}
use Rattle.dcm_base.specs.declared.level.Level.{Level}
use Rattle.dcm_base.specs.declared.level.Container.TheVariants.{Sequence as a_sequence, FragmentList as a_fragment_list}
use Rattle.dcm_base.specs.Reading.Place.{level, room, passes, levels, tree_levels}
use Rattle.dcm_base.specs.Steps.Atoms.{Atom, closes_item, closes_sequence, front_atoms}
use Rattle.dcm_base.proofs.DataSets.Sizes.{element_takes, trees_take}
use Rattle.dcm_base.proofs.DataSets.Path.{then_trees, then_items, Path, at_top, in_item, plug, syntax_of, behind, item_length, Placed, set_stands, sequence_stands, leaf_stands, fragments_stand, fragment_stands, item_is_full, sequence_is_full}
use Rattle.dcm_base.proofs.DataSets.Levels.{begin_of, around, plug_levels, path_position}
use Rattle.dcm_base.proofs.DataSets.Stops.{set_level}
use Rattle.dcm_base.proofs.DataSets.Row.{item_closes_atoms, sequence_closes_atoms}
use Rattle.dcm_stream.proofs.Containers.Room.{passes_zero}
use Rattle.dcm_base.specs.Tree.Value.{order}
use Rattle.dcm_stream.specs.Reading.{ends_at, closes, full_closed, Opened, Sign, settled}
use Rattle.dcm_stream.proofs.Containers.Signs.{sign_so_far, set_then}

-- how many bytes of a value are to come
abbrev pub LeftIs : OpenTree → ℕ → Type 0
LeftIs nothing_open left = left ≡ 0
LeftIs (open_leaf tag vr size value) left = (length value + left ≡ size) × (0 < left)
LeftIs (open_sequence tag vr declared items last) left = left ≡ 0
LeftIs (open_fragments tag vr values None) left = left ≡ 0
LeftIs (open_fragments tag vr values (Some fragment)) left = (length fragment.1 + left ≡ fragment.0) × (0 < left)

-- what is read of a value that says the sign
abbrev pub SignIs : Syntax → OpenTree → Option Sign → Type 0
SignIs s nothing_open sign = sign ≡ None
SignIs s (open_leaf tag vr size value) sign = sign ≡ sign_so_far tag vr (order s vr value)
SignIs s (open_sequence tag vr declared items last) sign = sign ≡ None
SignIs s (open_fragments tag vr values last) sign = sign ≡ None

-- bytes lead to a place with these open containers, so many bytes of a value to come, and these atoms; what is open may be full
pub record Opens (s : Syntax) (start : ℕ) (b : List ℕ) (open_levels : List Level) (left : ℕ) (sign : Option Sign) (atoms : List Atom) : Type 0 where
  pub path : Path
  pub whole : Trees
  pub open_tree : OpenTree
  pub placed : Placed s path whole open_tree b
  pub levels_are : open_levels ≡ levels s start (plug path whole open_tree)
  pub atoms_are : atoms ≡ front_atoms s (plug path whole open_tree)
  pub left_is : LeftIs open_tree left
  pub sign_is : SignIs (behind s path whole) open_tree sign
  pub fits : passes left (room (start + length b) open_levels) ≡ false

-- the same of a place that is not full
pub record Stands (s : Syntax) (start : ℕ) (b : List ℕ) (open_levels : List Level) (left : ℕ) (sign : Option Sign) (atoms : List Atom) : Type 0 where
  pub opens : Opens s start b open_levels left sign atoms
  pub spelled : SpellsFront s (plug opens.path opens.whole opens.open_tree) b

full_by : (position : ℕ) (inner : Level) (outer : List Level) → ends_at position inner.end_offset ≡ true
    → full_closed position (inner ∷ outer) ≡ ((full_closed position outer).0, closes inner.container ∷ (full_closed position outer).1)
unfolding full_closed
full_by position inner outer h =
    ap (λ (x : Bool). cond {A = List Level × List Atom} x ((full_closed position outer).0, closes inner.container ∷ (full_closed position outer).1) (inner ∷ outer, [])) h

open_by : (position : ℕ) (inner : Level) (outer : List Level) → ends_at position inner.end_offset ≡ false → full_closed position (inner ∷ outer) ≡ (inner ∷ outer, [])
unfolding full_closed
open_by position inner outer h =
    ap (λ (x : Bool). cond {A = List Level × List Atom} x ((full_closed position outer).0, closes inner.container ∷ (full_closed position outer).1) (inner ∷ outer, [])) h

-- these containers stand once the full ones are closed
abbrev pub Settles : Syntax → (start : ℕ) → List ℕ → List Level → List Atom → Type 0
Settles s start b ls atoms = Stands s start b (full_closed (start + length b) ls).0 0 None (atoms ++ (full_closed (start + length b) ls).1)

settles_open : (s : Syntax) (start : ℕ) (b : List ℕ) (inner : Level) (outer : List Level) (atoms : List Atom) → ends_at (start + length b) inner.end_offset ≡ false
    → Stands s start b (inner ∷ outer) 0 None atoms → Settles s start b (inner ∷ outer) atoms
settles_open s start b inner outer atoms e h =
    subst (λ (x : List Level × List Atom). Stands s start b x.0 0 None (atoms ++ x.1)) (sym (open_by (start + length b) inner outer e))
    (subst (λ (x : List Atom). Stands s start b (inner ∷ outer) 0 None x) (sym (append-nil atoms)) h)

settles_full : (s : Syntax) (start : ℕ) (b : List ℕ) (inner : Level) (outer : List Level) (atoms : List Atom) → ends_at (start + length b) inner.end_offset ≡ true
    → Settles s start b outer (atoms ++ closes inner.container ∷ []) → Settles s start b (inner ∷ outer) atoms
settles_full s start b inner outer atoms e h =
    subst (λ (x : List Level × List Atom). Stands s start b x.0 0 None (atoms ++ x.1)) (sym (full_by (start + length b) inner outer e))
    (subst (λ (x : List Atom). Stands s start b (full_closed (start + length b) outer).0 0 None x) (append_assoc atoms (closes inner.container ∷ []) (full_closed (start + length b) outer).1) h)

-- ---- sets and sequences

set_open : (s : Syntax) (start : ℕ) (path : Path) (whole : Trees) (b : List ℕ) (atoms : List Atom) (h : Placed s path whole nothing_open b) → StaysOpen (item_length path) false h.c
    → atoms ≡ front_atoms s (plug path whole nothing_open) → Stands s start b (set_level s start path whole ∷ around s start path) 0 None atoms
unfolding tree_levels
set_open s start path whole b atoms h stays a =
    record {
      opens = record { path = path; whole = whole; open_tree = nothing_open; placed = h; levels_are = sym (plug_levels s start path whole nothing_open); atoms_are = a; left_is = refl; sign_is = refl; fits = passes_zero (room (start + length b) (set_level s start path whole ∷ around s start path)) };
      spelled = set_stands s path whole b h stays;
    }

abbrev pub list_level : Syntax → (start : ℕ) → Path → Trees → Vr → Length → Level
list_level s start path whole vr declared =
    level a_sequence (inside (behind s path whole) vr) declared (begin_of s start path + trees_size (syntax_of s path) whole + head_size (behind s path whole) vr)

list_open : (s : Syntax) (start : ℕ) (path : Path) (whole : Trees) (tag : Tag) (vr : Vr) (declared : Length) (items : Items) (b : List ℕ) (atoms : List Atom)
    (h : Placed s path whole (open_sequence tag vr declared items no_open_item) b) → StaysOpen declared false h.open_at.0
    → atoms ≡ front_atoms s (plug path whole (open_sequence tag vr declared items no_open_item))
    → Stands s start b (list_level s start path whole vr declared ∷ set_level s start path whole ∷ around s start path) 0 None atoms
unfolding tree_levels
list_open s start path whole tag vr declared items b atoms h stays a =
    record {
      opens = record {
        path = path;
        whole = whole;
        open_tree = open_sequence tag vr declared items no_open_item;
        placed = h;
        levels_are = sym (plug_levels s start path whole (open_sequence tag vr declared items no_open_item));
        atoms_are = a;
        left_is = refl;
        sign_is = refl;
        fits = passes_zero (room (start + length b) (list_level s start path whole vr declared ∷ set_level s start path whole ∷ around s start path));
      };
      spelled = sequence_stands s path whole tag vr declared items b h stays;
    }

is_full : (begin size position n : ℕ) → position ≡ begin + n → ends_at position (Some (begin + size)) ≡ true → n ≡ size
is_full begin size position n p e = let k = eqb-true (begin + size) position e in omega arith

not_full : (begin size position n : ℕ) → position ≡ begin + n → n ≤ size → ends_at position (Some (begin + size)) ≡ false → n < size
not_full begin size position n p le e = let k = eqb-false (begin + size) position e in omega arith

-- what is settled of the set round a sequence
abbrev SetSettles : Syntax → (start : ℕ) → Path → List ℕ → Type 0
SetSettles s start path b = (whole : Trees) (atoms : List Atom) → Placed s path whole nothing_open b → atoms ≡ front_atoms s (plug path whole nothing_open)
    → Settles s start b (set_level s start path whole ∷ around s start path) atoms

list_settles : (s : Syntax) (start : ℕ) (path : Path) (whole : Trees) (tag : Tag) (vr : Vr) (declared : Length) (items : Items) (b : List ℕ) (atoms : List Atom) → SetSettles s start path b
    → (h : Placed s path whole (open_sequence tag vr declared items no_open_item) b) → atoms ≡ front_atoms s (plug path whole (open_sequence tag vr declared items no_open_item))
    → Settles s start b (list_level s start path whole vr declared ∷ set_level s start path whole ∷ around s start path) atoms
list_settles s start path whole tag vr Undefined items b atoms set h a =
    settles_open s start b (list_level s start path whole vr Undefined) (set_level s start path whole ∷ around s start path) atoms refl (list_open s start path whole tag vr Undefined items b atoms h tt a)
list_settles s start path whole tag vr (Known size) items b atoms set h a =
    let s' = behind s path whole in
    let begin = begin_of s start path + trees_size (syntax_of s path) whole + head_size s' vr in
    let inner = list_level s start path whole vr (Known size) in
    let position : start + length b ≡ begin + length h.open_at.0 =
    omega (arith, path_position s start path b h.c h.path_at, trees_take (syntax_of s path) whole h.c h.d h.trees_at, element_takes s' tag vr (Known size) h.d h.open_at.0 h.open_at.2) in
    elim (cases_Bool (ends_at (start + length b) inner.end_offset)) [
      | inl e ↦ settles_full s start b inner (set_level s start path whole ∷ around s start path) atoms e
          (subst (λ (x : Level). Settles s start b (x ∷ around s start path) (atoms ++ closes_sequence ∷ [])) (set_then s start path whole (sequence tag vr (Known size) items no_tree))
          (set (then_trees whole (sequence tag vr (Known size) items no_tree)) (atoms ++ closes_sequence ∷ [])
          (sequence_is_full s path whole tag vr size items b h (is_full begin size (start + length b) (length h.open_at.0) position e))
          (ap (λ (x : List Atom). x ++ closes_sequence ∷ []) a ∙ sym (sequence_closes_atoms s path whole tag vr (Known size) items))))
      | inr e ↦ settles_open s start b inner (set_level s start path whole ∷ around s start path) atoms e
          (list_open s start path whole tag vr (Known size) items b atoms h (not_full begin size (start + length b) (length h.open_at.0) position h.open_at.3 e) a)
    ]

pub set_settles : (s : Syntax) (start : ℕ) (path : Path) (b : List ℕ) → SetSettles s start path b
set_settles s start at_top b whole atoms h a = settles_open s start b (set_level s start at_top whole) [] atoms refl (set_open s start at_top whole b atoms h tt a)
set_settles s start (in_item outer above tag vr declared items Undefined) b whole atoms h a =
    let path = in_item outer above tag vr declared items Undefined in
    settles_open s start b (set_level s start path whole) (around s start path) atoms refl (set_open s start path whole b atoms h tt a)
set_settles s start (in_item outer above tag vr declared items (Known size)) b whole atoms h a =
    let path = in_item outer above tag vr declared items (Known size) in
    let begin = begin_of s start path in
    let inner = set_level s start path whole in
    let position = path_position s start path b h.c h.path_at in
    elim (cases_Bool (ends_at (start + length b) inner.end_offset)) [
      | inl e ↦ settles_full s start b inner (around s start path) atoms e
          (list_settles s start outer above tag vr declared (then_items items (item (Known size) whole no_item)) b (atoms ++ closes_item ∷ []) (set_settles s start outer b)
          (item_is_full s outer above tag vr declared items size whole b h (is_full begin size (start + length b) (length h.c) position e))
          (ap (λ (x : List Atom). x ++ closes_item ∷ []) a ∙ sym (item_closes_atoms s outer above tag vr declared items (Known size) whole)))
      | inr e ↦ settles_open s start b inner (around s start path) atoms e
          (set_open s start path whole b atoms h (not_full begin size (start + length b) (length h.c) position h.stays e) a)
    ]

-- ---- behind a head or a byte

position_at : (position : ℕ) (o : Opened) (s : Syntax) (start : ℕ) (b : List ℕ) (atoms more : List Atom) → Settles s start b o.levels (atoms ++ more)
    → Stands s start b (full_closed (start + length b) o.levels).0 0 None (atoms ++ (more ++ (full_closed (start + length b) o.levels).1))
position_at position o s start b atoms more h = subst (λ (x : List Atom). Stands s start b (full_closed (start + length b) o.levels).0 0 None x) (append_assoc atoms more (full_closed (start + length b) o.levels).1) h

settles_at : (s : Syntax) (start : ℕ) (path : Path) (whole : Trees) (o : OpenTree) (b : List ℕ) (ls : List Level) (atoms : List Atom) → Placed s path whole o b → ls ≡ levels s start (plug path whole o)
    → atoms ≡ front_atoms s (plug path whole o) → LeftIs o 0 → Settles s start b ls atoms
unfolding tree_levels
settles_at s start path whole nothing_open b ls atoms h l a left =
    subst (λ (x : List Level). Settles s start b x atoms) (sym (l ∙ plug_levels s start path whole nothing_open)) (set_settles s start path b whole atoms h a)
settles_at s start path whole (open_leaf tag vr size value) b ls atoms h l a left = absurd (omega arith)
settles_at s start path whole (open_sequence tag vr declared items no_open_item) b ls atoms h l a left =
    subst (λ (x : List Level). Settles s start b x atoms) (sym (l ∙ plug_levels s start path whole (open_sequence tag vr declared items no_open_item)))
    (list_settles s start path whole tag vr declared items b atoms (set_settles s start path b) h a)
settles_at s start path whole (open_sequence tag vr declared items (open_item m f)) b ls atoms h l a left = absurd h.open_at
settles_at s start path whole (open_fragments tag vr values None) b ls atoms h l a left =
    subst (λ (x : List Level). Settles s start b x atoms) (sym (l ∙ plug_levels s start path whole (open_fragments tag vr values None)))
    (settles_open s start b (level a_fragment_list (behind s path whole) Undefined (begin_of s start path + trees_size (syntax_of s path) whole + head_size (behind s path whole) vr)) (set_level s start path whole ∷ around s start path) atoms refl
    (record {
      opens = record {
        path = path;
        whole = whole;
        open_tree = open_fragments tag vr values None;
        placed = h;
        levels_are = sym (plug_levels s start path whole (open_fragments tag vr values None));
        atoms_are = a;
        left_is = refl;
        sign_is = refl;
        fits = passes_zero (room (start + length b) (level a_fragment_list (behind s path whole) Undefined (begin_of s start path + trees_size (syntax_of s path) whole + head_size (behind s path whole) vr) ∷ set_level s start path whole ∷ around s start path));
      };
      spelled = fragments_stand s path whole tag vr values b h;
    }))
settles_at s start path whole (open_fragments tag vr values (Some fragment)) b ls atoms h l a left = absurd (omega arith)

stands_at : (s : Syntax) (path : Path) (whole : Trees) (o : OpenTree) (b : List ℕ) (left : ℕ) → Placed s path whole o b → LeftIs o left → 0 < left → SpellsFront s (plug path whole o) b
stands_at s path whole nothing_open b left h l lt = absurd (omega arith)
stands_at s path whole (open_leaf tag vr size value) b left h l lt = leaf_stands s path whole tag vr size value b h (omega (arith, l.0))
stands_at s path whole (open_sequence tag vr declared items last) b left h l lt = absurd (omega arith)
stands_at s path whole (open_fragments tag vr values None) b left h l lt = absurd (omega arith)
stands_at s path whole (open_fragments tag vr values (Some (size, value))) b left h l lt = fragment_stands s path whole tag vr values size value b h (omega (arith, l.0))

pub no_sign : (s : Syntax) (o : OpenTree) (sign : Option Sign) → LeftIs o 0 → SignIs s o sign → sign ≡ None
no_sign s nothing_open sign l k = k
no_sign s (open_leaf tag vr size value) sign l k = absurd (omega arith)
no_sign s (open_sequence tag vr declared items last) sign l k = k
no_sign s (open_fragments tag vr values last) sign l k = k

-- what a head or a byte opens stands once the full containers are closed
pub settles : (s : Syntax) (start : ℕ) (b : List ℕ) (o : Opened) (left : ℕ) (atoms : List Atom) → Opens s start b o.levels left o.sign (atoms ++ o.atoms)
    → let r = settled (start + length b) o left in Stands s start b r.0.levels r.0.left r.0.sign (atoms ++ r.1)
settles s start b o zero atoms h =
    subst (λ (x : Option Sign). let r = settled (start + length b) o 0 in Stands s start b r.0.levels 0 x (atoms ++ r.1)) (sym (no_sign (behind s h.path h.whole) h.open_tree o.sign h.left_is h.sign_is))
    (position_at (start + length b) o s start b atoms o.atoms (settles_at s start h.path h.whole h.open_tree b o.levels (atoms ++ o.atoms) h.placed h.levels_are h.atoms_are h.left_is))
settles s start b o (suc left) atoms h = record { opens = h; spelled = stands_at s h.path h.whole h.open_tree b (suc left) h.placed h.left_is (omega arith) }
