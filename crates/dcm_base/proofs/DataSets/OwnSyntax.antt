-- A conversion to the file's own transfer syntax reads it as its dump does: there is nothing that it bars.
use Rattle.std.proofs.Common.{◌≡◌, ◌∙◌, ap, ℕ, List, [], ◌∷◌, length, drop, Option, Some, None, Bool, true, false, not, refl, inl, inr, ◌⊎◌}
use Rattle.std.specs.Prelude.{◌+◌, ◌==◌, ◌&&◌, nat_le, nat_lt, if◌then◌else◌}
use Rattle.dcm_base.specs.declared.tag.Tag.{Tag}
use Rattle.dcm_base.specs.declared.vr.Vr.{Vr}
use Rattle.dcm_base.specs.declared.vr.Vr.TheVariants.{SQ, UN, OB, OW}
use Rattle.dcm_base.specs.declared.syntax.Syntax.{Syntax}
use Rattle.dcm_base.specs.declared.syntax.Syntax.TheVariants.{Implicit as implicit_in, Little as little_in, Big as big_in}
use Rattle.dcm_base.specs.Tables.Syntax.{Little}
use Rattle.dcm_base.specs.declared.level.Container.{Container}
use Rattle.dcm_base.specs.declared.level.Level.{Level}
use Rattle.dcm_base.specs.declared.fault.Fault.{Fault}
use Rattle.dcm_base.specs.declared.fault.Fault.TheVariants.{EndsEarly, FragmentsBarred, PassesEnd, TagNotAllowed, TooDeep, UndefinedLength}
use Rattle.dcm_base.specs.declared.length.Length.{Length}
use Rattle.dcm_base.specs.declared.length.Length.TheVariants.{Known, Undefined}
use Rattle.dcm_base.specs.Reading.Bars.{is_fragment_form, holds_fragments, no_bar, fragments_bar, target_bar}
use Rattle.dcm_base.specs.Tree.Front.{Front, front, OpenTree, nothing_open, open_leaf, open_sequence, open_fragments, OpenItem, no_open_item, open_item}
use Rattle.dcm_base.specs.Bytes.Head.{head_size, tag_at, vr_at, length_at, long_length}
use Rattle.dcm_base.specs.Tables.Number.{number}
use Rattle.dcm_base.specs.declared.dictionary.Dictionary.{Dictionary}
use Rattle.dcm_base.specs.declared.dictionary.Dictionary.TheVariants.{Extract, Standard, Signed}
use Rattle.dcm_base.specs.Tables.Syntax.{read_by}
use Rattle.dcm_base.specs.Tree.Tree.{Trees, no_tree, leaf, sequence, fragments}
use Rattle.dcm_base.specs.Reading.Place.{depth, is_allowed, passes, room, levels, set_levels, tree_levels, item_levels, value_open}
use Rattle.dcm_base.specs.Reading.Reads.{Reads, StopsFirst}
use Rattle.dcm_base.specs.Bytes.Spelling.{form, inside, after, after_trees, read_as}
use Rattle.dcm_base.specs.Reading.Stop.{Stop, complete, refused, is_empty, is_the_data_set, barred, opens_list, with_length, first_case, has_no_form, element_cases, element_stop, item_stop, head_stop, innermost_stop, value_stop, stop_at, or_else}
use Rattle.dcm_base.specs.Tables.Tag.{is_item}

-- ---- the innermost container is not of explicit little endian

inside_apart : (s : Syntax) (vr : Vr) → holds_fragments s ≡ false → holds_fragments (inside s vr) ≡ false
unfolding inside
inside_apart s UN h = refl
inside_apart s vr h = h

by_apart : (e : Dictionary) (s : Syntax) → holds_fragments s ≡ false → holds_fragments (read_by e s) ≡ false
by_apart e (implicit_in d) h = refl
by_apart e (little_in d) h = absurd (cc)
by_apart e (big_in d) h = refl

behind_apart : (s : Syntax) (x : Trees) → holds_fragments s ≡ false → holds_fragments (after_trees s x) ≡ false
behind_apart s no_tree h = h
behind_apart s (leaf tag vr value rest) h = behind_apart (after s tag vr value) rest (by_apart _ s h)
behind_apart s (sequence tag vr declared items rest) h = behind_apart s rest h
behind_apart s (fragments tag vr values rest) h = behind_apart s rest h

abbrev Apart : List Level → Type 0
Apart [] = Unit {0}
Apart (inner ∷ outer) = holds_fragments inner.syntax ≡ false

mutual
  unfolding set_levels

  set_apart : (s : Syntax) (container : Container) (declared : Length) (begin : ℕ) (outer : List Level) (f : Front) → holds_fragments s ≡ false → Apart (set_levels s container declared begin outer f)
  set_apart s container declared begin outer (front whole open_tree reached closed) h = tree_apart (after_trees s whole) _ _ open_tree (behind_apart s whole h) (behind_apart s whole h)

  tree_apart : (s : Syntax) (begin : ℕ) (outer : List Level) (open_tree : OpenTree) → holds_fragments s ≡ false → Apart outer → Apart (tree_levels s begin outer open_tree)
  tree_apart s begin outer nothing_open h k = k
  tree_apart s begin outer (open_leaf tag vr size value) h k = k
  tree_apart s begin outer (open_sequence tag vr declared items last) h k = item_apart (inside s vr) _ _ last (inside_apart s vr h) (inside_apart s vr h)
  tree_apart s begin outer (open_fragments tag vr values last) h k = h

  item_apart : (s : Syntax) (begin : ℕ) (outer : List Level) (last : OpenItem) → holds_fragments s ≡ false → Apart outer → Apart (item_levels s begin outer last)
  item_apart s begin outer no_open_item h k = k
  item_apart s begin outer (open_item declared set) h k = set_apart s _ _ _ _ set h

levels_apart : (s : Syntax) (start : ℕ) (f : Front) → holds_fragments s ≡ false → Apart (levels s start f)
unfolding levels
levels_apart s start f h = set_apart s _ _ _ _ f h

-- ---- what would be barred has no form there

barred_before : (s : Syntax) (t : Tag) (vr : Vr) (declared : Length) → holds_fragments s ≡ false
    → (is_fragment_form (form Little vr declared) ≡ false) ⊎ (has_no_form (form s (read_as s t vr) declared) ≡ true)
unfolding form
barred_before s t SQ declared h = inl refl
barred_before s t UN Undefined h = inl refl
barred_before (implicit_in d) t OB Undefined h = inr refl
barred_before (little_in d) t OB Undefined h = absurd (cc)
barred_before (big_in Extract) t OB Undefined h = inr refl
barred_before (big_in Standard) t OB Undefined h = inr refl
barred_before (big_in Signed) t OB Undefined h = inr refl
barred_before (implicit_in d) t OW Undefined h = inr refl
barred_before (little_in d) t OW Undefined h = absurd (cc)
barred_before (big_in Extract) t OW Undefined h = inr refl
barred_before (big_in Standard) t OW Undefined h = inr refl
barred_before (big_in Signed) t OW Undefined h = inr refl
barred_before s t vr (Known n) h = inl refl
barred_before s t vr Undefined h = inl refl

third_decides : (a b c : Bool) (x y z : Stop) (more others : List (Bool × Stop)) → c ≡ true → first_case ((a, x) ∷ (b, y) ∷ (c, z) ∷ more) ≡ first_case ((a, x) ∷ (b, y) ∷ (c, z) ∷ others)
third_decides true b c x y z more others e = refl
third_decides false true c x y z more others e = refl
third_decides false false true x y z more others e = refl
third_decides false false false x y z more others e = absurd (cc)

module _ (f : Front) where
  same_cases : (s : Syntax) (around : List Level) (position : ℕ) (rest : List ℕ) (tag : Tag) (vr : Vr) (declared : Length) → holds_fragments s ≡ false
      → first_case (element_cases (fragments_bar f tag vr declared) s around position rest tag vr declared) ≡ first_case (element_cases None s around position rest tag vr declared)
  same_cases s around position rest tag vr declared h =
      elim (barred_before s tag vr declared h) [
        | inl e ↦ ap (λ (b : Bool). first_case (element_cases (if b then Some FragmentsBarred else None) s around position rest tag vr declared)) e
        | inr e ↦ third_decides (passes (head_size s vr) (room position around)) (nat_lt (length rest) (head_size s vr)) (has_no_form (form s (read_as s tag vr) declared))
            (refused PassesEnd position) (refused EndsEarly (position + length rest)) (refused UndefinedLength position) (later (fragments_bar f tag vr declared)) (later None) e
      ]
    where
      later : Option Fault → List (Bool × Stop)
      later bar =
          (passes (with_length (head_size s vr) declared) (room position around), refused PassesEnd position)
          ∷ (opens_list (form s (read_as s tag vr) declared) && nat_le 64 (depth around), refused TooDeep position)
          ∷ barred bar position

  same_element : (s : Syntax) (around : List Level) (position : ℕ) (rest : List ℕ) (o : Option Vr) → holds_fragments s ≡ false → element_stop (fragments_bar f) s around position rest o ≡ element_stop (no_bar f) s around position rest o
  same_element s around position rest None h = refl
  same_element s around position rest (Some vr) h = same_cases s around position rest (tag_at s rest) vr (length_at s vr rest) h

  same_head : (inner : Level) (around : List Level) (position : ℕ) (rest : List ℕ) → holds_fragments inner.syntax ≡ false → head_stop (fragments_bar f) inner around position rest ≡ head_stop (no_bar f) inner around position rest
  same_head inner around position rest h =
      ap (λ (o : Option Stop). if not ((tag_at inner.syntax rest).group == 0xFFFE) then o else (if is_item (tag_at inner.syntax rest) then item_stop inner.container around position (long_length (number inner.syntax 4 (drop 4 rest))) else None))
      (same_element inner.syntax around position rest (vr_at inner.syntax rest) h)

  same_place : (ls : List Level) (position : ℕ) (rest : List ℕ) → Apart ls → innermost_stop (fragments_bar f) ls position rest ≡ innermost_stop (no_bar f) ls position rest
  same_place [] position rest h = refl
  same_place (inner ∷ outer) position rest h = ap (or_else (first_case before_heads)) (same_head inner (inner ∷ outer) position rest h)
    where
      before_heads : List (Bool × Stop)
      before_heads =
          (passes 8 (room position (inner ∷ outer)), refused PassesEnd position)
          ∷ (is_the_data_set inner.container && is_empty rest, complete)
          ∷ (nat_lt (length rest) 8, refused EndsEarly (position + length rest))
          ∷ (not (is_allowed inner.container inner.declared (tag_at inner.syntax rest)), refused TagNotAllowed position)
          ∷ []

same_stop : (s : Syntax) (start : ℕ) (f : Front) (position : ℕ) (rest : List ℕ) → holds_fragments s ≡ false → stop_at fragments_bar s start f position rest ≡ stop_at no_bar s start f position rest
unfolding stop_at
same_stop s start f position rest h = ap (λ (o : Option Stop). if value_open f then value_stop position rest else o) (same_place f (levels s start f) position rest (levels_apart s start f h))

first_alike : (s : Syntax) (start : ℕ) (bytes : List ℕ) (f : Front) (stop : Stop) → holds_fragments s ≡ false → StopsFirst no_bar s start bytes f stop → StopsFirst fragments_bar s start bytes f stop
first_alike s start bytes f stop apart h = record {
  read = h.read;
  rest = h.rest;
  parts = h.parts;
  spelled = h.spelled;
  stops = same_stop s start f (start + length h.read) h.rest apart ∙ h.stops;
  first = λ earlier later g parts less spelled. same_stop s start g (start + length earlier) later apart ∙ h.first earlier later g parts less spelled;
}

pub own_reads : (s : Syntax) (start : ℕ) (bytes : List ℕ) (f : Front) (stop : Stop) → Reads no_bar s start bytes f stop → Reads (target_bar s) s start bytes f stop
own_reads (little_in d) start bytes f stop h = h
own_reads (implicit_in d) start bytes f stop (reached, why, first, told, is) = (reached, why, first_alike (implicit_in d) start _ reached why refl first, told, is)
own_reads (big_in d) start bytes f stop (reached, why, first, told, is) = (reached, why, first_alike (big_in d) start _ reached why refl first, told, is)
