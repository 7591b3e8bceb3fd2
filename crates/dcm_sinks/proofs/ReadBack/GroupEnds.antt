-- In little endian order no data set that is written goes on a meta group.
use Rattle.std.proofs.Common.{◌≡◌, ◌∙◌, ap, refl, ℕ, ◌<◌, List, [], ◌∷◌, ◌++◌, flat_map, length, drop, Bool, true, false, cond, not, arith, append_assoc}
use Rattle.std.specs.Prelude.{◌==◌, nat_lt, if◌then◌else◌}
use Rattle.std.specs.Int.{w16, to_le_bytes}
use Rattle.dcm_lemmas.proofs.Truth.{neither_second}
use Rattle.dcm_base.specs.declared.tag.Tag.{Tag}
use Rattle.dcm_base.specs.declared.vr.Vr.{Vr}
use Rattle.dcm_base.specs.declared.vr.Vr.TheVariants.{SQ, UN}
use Rattle.dcm_base.specs.declared.syntax.Syntax.{Syntax}
use Rattle.dcm_base.specs.declared.syntax.Syntax.TheVariants.{Implicit as implicit_in, Little as little_in, Big as big_in}
use Rattle.dcm_base.specs.Tables.Syntax.{Little, is_big}
use Rattle.dcm_base.specs.declared.length.Length.{Length}
use Rattle.dcm_base.specs.declared.length.Length.TheVariants.{Known, Undefined}
use Rattle.dcm_base.specs.Tree.Tree.{Trees, no_tree, leaf, sequence, fragments}
use Rattle.dcm_base.specs.Tables.Number.{number}
use Rattle.dcm_base.specs.Reading.Place.{is_data}
use Rattle.dcm_base.specs.File.MetaGroup.{the_end, too_few, group_place, group_place_of_vr}
use Rattle.dcm_base.specs.Bytes.Head.{vr_at}
use Rattle.dcm_base.specs.Tree.Value.{evened}
use Rattle.dcm_base.specs.Tables.Representation.{pad}
use Rattle.dcm_base.specs.Conversion.Recode.{head, even, too_long, leaf_bytes, sequence_delimiter, recoded_leaf, recoded_fragment, recode_set, recode_items}
use Rattle.dcm_sinks.proofs.ReadBack.HasRoom.{IsElement, Ready}

other_group : (t : Tag) → is_data t ≡ true → (t.group == 2) ≡ false
other_group t h = neither_second (t.group == 0xFFFE) (t.group == 2) h

-- bytes that begin with another number
other_number : (n a b : ℕ) (rest : List ℕ) → (number Little 2 (a ∷ b ∷ rest) == 2) ≡ false → group_place n (a ∷ b ∷ rest) ≡ the_end
unfolding group_place
other_number n a b rest e =
    ap (λ (c : Bool). cond (not c) the_end (cond (nat_lt (length (a ∷ b ∷ rest)) 8) too_few (group_place_of_vr n (a ∷ b ∷ rest) (vr_at Little (a ∷ b ∷ rest))))) e

group_back : (g : ℕ) (rest : List ℕ) → g < 65536 → number Little 2 (to_le_bytes w16 g ++ rest) ≡ g
group_back g rest h = omega arith

group_read : (t : Tag) (rest : List ℕ) → IsElement t → (number Little 2 (to_le_bytes w16 t.group ++ rest) == 2) ≡ false
group_read t rest h = ap (λ (k : ℕ). k == 2) (group_back t.group rest h.0.0) ∙ other_group t h.1

ends_at : (s : Syntax) (n : ℕ) (t : Tag) (vr : Vr) (size : Length) (rest : List ℕ) → is_big s ≡ false → IsElement t → group_place n (head s t vr size ++ rest) ≡ the_end
ends_at (implicit_in d) n t vr size rest b h = other_number n _ _ (drop 2 (head (implicit_in d) t vr size ++ rest)) (group_read t (drop 2 (head (implicit_in d) t vr size ++ rest)) h)
ends_at (little_in d) n t vr size rest b h = other_number n _ _ (drop 2 (head (little_in d) t vr size ++ rest)) (group_read t (drop 2 (head (little_in d) t vr size ++ rest)) h)
ends_at (big_in d) n t vr size rest b h = absurd cc

two_parts : (s : Syntax) (n : ℕ) (t : Tag) (vr : Vr) (size : Length) (a r : List ℕ) → is_big s ≡ false → IsElement t → group_place n ((head s t vr size ++ a) ++ r) ≡ the_end
two_parts s n t vr size a r b h = ap (group_place n) (append_assoc (head s t vr size) a r) ∙ ends_at s n t vr size (a ++ r) b h

three_parts : (s : Syntax) (n : ℕ) (t : Tag) (vr : Vr) (size : Length) (a c r : List ℕ) → is_big s ≡ false → IsElement t → group_place n (((head s t vr size ++ a) ++ c) ++ r) ≡ the_end
three_parts s n t vr size a c r b h = ap (group_place n) (append_assoc (head s t vr size ++ a) c r) ∙ two_parts s n t vr size a (c ++ r) b h

-- an element that is dropped or stays
kept_ends : (n : ℕ) (t : Tag) (x r : List ℕ) (c : Bool) → (t.element == 0) ≡ c → ((t.element == 0) ≡ false → group_place n (x ++ r) ≡ the_end) → group_place n r ≡ the_end → group_place n (cond c [] x ++ r) ≡ the_end
kept_ends n t x r true e here rest = rest
kept_ends n t x r false e here rest = here e

nothing_left : (n : ℕ) → group_place n [] ≡ the_end
unfolding group_place
nothing_left n = refl

pub set_ends : (s : Syntax) (n m : ℕ) (set : Trees) → is_big s ≡ false → Ready s m set → group_place n (recode_set s set) ≡ the_end
unfolding Ready recode_set
set_ends s n m no_tree b h = nothing_left n
set_ends s n m (leaf t vr v rest) b h =
    kept_ends n t (recoded_leaf s t vr v) (recode_set s rest) (t.element == 0) refl
    (λ e. two_parts s n t (if too_long s vr (length v) then UN else vr) (Known (even (length v))) (evened (pad vr) (leaf_bytes s vr (length v) v)) (recode_set s rest) b (h.0 e).0) (set_ends s n m rest b h.1)
set_ends s n m (sequence t vr declared items rest) b h =
    kept_ends n t (head s t SQ Undefined ++ recode_items s items ++ sequence_delimiter s) (recode_set s rest) (t.element == 0) refl
    (λ e. three_parts s n t SQ Undefined (recode_items s items) (sequence_delimiter s) (recode_set s rest) b (h.0 e).0) (set_ends s n m rest b h.1)
set_ends s n m (fragments t vr values rest) b h =
    kept_ends n t (head s t vr Undefined ++ flat_map (recoded_fragment s) values ++ sequence_delimiter s) (recode_set s rest) (t.element == 0) refl
    (λ e. three_parts s n t vr Undefined (flat_map (recoded_fragment s) values) (sequence_delimiter s) (recode_set s rest) b (h.0 e).0) (set_ends s n m rest b h.1)
