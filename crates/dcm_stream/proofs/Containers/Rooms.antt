-- Room and depth of the open containers as they are kept.
use Rattle.std.proofs.Common.{◌≡◌, ◌∙◌, ap, sym, subst, refl, ℕ, ◌+◌, ◌-◌, ◌≤◌, min, List, [], ◌∷◌, ◌++◌, length, reverse, Option, Some, None, arith}
use Rattle.std.specs.Prelude.{slice_get}
use Rattle.std.specs.Option.{option_to_list}
use Rattle.dcm_base.specs.declared.level.Container.{Container}
use Rattle.dcm_base.specs.declared.level.Container.TheVariants.{DataSet, Item, Sequence, FragmentList}
use Rattle.dcm_base.specs.declared.level.Level.{Level}
use Rattle.dcm_base.specs.Reading.Place.{distance, least, room, counts, depth}
use Rattle.dcm_stream.specs.declared.levels.OpenLevel.{OpenLevel}
use Rattle.dcm_base.specs.declared.syntax.Syntax.{Syntax}
use Rattle.dcm_stream.specs.Reading.{in_syntax, innermost_in}
use Rattle.dcm_stream.specs.Levels.{levels_of, nearest_end, AreSummed}
use Rattle.dcm_stream.proofs.Containers.Reversed.{turned_more}

-- ---- the nearest end

-- the lesser of two distances is that to the lesser end
least_distance : (position : ℕ) (a b : Option ℕ) → least (distance position a) (distance position b) ≡ distance position (least a b)
least_distance position None b = refl
least_distance position (Some x) None = refl
least_distance position (Some x) (Some y) = let e : min (x - position) (y - position) ≡ min x y - position = omega arith in ap (λ (n : ℕ). Some n) e

pub room_is : (position : ℕ) (ls : List Level) → room position ls ≡ distance position (nearest_end ls)
unfolding room nearest_end
room_is position [] = refl
room_is position (inner ∷ outer) =
    ap (λ (x : Option ℕ). least (distance position inner.end_offset) x) (room_is position outer) ∙ least_distance position inner.end_offset (nearest_end outer)

-- ---- the depth

counts_one : (container : Container) → counts container ≤ 1
counts_one DataSet = omega arith
counts_one Item = omega arith
counts_one Sequence = omega arith
counts_one FragmentList = omega arith

pub counts_few : (count : ℕ) (container : Container) → count ≡ counts container → count ≤ 1
counts_few count container e = omega (arith, counts_one container)

pub depth_few : (ls : List Level) → depth ls ≤ length ls
unfolding depth
depth_few [] = omega arith
depth_few (inner ∷ outer) = omega (arith, counts_one inner.container, depth_few outer)

-- ---- one container more

pub push_summed : (items new : List OpenLevel) (o : OpenLevel) (ls : List Level) → AreSummed (reverse items) → levels_of (reverse items) ≡ ls → new ≡ items ++ o ∷ [] → o.nearest ≡ least o.level.end_offset (nearest_end ls) → o.depth ≡ depth ls + counts o.level.container
    → AreSummed (reverse new)
unfolding nearest_end depth
push_summed items new o ls h v e near deep =
    subst AreSummed (sym (ap reverse e ∙ turned_more items o)) (
      near ∙ ap (λ (x : List Level). least o.level.end_offset (nearest_end x)) (sym v),
      (let same : depth ls ≡ depth (levels_of (reverse items)) = ap depth (sym v) in omega (arith, deep, same)),
      h,
    )

-- ---- another syntax in the last

abbrev with_syntax : Syntax → OpenLevel → OpenLevel
with_syntax s o = record { level = in_syntax s o.level; nearest = o.nearest; depth = o.depth }

summed_last : (s : Syntax) (o : OpenLevel) (outer : List OpenLevel) → AreSummed (o ∷ outer) → AreSummed (with_syntax s o ∷ outer)
unfolding nearest_end depth
summed_last s o outer h = h

pub syntax_summed : (items front new : List OpenLevel) (s : Syntax) (o : OpenLevel) → AreSummed (reverse items) → items ≡ front ++ o ∷ [] → new ≡ front ++ with_syntax s o ∷ [] → AreSummed (reverse new)
syntax_summed items front new s o h before after =
    subst AreSummed (sym (ap reverse after ∙ turned_more front (with_syntax s o)))
    (summed_last s o (reverse front) (subst AreSummed (ap reverse before ∙ turned_more front o) h))

pub syntax_levels : (items front new : List OpenLevel) (s : Syntax) (o : OpenLevel) (ls : List Level) → levels_of (reverse items) ≡ ls → items ≡ front ++ o ∷ [] → new ≡ front ++ with_syntax s o ∷ [] → levels_of (reverse new) ≡ innermost_in s ls
syntax_levels items front new s o ls v before after =
    ap (λ (x : List OpenLevel). levels_of (reverse x)) after ∙ ap levels_of (turned_more front (with_syntax s o))
    ∙ ap (λ (x : List OpenLevel). innermost_in s (levels_of x)) (sym (turned_more front o)) ∙ ap (λ (x : List OpenLevel). innermost_in s (levels_of (reverse x))) (sym before) ∙ ap (innermost_in s) v

-- the last is what is taken away
pub last_popped : (items slice front : List OpenLevel) (r : Option OpenLevel) (o : OpenLevel) → slice ≡ items → Some o ≡ slice_get slice (length slice - 1) → r ≡ slice_get items (length items - 1) → items ≡ front ++ option_to_list r → items ≡ front ++ o ∷ []
last_popped items slice front r o same last popped parts =
    let is : r ≡ Some o = popped ∙ ap (λ (x : List OpenLevel). slice_get x (length x - 1)) (sym same) ∙ sym last in
    parts ∙ ap (λ (x : Option OpenLevel). front ++ option_to_list x) is
