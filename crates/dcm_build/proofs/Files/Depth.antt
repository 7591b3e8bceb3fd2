-- How deep what stands open is, and how it is seen from the outermost on.
use Rattle.std.proofs.Common.{◌≡◌, ◌∙◌, ap, ℕ, suc, ◌+◌, ◌<◌, ◌≤◌, List, [], ◌∷◌, length, take, get_or, reverse, arith}
use Rattle.std.proofs.lemmas.List.{take_more, length-reverse}
use Rattle.dcm_base.specs.declared.level.Container.TheVariants.{Sequence as a_sequence}
use Rattle.dcm_stream.proofs.Containers.Reversed.{turned_more}
use Rattle.dcm_build.specs.declared.open_containers.Open.{Open}
use Rattle.dcm_build.specs.declared.open_containers.Open.TheVariants.{Sequence, FragmentList, Item}
use Rattle.dcm_build.specs.Nesting.{InSequences, Nests}
use Rattle.dcm_build.specs.OpenContainers.{container_of, lists_open}

-- an item has a sequence for itself
mutual
  pub items_few : (xs : List Open) → InSequences xs → length xs ≤ lists_open xs + lists_open xs
  items_few [] i = omega arith
  items_few (Sequence ∷ outer) i = let few = items_few outer i in omega (arith, few)
  items_few (FragmentList ∷ outer) i = let few = items_few outer i in omega (arith, few)
  items_few (Item reached ∷ outer) i = let few = sequence_few outer i.0 i.1 in omega (arith, few)

  pub sequence_few : (xs : List Open) → container_of xs ≡ a_sequence → InSequences xs → suc (length xs) ≤ lists_open xs + lists_open xs
  sequence_few [] e i = absurd (cc)
  sequence_few (Sequence ∷ outer) e i = let few = items_few outer i in omega (arith, few)
  sequence_few (FragmentList ∷ outer) e i = absurd (cc)
  sequence_few (Item reached ∷ outer) e i = absurd (cc)

-- one more has room
pub list_fits : (items : List Open) → Nests (reverse items) → lists_open (reverse items) < 64 → length items < 128
list_fits items n few =
    let deep = items_few (reverse items) n.items in
    let size : length (reverse items) ≡ length items = length-reverse items in
    omega (arith, deep, size)

pub item_fits : (items : List Open) → Nests (reverse items) → container_of (reverse items) ≡ a_sequence → length items < 128
item_fits items n inside =
    let deep = sequence_few (reverse items) inside n.items in
    let size : length (reverse items) ≡ length items = length-reverse items in
    let few = n.few in
    omega (arith, deep, size, few)

turned_take : (xs : List Open) (i : ℕ) (d : Open) → i < length xs → reverse (take (i + 1) xs) ≡ get_or xs i d ∷ reverse (take i xs)
turned_take xs i d h = ap reverse (take_more xs i d h) ∙ turned_more (take i xs) (get_or xs i d)

-- one container more
lists_of : (inner : Open) (outer : List Open) → lists_open (inner ∷ outer) ≡ lists_open (inner ∷ []) + lists_open outer
lists_of Sequence outer = omega arith
lists_of FragmentList outer = omega arith
lists_of (Item reached) outer = omega arith

few_of : (inner : Open) → lists_open (inner ∷ []) ≤ 1
few_of Sequence = omega arith
few_of FragmentList = omega arith
few_of (Item reached) = omega arith

pub lists_step : (xs : List Open) (i : ℕ) (d : Open) (count one : ℕ) → i < length xs → one ≡ lists_open (get_or xs i d ∷ []) → count ≡ lists_open (reverse (take i xs)) → count + one ≡ lists_open (reverse (take (i + 1) xs))
lists_step xs i d count one h e f =
    let turned : lists_open (reverse (take (i + 1) xs)) ≡ lists_open (get_or xs i d ∷ reverse (take i xs)) = ap lists_open (turned_take xs i d h) in
    let apart = lists_of (get_or xs i d) (reverse (take i xs)) in
    omega (arith, turned, apart)

pub one_few : (x : Open) (one : ℕ) → one ≡ lists_open (x ∷ []) → one ≤ 1
one_few x one e = let few = few_of x in omega (arith, few)
