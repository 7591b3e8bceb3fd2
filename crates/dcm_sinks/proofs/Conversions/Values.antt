-- A value, whole or open, that the encode sink takes byte by byte.
use Rattle.std.proofs.Common.{◌≡◌, ◌<◌, ◌≤◌, ℕ, zero, suc, ◌+◌, ◌*◌, ◌/◌, ◌%◌, ◌==◌, List, [], ◌∷◌, ◌++◌, length, take, drop, reverse, ap, sym, ◌∙◌, refl, append_assoc, arith, map, flat_map, fold, Bool, true, false, cond, not, Some, None}
use Rattle.std.proofs.lemmas.Bool.{cases_lt}
use mathlib.Core.Logic.{⊎_elim}
use Rattle.std.proofs.lemmas.List.{length-append, append-nil, length-take, length-drop, take-append-drop, reverse-reverse}
use Rattle.std.proofs.Math.Seq.{take-append-add}
use Rattle.std.proofs.Math.Nat.{div-eq_of_lt, add-div_left}
use Rattle.dcm_base.specs.declared.vr.Vr.{Vr}
use Rattle.dcm_base.specs.declared.syntax.Syntax.{Syntax}
use Rattle.dcm_base.specs.declared.syntax.Syntax.TheVariants.{Implicit as implicit_in, Little as little_in, Big as big_in}
use Rattle.dcm_base.specs.Tables.Representation.{unit, pad}
use Rattle.dcm_base.specs.Tree.Value.{units, order, evened, whole_part, rest_part, turned}
use Rattle.dcm_base.specs.Conversion.Recode.{leaf_bytes, too_long}
use Rattle.dcm_base.specs.Steps.Atoms.{Atom, value_byte, closes_leaf}
use Rattle.dcm_base.specs.Steps.Steps.{outputs}
use Rattle.dcm_base.proofs.Writes.Runs.{outputs-append}
use Rattle.dcm_base.proofs.Conversions.UnitLaws.{units_cons, units_none}
use Rattle.dcm_base.proofs.Conversions.OrderLaws.{keeps_length}
use Rattle.dcm_base.proofs.Conversions.Order.{rest_cons, rest_short, turned_cons, turned_short, turned_unit, unit_some}
use Rattle.dcm_sinks.proofs.Conversions.Copies.{copies_rest, copies_units}
use Rattle.dcm_sinks.proofs.Conversions.Dropping.{some_over}
use Rattle.dcm_sinks.specs.EncodeSink.{Copying, EncodeState, turns, ordered, padding, leaf_copy, fragment_copy, encode_start, encode_step, encode_writes}

-- ---- a unit on its way from one order to another

-- put into another order, or in little endian order left as it is
either : (t : Bool) (v : List ℕ) → v ≡ cond t v v
either true v = refl
either false v = refl

to_big : (t : Bool) (k : ℕ) (some : 0 < k) (u : List ℕ) → length u ≡ k → ordered (not t) u ≡ cond t u (turned k u)
to_big true k some u e = refl
to_big false k some u e = sym (turned_unit k some u e)

turned_back : (k : ℕ) (some : 0 < k) (u : List ℕ) → length u ≡ k → reverse (turned k u) ≡ u
turned_back k some u e = ap reverse (turned_unit k some u e) ∙ reverse-reverse u

big_to_big : (t : Bool) (k : ℕ) (some : 0 < k) (u : List ℕ) → length u ≡ k → ordered (not (not t)) (turned k u) ≡ cond t u (turned k u)
big_to_big true k some u e = turned_back k some u e
big_to_big false k some u e = refl

pub unit_ordered : (source target : Syntax) (vr : Vr) (size : ℕ) (u : List ℕ) → length u ≡ unit vr → ordered (turns source target vr size) (order source vr u) ≡ leaf_bytes target vr size u
unit_ordered (implicit_in d) (implicit_in d2) vr size u e = either (too_long (implicit_in d) vr size) u
unit_ordered (implicit_in d) (little_in d2) vr size u e = either (too_long (little_in d) vr size) u
unit_ordered (implicit_in d) (big_in d2) vr size u e = to_big (too_long (big_in d) vr size) (unit vr) (unit_some vr) u e
unit_ordered (little_in d) (implicit_in d2) vr size u e = either (too_long (implicit_in d) vr size) u
unit_ordered (little_in d) (little_in d2) vr size u e = either (too_long (little_in d) vr size) u
unit_ordered (little_in d) (big_in d2) vr size u e = to_big (too_long (big_in d) vr size) (unit vr) (unit_some vr) u e
unit_ordered (big_in d) (implicit_in d2) vr size u e = turned_back (unit vr) (unit_some vr) u e ∙ either (too_long (implicit_in d) vr size) u
unit_ordered (big_in d) (little_in d2) vr size u e = turned_back (unit vr) (unit_some vr) u e ∙ either (too_long (little_in d) vr size) u
unit_ordered (big_in d) (big_in d2) vr size u e = big_to_big (too_long (big_in d) vr size) (unit vr) (unit_some vr) u e

-- ---- what goes over a value unit by unit

pub record Unitwise (k : ℕ) (f : List ℕ → List ℕ) : Type 0 where
  pub cons : (u w : List ℕ) → length u ≡ k → f (u ++ w) ≡ f u ++ f w
  pub short : (v : List ℕ) → length v < k → f v ≡ v
  pub size : (v : List ℕ) → length (f v) ≡ length v

nothing_unitwise : (k : ℕ) → Unitwise k (λ v. v)
nothing_unitwise k = record { cons = λ u w e. refl; short = λ v l. refl; size = λ v. refl }

turned_unitwise : (k : ℕ) → 0 < k → Unitwise k (turned k)
turned_unitwise k some = record {
  cons = λ u w e. turned_cons k some u w e ∙ ap (λ z. z ++ turned k w) (sym (turned_unit k some u e));
  short = turned_short k some;
  size = keeps_length k some;
}

order_unitwise : (s : Syntax) (vr : Vr) → Unitwise (unit vr) (order s vr)
order_unitwise (implicit_in d) vr = nothing_unitwise (unit vr)
order_unitwise (little_in d) vr = nothing_unitwise (unit vr)
order_unitwise (big_in d) vr = turned_unitwise (unit vr) (unit_some vr)

unless_unitwise : (t : Bool) (s : Syntax) (vr : Vr) → Unitwise (unit vr) (λ v. cond t v (order s vr v))
unless_unitwise true s vr = nothing_unitwise (unit vr)
unless_unitwise false s vr = order_unitwise s vr

pub bytes_unitwise : (s : Syntax) (vr : Vr) (size : ℕ) → Unitwise (unit vr) (leaf_bytes s vr size)
bytes_unitwise s vr size = unless_unitwise (too_long s vr size) s vr

module _ (k : ℕ) (some : 0 < k) where
  whole_cons : (u w : List ℕ) → length u ≡ k → whole_part k (u ++ w) ≡ u ++ whole_part k w
  whole_cons u w e =
      let q : length (u ++ w) / k ≡ length w / k + 1 = ap (λ n. n / k) (length-append u w ∙ ap (λ n. n + length w) e) ∙ add-div_left (length w) some in
      ap (λ n. take (n * k) (u ++ w)) q
      ∙ ap (λ n. take n (u ++ w)) (let m : (length w / k + 1) * k ≡ length u + length w / k * k = omega arith in m)
      ∙ take-append-add u w (length w / k * k)

  whole_short : (v : List ℕ) → length v < k → whole_part k v ≡ []
  whole_short v l = ap (λ n. take (n * k) v) (div-eq_of_lt l) ∙ ap (λ n. take n v) (let e : 0 * k ≡ 0 = omega arith in e)

  -- the units of a value in one order, each put into another
  module _ (f g one : List ℕ → List ℕ) (uf : Unitwise k f) (ug : Unitwise k g) (each : (u : List ℕ) → length u ≡ k → one (f u) ≡ g u) where
    pub record Parts (v : List ℕ) : Type 0 where
      pub in_units : flat_map one (units k (f v)) ≡ g (whole_part k v)
      pub rest : rest_part k (f v) ≡ rest_part k v
      pub all : g v ≡ g (whole_part k v) ++ rest_part k v

    parts_short : (v : List ℕ) → length v < k → Parts v
    parts_short v l =
        let none : g (whole_part k v) ≡ [] = ap g (whole_short v l) ∙ ug.short [] some in
        record {
          in_units = ap (flat_map one) (ap (units k) (uf.short v l) ∙ units_none k some v l) ∙ sym none;
          rest = ap (rest_part k) (uf.short v l);
          all = ug.short v l ∙ sym (rest_short k some v l) ∙ ap (λ z. z ++ rest_part k v) (sym none);
        }

    parts_within : (n : ℕ) (v : List ℕ) → length v ≤ n → Parts v
    parts_within zero v l = parts_short v (omega arith)
    parts_within (suc n) v l =
        ⊎_elim
        (parts_short v)
        (λ long.
        let u : List ℕ = take k v in
        let w : List ℕ = drop k v in
        let whole : u ++ w ≡ v = take-append-drop k v in
        let is_unit : length u ≡ k = omega (arith, length-take k v) in
        let turned_size : length (f u) ≡ k = uf.size u ∙ is_unit in
        let p = parts_within n w (omega (arith, length-drop k v)) in
        let both : g (whole_part k v) ≡ g u ++ g (whole_part k w) = ap (λ x. g (whole_part k x)) (sym whole) ∙ ap g (whole_cons u w is_unit) ∙ ug.cons u (whole_part k w) is_unit in
        let behind : rest_part k v ≡ rest_part k w = ap (rest_part k) (sym whole) ∙ rest_cons k some u w is_unit in
        let split : f v ≡ f u ++ f w = ap f (sym whole) ∙ uf.cons u w is_unit in
        record {
          in_units =
              ap (λ x. flat_map one (units k x)) split
              ∙ ap (flat_map one) (units_cons k some (f u) (f w) turned_size)
              ∙ ap (λ z. z ++ flat_map one (units k (f w))) (each u is_unit)
              ∙ ap (λ z. g u ++ z) p.in_units
              ∙ sym both;
          rest = ap (rest_part k) split ∙ rest_cons k some (f u) (f w) turned_size ∙ p.rest ∙ sym behind;
          all =
              ap g (sym whole)
              ∙ ug.cons u w is_unit
              ∙ ap (λ z. g u ++ z) p.all
              ∙ sym (append_assoc (g u) (g (whole_part k w)) (rest_part k w))
              ∙ ap (λ z. z ++ rest_part k w) (sym both)
              ∙ ap (λ z. g (whole_part k v) ++ z) (sym behind);
        })
        (cases_lt (length v) k)

    pub parts : (v : List ℕ) → Parts v
    parts v = parts_within (length v) v (omega arith)

-- ---- the sink over bytes

abbrev pub encodes : EncodeState → List Atom → List ℕ
encodes s atoms = outputs encode_step encode_writes s atoms

-- in a dropped element, of which so many elements, items and fragments are open
abbrev pub dropping : Syntax → ℕ → EncodeState
dropping target n = record { target = target; dropped = n; copying = None }

abbrev pub sending : Syntax → Copying → EncodeState
sending target c = record { target = target; dropped = 0; copying = Some c }

pub evened_padding : (p : ℕ) (v : List ℕ) → evened p v ≡ v ++ padding (length v) p
evened_padding p v = even_or (length v % 2 == 0)
  where
    even_or : (t : Bool) → cond t v (v ++ p ∷ []) ≡ v ++ cond t [] (p ∷ [])
    even_or true = sym (append-nil v)
    even_or false = refl

module _ (target source : Syntax) (vr : Vr) (size : ℕ) where
  some : 0 < unit vr
  some = unit_some vr

  abbrev one : List ℕ → List ℕ
  one u = ordered (turns source target vr size) u

  abbrev holding : List ℕ → EncodeState
  holding held = sending target (record { unit = unit vr; is_turned = turns source target vr size; held = held; padding = padding size (pad vr) })

  copied : (bytes : List ℕ) (others : List Atom)
      → encodes (holding []) (map value_byte bytes ++ others) ≡ flat_map one (units (unit vr) bytes) ++ encodes (holding (rest_part (unit vr) bytes)) others
  copied bytes others =
      let c : Copying = leaf_copy source target vr size in
      let over = some_over (encode_start target) c bytes in
      outputs-append encode_step encode_writes (holding []) (map value_byte bytes) others
      ∙ ap (λ z. z ++ encodes (fold encode_step (holding []) (map value_byte bytes)) others) (over.1 ∙ copies_units c some some bytes)
      ∙ ap (λ (s : EncodeState). flat_map one (units (unit vr) bytes) ++ encodes s others) (over.0 ∙ ap (λ (d : Copying). sending target d) (copies_rest c some some bytes))

  in_parts : (value : List ℕ) → Parts (unit vr) some (order source vr) (leaf_bytes target vr size) one (order_unitwise source vr) (bytes_unitwise target vr size) (unit_ordered source target vr size) value
  in_parts value = parts (unit vr) some (order source vr) (leaf_bytes target vr size) one (order_unitwise source vr) (bytes_unitwise target vr size) (unit_ordered source target vr size) value

  -- a value in the order of its source goes out in whole units
  pub copied_value : (value : List ℕ) (others : List Atom)
      → encodes (sending target (leaf_copy source target vr size)) (map value_byte (order source vr value) ++ others)
      ≡ leaf_bytes target vr size (whole_part (unit vr) value) ++ encodes (holding (rest_part (unit vr) value)) others
  copied_value value others =
      let raw : List ℕ = order source vr value in
      let k : ℕ = unit vr in
      let p = in_parts value in
      copied raw others
      ∙ ap (λ z. z ++ encodes (holding (rest_part k raw)) others) p.in_units
      ∙ ap (λ h. leaf_bytes target vr size (whole_part k value) ++ encodes (holding h) others) p.rest

  -- and its rest and its pad byte at its end
  pub copied_leaf : (value : List ℕ) (others : List Atom) → length value ≡ size
      → encodes (sending target (leaf_copy source target vr size)) (map value_byte (order source vr value) ++ closes_leaf ∷ others)
      ≡ evened (pad vr) (leaf_bytes target vr size value) ++ encodes (encode_start target) others
  copied_leaf value others full =
      let k : ℕ = unit vr in
      let p = in_parts value in
      let whole : List ℕ = leaf_bytes target vr size (whole_part k value) in
      let rest : List ℕ = rest_part k value in
      let behind : List ℕ = encodes (encode_start target) others in
      let same : length (leaf_bytes target vr size value) ≡ size = (bytes_unitwise target vr size).size value ∙ full in
      copied_value value (closes_leaf ∷ others)
      ∙ grouped whole rest (padding size (pad vr)) behind
      ∙ ap (λ z. (z ++ padding size (pad vr)) ++ behind) (sym p.all)
      ∙ ap (λ n. (leaf_bytes target vr size value ++ padding n (pad vr)) ++ behind) (sym same)
      ∙ ap (λ z. z ++ behind) (sym (evened_padding (pad vr) (leaf_bytes target vr size value)))
    where
      grouped : (a b c d : List ℕ) → a ++ ((b ++ c) ++ d) ≡ ((a ++ b) ++ c) ++ d
      grouped a b c d = simp append_assoc

-- the bytes of a fragment go out as they are
pub copied_fragment : (target : Syntax) (size : ℕ) (v : List ℕ) (others : List Atom)
    → encodes (sending target (fragment_copy size)) (map value_byte v ++ others) ≡ v ++ encodes (sending target (fragment_copy size)) others
copied_fragment target size [] others = refl
copied_fragment target size (b ∷ bs) others = ap (λ z. b ∷ z) (copied_fragment target size bs others)
