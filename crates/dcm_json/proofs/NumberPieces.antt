-- All pieces of a value of numbers.
use Rattle.std.proofs.Common.{◌≡◌, ◌∙◌, sym, ap, ap₂, refl, ℕ, ◌+◌, ◌-◌, ◌*◌, ◌/◌, ◌<◌, ◌≤◌, Bool, true, false, List, [], ◌∷◌, ◌++◌, length, take, drop, map, arith, append_assoc, append-nil}
use Rattle.std.specs.Prelude.{codes, flat_map, fold, if◌then◌else◌}
use Rattle.std.specs.List.{concat}
use Rattle.std.proofs.Math.Nat.{div-mul-le_self, lt-div-mul-add}
use Rattle.std.proofs.lemmas.List.{take-append-drop, length-drop, length-take-le}
use Rattle.dcm_base.specs.declared.vr.Vr.{Vr}
use Rattle.dcm_base.specs.declared.syntax.Syntax.{Syntax}
use Rattle.dcm_base.specs.Dump.ValueText.{shown_unit}
use Rattle.dcm_base.specs.Tree.Value.{order, rest_part, units}
use Rattle.dcm_base.specs.Steps.Steps.{outputs}
use Rattle.dcm_base.proofs.Conversions.UnitLaws.{units_none}
use Rattle.dcm_table.specs.Parts.{Part, some_bytes}
use Rattle.dcm_value.proofs.UnitOrder.HighestFirst.{shown_some}
use Rattle.dcm_value.proofs.UnitOrder.Pieces.{units_append}
use Rattle.dcm_json.specs.Laws.{end_parts}
use Rattle.dcm_json.specs.Numbers.{next_value, number_parts, unit_part, values_parts}
use Rattle.dcm_json.specs.NumberState.{NumberState, fed, feeds, stands, started, units_parts}
use Rattle.dcm_json.proofs.UnitPieces.{parts_both, stands_both}

-- ---- units of bytes that go on

module _ (k : ℕ) (some : 0 < k) where
  units_fit : (n : ℕ) → n / k * k ≤ n
  units_fit n = div-mul-le_self n k

  units_left : (n : ℕ) → n - n / k * k < k
  units_left n = let b : n < n / k * k + k = lt-div-mul-add some in omega (arith, b, div-mul-le_self n k)

  pub rest_below : (a : List ℕ) → length (rest_part k a) < k
  rest_below a = let l : length (rest_part k a) ≡ length a - length a / k * k = length-drop (length a / k * k) a in omega (arith, l, units_left (length a))

  pub units_more : (a v : List ℕ) → units k (a ++ v) ≡ units k a ++ units k (rest_part k a ++ v)
  units_more a v =
      let n : ℕ = length a / k in
      let w : List ℕ = take (n * k) a in
      let t : List ℕ = drop (n * k) a in
      let size : length w ≡ n * k = length-take-le (n * k) a (units_fit (length a)) in
      let whole : w ++ t ≡ a = take-append-drop (n * k) a in
      let own : units k a ≡ units k w = ap (units k) (sym whole) ∙ units_append k some n w t size ∙ ap (λ (x : List (List ℕ)). units k w ++ x) (units_none k some t (rest_below a)) ∙ append-nil (units k w) in
      ap (λ (x : List ℕ). units k (x ++ v)) (sym whole)
      ∙ ap (units k) (append_assoc w t v)
      ∙ units_append k some n w (t ++ v) size
      ∙ ap (λ (x : List (List ℕ)). x ++ units k (t ++ v)) (sym own)

-- ---- all pieces

abbrev end_of : Bool → List Part
end_of b = if b then some_bytes (codes "]") ∷ [] else []

abbrev whole : NumberState → List ℕ → List Part
whole n v =
    let us : List (List ℕ) = units (shown_unit n.vr) (n.held ++ v) in
    units_parts n.vr n.syntax n.begun us ++ end_of (stands n.begun us)

whole_more : (n : NumberState) (p v : List ℕ) → feeds n p ++ whole (fed n p) v ≡ whole n (p ++ v)
whole_more n p v =
    let k : ℕ = shown_unit n.vr in
    let a : List (List ℕ) = units k (n.held ++ p) in
    let b : List (List ℕ) = units k (rest_part k (n.held ++ p) ++ v) in
    let all : units k (n.held ++ (p ++ v)) ≡ a ++ b = ap (units k) (sym (append_assoc n.held p v)) ∙ units_more k (shown_some n.vr) (n.held ++ p) v in
    sym (append_assoc (units_parts n.vr n.syntax n.begun a) (units_parts n.vr n.syntax (stands n.begun a) b) (end_of (stands (stands n.begun a) b)))
    ∙ ap₂ (λ (x : List Part) (t : Bool). x ++ end_of t) (sym (parts_both n.vr n.syntax n.begun a b)) (stands_both n.begun a b)
    ∙ sym (ap (λ (us : List (List ℕ)). units_parts n.vr n.syntax n.begun us ++ end_of (stands n.begun us)) all)

pieces_whole : (n : NumberState) (pieces : List (List ℕ)) → length n.held < shown_unit n.vr → outputs fed feeds n pieces ++ end_parts (fold fed n pieces) ≡ whole n (concat pieces)
pieces_whole n [] l =
    sym (ap (λ (us : List (List ℕ)). units_parts n.vr n.syntax n.begun us ++ end_of (stands n.begun us))
    (ap (units (shown_unit n.vr)) (append-nil n.held) ∙ units_none (shown_unit n.vr) (shown_some n.vr) n.held l))
pieces_whole n (p ∷ pieces) l =
    append_assoc (feeds n p) (outputs fed feeds (fed n p) pieces) (end_parts (fold fed (fed n p) pieces))
    ∙ ap (λ (x : List Part). feeds n p ++ x) (pieces_whole (fed n p) pieces (rest_below (shown_unit n.vr) (shown_some n.vr) (n.held ++ p)))
    ∙ whole_more n p (concat pieces)

-- units behind another value, and all of them
others_are : (vr : Vr) (s : Syntax) (us : List (List ℕ)) → units_parts vr s true us ++ some_bytes (codes "]") ∷ [] ≡ flat_map (next_value vr) (map (order s vr) us) ++ some_bytes (codes "]") ∷ []
others_are vr s [] = refl
others_are vr s (u ∷ us) = ap (λ (x : List Part). some_bytes (codes ",") ∷ unit_part vr (order s vr u) ∷ x) (others_are vr s us)

values_are : (vr : Vr) (s : Syntax) (us : List (List ℕ)) → units_parts vr s false us ++ end_of (stands false us) ≡ values_parts vr (map (order s vr) us)
values_are vr s [] = refl
values_are vr s (u ∷ us) = ap (λ (x : List Part). some_bytes (codes ",\"Value\":[") ∷ unit_part vr (order s vr u) ∷ x) (others_are vr s us)

pub number_pieces : (s : Syntax) (vr : Vr) (pieces : List (List ℕ)) → outputs fed feeds (started vr s) pieces ++ end_parts (fold fed (started vr s) pieces) ≡ number_parts s vr (concat pieces)
number_pieces s vr pieces = pieces_whole (started vr s) pieces (shown_some vr) ∙ values_are vr s (units (shown_unit vr) (concat pieces))
