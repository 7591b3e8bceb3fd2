-- Units of numbers that come in pieces.
use Rattle.std.proofs.Common.{◌≡◌, ◌∙◌, sym, ap, ap₂, refl, subst, ℕ, zero, suc, ◌+◌, ◌*◌, ◌/◌, ◌<◌, ◌≤◌, Bool, true, List, [], ◌∷◌, ◌++◌, length, take, drop, Option, Ok, Err, arith, append_assoc}
use Rattle.std.specs.Prelude.{Result, IsErr}
use Rattle.std.specs.Io.KnownBytes.{append_known}
use Rattle.std.proofs.lemmas.List.{append-nil, take-append-drop, length-drop, length-take-le}
use Rattle.dcm_base.specs.declared.vr.Vr.{Vr}
use Rattle.dcm_base.specs.declared.syntax.Syntax.{Syntax}
use Rattle.dcm_base.specs.Dump.ValueText.{shown_unit}
use Rattle.dcm_base.specs.Tree.Value.{rest_part, units}
use Rattle.dcm_base.proofs.Conversions.Order.{rest_cons, rest_short}
use Rattle.dcm_base.proofs.Conversions.UnitLaws.{units_cons, units_none}
use Rattle.dcm_devices.specs.Device.{AppendsFront, Tells}
use Rattle.dcm_devices.specs.Writing.{Writer}
use Rattle.dcm_lemmas.proofs.Truth.{false_true}
use Rattle.dcm_table.specs.Parts.{Part, AppendsFrontOfParts, AppendsParts, WroteParts, some_bytes}
use Rattle.dcm_table.proofs.PartsOut.{Out, bytes_broke, bytes_went, front_longer, out_failed, out_then}
use Rattle.dcm_value.proofs.UnitOrder.HighestFirst.{shown_some}
use Rattle.dcm_value.proofs.UnitOrder.Buffers.{Fed, both_size, fed_parts, first_size}
use Rattle.dcm_value.proofs.UnitOrder.Pieces.{units_append}
use Rattle.dcm_json.specs.Numbers.{unit_part}
use Rattle.dcm_json.proofs.Written.{nothing_left}
use Rattle.dcm_json.specs.NumberState.{NumberState, fed, feeds, next_parts, stands, units_parts}

-- ---- one unit

pub before_failed : {T E : Type 0} (old new : Option (List ℕ)) (b first : List ℕ) (p : Part) (r : Result T E) → IsErr r → first ≡ b → AppendsFront old new first → Out old new (some_bytes b ∷ p ∷ []) r
before_failed old new b first p r failed e h = out_failed old new (some_bytes b ∷ []) (p ∷ []) r failed (bytes_broke old new b (subst (AppendsFront old new) e h))

pub next_went : {T E : Type 0} (old mid new : Option (List ℕ)) (b first : List ℕ) (vr : Vr) (u v : List ℕ) (r : Result T E) → first ≡ b → mid ≡ append_known old first → u ≡ v → Out mid new (unit_part vr u ∷ []) r
    → Out old new (some_bytes b ∷ unit_part vr v ∷ []) r
next_went {T} {E} old mid new b first vr u v r e grown same h =
    out_then old mid new (some_bytes b ∷ []) (unit_part vr v ∷ []) r (bytes_went old mid b (grown ∙ ap (append_known old) e))
    (subst (λ (x : List ℕ). Out {T = T} {E = E} mid new (unit_part vr x ∷ []) r) same h)

-- ---- one after another

pub first_unit : (vr : Vr) (rest first others : List ℕ) (n : ℕ) → n ≡ shown_unit vr → n ≤ length rest → first ≡ take n rest → others ≡ drop n rest
    → units (shown_unit vr) rest ≡ first ∷ units (shown_unit vr) others
first_unit vr rest first others n e within f o =
    let whole : first ++ others ≡ rest = ap₂ (λ (x y : List ℕ). x ++ y) f o ∙ take-append-drop n rest in
    let long : length first ≡ shown_unit vr = ap length f ∙ length-take-le n rest within ∙ e in
    ap (units (shown_unit vr)) (sym whole) ∙ units_cons (shown_unit vr) (shown_some vr) first others long

pub next_unit : (vr : Vr) (s : Syntax) (begun : Bool) (rest first others : List ℕ) (n : ℕ) → n ≡ shown_unit vr → n ≤ length rest → first ≡ take n rest → others ≡ drop n rest
    → units_parts vr s begun (units (shown_unit vr) rest) ≡ next_parts begun vr s first ++ units_parts vr s true (units (shown_unit vr) others)
next_unit vr s begun rest first others n e within f o = ap (units_parts vr s begun) (first_unit vr rest first others n e within f o)

pub next_stands : (vr : Vr) (begun : Bool) (rest first others : List ℕ) (n : ℕ) → n ≡ shown_unit vr → n ≤ length rest → first ≡ take n rest → others ≡ drop n rest
    → stands true (units (shown_unit vr) others) ≡ stands begun (units (shown_unit vr) rest)
next_stands vr begun rest first others n e within f o =
    any (units (shown_unit vr) others) ∙ sym (ap (stands begun) (first_unit vr rest first others n e within f o))
  where
    any : (us : List (List ℕ)) → stands true us ≡ true
    any [] = refl
    any (u ∷ us) = refl

pub no_unit : (vr : Vr) (rest : List ℕ) → length rest < shown_unit vr → units (shown_unit vr) rest ≡ []
no_unit vr rest h = units_none (shown_unit vr) (shown_some vr) rest h

-- ---- some units and others

pub parts_both : (vr : Vr) (s : Syntax) (begun : Bool) (a b : List (List ℕ)) → units_parts vr s begun (a ++ b) ≡ units_parts vr s begun a ++ units_parts vr s (stands begun a) b
parts_both vr s begun [] b = refl
parts_both vr s begun (u ∷ a) b =
    ap (λ (x : List Part). next_parts begun vr s u ++ x) (parts_both vr s true a b ∙ ap (λ (t : Bool). units_parts vr s true a ++ units_parts vr s t b) (any a))
  where
    any : (us : List (List ℕ)) → stands true us ≡ true
    any [] = refl
    any (u ∷ us) = refl

pub stands_both : (begun : Bool) (a b : List (List ℕ)) → stands (stands begun a) b ≡ stands begun (a ++ b)
stands_both begun [] b = refl
stands_both begun (u ∷ a) [] = refl
stands_both begun (u ∷ a) (w ∷ b) = refl

module _ (k : ℕ) (some : 0 < k) where
  rest_append : (n : ℕ) (a t : List ℕ) → length a ≡ n * k → length t < k → rest_part k (a ++ t) ≡ t
  rest_append zero a t e l = let none : length a ≡ 0 = omega (arith, e) in ap (λ (x : List ℕ). rest_part k (x ++ t)) (nothing_left a none) ∙ rest_short k some t l
  rest_append (suc n) a t e l =
      let more : suc n * k ≡ k + n * k = omega arith in
      let front : length (take k a) ≡ k = length-take-le k a (omega (arith, e, more)) in
      let behind : length (drop k a) ≡ n * k = omega (arith, length-drop k a, e, more) in
      ap (λ (x : List ℕ). rest_part k (x ++ t)) (sym (take-append-drop k a))
      ∙ ap (rest_part k) (append_assoc (take k a) (drop k a) t)
      ∙ rest_cons k some (take k a) (drop k a ++ t) front
      ∙ rest_append n (drop k a) t behind l

  pub all_units : {held v first others tail : List ℕ} → Fed k held v first others tail → units k (held ++ v) ≡ units k first ++ units k others
  all_units {held} {v} {first} {others} {tail} fed =
      ap (units k) (fed_parts fed)
      ∙ units_append k some (length first / k + length others / k) (first ++ others) tail (both_size fed)
      ∙ ap (λ (x : List (List ℕ)). units k (first ++ others) ++ x) (units_none k some tail fed.left) ∙ append-nil (units k (first ++ others))
      ∙ units_append k some (length first / k) first others (first_size fed)

  pub all_rest : {held v first others tail : List ℕ} → Fed k held v first others tail → rest_part k (held ++ v) ≡ tail
  all_rest {held} {v} {first} {others} {tail} fed = ap (rest_part k) (fed_parts fed) ∙ rest_append (length first / k + length others / k) (first ++ others) tail (both_size fed) fed.left

-- ---- a call that writes parts

pub parts_as : {W T E : Type 0} {w : Writer W} {old new : W} {all : List Part} {r : Result T E} (same : List Part) → all ≡ same → WroteParts w old new all r → WroteParts w old new same r
parts_as {W} {T} {E} {w} {old} {new} {all} {r} same e h = subst (λ (x : List Part). WroteParts {T = T} {E = E} w old new x r) e h

pub parts_failed_first : {W T E : Type 0} {w : Writer W} {old new : W} {first : List Part} (second : List Part) (r : Result T E) → IsErr r → AppendsFrontOfParts (w.contents old) (w.contents new) first → w.has_failed new ≡ true
    → WroteParts w old new (first ++ second) r
parts_failed_first second (Err x) failed front told = record { bytes = front_longer second front; failed = told }
parts_failed_first second (Ok x) failed front told = absurd (false_true failed)

pub parts_failed_alone : {W T E : Type 0} {w : Writer W} {old new : W} {all : List Part} (r : Result T E) → IsErr r → AppendsFrontOfParts (w.contents old) (w.contents new) all → w.has_failed new ≡ true → WroteParts w old new all r
parts_failed_alone (Err x) failed front told = record { bytes = front; failed = told }
parts_failed_alone (Ok x) failed front told = absurd (false_true failed)

pub parts_both_out : {W T E : Type 0} {w : Writer W} {old mid new : W} (first second : List Part) (r : Result T E) → AppendsParts (w.contents old) (w.contents mid) first → w.has_failed mid ≡ w.has_failed old → WroteParts w mid new second r
    → WroteParts w old new (first ++ second) r
parts_both_out {W} {T} {E} {w} {old} {mid} {new} first second r out same h = record {
  bytes = out_then (w.contents old) (w.contents mid) (w.contents new) first second r out h.bytes;
  failed = tells_behind (w.has_failed old) (w.has_failed mid) (w.has_failed new) r same h.failed;
}
  where
    tells_behind : (old mid new : Bool) (r : Result T E) → mid ≡ old → Tells mid new r → Tells old new r
    tells_behind old mid new (Ok x) e h = h ∙ e
    tells_behind old mid new (Err x) e h = h

-- ---- a value that is fed

pub feeds_is : (vr : Vr) (s : Syntax) (begun : Bool) (held v first others tail : List ℕ) → Fed (shown_unit vr) held v first others tail
    → units_parts vr s begun (units (shown_unit vr) first ++ units (shown_unit vr) others) ≡ feeds (record { vr = vr; syntax = s; begun = begun; held = held }) v
feeds_is vr s begun held v first others tail fed = ap (units_parts vr s begun) (sym (all_units (shown_unit vr) (shown_some vr) fed))

pub fed_is : (vr : Vr) (s : Syntax) (begun now : Bool) (held v first others tail : List ℕ) → Fed (shown_unit vr) held v first others tail
    → now ≡ stands begun (units (shown_unit vr) first ++ units (shown_unit vr) others)
    → (let n : NumberState = record { vr = vr; syntax = s; begun = now; held = tail } in n ≡ fed (record { vr = vr; syntax = s; begun = begun; held = held }) v)
fed_is vr s begun now held v first others tail f e =
    ap₂ (λ (b : Bool) (h : List ℕ). let n : NumberState = record { vr = vr; syntax = s; begun = b; held = h } in n)
    (e ∙ ap (stands begun) (sym (all_units (shown_unit vr) (shown_some vr) f))) (sym (all_rest (shown_unit vr) (shown_some vr) f))
