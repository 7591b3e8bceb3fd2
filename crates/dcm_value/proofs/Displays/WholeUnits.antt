-- A value that is shown unit by unit.
use Rattle.std.proofs.Common.{◌≡◌, ◌≤◌, ◌<◌, ℕ, ◌+◌, ◌*◌, ◌/◌, List, [], ◌∷◌, ◌++◌, length, take, drop, map, ap, sym, ◌∙◌, arith, refl, cond}
use Rattle.std.specs.List.{join_with_byte}
use Rattle.std.proofs.lemmas.List.{append-nil, take-append-drop, length-take, length-drop}
use Rattle.std.proofs.Math.Nat.{mul-div_cancel, div-mul-le_self, lt-div-mul-add}
use Rattle.dcm_base.specs.declared.vr.Vr.{Vr}
use Rattle.dcm_base.specs.declared.syntax.Syntax.{Syntax}
use Rattle.dcm_base.specs.declared.mode.Mode.{Mode}
use Rattle.dcm_base.specs.Tree.Value.{pieces, units, order}
use Rattle.dcm_base.specs.Dump.ValueText.{shape, shown_unit, unit_text, units_text, padded, shortened, is_single}
use Rattle.dcm_base.proofs.Conversions.UnitLaws.{units_none}
use Rattle.dcm_value.specs.declared.way.Way.TheVariants.{InUnits}
use Rattle.dcm_value.specs.Way.{way_of}
use Rattle.dcm_value.specs.Display.{blank, emit, at_once}
use Rattle.dcm_value.specs.Units.{one_text, separated}
use Rattle.dcm_value.specs.Progress.{Progress, further, finishes, multiplicity, started, opening, is_bracketed, shown_after}
use Rattle.dcm_value.specs.Laws.{after, written}
use Rattle.dcm_value.proofs.Displays.Emits.{emit_twice, emit_settled}
use Rattle.dcm_value.proofs.UnitOrder.HighestFirst.{shown_some, ordered_units}
use Rattle.dcm_value.proofs.UnitOrder.Pieces.{units_append}
use Rattle.dcm_value.proofs.Displays.Steps.{Leads}
use Rattle.dcm_value.proofs.Displays.UnitSteps.{leads_whole}
use Rattle.dcm_value.proofs.Displays.Written.{begun, opens_nothing, tells_state, tells_text, tells_whole, closes_some, counts_some}

-- units with backslashes between
pub joined_more : (t : List ℕ → List ℕ) (u : List ℕ) (us : List (List ℕ)) → join_with_byte 92 (map t (u ∷ us)) ≡ t u ++ separated t us
joined_more t u [] = sym (append-nil (t u))
joined_more t u (x ∷ us) = ap (λ zs. t u ++ (92 ∷ zs)) (joined_more t x us)

joined_from : (t : List ℕ → List ℕ) (us : List (List ℕ)) → shown_after 0 t us ≡ join_with_byte 92 (map t us)
joined_from t [] = refl
joined_from t (u ∷ us) = sym (joined_more t u us)

map_twice : (f g : List ℕ → List ℕ) (us : List (List ℕ)) → map (λ u. f (g u)) us ≡ map f (map g us)
map_twice f g [] = refl
map_twice f g (u ∷ us) = ap (λ zs. f (g u) ∷ zs) (map_twice f g us)

module _ (vr : Vr) (syntax : Syntax) (size : ℕ) (mode : Mode) (in_units : way_of (shape vr) size ≡ InUnits) where
  abbrev start : Progress
  start = begun vr syntax size mode []

  abbrev k : ℕ
  k = shown_unit vr

  abbrev one : List ℕ → List ℕ
  one = one_text vr syntax

  abbrev joined : List ℕ → List ℕ
  joined v = join_with_byte 92 (map one (units k v))

  record Reached (v : List ℕ) : Type 0 where
    seen : ℕ
    held : List ℕ
    values : ℕ
    text : List ℕ
    leads : Leads start v (further start seen held values text) text
    is : text ≡ joined v
    count : values ≡ length v / k

  some : 0 < k
  some = shown_some vr

  settled : emit (emit (blank mode) []) [] ≡ emit (blank mode) []
  settled = emit_settled (blank mode) []

  reached : (v : List ℕ) → Reached v
  reached v =
      let n : ℕ = length v / k in
      let w : List ℕ = take (n * k) v in
      let r : List ℕ = drop (n * k) v in
      let few : n * k ≤ length v = div-mul-le_self (length v) k in
      let size : length w ≡ n * k = omega (arith, length-take (n * k) v) in
      let left : length r < k = omega (arith, length-drop (n * k) v, lt-div-mul-add {a = length v} some) in
      record {
        seen = length v;
        held = r;
        values = n;
        text = shown_after 0 one (pieces n k w);
        leads = leads_whole start in_units settled some n v w r (sym (take-append-drop (n * k) v)) size left;
        is = joined_from one (pieces n k w) ∙ ap (λ us. join_with_byte 92 (map one us)) (whole_units n v w r (take-append-drop (n * k) v) size left);
        count = refl;
      }
    where
      whole_units : (n : ℕ) (v w r : List ℕ) → w ++ r ≡ v → length w ≡ n * k → length r < k → pieces n k w ≡ units k v
      whole_units n v w r e size left =
          ap (λ m. pieces m k w) (sym (ap (λ j. j / k) size ∙ mul-div_cancel n some))
          ∙ sym (append-nil (units k w))
          ∙ ap (λ us. units k w ++ us) (sym (units_none k some r left))
          ∙ sym (units_append k some n w r size)
          ∙ ap (units k) e

  -- in the order of little endian
  pub joined_ordered : (v : List ℕ) → joined v ≡ units_text (shape vr) k (order syntax vr v)
  joined_ordered v = ap (join_with_byte 92) (map_twice (unit_text (shape vr)) (order syntax vr) (units k v) ∙ ap (map (unit_text (shape vr))) (sym (ordered_units syntax vr v)))

  unopened : opening (started vr syntax size mode) ≡ []
  unopened = opens_nothing vr syntax size mode (ap is_bracketed in_units)

  -- while bytes are missing
  pub units_so_far : (v : List ℕ) → written vr syntax size mode v ≡ at_once mode (units_text (shape vr) k (order syntax vr v))
  units_so_far v =
      let r = reached v in
      tells_text vr syntax size mode [] unopened v (further start r.seen r.held r.values r.text) r.text r.leads ∙ ap (at_once mode) (r.is ∙ joined_ordered v)

  -- all bytes
  pub units_whole : (v : List ℕ) → 0 < size → written vr syntax size mode v ++ finishes (after vr syntax size mode v) ≡ padded (shortened mode (units_text (shape vr) k (order syntax vr v)))
  units_whole v l =
      let r = reached v in
      let q : Progress = further start r.seen r.held r.values r.text in
      tells_whole vr syntax size mode [] unopened v q r.text r.leads (emit_twice (blank mode) [] r.text)
      ∙ ap (λ c. padded (shortened mode (r.text ++ c))) (closes_some q InUnits in_units l)
      ∙ ap (λ x. padded (shortened mode x)) (append-nil r.text ∙ r.is ∙ joined_ordered v)

  pub units_count : (v : List ℕ) → 0 < size → multiplicity (after vr syntax size mode v) ≡ cond (is_single vr) 1 (length v / k)
  units_count v l =
      let r = reached v in
      let q : Progress = further start r.seen r.held r.values r.text in
      ap multiplicity (tells_state vr syntax size mode [] unopened v q r.text r.leads)
      ∙ counts_some q InUnits in_units l
      ∙ ap (cond (is_single vr) 1) (let e : 0 + r.values ≡ r.values = omega arith in e ∙ r.count)
