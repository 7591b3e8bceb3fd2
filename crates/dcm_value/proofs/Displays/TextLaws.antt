-- A text that is shown in brackets, and one that is shown by its name.
use Rattle.std.proofs.Common.{◌≡◌, ◌<◌, ℕ, ◌+◌, ◌-◌, ◌%◌, ◌==◌, ◌&&◌, List, [], ◌∷◌, ◌++◌, length, take, slice_index, codes, ap, sym, ◌∙◌, arith, refl, append_assoc, cond, true, false, Bool}
use Rattle.std.specs.Prelude.{count_by}
use Rattle.std.proofs.lemmas.List.{length-append, append-nil}
use Rattle.std.proofs.lemmas.Grind.{flat_map-append}
use Rattle.std.proofs.lemmas.List.Sums.{sum_by-cons, sum_by-append}
use Rattle.std.proofs.Math.Seq.{get_or-append_seam, take-append_seam}
use Rattle.dcm_base.specs.declared.vr.Vr.{Vr}
use Rattle.dcm_base.specs.declared.syntax.Syntax.{Syntax}
use Rattle.dcm_base.specs.declared.mode.Mode.{Mode}
use Rattle.dcm_base.specs.Tables.Representation.{pad}
use Rattle.dcm_base.specs.Dump.ValueText.{shape, escape, escaped, unpadded, bracketed, identified, padded, shortened, is_single}
use Rattle.dcm_value.specs.declared.way.Way.TheVariants.{InBrackets, ByName}
use Rattle.dcm_value.specs.Way.{way_of}
use Rattle.dcm_value.specs.Display.{blank, emit, at_once}
use Rattle.dcm_value.specs.Progress.{Progress, further, waits, finishes, multiplicity, started, opening, is_bracketed}
use Rattle.dcm_value.specs.Laws.{after, written}
use Rattle.dcm_value.proofs.Displays.Emits.{emit_twice, emit_mode, emit_settled}
use Rattle.dcm_value.proofs.Displays.Steps.{Leads, leads_on, leads_text, leads_last, leads_name}
use Rattle.dcm_value.proofs.Displays.Written.{begun, opens_bracket, opens_nothing, tells_state, tells_text, tells_whole, closes_some, counts_some}

module _ (vr : Vr) (syntax : Syntax) (size : ℕ) (mode : Mode) (in_brackets : way_of (shape vr) size ≡ InBrackets) where
  abbrev base : Progress
  base = begun vr syntax size mode (codes "[")

  abbrev inner : List ℕ → Progress
  inner v = further base (length v) [] (count_by (λ b. b == 92) v) (escaped v)

  leads_inner : (v : List ℕ) → length v < size → Leads base v (inner v) (escaped v)
  leads_inner v l = leads_text base v in_brackets (emit_settled (blank mode) (codes "[")) (omega arith)

  -- while bytes are missing
  pub brackets_so_far : (v : List ℕ) → length v < size → written vr syntax size mode v ≡ at_once mode (codes "[" ++ escaped v)
  brackets_so_far v l = tells_text vr syntax size mode (codes "[") (opens_bracket vr syntax size mode in_brackets (omega arith)) v (inner v) (escaped v) (leads_inner v l)

  unpadded_last : (init : List ℕ) (b : ℕ) → length init + 1 ≡ size → unpadded vr (init ++ b ∷ []) ≡ cond (size % 2 == 0 && b == pad vr) init (init ++ b ∷ [])
  unpadded_last init b e =
      let v : List ℕ = init ++ b ∷ [] in
      let long : length v ≡ size = omega (arith, length-append init (b ∷ [])) in
      let back : length v - 1 ≡ length init = omega arith in
      ap (λ k. cond (k % 2 == 0 && slice_index v (length v - 1) == pad vr) (take (length v - 1) v) v) long
      ∙ ap (λ k. cond (size % 2 == 0 && slice_index v k == pad vr) (take k v) v) back
      ∙ ap (λ x. cond (size % 2 == 0 && x == pad vr) (take (length init) v) v) (get_or-append_seam init b [] 0)
      ∙ ap (λ zs. cond (size % 2 == 0 && b == pad vr) zs v) (take-append_seam init (b ∷ []))

  last_text : (t : Bool) (init : List ℕ) (b : ℕ) → (codes "[" ++ (escaped init ++ cond t [] (escape b))) ++ codes "]" ≡ bracketed (cond t init (init ++ b ∷ []))
  last_text true init b = ap (λ zs. (codes "[" ++ zs) ++ codes "]") (append-nil (escaped init))
  last_text false init b = ap (λ zs. (codes "[" ++ zs) ++ codes "]") (ap (λ zs. escaped init ++ zs) (sym (append-nil (escape b))) ∙ sym (flat_map-append escape init (b ∷ [])))

  abbrev last_shown : ℕ → List ℕ
  last_shown b = cond (size % 2 == 0 && b == pad vr) [] (escape b)

  abbrev outer : List ℕ → ℕ → Progress
  outer init b = further (inner init) 1 [] (cond (b == 92) 1 0) (last_shown b)

  leads_outer : (init : List ℕ) (b : ℕ) → length init + 1 ≡ size → Leads base (init ++ b ∷ []) (outer init b) (escaped init ++ last_shown b)
  leads_outer init b e =
      leads_on (leads_inner init (omega arith)) (leads_last (inner init) b in_brackets (omega arith)) (emit_mode (emit (blank mode) (codes "[")) (escaped init))

  shown_outer : (init : List ℕ) (b : ℕ) → (outer init b).display ≡ emit (blank mode) (codes "[" ++ (escaped init ++ last_shown b))
  shown_outer init b =
      ap (λ d. emit d (last_shown b)) (emit_twice (blank mode) (codes "[") (escaped init))
      ∙ emit_twice (blank mode) (codes "[" ++ escaped init) (last_shown b)
      ∙ ap (emit (blank mode)) (append_assoc (codes "[") (escaped init) (last_shown b))

  -- all bytes
  pub brackets_whole : (init : List ℕ) (b : ℕ) → length init + 1 ≡ size → written vr syntax size mode (init ++ b ∷ []) ++ finishes (after vr syntax size mode (init ++ b ∷ [])) ≡ padded (shortened mode (bracketed (unpadded vr (init ++ b ∷ []))))
  brackets_whole init b e =
      let t : List ℕ = escaped init ++ last_shown b in
      let opening = opens_bracket vr syntax size mode in_brackets (omega arith) in
      tells_whole vr syntax size mode (codes "[") opening (init ++ b ∷ []) (outer init b) t (leads_outer init b e) (shown_outer init b)
      ∙ ap (λ c. padded (shortened mode ((codes "[" ++ t) ++ c))) (closes_some (outer init b) InBrackets in_brackets (omega arith))
      ∙ ap (λ x. padded (shortened mode x)) ((last_text (size % 2 == 0 && b == pad vr) init b) ∙ ap bracketed (sym (unpadded_last init b e)))

  pub brackets_count : (init : List ℕ) (b : ℕ) → length init + 1 ≡ size → multiplicity (after vr syntax size mode (init ++ b ∷ [])) ≡ cond (is_single vr) 1 (1 + count_by (λ x. x == 92) (init ++ b ∷ []))
  brackets_count init b e =
      let opening = opens_bracket vr syntax size mode in_brackets (omega arith) in
      ap multiplicity (tells_state vr syntax size mode (codes "[") opening (init ++ b ∷ []) (outer init b) (escaped init ++ last_shown b) (leads_outer init b e))
      ∙ (counts_some (outer init b) InBrackets in_brackets (omega arith))
      ∙ ap (λ k. cond (is_single vr) 1 (1 + k)) (counted init b)
    where
      counted : (init : List ℕ) (b : ℕ) → 0 + count_by (λ x. x == 92) init + cond (b == 92) 1 0 ≡ count_by (λ x. x == 92) (init ++ b ∷ [])
      counted init b =
          let one : count_by (λ x. x == 92) (b ∷ []) ≡ cond (b == 92) 1 0 + 0 = sum_by-cons (λ x. cond (x == 92) 1 0) b [] in
          let all : count_by (λ x. x == 92) (init ++ b ∷ []) ≡ count_by (λ x. x == 92) init + count_by (λ x. x == 92) (b ∷ []) = sum_by-append (λ x. cond (x == 92) 1 0) init (b ∷ []) in
          omega (arith, one, all)

module _ (vr : Vr) (syntax : Syntax) (size : ℕ) (mode : Mode) (by_name : way_of (shape vr) size ≡ ByName) where
  abbrev start : Progress
  start = begun vr syntax size mode []

  leads_all : (v : List ℕ) → Leads start v (waits start v) []
  leads_all v = leads_name start v by_name (emit_settled (blank mode) [])

  unopened : opening (started vr syntax size mode) ≡ []
  unopened = opens_nothing vr syntax size mode (ap is_bracketed by_name)

  -- while bytes are missing
  pub name_so_far : (v : List ℕ) → written vr syntax size mode v ≡ at_once mode []
  name_so_far v = tells_text vr syntax size mode [] unopened v (waits start v) [] (leads_all v)

  -- all bytes
  pub name_whole : (v : List ℕ) → 0 < size → written vr syntax size mode v ++ finishes (after vr syntax size mode v) ≡ padded (shortened mode (identified (unpadded vr v)))
  name_whole v l =
      tells_whole vr syntax size mode [] unopened v (waits start v) [] (leads_all v) (refl)
      ∙ ap (λ c. padded (shortened mode c)) (closes_some (waits start v) ByName by_name l)

  pub name_count : (v : List ℕ) → 0 < size → multiplicity (after vr syntax size mode v) ≡ cond (is_single vr) 1 (1 + count_by (λ x. x == 92) v)
  name_count v l =
      ap multiplicity (tells_state vr syntax size mode [] unopened v (waits start v) [] (leads_all v))
      ∙ (counts_some (waits start v) ByName by_name l)
