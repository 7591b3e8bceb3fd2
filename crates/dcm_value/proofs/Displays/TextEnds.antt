-- The last bytes of a text.
use Rattle.std.proofs.Common.{◌≡◌, ◌≤◌, eq-eqb, ℕ, ◌+◌, ◌-◌, ◌%◌, ◌==◌, ◌&&◌, List, [], ◌∷◌, ◌++◌, length, take, get_or, slice_index, ap, sym, ◌∙◌, arith, refl, cond, true, false, Bool, subst}
use Rattle.std.specs.Prelude.{count_by}
use Rattle.std.proofs.lemmas.List.{length-append, append-nil}
use Rattle.std.proofs.lemmas.Bool.{cases_lt, ne_eqb}
use mathlib.Core.Logic.{⊎_elim}
use Rattle.std.proofs.lemmas.Grind.{flat_map-append}
use Rattle.std.proofs.lemmas.List.Sums.{sum_by-cons, sum_by-append}
use Rattle.std.proofs.Math.Seq.{get_or-append_seam, take-append_seam}
use Rattle.dcm_base.specs.declared.vr.Vr.{Vr}
use Rattle.dcm_base.specs.Tables.Representation.{pad}
use Rattle.dcm_base.specs.Dump.ValueText.{escape, escaped}
use Rattle.dcm_value.specs.declared.way.Way.TheVariants.{InBrackets}
use Rattle.dcm_value.specs.Way.{without_pad}
use Rattle.dcm_value.specs.Progress.{Progress, way, further}
use Rattle.dcm_value.proofs.Displays.Emits.{IsSettled, emit_mode}
use Rattle.dcm_value.proofs.Displays.Steps.{Leads, leads_nowhere, leads_on, leads_to, leads_text, leads_last, last_apart, further_twice, same_progress}

-- without the pad byte, where the last byte is known
pub without_last : (vr : Vr) (is_even : Bool) (init : List ℕ) (b : ℕ) → without_pad vr is_even (init ++ b ∷ []) ≡ cond (is_even && b == pad vr) init (init ++ b ∷ [])
without_last vr is_even init b =
    let v : List ℕ = init ++ b ∷ [] in
    let back : length v - 1 ≡ length init = omega (arith, length-append init (b ∷ [])) in
    ap (λ k. cond (is_even && slice_index v k == pad vr) (take k v) v) back
    ∙ ap (λ x. cond (is_even && x == pad vr) (take (length init) v) v) (get_or-append_seam init b [] 0)
    ∙ ap (λ zs. cond (is_even && b == pad vr) zs v) (take-append_seam init (b ∷ []))

-- none of no bytes
pub without_none : (t : Bool) (xs : List ℕ) → xs ≡ [] → cond t (take 0 xs) xs ≡ []
without_none true xs e = refl
without_none false xs e = e

last_escaped : (t : Bool) (init : List ℕ) (b : ℕ) → escaped init ++ cond t [] (escape b) ≡ escaped (cond t init (init ++ b ∷ []))
last_escaped true init b = append-nil (escaped init)
last_escaped false init b = ap (λ zs. escaped init ++ zs) (sym (append-nil (escape b))) ∙ sym (flat_map-append escape init (b ∷ []))

counted : (init : List ℕ) (b : ℕ) → count_by (λ x. x == 92) init + cond (b == 92) 1 0 ≡ count_by (λ x. x == 92) (init ++ b ∷ [])
counted init b =
    let one : count_by (λ x. x == 92) (b ∷ []) ≡ cond (b == 92) 1 0 + 0 = sum_by-cons (λ x. cond (x == 92) 1 0) b [] in
    let all : count_by (λ x. x == 92) (init ++ b ∷ []) ≡ count_by (λ x. x == 92) init + count_by (λ x. x == 92) (b ∷ []) = sum_by-append (λ x. cond (x == 92) 1 0) init (b ∷ []) in
    omega (arith, one, all)

-- the last bytes of a text show what they are without the pad byte
abbrev Ends : Progress → List ℕ → List ℕ → Type 0
Ends p v t = Leads p v (further p (length v) p.held (count_by (λ b. b == 92) v) t) t

ends_in : (p : Progress) (init : List ℕ) (b : ℕ) → way p ≡ InBrackets → IsSettled p.display → p.seen + (length init + 1) ≡ p.size
    → Ends p (init ++ b ∷ []) (escaped (without_pad p.vr (p.size % 2 == 0) (init ++ b ∷ [])))
ends_in p init b e settled last =
    let q : Progress = further p (length init) p.held (count_by (λ x. x == 92) init) (escaped init) in
    let is_pad : Bool = p.size % 2 == 0 && b == pad p.vr in
    let t : List ℕ = escaped init ++ cond is_pad [] (escape b) in
    let parts = leads_on (leads_text p init e settled (omega arith)) (leads_last q b e (omega arith)) (emit_mode p.display (escaped init)) in
    let whole : Ends p (init ++ b ∷ []) t =
    leads_to parts
    (further_twice p (length init) 1 p.held p.held (count_by (λ x. x == 92) init) (cond (b == 92) 1 0) (escaped init) (cond is_pad [] (escape b))
    ∙ same_progress p _ _ _ _ _ _ _ _ (omega (arith, length-append init (b ∷ []))) refl (ap (λ k. p.values + k) (counted init b)) refl) in
    subst (Ends p (init ++ b ∷ [])) (last_escaped is_pad init b ∙ ap escaped (sym (without_last p.vr (p.size % 2 == 0) init b))) whole

pub leads_end : (p : Progress) (v : List ℕ) → way p ≡ InBrackets → IsSettled p.display → p.seen + length v ≡ p.size
    → Ends p v (escaped (without_pad p.vr (p.size % 2 == 0) v))
leads_end p [] e settled last =
    let none : [] ≡ escaped (without_pad p.vr (p.size % 2 == 0) []) = sym (ap escaped (without_none (p.size % 2 == 0 && slice_index [] 0 == pad p.vr) [] refl)) in
    let nothing : Ends p [] [] = leads_to (leads_nowhere p) (sym (same_progress p _ _ _ _ _ _ _ _ (omega arith) refl (omega arith) settled)) in
    subst (Ends p []) none nothing
leads_end p (b ∷ bs) e settled last =
    let v : List ℕ = b ∷ bs in
    let n : ℕ = length bs in
    let apart : v ≡ take n v ++ get_or v n 0 ∷ [] = last_apart v n (omega arith) in
    let long : length v ≡ length (take n v) + 1 = ap length apart ∙ length-append (take n v) (get_or v n 0 ∷ []) in
    subst (λ w. Ends p w (escaped (without_pad p.vr (p.size % 2 == 0) w))) (sym apart) (ends_in p (take n v) (get_or v n 0) e settled (omega arith))

-- bytes of a text, which may be its last
pub leads_some : (p : Progress) (v : List ℕ) → way p ≡ InBrackets → IsSettled p.display → p.seen + length v ≤ p.size
    → Ends p v (escaped (without_pad p.vr (p.seen + length v == p.size && p.size % 2 == 0) v))
leads_some p v e settled within =
    let P : Bool → Type 0 = λ t. Ends p v (escaped (without_pad p.vr (t && p.size % 2 == 0) v)) in
    ⊎_elim
    (λ l. subst P (sym (ne_eqb (p.seen + length v) p.size (λ x. omega (arith, x)))) (leads_text p v e settled l))
    (λ l. let last : p.seen + length v ≡ p.size = omega arith in subst P (sym (eq-eqb (p.seen + length v) p.size last)) (leads_end p v e settled last))
    (cases_lt (p.seen + length v) p.size)
