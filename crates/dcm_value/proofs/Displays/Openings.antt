-- What was opened stays so.
use Rattle.std.proofs.Common.{◌≡◌, ◌<◌, ℕ, ◌+◌, ◌==◌, ◌&&◌, min, nat_lt, List, [], ◌∷◌, ◌++◌, length, codes, ap, sym, ◌∙◌, refl, arith, append_assoc, cond, true, false, Bool, fold, ne_eqb, eq-eqb}
use Rattle.std.proofs.lemmas.Bool.{cases_Bool, cases_lt, false≢true}
use Rattle.std.proofs.lemmas.List.Sums.{fold-append}
use mathlib.Core.Logic.{⊎_elim}
use Rattle.dcm_lemmas.proofs.Truth.{and_last_false}
use Rattle.dcm_base.specs.Steps.Steps.{outputs}
use Rattle.dcm_base.proofs.Writes.Runs.{outputs-append}
use Rattle.dcm_value.specs.Display.{Display, emit, at_once}
use Rattle.dcm_value.specs.Progress.{Progress, way, step, writes, adds, opening, opening_writes, opened, is_unopened, is_bracketed, feeds}
use Rattle.dcm_value.specs.Laws.{InPieces}
use Rattle.dcm_value.proofs.Displays.Emits.{IsSettled, emit_settled, once_none}

-- nothing stands before its next byte, and showing nothing changes nothing
pub record IsReady (p : Progress) : Type 0 where
  pub is_opened : is_unopened p ≡ false
  pub settled : IsSettled p.display

pub shown_more : (d : Display) (b : List ℕ) → 0 < d.shown → 0 < (emit d b).shown
unfolding emit
shown_more d b l = omega arith

pub still : (a b : Bool) (m n : ℕ) → (0 < m → 0 < n) → (a && (b && m == 0)) ≡ false → (a && (b && n == 0)) ≡ false
still false b m n more h = refl
still true false m n more h = refl
still true true m n more h = ne_eqb n 0 (λ e. ⊎_elim (λ l. let some : 0 < n = more l in omega (arith, some, e)) (λ l. false≢true (sym h ∙ eq-eqb m 0 (omega arith))) (cases_lt 0 m))

ready_step : (p : Progress) (b : ℕ) → IsReady p → IsReady (step p b)
unfolding step
ready_step p b r = record {
  is_opened = still (is_bracketed (way p)) (nat_lt 0 p.size) p.display.shown _ (shown_more p.display (adds p b)) r.is_opened;
  settled = emit_settled p.display (adds p b);
}

pub ready_fold : (p : Progress) (v : List ℕ) → IsReady p → IsReady (fold step p v)
ready_fold p [] r = r
ready_fold p (b ∷ bs) r = ready_fold (step p b) bs (ready_step p b r)

pub ready_opened : (p : Progress) → IsReady (opened p)
unfolding opened emit
ready_opened p = record { is_opened = is_opened; settled = emit_settled p.display (opening p) }
  where
    is_opened : is_unopened (opened p) ≡ false
    is_opened =
        ⊎_elim
        (λ t.
        let some : 0 < min 67 (p.display.shown + length (opening p)) = (let long : length (opening p) ≡ 1 = ap (λ x. length (cond x (codes "[") [])) t in omega arith) in
        ap (λ x. is_bracketed (way p) && (nat_lt 0 p.size && x)) (ne_eqb (min 67 (p.display.shown + length (opening p))) 0 (λ e. omega (arith, e)))
        ∙ and_last_false (is_bracketed (way p)) (nat_lt 0 p.size))
        (λ f. still (is_bracketed (way p)) (nat_lt 0 p.size) p.display.shown _ (shown_more p.display (opening p)) f)
        (cases_Bool (is_unopened p))

pub opening_ready : (p : Progress) → IsReady p → opening p ≡ []
opening_ready p r = ap (λ x. cond x (codes "[") []) r.is_opened

pub opened_ready : (p : Progress) → IsReady p → opened p ≡ p
unfolding opened
opened_ready p r = ap (λ d. record p { display = d }) (ap (emit p.display) (opening_ready p r) ∙ r.settled)

pub feeds_ready : (p : Progress) (v : List ℕ) → IsReady p → feeds p v ≡ outputs step writes p v
feeds_ready p v r = ap (λ x. at_once p.display.mode x ++ outputs step writes (opened p) v) (opening_ready p r) ∙ ap (λ xs. xs ++ outputs step writes (opened p) v) (once_none p.display.mode) ∙ ap (λ x. outputs step writes x v) (opened_ready p r)

-- cuts are not seen
pub in_pieces : InPieces
in_pieces p v w =
    let q : Progress = fold step (opened p) v in
    let ready : IsReady q = ready_fold (opened p) v (ready_opened p) in (
      ap (λ x. fold step x w) (opened_ready q ready) ∙ sym (fold-append step (opened p) v w),
      ap (λ xs. feeds p v ++ xs) (feeds_ready q w ready) ∙ append_assoc (opening_writes p) (outputs step writes (opened p) v) (outputs step writes q w) ∙ ap (λ xs. opening_writes p ++ xs) (sym (outputs-append step writes (opened p) v w)),
    )
