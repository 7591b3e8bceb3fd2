-- What was opened of a text by Specific Character Set stays so.
use Rattle.std.proofs.Common.{◌≡◌, ◌<◌, ℕ, ◌+◌, ◌&&◌, min, nat_lt, not, List, [], ◌∷◌, ◌++◌, length, codes, ap, sym, ◌∙◌, arith, append_assoc, cond, false, fold, ne_eqb}
use Rattle.std.proofs.lemmas.Bool.{cases_Bool}
use Rattle.std.proofs.lemmas.List.Sums.{fold-append}
use mathlib.Core.Logic.{⊎_elim}
use Rattle.dcm_lemmas.proofs.Truth.{and_last_false}
use Rattle.dcm_base.specs.Steps.Steps.{outputs}
use Rattle.dcm_base.proofs.Writes.Runs.{outputs-append}
use Rattle.dcm_value.specs.Display.{emit, at_once}
use Rattle.dcm_value.specs.DecodedProgress.{DecodedProgress, is_named, step, writes, adds, opening, opening_writes, opened, is_unopened, feeds}
use Rattle.dcm_value.specs.DecodedLaws.{DecodedInPieces}
use Rattle.dcm_value.proofs.Displays.Emits.{IsSettled, emit_settled, once_none}
use Rattle.dcm_value.proofs.Displays.Openings.{shown_more, still}

-- nothing stands before its next byte, and showing nothing changes nothing
pub record IsReady (p : DecodedProgress) : Type 0 where
  pub is_opened : is_unopened p ≡ false
  pub settled : IsSettled p.display

ready_step : (p : DecodedProgress) (b : ℕ) → IsReady p → IsReady (step p b)
unfolding step
ready_step p b r = record {
  is_opened = still (not (is_named p.vr p.size)) (nat_lt 0 p.size) p.display.shown _ (shown_more p.display (adds p b)) r.is_opened;
  settled = emit_settled p.display (adds p b);
}

pub ready_fold : (p : DecodedProgress) (v : List ℕ) → IsReady p → IsReady (fold step p v)
ready_fold p [] r = r
ready_fold p (b ∷ bs) r = ready_fold (step p b) bs (ready_step p b r)

pub ready_opened : (p : DecodedProgress) → IsReady (opened p)
unfolding opened emit
ready_opened p = record { is_opened = is_opened; settled = emit_settled p.display (opening p) }
  where
    is_opened : is_unopened (opened p) ≡ false
    is_opened =
        ⊎_elim
        (λ t.
        let some : 0 < min 67 (p.display.shown + length (opening p)) = (let long : length (opening p) ≡ 1 = ap (λ x. length (cond x (codes "[") [])) t in omega arith) in
        ap (λ x. not (is_named p.vr p.size) && (nat_lt 0 p.size && x)) (ne_eqb (min 67 (p.display.shown + length (opening p))) 0 (λ e. omega (arith, e)))
        ∙ and_last_false (not (is_named p.vr p.size)) (nat_lt 0 p.size))
        (λ f. still (not (is_named p.vr p.size)) (nat_lt 0 p.size) p.display.shown _ (shown_more p.display (opening p)) f)
        (cases_Bool (is_unopened p))

pub opening_ready : (p : DecodedProgress) → IsReady p → opening p ≡ []
opening_ready p r = ap (λ x. cond x (codes "[") []) r.is_opened

pub opened_ready : (p : DecodedProgress) → IsReady p → opened p ≡ p
unfolding opened
opened_ready p r = ap (λ d. record p { display = d }) (ap (emit p.display) (opening_ready p r) ∙ r.settled)

pub feeds_ready : (p : DecodedProgress) (v : List ℕ) → IsReady p → feeds p v ≡ outputs step writes p v
feeds_ready p v r =
    ap (λ x. at_once p.display.mode x ++ outputs step writes (opened p) v) (opening_ready p r)
    ∙ ap (λ xs. xs ++ outputs step writes (opened p) v) (once_none p.display.mode)
    ∙ ap (λ x. outputs step writes x v) (opened_ready p r)

-- cuts are not seen
pub decoded_in_pieces : DecodedInPieces
decoded_in_pieces p v w =
    let q : DecodedProgress = fold step (opened p) v in
    let ready : IsReady q = ready_fold (opened p) v (ready_opened p) in (
      ap (λ x. fold step x w) (opened_ready q ready) ∙ sym (fold-append step (opened p) v w),
      ap (λ xs. feeds p v ++ xs) (feeds_ready q w ready)
          ∙ append_assoc (opening_writes p) (outputs step writes (opened p) v) (outputs step writes q w)
          ∙ ap (λ xs. opening_writes p ++ xs) (sym (outputs-append step writes (opened p) v w)),
    )
