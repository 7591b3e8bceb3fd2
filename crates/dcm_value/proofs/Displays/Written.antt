-- What is written of a value, from its opening on.
use Rattle.std.proofs.Common.{◌≡◌, ◌<◌, ℕ, ◌&&◌, List, [], ◌++◌, codes, ap, sym, ◌∙◌, arith, cond, true, false, fold, nat_lt, lt-ltb, ne_eqb}
use Rattle.dcm_base.specs.declared.vr.Vr.{Vr}
use Rattle.dcm_base.specs.declared.syntax.Syntax.{Syntax}
use Rattle.dcm_base.specs.declared.mode.Mode.{Mode}
use Rattle.dcm_base.specs.Steps.Steps.{outputs}
use Rattle.dcm_base.specs.Dump.ValueText.{shape, padded, shortened, is_single}
use Rattle.dcm_value.specs.declared.way.Way.{Way}
use Rattle.dcm_value.specs.declared.way.Way.TheVariants.{InBrackets}
use Rattle.dcm_value.specs.Way.{way_of}
use Rattle.dcm_value.specs.Display.{blank, emit, at_once}
use Rattle.dcm_value.specs.Progress.{Progress, way, started, opening, opened, is_bracketed, step, writes, finishes, closing, closing_as, multiplicity, counted_as}
use Rattle.dcm_value.specs.Laws.{after, written}
use Rattle.dcm_value.proofs.Displays.Emits.{emit_mode, once_append}
use Rattle.dcm_value.proofs.Displays.Endings.{finishes_all}
use Rattle.dcm_value.proofs.Displays.Steps.{Leads}

-- behind an opening
abbrev pub begun : Vr → Syntax → ℕ → Mode → List ℕ → Progress
begun vr syntax size mode o = record (started vr syntax size mode) { display = emit (blank mode) o }

module _ (vr : Vr) (syntax : Syntax) (size : ℕ) (mode : Mode) where
  opens : (o : List ℕ) → opening (started vr syntax size mode) ≡ o → opened (started vr syntax size mode) ≡ begun vr syntax size mode o
  unfolding opened
  opens o e = ap (begun vr syntax size mode) e

  -- only a value in brackets is opened
  pub opens_bracket : way_of (shape vr) size ≡ InBrackets → 0 < size → opening (started vr syntax size mode) ≡ codes "["
  opens_bracket w l = ap (λ x. cond (is_bracketed x && (nat_lt 0 size && true)) (codes "[") []) w ∙ ap (λ t. cond (t && true) (codes "[") []) (lt-ltb 0 size l)

  pub opens_nothing : is_bracketed (way_of (shape vr) size) ≡ false → opening (started vr syntax size mode) ≡ []
  opens_nothing e = ap (λ t. cond (t && (nat_lt 0 size && true)) (codes "[") []) e

  module _ (o : List ℕ) (is : opening (started vr syntax size mode) ≡ o) (v : List ℕ) (q : Progress) (t : List ℕ) (leads : Leads (begun vr syntax size mode o) v q t) where
    pub tells_state : after vr syntax size mode v ≡ q
    tells_state = ap (λ p. fold step p v) (opens o is) ∙ leads.state

    pub tells_text : written vr syntax size mode v ≡ at_once mode (o ++ t)
    tells_text =
        ap (λ x. at_once mode x ++ outputs step writes (opened (started vr syntax size mode)) v) is
        ∙ ap (λ p. at_once mode o ++ outputs step writes p v) (opens o is)
        ∙ ap (λ xs. at_once mode o ++ xs) (leads.bytes ∙ ap (λ m. at_once m t) (emit_mode (blank mode) o))
        ∙ sym (once_append mode o t)

    pub tells_whole : q.display ≡ emit (blank mode) (o ++ t) → written vr syntax size mode v ++ finishes (after vr syntax size mode v) ≡ padded (shortened mode ((o ++ t) ++ closing q))
    tells_whole e = ap (λ p. written vr syntax size mode v ++ finishes p) tells_state ∙ ap (λ xs. xs ++ finishes q) tells_text ∙ finishes_all mode q (o ++ t) e

-- of a value that is not empty
pub closes_some : (q : Progress) (w : Way) → way q ≡ w → 0 < q.size → closing q ≡ closing_as w q
closes_some q w e l = ap (λ t. cond t (codes "(no value available)") (closing_as (way q) q)) (ne_eqb q.size 0 (λ x. omega (arith, x))) ∙ ap (λ x. closing_as x q) e

pub counts_some : (q : Progress) (w : Way) → way q ≡ w → 0 < q.size → multiplicity q ≡ cond (is_single q.vr) 1 (counted_as w q)
counts_some q w e l = ap (λ t. cond t 0 (cond (is_single q.vr) 1 (counted_as (way q) q))) (ne_eqb q.size 0 (λ x. omega (arith, x))) ∙ ap (λ x. cond (is_single q.vr) 1 (counted_as x q)) e
