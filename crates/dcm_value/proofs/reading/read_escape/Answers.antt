use Rattle.std.proofs.Common.{◌≡◌, ◌<◌, ◌≤◌, ℕ, ◌-◌, List, [], ◌∷◌, length, take, drop, get_or, None, refl, ap, sym, ◌∙◌, arith}
use Rattle.std.proofs.Math.Seq.{take-length}
use Rattle.dcm_base.specs.Lines.ReadValue.{◌>>=◌, hex_number, bracketed_value}
use Rattle.dcm_value.specs.Taking.{behind}
use Rattle.dcm_value.proofs.reading.read_escape.Goals as goal

cut : (v : List ℕ) → length v < 2 → bracketed_value (37 ∷ v) ≡ None
cut [] l = refl
cut (x ∷ []) l = refl
cut (x ∷ y ∷ v) l = absurd (omega arith)

-- two digits, and what is behind them
read : (v : List ℕ) → 2 ≤ length v → bracketed_value (37 ∷ v) ≡ (hex_number 2 (get_or v 0 0 ∷ get_or v 1 0 ∷ []) >>= λ b. behind (b ∷ []) (bracketed_value (take (length v - 2) (drop 2 v))))
read [] l = absurd (omega arith)
read (x ∷ []) l = absurd (omega arith)
read (x ∷ y ∷ v) l =
    let rest : length (x ∷ y ∷ v) - 2 ≡ length v = omega arith in
    ap (λ w. hex_number 2 (x ∷ y ∷ []) >>= λ b. behind (b ∷ []) (bracketed_value w)) (sym (ap (λ n. take n v) rest ∙ take-length v))

pub returns-in_err-unescape-in-len2-up-clause-value : goal.returns-in_err-unescape-in-len2-up-clause-value
returns-in_err-unescape-in-len2-up-clause-value c =
    let v = c.args.text.now in
    let none : bracketed_value (37 ∷ v) ≡ None = read v (omega arith) ∙ ap (λ o. o >>= λ b. behind (b ∷ []) (bracketed_value (take (length v - 2) (drop 2 v)))) (sym c.in_err-unescape-in-len2-up.ensures) in
    rw c.from_residual.ensures none

pub returns-in_default-clause-value : goal.returns-in_default-clause-value
returns-in_default-clause-value c = cut c.args.text.now (omega arith)

pub returns-in_ok-unescape-in-len2-up-clause-value : goal.returns-in_ok-unescape-in-len2-up-clause-value
returns-in_ok-unescape-in-len2-up-clause-value c =
    let v = c.args.text.now in
    read v (omega arith) ∙ ap (λ o. o >>= λ b. behind (b ∷ []) (bracketed_value (take (length v - 2) (drop 2 v)))) (sym c.in_ok-unescape-in-len2-up.ensures)
