use Rattle.std.proofs.Common.{◌≡◌, ℕ, Bool, true, cond, List, ◌++◌, length, take, min, ap, sym, ◌∙◌, arith, append_assoc, codes, inl, inr}
use Rattle.std.proofs.lemmas.Bool.{cases_lt}
use Rattle.std.proofs.Math.Seq.{take-length}
use Rattle.std.proofs.lemmas.List.{take_all}
use Rattle.dcm_value.specs.Display.{Display, is_cut, ending}
use Rattle.dcm_value.specs.Decoded.{cut_size}
use Rattle.dcm_value.specs.Shown.{display_of}
use Rattle.dcm_value.proofs.display.Shown.append_decoded_end.Goals as goal

take_less : (n : ℕ) (xs : List ℕ) → take (min n (length xs)) xs ≡ take n xs
take_less n xs = elim (cases_lt n (length xs)) [
  | inl l ↦ ap (λ (k : ℕ). take k xs) (let e : min n (length xs) ≡ n = omega arith in e)
  | inr l ↦ ap (λ (k : ℕ). take k xs) (let e : min n (length xs) ≡ length xs = omega arith in e) ∙ take-length xs ∙ sym (take_all n xs l)
]

pub returns-clause-items : goal.returns-clause-items
returns-clause-items g c =
    let d : Display = display_of c.args.self.now in
    let line : List ℕ = c.args.line.now.items in
    let front : List ℕ = c.front-front.result.now in
    let cut : is_cut d ≡ true = sym c.is_cut.ensures ∙ c.if-not-is_cut.false in
    let left : c.split_at.result.0.now ≡ take (cut_size d.front) d.front =
    c.split_at.ensures.front
    ∙ ap (λ (k : ℕ). take k front) (c.min.ensures ∙ ap (λ (k : ℕ). min k (length front)) c.cut_size.ensures.value)
    ∙ take_less (cut_size front) front
    ∙ ap (λ (f : List ℕ). take (cut_size f) f) c.front-front.ensures in
    let core : c.append-2.new.text.items ≡ line ++ (c.split_at.result.0.now ++ codes "...") =
    c.append-2.ensures ∙ ap (λ (x : List ℕ). x ++ codes "...") c.append.ensures ∙ append_assoc line c.split_at.result.0.now (codes "...") in
    core ∙ ap (λ (x : List ℕ). line ++ (x ++ codes "...")) left
    ∙ ap (λ (t : Bool). line ++ cond t (take (cut_size d.front) d.front ++ codes "...") (ending d)) (sym cut)
