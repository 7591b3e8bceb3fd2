use Rattle.std.proofs.Common.{◌≡◌, ◌∙◌, ◌++◌, ap, sym, cond, true, codes}
use Rattle.dcm_base.specs.Dump.ValueText.{padded, bracketed}
use Rattle.dcm_value.specs.Whole.{is_plain}
use Rattle.dcm_value.proofs.Displays.PlainTexts.{plain_escaped}
use Rattle.dcm_value.proofs.whole.append_plain.Goals as goal

pub returns-then-is_plain-clause-items : goal.returns-then-is_plain-clause-items
returns-then-is_plain-clause-items g c =
    let t = c.args.text.now in
    let before = c.args.line.now.items in
    let known = c.if-is_plain.true in
    let plain : is_plain t ≡ true = sym c.is_plain_text-is_plain.ensures ∙ known in
    c.append_bracketed.ensures.items
    ∙ ap (λ x. before ++ padded (codes "[" ++ x ++ codes "]")) (sym (plain_escaped t plain))
    ∙ ap (λ b. cond b (before ++ padded (bracketed t)) before) (sym known)
