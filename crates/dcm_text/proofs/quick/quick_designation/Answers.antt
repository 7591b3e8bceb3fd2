use Rattle.std.proofs.Common.{Option, Some, sym, ap, ◌∙◌}
use Rattle.dcm_text.specs.declared.first.Found.{Found}
use Rattle.dcm_text.proofs.Directly.{ascii_at, kanji_at}
use Rattle.dcm_text.proofs.quick.quick_designation.Goals as goal

pub returns-then-has : goal.returns-then-has
returns-then-has c =
    ascii_at c.args.sets.now c.args.halves c.args.bytes.now c.in-len2-up.len_at_least c.if-first-eq40.true c.if-second-eq66.true
    (sym c.has.ensures ∙ c.if-has.true)
    ∙ ap (λ (f : Found). let o : Option Found = Some f in o) (sym c.designation.ensures)

pub returns-then-has-2 : goal.returns-then-has-2
returns-then-has-2 c =
    kanji_at c.args.sets.now c.args.halves c.args.bytes.now c.in-len2-up.len_at_least c.if-first-eq36.true c.if-second-eq66-2.true
    (sym c.has-then-second-eq66-2.ensures ∙ c.if-has-2.true)
    ∙ ap (λ (f : Found). let o : Option Found = Some f in o) (sym c.designation-then-has-2.ensures)
