use Rattle.std.proofs.Common.{ℕ, Option, Some, sym, ap, ◌∙◌}
use Rattle.dcm_text.specs.declared.first.Found.{Found}
use Rattle.dcm_text.specs.Quick.{read}
use Rattle.dcm_text.proofs.Directly.{two_at, three_at}
use Rattle.dcm_text.proofs.quick.few_utf8.Goals as goal

pub returns-in-len1-up : goal.returns-in-len1-up
returns-in-len1-up c = λ sets kind.
    two_at c.args.halves c.args.first c.args.after.now c.in-len1-up.len_at_least c.requires
    (sym c.begins_two.ensures ∙ c.if-begins_two.true) (sym c.goes_on.ensures ∙ c.if-goes_on.true) sets kind
    ∙ ap (λ (f : Found). let o : Option Found = Some f in o)
    (sym (c.read.ensures ∙ ap (λ (x : Option ℕ). read 2 x c.args.halves) c.character_utf8.ensures))

pub returns-in-len2-up : goal.returns-in-len2-up
returns-in-len2-up c = λ sets kind.
    three_at c.args.halves c.args.first c.args.after.now c.in-len2-up.len_at_least c.requires
    (sym c.begins_three.ensures ∙ c.if-begins_three.true) (sym c.goes_on-then-begins_three.ensures ∙ c.if-goes_on-2.true)
    (sym c.goes_on-then-goes_on-2.ensures ∙ c.if-goes_on-3.true) sets kind
    ∙ ap (λ (f : Found). let o : Option Found = Some f in o)
    (sym (c.read-in-len2-up.ensures ∙ ap (λ (x : Option ℕ). read 3 x c.args.halves) c.character_utf8-in-len2-up.ensures))
