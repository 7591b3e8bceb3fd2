use Rattle.std.proofs.Common.{ℕ, Option, Some, sym, ap, ◌∙◌}
use Rattle.dcm_text.specs.declared.first.Found.{Found}
use Rattle.dcm_text.specs.Quick.{read}
use Rattle.dcm_text.proofs.Directly.{pair_at}
use Rattle.dcm_text.proofs.quick.pair_87.Goals as goal

pub returns-in-len1-up : goal.returns-in-len1-up
returns-in-len1-up c = λ sets kind.
    pair_at c.args.halves c.args.first c.args.after.now c.in-len1-up.len_at_least c.requires
    (sym c.is_of_87.ensures ∙ c.if-is_of_87.true) (sym c.is_of_87-then-is_of_87.ensures ∙ c.if-is_of_87-2.true) sets kind
    ∙ ap (λ (f : Found). let o : Option Found = Some f in o)
    (sym (c.read.ensures ∙ ap (λ (x : Option ℕ). read 2 x c.args.halves) c.character_87.ensures))
