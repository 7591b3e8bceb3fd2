use Rattle.std.proofs.Common.{◌∙◌, ◌-◌, ◌<◌, sym, ap, subst, length, take, ℕ, List, Some}
use Rattle.dcm_head.specs.MetaReading.{EndsIn, UsesWithin}
use Rattle.dcm_head.proofs.HeadReading.Stays.{grew, answers, uses_piece}
use Rattle.dcm_head.proofs.meta.Meta.feed.Goals as goal

pub answer-requires-clause-before : goal.answer-requires-clause-before
answer-requires-clause-before c =
    let g = grew c.args.self.now c.go_over.new.self c.args.piece.now c.in-Some-Ended.field-0-0 c.go_over.ensures c.requires (sym c.end.ensures.end ∙ c.in-Some-Ended.is ∙ ap Some c.in-Some-Ended.field-0-is) in
    subst (λ (n : ℕ). n < length c.go_over.new.self.bytes) (sym c.len-before.ensures) g.longer

pub returns-in-Some-Ended-clause-answer : goal.returns-in-Some-Ended-clause-answer
returns-in-Some-Ended-clause-answer c =
    let g = grew c.args.self.now c.go_over.new.self c.args.piece.now c.in-Some-Ended.field-0-0 c.go_over.ensures c.requires (sym c.end.ensures.end ∙ c.in-Some-Ended.is ∙ ap Some c.in-Some-Ended.field-0-is) in
    let same = ap (λ (n : ℕ). take n c.go_over.new.self.bytes) c.len-before.ensures ∙ g.front in
    answers _ c.go_over.new.self c.in-Some-Ended.field-0-0 _ (sym c.end.ensures.end ∙ c.in-Some-Ended.is ∙ ap Some c.in-Some-Ended.field-0-is)
    (subst (λ (before : List ℕ). EndsIn before c.go_over.new.self.place c.answer.result) same c.answer.ensures.begins)

pub returns-in-Some-Ended-clause-used : goal.returns-in-Some-Ended-clause-used
returns-in-Some-Ended-clause-used c =
    uses_piece c.args.self.now c.go_over.new.self c.args.piece.now _ c.go_over.ensures
    (subst (λ (n : ℕ). UsesWithin (length c.go_over.new.self.bytes - n) c.answer.result) c.len-before.ensures c.answer.ensures.used)
