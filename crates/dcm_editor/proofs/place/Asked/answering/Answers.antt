use Rattle.std.proofs.Common.{◌≡◌, ◌+◌, List, [], ◌∷◌, length, map, refl, subst, arith}
use Rattle.dcm_edits.specs.declared.edit.Edit.{Edit}
use Rattle.dcm_editor.specs.Asking as asking
use Rattle.dcm_edits.specs.Meaning.{edit_of}
use Rattle.dcm_editor.proofs.Masks.Bits.{SoFar, goes_on, high_on}
use Rattle.dcm_editor.proofs.Masks.Skips.{none_set, high_skips, so_far_skips}
use Rattle.dcm_editor.proofs.place.Asked.answering.Goals as goal

pub loop-edit-init : goal.loop-edit-init
loop-edit-init g c =
    let all = map edit_of c.args.self.now.edits.now in
    let few = c.rest_of-rest.ensures.few in
    record {
      few = omega (arith, few);
      high = λ k l. none_set k;
      right = so_far_skips c.args.question c.args.self.now.depth c.args.self.now.mask all 0 0 all _ _ c.rest_of-rest.ensures.skips (λ i l. none_set i) (λ final agrees right. right);
    }

pub loop-edit-preserved : goal.loop-edit-preserved
loop-edit-preserved g c =
    let split = c.in-Some.ensures.cases in
    let answer = asking.answer_of c.args.question in
    let all = map edit_of c.args.self.now.edits.now in
    let place = c.loop-edit.rest.place in
    let before = subst (λ (l : List (Edit g.row.A.Denot)). SoFar answer c.args.self.now.depth c.args.self.now.mask all c.loop-edit.yes place (map edit_of l)) split.0 c.loop-edit.invariant.right in
    let high = high_on answer c.args.self.now.depth c.args.self.now.mask all c.loop-edit.yes c.with_answer-yes.result place c.loop-edit.invariant.high c.with_answer-yes.ensures.others in
    let after = goes_on answer c.args.self.now.depth c.args.self.now.mask all c.loop-edit.yes c.with_answer-yes.result place _ _ before c.with_answer-yes.ensures.here c.with_answer-yes.ensures.others in
    let few = c.loop-edit.invariant.few in
    let size = split.1 in
    let left = c.rest_of-rest-in-Some.ensures.few in
    record {
      few = omega (arith, few, size, left);
      high = high_skips c.args.self.now.mask c.with_answer-yes.result (place + 1) _ _ _ c.rest_of-rest-in-Some.ensures.skips high;
      right = so_far_skips c.args.question c.args.self.now.depth c.args.self.now.mask all c.with_answer-yes.result (place + 1) _ _ _ c.rest_of-rest-in-Some.ensures.skips high after;
    }

no_more : {A : Type 0} (xs : List A) → length xs ≡ 0 → xs ≡ []
no_more [] h = refl
no_more (x ∷ xs) h = absurd (omega (arith, h))

pub returns : goal.returns
returns g c =
    let answer = asking.answer_of c.args.question in
    let all = map edit_of c.args.self.now.edits.now in
    let right = subst (λ (l : List (Edit g.row.A.Denot)). SoFar answer c.args.self.now.depth c.args.self.now.mask all c.loop-edit.yes c.loop-edit.rest.place (map edit_of l)) (no_more c.loop-edit.rest.edits.now c.in_default.ensures.cases) c.loop-edit.invariant.right in
    right c.loop-edit.yes (λ k l. refl) refl
