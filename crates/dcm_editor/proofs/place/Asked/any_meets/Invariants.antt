use Rattle.std.proofs.Common.{◌≡◌, ◌+◌, length, map}
use Rattle.dcm_editor.specs.Masks as masks
use Rattle.dcm_editor.specs.Asking as asking
use Rattle.dcm_edits.specs.Meaning.{edit_of}
use Rattle.dcm_editor.specs.declared.asked.Question.TheVariants.{Meets}
use Rattle.dcm_editor.proofs.place.Asked.any_meets.Given as goal

-- no edit so far answers yes
abbrev pub invariant-loop-edit : goal.invariant-loop-edit
invariant-loop-edit g l = record {
  few : l.rest.place + length l.rest.edits.now ≡ length l.fn.self.edits.now;
  same : asking.any_answer (Meets l.fn.tag l.fn.last) (masks.asked l.fn.self.depth l.fn.self.mask l.rest.place (map edit_of l.rest.edits.now)) ≡ asking.any_answer (Meets l.fn.tag l.fn.last) (masks.asked l.fn.self.depth l.fn.self.mask 0 (map edit_of l.fn.self.edits.now));
}

abbrev pub decreases-loop-edit : goal.decreases-loop-edit
decreases-loop-edit g l = length l.rest.edits.now
