use Rattle.std.proofs.Common.{◌≡◌, ◌<◌, ◌≤◌, ℕ, ◌+◌, length, map, false}
use Rattle.dcm_editor.specs.Masks as masks
use Rattle.dcm_editor.specs.Asking as asking
use Rattle.dcm_edits.specs.Meaning.{edit_of}
use Rattle.dcm_editor.proofs.place.Asked.answering.Given as goal

-- the answers so far are right, whatever the later bits are
abbrev pub invariant-loop-edit : goal.invariant-loop-edit
invariant-loop-edit g l = record {
  few : l.rest.place + length l.rest.edits.now ≡ length l.fn.self.edits.now;
  high : (k : ℕ) → l.rest.place ≤ k → masks.is_set l.yes k ≡ false;
  right : (final : ℕ) → ((k : ℕ) → k < l.rest.place → masks.is_set final k ≡ masks.is_set l.yes k)
      → masks.bits final l.rest.place (map edit_of l.rest.edits.now) ≡ map (asking.answer_of l.fn.question) (masks.asked l.fn.self.depth l.fn.self.mask l.rest.place (map edit_of l.rest.edits.now))
      → masks.bits final 0 (map edit_of l.fn.self.edits.now) ≡ map (asking.answer_of l.fn.question) (masks.asked l.fn.self.depth l.fn.self.mask 0 (map edit_of l.fn.self.edits.now));
}

abbrev pub decreases-loop-edit : goal.decreases-loop-edit
decreases-loop-edit g l = length l.rest.edits.now
