use Rattle.std.proofs.Common.{◌≡◌, ◌+◌, length, map}
use Rattle.dcm_editor.specs.Masks as masks
use Rattle.dcm_editor.specs.Asking as asking
use Rattle.dcm_edits.specs.Meaning.{edit_of}
use Rattle.dcm_editor.proofs.place.Asked.least_new.Given as goal

-- the least so far
abbrev pub invariant-loop-edit : goal.invariant-loop-edit
invariant-loop-edit g l = record {
  few : l.rest.place + length l.rest.edits.now ≡ length l.fn.self.edits.now;
  same : asking.least_new l.fn.gap (asking.seen_of l.least) (masks.asked l.fn.self.depth l.fn.self.mask l.rest.place (map edit_of l.rest.edits.now)) ≡ asking.least_new l.fn.gap asking.nothing_new (masks.asked l.fn.self.depth l.fn.self.mask 0 (map edit_of l.fn.self.edits.now));
}

abbrev pub decreases-loop-edit : goal.decreases-loop-edit
decreases-loop-edit g l = length l.rest.edits.now
