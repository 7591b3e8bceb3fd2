use Rattle.std.proofs.Common.{◌≡◌, ◌+◌, length, map}
use Rattle.dcm_edits.specs.Meaning.{edit_of}
use Rattle.dcm_editor.specs.Indexes.{tells_everywhere}
use Rattle.dcm_editor.proofs.Masks.IndexGrows.{SoFar}
use Rattle.dcm_editor.proofs.index.TagIndex.of.Given as goal

-- the edits so far are in the index
abbrev pub invariant-loop-edit : goal.invariant-loop-edit
invariant-loop-edit g l = record {
  few : l.place + length l.rest ≡ length l.fn.edits;
  so_far : SoFar l.index l.place (map edit_of l.rest) (map edit_of l.fn.edits);
  tells : tells_everywhere l.index (map edit_of l.fn.edits);
}

abbrev pub decreases-loop-edit : goal.decreases-loop-edit
decreases-loop-edit g l = length l.rest
