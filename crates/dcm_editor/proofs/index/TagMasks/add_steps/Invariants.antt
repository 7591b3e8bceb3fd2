use Rattle.std.proofs.Common.{length}
use Rattle.dcm_editor.specs.Indexes.{MasksGrow}
use Rattle.dcm_editor.proofs.Masks.IndexGrows.{StepsSoFar}
use Rattle.dcm_editor.proofs.index.TagMasks.add_steps.Given as goal

-- the steps so far are in the masks
abbrev pub invariant-loop-step : goal.invariant-loop-step
invariant-loop-step l = record {
  grown : MasksGrow l.fn.self l.self;
  so_far : StepsSoFar l.self l.fn.place l.rest l.fn.steps;
}

abbrev pub decreases-loop-step : goal.decreases-loop-step
decreases-loop-step l = length l.rest
