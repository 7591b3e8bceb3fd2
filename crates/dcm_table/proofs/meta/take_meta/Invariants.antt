use Rattle.std.proofs.Common.{◌≤◌, length}
use Rattle.dcm_table.proofs.MetaTaken.{MetaSoFar}
use Rattle.dcm_table.proofs.meta.take_meta.Given as goal

-- the elements so far are taken
abbrev pub invariant-loop-element : goal.invariant-loop-element
invariant-loop-element l = record {
  taken : MetaSoFar l.fn.cells l.cells l.group l.rest;
  within : length l.rest ≤ 16384;
}

abbrev pub decreases-loop-element : goal.decreases-loop-element
decreases-loop-element l = length l.rest
