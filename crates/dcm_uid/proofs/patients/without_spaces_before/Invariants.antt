use Rattle.std.proofs.Common.{◌≡◌, ◌≤◌, length}
use Rattle.dcm_uid.specs.Pseudonym.{without_spaces_before}
use Rattle.dcm_uid.proofs.patients.without_spaces_before.Given as goal

-- what is left gives what all of it gives
abbrev pub invariant-loop-rest : goal.invariant-loop-rest
invariant-loop-rest l = record {
  same : without_spaces_before l.rest ≡ without_spaces_before l.text;
  within : length l.rest ≤ length l.text;
}

abbrev pub decreases-loop-rest : goal.decreases-loop-rest
decreases-loop-rest l = length l.rest
