use Rattle.std.proofs.Common.{◌≡◌, ◌≤◌, length, map, option_map}
use Rattle.dcm_edits.specs.Parts.{part_as, path_parts, after_parts, rest_parts, rest_length, PART_LIMIT}
use Rattle.dcm_edits.proofs.path.parts_of.Given as goal

-- the parts so far, and those of what is left
abbrev pub invariant-loop-rest : goal.invariant-loop-rest
invariant-loop-rest l = record {
  same : path_parts l.path ≡ after_parts (map part_as l.parts.items) (rest_parts (option_map (λ t. t.now) l.rest));
  within : length l.parts.items ≤ PART_LIMIT;
}

abbrev pub decreases-loop-rest : goal.decreases-loop-rest
decreases-loop-rest l = rest_length (option_map (λ t. t.now) l.rest)
