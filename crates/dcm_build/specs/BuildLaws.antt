-- What is built of an input, or of a beginning of one, by the state after its bytes.
use Rattle.std.specs.Prelude.{◌≡◌, ℕ, ◌≤◌, List, ◌++◌, length, Some, None}
use Rattle.dcm_base.specs.Lines.Build as build
use Rattle.dcm_base.specs.declared.fault.LineStop.{LineStop}
use Rattle.dcm_base.specs.Reading.Reads.{INPUT_LIMIT}
use Rattle.dcm_build.specs.Building.{BuildState, finishes, finish_writes}

-- a whole input builds this, by the state after its bytes and what they wrote
pub record Builds (limit : ℕ) (bytes : List ℕ) (s : BuildState) (written : List ℕ) : Type 0 where
  pub file : written ++ finish_writes s ≡ build.built_bytes (build.built limit bytes).built
  pub told : (finishes s).told ≡ (build.built limit bytes).told

-- after a beginning of an input without fault: what its ended lines have built, and the line that has not ended
pub record BuiltSoFar (limit : ℕ) (bytes : List ℕ) (s : BuildState) (written : List ℕ) : Type 0 where
  pub file : written ≡ build.written_so_far limit bytes
  pub no_fault : (build.built_by limit (build.lines_of bytes).ended).told ≡ None
  pub line : s.line ≡ (build.lines_of bytes).rest
  pub short : length s.line ≤ limit
  pub within : length bytes ≤ INPUT_LIMIT

-- of an input this is reported, and what was built before it is this
pub record Stays (limit : ℕ) (bytes : List ℕ) (told : LineStop) (written : List ℕ) : Type 0 where
  pub told_is : (build.built limit bytes).told ≡ Some told
  pub file : written ≡ build.built_bytes (build.built limit bytes).built
