-- A dump that is passed over stays as it is.
use Rattle.std.proofs.Common.{◌≡◌, refl, List, [], ◌∷◌}
use Rattle.std.specs.Prelude.{fold}
use Rattle.dcm_base.specs.Steps.Atoms.{Atom}
use Rattle.dcm_sinks.specs.DumpSink.{DumpState, as_before}

pub all_as_before : (s : DumpState) (atoms : List Atom) → s ≡ fold as_before s atoms
all_as_before s [] = refl
all_as_before s (a ∷ atoms) = all_as_before s atoms
