-- Of a dump by characters that is passed over, what is in force goes on.
use Rattle.std.proofs.Common.{◌≡◌, refl, List, [], ◌∷◌}
use Rattle.std.specs.Prelude.{fold}
use Rattle.dcm_base.specs.Steps.Atoms.{Atom}
use Rattle.dcm_sinks.specs.DecodedSink.{DecodedState, passed_over}
use Rattle.dcm_sinks.specs.SettingValue.{force_step}

pub force_goes_on : (s : DecodedState) (atoms : List Atom) → (record s { force = fold force_step s.force atoms }) ≡ fold passed_over s atoms
force_goes_on s [] = refl
force_goes_on s (a ∷ atoms) = force_goes_on (passed_over s a) atoms
