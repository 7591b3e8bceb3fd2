-- How far an element came that a sink takes whole.
use Rattle.std.specs.Prelude.{◌≡◌, ℕ, List, ◌++◌, Option, Result, Ok, Err, fold}
use Rattle.std.specs.Io.KnownBytes.{append_known}
use Rattle.dcm_base.specs.Steps.Atoms.{Atom}
use Rattle.dcm_base.specs.Steps.Steps.{outputs}
use Rattle.dcm_devices.specs.Device.{AppendsFront}
use Rattle.dcm_stream.specs.declared.token.WholeFailed.{WholeFailed}
use Rattle.dcm_stream.specs.declared.token.WholeFailed.TheVariants.{AtHead, InValue}

-- from a state, what its head and its value make went out; or a beginning of what its head makes; or all of that, and a
-- beginning of what its value makes
abbrev pub PutsWhole : {S T : Type 0} → (S → Atom → S) → (S → Atom → List ℕ) → S → (held holds : Option (List ℕ))
    → (head value : List Atom) → Result T WholeFailed → Type 0
PutsWhole step writes s held holds head value (Ok x) = holds ≡ append_known held (outputs step writes s (head ++ value))
PutsWhole step writes s held holds head value (Err AtHead) = AppendsFront held holds (outputs step writes s head)
PutsWhole step writes s held holds head value (Err InValue) =
    AppendsFront (append_known held (outputs step writes s head)) holds (outputs step writes (fold step s head) value)
