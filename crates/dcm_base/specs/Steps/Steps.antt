-- Machines that go from state to state and write.
use Rattle.std.specs.Prelude.{◌≡◌, ℕ, List, [], ◌∷◌, ◌++◌, Option, Result, MatchResult, fold}
use Rattle.std.specs.Io.KnownBytes.{append_known}
use Rattle.dcm_devices.specs.Device.{AppendsFront}

-- what is written over a list, from a state
abbrev pub outputs : {S A B : Type 0} → (S → A → S) → (S → A → List B) → S → List A → List B
outputs step writes s [] = []
outputs step writes s (x ∷ xs) = writes s x ++ outputs step writes (step s x) xs

-- from a state and what a writer held, all of the list was gone over, or a beginning of its output went out where the
-- call failed
abbrev pub Goes : {S A T E : Type 0} → (S → A → S) → (S → A → List ℕ) → S → Option (List ℕ) → S → Option (List ℕ)
    → List A → Result T E → Type 0
Goes step writes s held t holds xs r =
    MatchResult r (λ _. (t ≡ fold step s xs) × (holds ≡ append_known held (outputs step writes s xs)))
    (λ _. AppendsFront held holds (outputs step writes s xs))
