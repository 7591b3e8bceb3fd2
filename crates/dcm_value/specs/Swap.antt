-- The units that are turned round.
use Rattle.std.specs.Prelude.{ℕ, ◌≡◌, ◌⊎◌}

-- the sizes of a unit
abbrev pub IsUnit : ℕ → Type 0
IsUnit n = (n ≡ 1) ⊎ (n ≡ 2) ⊎ (n ≡ 4) ⊎ (n ≡ 8)
