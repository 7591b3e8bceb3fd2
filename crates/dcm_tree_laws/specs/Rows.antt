-- The names of a walk, and the rows of a manifest.
use Rattle.std.specs.Prelude.{◌≡◌, List, [], ◌∷◌, ◌++◌}
use Rattle.dcm_walk.specs.Visits.{Named, Visits}
use Rattle.dcm_walk.specs.declared.visitor.What.{What}

-- a name that was visited, as what it is
pub record Visit : Type 0 where
  pub named : Named
  pub what : What

-- the same visits, with each noted behind those before it
abbrev pub noted : {V S : Type 0} → Visits V S → Visits (V × List Visit) S
noted visits = λ from before n what r to after.
    visits from.0 before n what r to.0 after × (to.1 ≡ from.1 ++ record { named = n; what = what } ∷ [])
