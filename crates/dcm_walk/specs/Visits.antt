-- What is done with the names of a walk.
use Rattle.std.specs.Prelude.{ℕ, List, Result}
use Rattle.dcm_walk.specs.declared.visitor.Named.{Named as Lent}
use Rattle.dcm_walk.specs.declared.visitor.Stopped.{Stopped}
use Rattle.dcm_walk.specs.declared.visitor.What.{What}

-- a name: as it is shown, what its output is named after, and where it lies
pub record Named : Type 0 where
  pub name : List ℕ
  pub relative : List ℕ
  pub path : List ℕ

abbrev pub name_of : Lent → Named
name_of n = record { name = n.name.now; relative = n.relative.now; path = n.path.now }

-- what a step makes of a visitor and of a system, and whether it stops the walk
abbrev pub Step : (V S : Type 0) → Type 1
Step V S = V → S → Result (Unit {0}) Stopped → V → S → Type 0

-- what a visit may answer, and what it may leave
abbrev pub Visits : (V S : Type 0) → Type 1
Visits V S = V → S → Named → What → Result (Unit {0}) Stopped → V → S → Type 0
