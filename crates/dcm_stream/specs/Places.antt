-- Open containers, the innermost first.
use Rattle.std.specs.Prelude.{ℕ, List, [], ◌∷◌, Option, Some, None, if◌then◌else◌}
use Rattle.dcm_base.specs.declared.level.Container.{Container}
use Rattle.dcm_base.specs.declared.level.Level.{Level}
use Rattle.dcm_stream.specs.Reading.{ends_at}

abbrev pub innermost : {X : Type 0} → List X → Option X
innermost [] = None
innermost (x ∷ outer) = Some x

-- the innermost container, where it is full at this offset
abbrev pub full_innermost : ℕ → List Level → Option Container
full_innermost position [] = None
full_innermost position (inner ∷ outer) = if ends_at position inner.end_offset then Some inner.container else None
