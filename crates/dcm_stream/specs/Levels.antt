-- The open containers as they are kept, the innermost first.
use Rattle.std.specs.Prelude.{◌≡◌, ℕ, List, [], ◌∷◌, map, Option, None, ⊤}
use Rattle.dcm_base.specs.declared.level.Level.{Level}
use Rattle.dcm_base.specs.Reading.Place.{least, depth}
use Rattle.dcm_stream.specs.declared.levels.OpenLevel.{OpenLevel}

abbrev pub level_of : OpenLevel → Level
level_of o = o.level

abbrev pub levels_of : List OpenLevel → List Level
levels_of os = map level_of os

-- the nearest end of a container, where one is known
unfoldable pub nearest_end : List Level → Option ℕ
nearest_end [] = None
nearest_end (inner ∷ outer) = least inner.end_offset (nearest_end outer)

-- each is kept with the nearest end and the depth of itself and those around it
abbrev pub AreSummed : List OpenLevel → Type 0
AreSummed [] = ⊤
AreSummed (o ∷ outer) = (o.nearest ≡ nearest_end (o.level ∷ levels_of outer))
    × (o.depth ≡ depth (o.level ∷ levels_of outer)) × AreSummed outer
