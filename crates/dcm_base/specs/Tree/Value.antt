-- Values as bytes: units, orders and pads (PS3.5 6.2, 7.3).
use Rattle.std.specs.Prelude.{ℕ, zero, suc, ◌+◌, ◌*◌, ◌/◌, ◌%◌, ◌==◌, if◌then◌else◌, List, [], ◌∷◌, ◌++◌, length, take}
use Rattle.std.specs.Prelude.{drop, reverse, flat_map}
use Rattle.dcm_base.specs.declared.vr.Vr.{Vr}
use Rattle.dcm_base.specs.declared.syntax.Syntax.{Syntax}
use Rattle.dcm_base.specs.declared.syntax.Syntax.TheVariants.{Implicit as implicit_in, Little as little_in}
use Rattle.dcm_base.specs.declared.syntax.Syntax.TheVariants.{Big as big_in}
use Rattle.dcm_base.specs.Tables.Representation.{unit}

-- the first n pieces of k bytes
abbrev pub pieces : ℕ → ℕ → List ℕ → List (List ℕ)
pieces zero k v = []
pieces (suc n) k v = take k v ∷ pieces n k (drop k v)

-- the whole units of k bytes
abbrev pub units : ℕ → List ℕ → List (List ℕ)
units k v = pieces (length v / k) k v

-- the bytes of the whole units, and those after them
abbrev pub whole_part : ℕ → List ℕ → List ℕ
whole_part k v = take (length v / k * k) v

abbrev pub rest_part : ℕ → List ℕ → List ℕ
rest_part k v = drop (length v / k * k) v

-- each whole unit of k bytes turned round, and the bytes after them as they are
abbrev pub turned : ℕ → List ℕ → List ℕ
turned k v = flat_map reverse (units k v) ++ rest_part k v

-- a value in the order of a syntax: Big turns each whole unit round, and from what it makes it leads back
abbrev pub order : Syntax → Vr → List ℕ → List ℕ
order (implicit_in d) vr v = v
order (little_in d) vr v = v
order (big_in d) vr v = turned (unit vr) v

-- an odd value gets one byte more
abbrev pub evened : ℕ → List ℕ → List ℕ
evened p v = if length v % 2 == 0 then v else v ++ p ∷ []

-- the number of bytes of little endian order
abbrev pub number_of : List ℕ → ℕ
number_of [] = 0
number_of (b ∷ bs) = b + 256 * number_of bs
