-- Numbers as bytes.
use Rattle.std.specs.Prelude.{ℕ, ◌<◌, ◌^◌, List, slice_index}
use Rattle.byteorder.specs.Endian.{little_number, big_number}
use Rattle.dcm_base.specs.declared.tag.Tag.{Tag}
use Rattle.dcm_base.specs.declared.length.Length.{Length}
use Rattle.dcm_base.specs.declared.length.Length.TheVariants.{Known, Undefined}
use Rattle.dcm_base.specs.declared.syntax.Syntax.{Syntax}
use Rattle.dcm_base.specs.declared.syntax.Syntax.TheVariants.{Implicit as implicit_in, Little as little_in}
use Rattle.dcm_base.specs.declared.syntax.Syntax.TheVariants.{Big as big_in}

-- the number in the first n bytes, the lowest first, but in Big the highest first (PS3.5 7.3)
abbrev pub number : Syntax → ℕ → List ℕ → ℕ
number (implicit_in d) n bytes = little_number n bytes
number (little_in d) n bytes = little_number n bytes
number (big_in d) n bytes = big_number n bytes

-- each is a byte
abbrev pub AreBytes : List ℕ → Type 0
AreBytes bytes = (i : ℕ) → slice_index bytes i < 256

abbrev pub IsTag : Tag → Type 0
IsTag tag = (tag.group < 2 ^ 16) × (tag.element < 2 ^ 16)

abbrev pub IsLength : ℕ → Type 0
IsLength n = n < 2 ^ 32

-- a length that is declared is one, where it is known
abbrev pub HasLength : Length → Type 0
HasLength (Known n) = IsLength n
HasLength Undefined = Unit {0}

abbrev pub IsOffset : ℕ → Type 0
IsOffset n = n < 2 ^ 64
