-- The unique identifiers of transfer syntaxes (PS3.5 annex A).
use Rattle.std.specs.Prelude.{ℕ, List, codes}
use Rattle.dcm_base.specs.declared.syntax.Syntax.{Syntax}
use Rattle.dcm_base.specs.declared.syntax.Syntax.TheVariants.{Implicit as implicit_in, Little as little_in}
use Rattle.dcm_base.specs.declared.syntax.Syntax.TheVariants.{Big as big_in}

-- the most bytes that the value of a short head has: an even number below 65,536 (PS3.5 7.1.2)
abbrev pub SHORT_LIMIT : ℕ
SHORT_LIMIT = 65534

-- those of data sets that are not encapsulated
abbrev pub uid_of_syntax : Syntax → List ℕ
uid_of_syntax (implicit_in d) = codes "1.2.840.10008.1.2"
uid_of_syntax (little_in d) = codes "1.2.840.10008.1.2.1"
uid_of_syntax (big_in d) = codes "1.2.840.10008.1.2.2"
