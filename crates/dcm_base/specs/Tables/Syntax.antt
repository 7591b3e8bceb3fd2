-- The syntaxes of a data set, each with the dictionary that tells the value representations of implicit heads (PS3.5
-- A.1 to A.3).
use Rattle.std.specs.Prelude.{Bool, true, false}
use Rattle.dcm_base.specs.declared.dictionary.Dictionary.{Dictionary}
use Rattle.dcm_base.specs.declared.dictionary.Dictionary.TheVariants.{Extract}
use Rattle.dcm_base.specs.declared.syntax.Syntax.{Syntax}
use Rattle.dcm_base.specs.declared.syntax.Syntax.TheVariants.{Implicit as implicit_in, Little as little_in}
use Rattle.dcm_base.specs.declared.syntax.Syntax.TheVariants.{Big as big_in}
use Rattle.dcm_base.specs.declared.syntax.Coding.{Coding}

-- a syntax of which no dictionary is named is read by the extract
abbrev pub Implicit : Syntax
Implicit = implicit_in Extract

abbrev pub Little : Syntax
Little = little_in Extract

abbrev pub Big : Syntax
Big = big_in Extract

abbrev pub dictionary_of : Syntax → Dictionary
dictionary_of (implicit_in d) = d
dictionary_of (little_in d) = d
dictionary_of (big_in d) = d

-- the same syntax, read by the dictionary
abbrev pub read_by : Dictionary → Syntax → Syntax
read_by d (implicit_in e) = implicit_in d
read_by d (little_in e) = little_in d
read_by d (big_in e) = big_in d

abbrev pub is_big : Syntax → Bool
is_big (big_in d) = true
is_big _ = false

-- the same coding, read by the dictionary
abbrev pub coding_by : Dictionary → Coding → Coding
coding_by d c = record { syntax = read_by d c.syntax; encapsulated = c.encapsulated }
