-- How the values of a text are written, by its representation (PS3.5 6.2, PS3.18 F.2.2).
use Rattle.std.specs.Prelude.{ℕ, List, Bool, true, false, Option, Some, None, codes}
use Rattle.dcm_base.specs.declared.vr.Vr.{Vr}
use Rattle.dcm_base.specs.declared.vr.Vr.TheVariants.{DS, IS, LT, PN, ST, UR, UT}
use Rattle.dcm_json.specs.declared.shape.TextShape.{TextShape}
use Rattle.dcm_json.specs.declared.shape.TextShape.TheVariants.{Strings, OneString, Decimals, Integers, Names}
use Rattle.dcm_json.specs.declared.shape.Group.{Group}
use Rattle.dcm_json.specs.declared.shape.Group.TheVariants.{Alphabetic, Ideographic, Phonetic}

abbrev pub shape_of : Vr → TextShape
shape_of LT = OneString
shape_of ST = OneString
shape_of UR = OneString
shape_of UT = OneString
shape_of DS = Decimals
shape_of IS = Integers
shape_of PN = Names
shape_of vr = Strings

-- values stand between backslashes
abbrev pub is_cut : TextShape → Bool
is_cut OneString = false
is_cut shape = true

abbrev pub is_numeric : TextShape → Bool
is_numeric Decimals = true
is_numeric Integers = true
is_numeric shape = false

abbrev pub is_names : TextShape → Bool
is_names Names = true
is_names shape = false

-- the group behind a `=`
abbrev pub next_group : Group → Option Group
next_group Alphabetic = Some Ideographic
next_group Ideographic = Some Phonetic
next_group Phonetic = None

-- the key of a group
abbrev pub group_key : Group → List ℕ
group_key Alphabetic = codes "Alphabetic"
group_key Ideographic = codes "Ideographic"
group_key Phonetic = codes "Phonetic"
