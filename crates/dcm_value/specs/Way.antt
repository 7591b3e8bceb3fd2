-- How a value is shown: in brackets as it comes, in units, or when all of it is there, since it may have a name.
use Rattle.std.specs.Prelude.{ℕ, nat_le, if◌then◌else◌, Bool, ◌&&◌, ◌==◌, ◌-◌, List, length, take, slice_index}
use Rattle.dcm_base.specs.declared.vr.Vr.{Vr}
use Rattle.dcm_base.specs.Tables.Representation.{pad}
use Rattle.dcm_base.specs.Dump.ValueText.{Shape, text, identifier, shown_unit}
use Rattle.dcm_value.specs.declared.way.Way.{Way}
use Rattle.dcm_value.specs.declared.way.Way.TheVariants.{InBrackets, ByName, InUnits}

abbrev pub way_of : Shape → ℕ → Way
way_of text size = InBrackets
way_of identifier size = if nat_le size 64 then ByName else InBrackets
way_of _ size = InUnits

-- fewer bytes than these wait for more
abbrev pub room : Way → Vr → ℕ
room InBrackets vr = 1
room ByName vr = 65
room InUnits vr = shown_unit vr

-- the last bytes of a value without the pad byte that makes its size even
abbrev pub without_pad : Vr → Bool → List ℕ → List ℕ
without_pad vr is_even v = if is_even && slice_index v (length v - 1) == pad vr then take (length v - 1) v else v
