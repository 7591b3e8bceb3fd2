-- What is known at once of a whole value of plain ASCII, whatever Specific Character Set is in force.
use Rattle.std.specs.Prelude.{ℕ, nat_le, ◌==◌, ◌&&◌, ◌||◌, Bool, if◌then◌else◌, List, ◌++◌, length, codes, None}
use Rattle.std.specs.List.{list_all}
use Rattle.std.specs.Option.{option_map_or}
use Rattle.dcm_base.specs.declared.vr.Vr.{Vr}
use Rattle.dcm_base.specs.Tables.Uid.{uid_name}
use Rattle.dcm_base.specs.Dump.ValueText.{unpadded}
use Rattle.dcm_value.specs.DecodedProgress.{is_named}
use Rattle.dcm_value.specs.Plain.{is_ascii_byte}

-- what is shown of it, by its name if it may have one, or in brackets
abbrev pub ascii_shown : (may_have_name : Bool) → List ℕ → List ℕ
ascii_shown may_have_name t =
    option_map_or (λ name. codes "=" ++ name) (if may_have_name then uid_name t else None) (codes "[" ++ (t ++ codes "]"))

-- that is known at once
abbrev pub is_known_ascii : Vr → List ℕ → Bool
is_known_ascii vr v =
    length v == 0
    || (nat_le (length v) 64 && (list_all is_ascii_byte (unpadded vr v)
    && nat_le (length (ascii_shown (is_named vr (length v)) (unpadded vr v))) 66))
