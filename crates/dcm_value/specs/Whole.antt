-- A whole value, in short mode, and what is known at once of it in both.
use Rattle.std.specs.Prelude.{ℕ, nat_le, ◌==◌, ◌&&◌, ◌||◌, Bool, false, List, [], ◌++◌, length, fold}
use Rattle.std.specs.List.{list_all}
use Rattle.std.specs.Option.{option_map_or}
use Rattle.dcm_base.specs.declared.vr.Vr.{Vr}
use Rattle.dcm_base.specs.declared.syntax.Syntax.{Syntax}
use Rattle.dcm_base.specs.declared.mode.Mode.{Mode}
use Rattle.dcm_base.specs.declared.mode.Mode.TheVariants.{Short}
use Rattle.dcm_base.specs.Tables.Uid.{uid_name}
use Rattle.dcm_base.specs.Dump.ValueText.{shape, unpadded, bracketed, identified}
use Rattle.dcm_value.specs.declared.way.Way.{Way}
use Rattle.dcm_value.specs.declared.way.Way.TheVariants.{InBrackets, ByName, InUnits}
use Rattle.dcm_value.specs.Way.{way_of}
use Rattle.dcm_value.specs.Plain.{is_plain_byte}
use Rattle.dcm_value.specs.Laws.{after, written}
use Rattle.dcm_value.specs.Progress.{Progress, started, opened, step, finishes, multiplicity}

-- after all of its bytes
abbrev pub whole : Vr → Syntax → List ℕ → Progress
whole vr syntax v = fold step (opened (started vr syntax (length v) Short)) v

-- what is written of it in a mode, from its first byte to the spaces, and how many values there are
abbrev pub text_in : Mode → Vr → Syntax → List ℕ → List ℕ
text_in mode vr syntax v = written vr syntax (length v) mode v ++ finishes (after vr syntax (length v) mode v)

abbrev pub count_in : Mode → Vr → Syntax → List ℕ → ℕ
count_in mode vr syntax v = multiplicity (after vr syntax (length v) mode v)

-- a text that is shown as it is
abbrev pub is_plain : List ℕ → Bool
is_plain t = list_all is_plain_byte t

-- one that has a short name, or none and is shown as it is
abbrev pub is_known_uid : List ℕ → Bool
is_known_uid t = option_map_or (λ name. nat_le (length name) 65) (uid_name t) (is_plain t)

abbrev pub is_known_as : Way → List ℕ → Bool
is_known_as InBrackets t = is_plain t
is_known_as ByName t = is_known_uid t
is_known_as InUnits t = false

-- what is shown of it is known at once
abbrev pub is_known : Vr → List ℕ → Bool
is_known vr v = length v == 0 || (nat_le (length v) 64 && is_known_as (way_of (shape vr) (length v)) (unpadded vr v))

-- what is shown of it then, without spaces
abbrev pub shown_as : Way → List ℕ → List ℕ
shown_as InBrackets t = bracketed t
shown_as ByName t = identified t
shown_as InUnits t = []
