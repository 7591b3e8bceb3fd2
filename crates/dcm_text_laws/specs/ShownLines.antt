-- What the line of a text shows in a dump by characters, in any data set.
use Rattle.std.specs.Prelude.{◌≡◌, ◌≢◌, ℕ, true, List, [], ◌++◌, codes, encode_utf8_all, length}
use Rattle.std.specs.List.{list_all}
use Rattle.std.specs.Str.{all_scalars}
use Rattle.dcm_base.specs.declared.dictionary.Dictionary.{Dictionary}
use Rattle.dcm_base.specs.declared.length.Length.TheVariants.{Known}
use Rattle.dcm_base.specs.declared.mode.Mode.{Mode}
use Rattle.dcm_base.specs.declared.mode.Mode.TheVariants.{Full}
use Rattle.dcm_base.specs.declared.tag.Tag.{Tag}
use Rattle.dcm_base.specs.declared.vr.Vr.{Vr}
use Rattle.dcm_base.specs.Dump.Dump.{leaf_line, line}
use Rattle.dcm_base.specs.Dump.ValueText.{unpadded}
use Rattle.dcm_base.specs.Tables.Representation.{letters}
use Rattle.dcm_base.specs.Tree.Tree.{Trees, leaf, then_trees}
use Rattle.dcm_text.specs.declared.sets.Sets.{Sets}
use Rattle.dcm_text.specs.Laws.{IsUtf8InForce, is_plain}
use Rattle.dcm_text.specs.Shown.{is_dumped}
use Rattle.dcm_value.specs.DecodedDisplay.{decoded_count, decoded_display}
use Rattle.dcm_value.specs.DecodedProgress.{is_concerned}
use Rattle.dcm_sinks.specs.DecodedDump.{decoded_line, decoded_set}
use Rattle.dcm_sinks.specs.InForce.{set_by, sets_after}
use Rattle.dcm_sinks.specs.PlainTexts.{is_value_of}

-- ---- ASCII

-- the line of an element whose value is no text, or one of bytes below 80 that designates nothing, is that of a dump
-- without characters, whatever is in force
abbrev pub LineOfAscii : Type 0
LineOfAscii =
    (d : Dictionary) (mode : Mode) (sets : Sets) (level : ℕ) (tag : Tag) (vr : Vr) (v : List ℕ)
    → is_value_of is_plain sets vr v ≡ true → decoded_line d mode sets level tag vr v ≡ leaf_line d mode level tag vr v

-- so it is among any others of its data set, be they texts of other characters
abbrev pub LineOfAsciiAmongOthers : Type 0
LineOfAsciiAmongOthers =
    (d : Dictionary) (mode : Mode) (sets : Sets) (level : ℕ) (before rest : Trees) (tag : Tag) (vr : Vr) (v : List ℕ)
    → is_value_of is_plain (sets_after sets before) vr v ≡ true
    → decoded_set d mode sets level (then_trees before (leaf tag vr v rest))
    ≡ decoded_set d mode sets level before ++ leaf_line d mode level tag vr v
    ++ decoded_set d mode (set_by tag vr v (sets_after sets before)) level rest

-- ---- UTF-8

-- where UTF-8 is in force, and Specific Character Set is for its representation, a value that is these characters in
-- UTF-8, but for a pad byte: each of them is such that a dump shows it as it is
abbrev pub IsShownAsItIs : Sets → Vr → (value characters : List ℕ) → Type 0
IsShownAsItIs sets vr value characters =
    IsUtf8InForce sets × (is_concerned vr ≡ true) × (value ≢ []) × (unpadded vr value ≡ encode_utf8_all characters)
    × (all_scalars characters ≡ true) × (list_all is_dumped characters ≡ true)

-- it is displayed by its bytes in brackets, without the pad byte
abbrev pub DisplayOfUtf8 : Type 0
DisplayOfUtf8 = (sets : Sets) (vr : Vr) (v characters : List ℕ) → IsShownAsItIs sets vr v characters
    → decoded_display vr sets v ≡ codes "[" ++ unpadded vr v ++ codes "]"

-- so its line has it in full
abbrev pub LineOfUtf8 : Type 0
LineOfUtf8 =
    (d : Dictionary) (sets : Sets) (level : ℕ) (tag : Tag) (vr : Vr) (v characters : List ℕ)
    → IsShownAsItIs sets vr v characters
    → decoded_line d Full sets level tag vr v
    ≡ line d level tag (letters vr) (codes "[" ++ unpadded vr v ++ codes "]") (Known (length v))
    (decoded_count vr sets v)
