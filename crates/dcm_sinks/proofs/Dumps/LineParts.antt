-- The lines of a dump, in parts.
use Rattle.std.proofs.Common.{◌≡◌, ℕ, ◌*◌, List, [], ◌∷◌, ◌++◌, append_assoc, replicate}
use Rattle.dcm_base.specs.declared.tag.Tag.{Tag}
use Rattle.dcm_base.specs.declared.length.Length.{Length}
use Rattle.dcm_base.specs.declared.length.Length.TheVariants.{Known, Undefined}
use Rattle.dcm_base.specs.Dump.ValueText.{padded, tag_text}
use Rattle.dcm_base.specs.Dump.Dump.{line, line_start}
use Rattle.dcm_base.specs.Tables.Dictionary.{keyword_in}
use Rattle.dcm_base.specs.declared.dictionary.Dictionary.{Dictionary}
use Rattle.dcm_sinks.specs.Layout.{line_rest, rest_start}

-- a start is its spaces, its tag and its letters
pub start_in_parts : (level : ℕ) (tag : Tag) (letters : List ℕ)
    → line_start level tag letters ≡ replicate (2 * level) 32 ++ ((tag_text tag.group tag.element ++ 32 ∷ []) ++ (letters ++ 32 ∷ []))
start_in_parts level tag letters = simp append_assoc

-- a line is its start, its display and the rest
pub line_in_parts : (d : Dictionary) (level : ℕ) (tag : Tag) (letters display : List ℕ) (declared : Length) (count : ℕ)
    → line d level tag letters display declared count ≡ line_start level tag letters ++ (padded display ++ line_rest d tag declared count)
line_in_parts d level tag letters display (Known n) count = simp append_assoc
line_in_parts d level tag letters display Undefined count = simp append_assoc

-- what comes after a display is a few bytes, the keyword and the end of the line
pub rest_in_parts : (d : Dictionary) (line : List ℕ) (tag : Tag) (declared : Length) (count : ℕ)
    → ((line ++ rest_start declared count) ++ keyword_in d tag) ++ 10 ∷ [] ≡ line ++ line_rest d tag declared count
rest_in_parts d line tag declared count = simp append_assoc
