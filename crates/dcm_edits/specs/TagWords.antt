-- The tag that a word names alone.
use Rattle.std.specs.Prelude.{ℕ, List, [], ◌∷◌, ◌==◌, Bool, false, if◌then◌else◌, Option, Some, None, option_map, Result, Ok, Err}
use Rattle.std.specs.Str.{byte}
use Rattle.dcm_base.specs.declared.tag.Tag.{Tag}
use Rattle.dcm_base.specs.declared.fault.EditRefusal.{EditRefusal}
use Rattle.dcm_base.specs.declared.fault.EditRefusal.TheVariants.{BadOption, UnknownTag}
use Rattle.dcm_base.specs.declared.dictionary.Dictionary.TheVariants.{Standard}
use Rattle.dcm_base.specs.Tables.Dictionary.{ambiguous, called, tag_in}
use Rattle.dcm_base.specs.Tables.Tag.{tag_of_number}
use Rattle.dcm_base.specs.Lines.ReadValue.{tag_of_text}
use Rattle.dcm_edits.specs.EditWords.{or_refuse}

-- the tag of an element that the standard leaves between two value representations
abbrev pub ambiguous_tag : List ℕ → Option Tag
ambiguous_tag k = option_map tag_of_number (called ambiguous k)

-- the tag with the keyword, of the whole dictionary (PS3.6 section 6)
abbrev pub tag_called : List ℕ → Option Tag
tag_called k = elim (tag_in Standard k) [ Some t ↦ Some t | None ↦ ambiguous_tag k ]

-- whether a word begins as a number does
abbrev pub begins_number : List ℕ → Bool
begins_number [] = false
begins_number (c ∷ cs) = c == byte "("

-- a number of any tag, or a keyword
abbrev pub tag_named : List ℕ → Result Tag EditRefusal
tag_named [] = Err BadOption
tag_named (c ∷ cs) =
    if c == byte "(" then or_refuse BadOption (tag_of_text (c ∷ cs)) else or_refuse UnknownTag (tag_called (c ∷ cs))
