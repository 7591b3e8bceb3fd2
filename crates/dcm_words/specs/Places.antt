-- What the words of a tool are, for those who have words of their own among them.
use Rattle.std.specs.Prelude.{ℕ, List, [], ◌∷◌, Option, Some, None, Ok, Err, Bool, true, false, ◌&&◌, ◌||◌, if◌then◌else◌}
use Rattle.std.specs.Prelude.{Result}
use Rattle.dcm_edits.specs.EditWords as edits
use Rattle.dcm_words.specs.declared.usage.Word.{Word}
use Rattle.dcm_words.specs.declared.usage.Usage.{Usage}
use Rattle.dcm_words.specs.Words.{Tool, dcmdump, dcmconv, dump2dcm, dcmodify, dcmdeid, tool_of, Said, said_by, kind, alone, with_value}
use Rattle.dcm_words.specs.Words.{unknown}
use Rattle.dcm_words.specs.Words.{dump_word, convert_word, build_word, deidentify_word, is_empty_word}
use Rattle.dcm_words.specs.Words.{EditWords, paths_apart, is_path}

-- ---- a word and the next one

abbrev pub has_value : Word → Bool
has_value word = elim (kind word) [ with_value ↦ true | alone ↦ false | unknown ↦ false ]

-- whether the word after this one is its value, or its edit's, whatever it is
abbrev pub tool_takes_next : Option Tool → List ℕ → Bool
tool_takes_next None w = false
tool_takes_next (Some dcmdump) w = has_value (dump_word w)
tool_takes_next (Some dcmconv) w = has_value (convert_word w)
tool_takes_next (Some dump2dcm) w = has_value (build_word w)
tool_takes_next (Some dcmodify) w = edits.takes_next (edits.option_word w)
tool_takes_next (Some dcmdeid) w = has_value (deidentify_word w)

-- ---- the input and the output, and whether an output that is there is overwritten

pub record TwoPaths : Type 0 where
  pub input : List ℕ
  pub output : List ℕ
  pub overwrites : Bool

abbrev pub two_of : List (List ℕ) → (overwrites : Bool) → Option TwoPaths
two_of (input ∷ output ∷ []) overwrites = if is_empty_word input || is_empty_word output then None
    else Some (record { input = input; output = output; overwrites = overwrites })
two_of _ overwrites = None

abbrev pub paths_of_said : Result Said Usage → Option TwoPaths
paths_of_said (Ok s) = two_of s.paths s.overwrites
paths_of_said (Err u) = None

abbrev pub paths_said : (List ℕ → Word) → List (List ℕ) → Option TwoPaths
paths_said read words = paths_of_said (said_by read words)

-- of dcmodify, behind its edits
abbrev pub paths_at_end : Option EditWords → Option TwoPaths
paths_at_end None = None
paths_at_end (Some e) =
    if is_path e.input && is_path e.output
    then Some (record { input = e.input; output = e.output; overwrites = (edits.settings_of e.edits).overwrites })
    else None

abbrev pub tool_paths : Option Tool → List (List ℕ) → Option TwoPaths
tool_paths None words = None
tool_paths (Some dcmdump) words = None
tool_paths (Some dcmconv) words = paths_said convert_word words
tool_paths (Some dump2dcm) words = paths_said build_word words
tool_paths (Some dcmodify) words = paths_at_end (paths_apart words)
tool_paths (Some dcmdeid) words = paths_said deidentify_word words

-- the input and the output that the words of a tool name that has both, unless an option or the number of paths is
-- refused
unfoldable pub two_paths : List (List ℕ) → Option TwoPaths
two_paths [] = None
two_paths (tool ∷ words) = tool_paths (tool_of tool) words
