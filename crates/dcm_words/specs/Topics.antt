-- The texts that a command line asks for.
use Rattle.std.specs.Prelude.{ℕ, List, [], ◌∷◌, Option, Some, None, Bool, ◌||◌, if◌then◌else◌, codes, bytes_eq}
use Rattle.dcm_words.specs.declared.topic.Topic.{Topic}
use Rattle.dcm_words.specs.declared.topic.Topic.TheVariants.{Program, Dump, Convert, Build, Modify, Deidentify, Table}
use Rattle.dcm_words.specs.declared.topic.Topic.TheVariants.{Version}
use Rattle.dcm_words.specs.declared.texts.TheConstants as texts

-- the bytes of a text
unfoldable pub text : Topic → List ℕ
text Program = texts.PROGRAM.now
text Dump = texts.DUMP.now
text Convert = texts.CONVERT.now
text Build = texts.BUILD.now
text Modify = texts.MODIFY.now
text Deidentify = texts.DEIDENTIFY.now
text Table = texts.TABLE.now
text Version = texts.VERSION.now

abbrev pub is_help : List ℕ → Bool
is_help word = bytes_eq word (codes "help") || bytes_eq word (codes "--help") || bytes_eq word (codes "-h")

abbrev pub is_version : List ℕ → Bool
is_version word = bytes_eq word (codes "version") || bytes_eq word (codes "--version")

-- how a tool is used
abbrev pub use_of : List ℕ → Option Topic
use_of tool =
    if bytes_eq tool (codes "dcmdump") then Some Dump
    else if bytes_eq tool (codes "dcmconv") then Some Convert
    else if bytes_eq tool (codes "dump2dcm") then Some Build
    else if bytes_eq tool (codes "dcmodify") then Some Modify
    else if bytes_eq tool (codes "dcmdeid") then Some Deidentify
    else if bytes_eq tool (codes "dcm2csv") then Some Table
    else None

-- after a first word that asks: the use of the tool that the only other word names, which may name none; without
-- another word, or with several, that of the program
abbrev pub use_of_only : List (List ℕ) → Option Topic
use_of_only (tool ∷ []) = use_of tool
use_of_only others = Some Program

-- of a tool by the only word after its name
abbrev pub asked_of_tool : Topic → List ℕ → Option Topic
asked_of_tool tool word = if is_help word then Some tool else if is_version word then Some Version else None

abbrev pub asked_after : List ℕ → List (List ℕ) → Option Topic
asked_after first (word ∷ []) = elim (use_of first) [ Some tool ↦ asked_of_tool tool word | None ↦ None ]
asked_after first others = None

-- the text that the words after the program's name ask for, if they do: by their first word, or by the only word
-- after a tool's name
unfoldable pub asked : List (List ℕ) → Option Topic
asked [] = None
asked (first ∷ others) = if is_help first then use_of_only others else if is_version first then Some Version
    else asked_after first others
