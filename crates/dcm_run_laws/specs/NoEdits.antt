-- A run of dcmodify without edits, and a conversion of the same file to its own transfer syntax.
use Rattle.std.specs.Prelude.{◌≢◌, ℕ, List, [], None}
use Rattle.dcm_base.specs.declared.fault.Fault.TheVariants.{NotAscending}
use Rattle.dcm_base.specs.Reading.Stop.{refused}
use Rattle.dcm_base.specs.declared.dictionary.Dictionary.{Dictionary}
use Rattle.dcm_words.specs.Words.{convert, modify}
use Rattle.dcm_cli.specs.Answer.{Answer, Answers, Source, unopened, file, alone}

-- the reading was not refused for a tag that is not above the one before it
abbrev pub IsInOrder : Source → Type 0
IsInOrder (unopened fault offset) = Unit {0}
IsInOrder (file meta coding set stop) = (offset : ℕ) → stop ≢ refused NotAscending offset
IsInOrder (alone syntax set stop) = Unit {0}

-- where the tags ascend, both answer the same: output, lines and status
abbrev pub NoEditsConvert : Type 0
NoEditsConvert =
    (d : Dictionary) (input : List ℕ) (a : Answer) → (modified : Answers (modify d []) input a)
    → IsInOrder modified.source → Answers (convert d None) input a
