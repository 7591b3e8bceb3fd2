-- Items of sequences, and the ends of items and of sequences.
use Rattle.std.specs.Prelude.{ℕ, List}
use Rattle.dcm_base.specs.declared.level.Container.TheVariants.{Item as an_item, Sequence as a_sequence}
use Rattle.dcm_base.specs.declared.level.Level.{Level}
use Rattle.dcm_base.specs.declared.syntax.Syntax.{Syntax}
use Rattle.dcm_base.specs.Reading.Stop.{HeadBar}
use Rattle.dcm_head.specs.declared.head.Head.{Head}
use Rattle.dcm_stream.specs.declared.cursor_marks.Mark.{Mark}
use Rattle.dcm_stream.specs.declared.cursor_marks.Mark.TheVariants as mark
use Rattle.dcm_stream.specs.declared.judge.Opening.{Opening}
use Rattle.dcm_stream.specs.declared.judge.Opening.TheVariants as opening
use Rattle.dcm_stream.specs.declared.judge.Judged.TheVariants as judged
use Rattle.dcm_stream.specs.Judging.{Judges}

-- what it opens or closes, where heads are in this syntax
abbrev pub opening_of : Syntax → Mark → Opening
opening_of s (mark.Item declared) = opening.Item s declared
opening_of s mark.ItemEnd = opening.End an_item
opening_of s mark.SequenceEnd = opening.End a_sequence

-- it is what bytes at a place begin with, whatever a sink refuses
abbrev pub IsMark : Level → List Level → (position : ℕ) → List ℕ → Mark → Type 0
IsMark inner levels position bytes m =
    (bar : HeadBar) → Judges bar inner levels position bytes (judged.Opens (opening_of inner.syntax m) 8)

-- bytes at a place begin with the head of a sequence with 12 bytes, which a sink takes
abbrev pub IsSequence : HeadBar → Level → List Level → (position : ℕ) → List ℕ → Head × Syntax → Type 0
IsSequence bar inner levels position bytes (head, s) =
    Judges bar inner levels position bytes (judged.Opens (opening.Sequence head s) 12)
