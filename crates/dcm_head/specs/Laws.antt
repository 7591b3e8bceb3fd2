-- The statements of the laws.
use Rattle.std.specs.Prelude.{◌≡◌, ◌↔◌, ◌++◌, ℕ, List, IsTrue, Option, None, option_to_list, length, drop, fold}
use Rattle.dcm_base.specs.declared.fault.Fault.{Fault}
use Rattle.dcm_base.specs.declared.syntax.Syntax.{Syntax}
use Rattle.dcm_head.specs.declared.head.Head.{Head}
use Rattle.dcm_base.specs.Bytes.Head.{HeadAt}
use Rattle.dcm_base.specs.File.MetaReads.{MetaAnswer, MetaReads, is_undecided}
use Rattle.dcm_head.specs.MetaReading.{BeginsAt, CallRefuses, at_start, meta_step}

-- bytes begin with at most one head
abbrev pub OneHead : Type 0
OneHead =
    (s : Syntax) (bytes after others : List ℕ) (head other : Head) → HeadAt s head.tag head.vr head.length bytes after
    → HeadAt s other.tag other.vr other.length bytes others → (head ≡ other) × (after ≡ others)

-- where a group has ended, the bytes of the data set are the byte ahead and the piece from its place on
abbrev pub DataSetBegins : Type 0
DataSetBegins =
    (before piece : List ℕ) (place used : ℕ) (ahead : Option ℕ) → BeginsAt before place used ahead
    → drop place (before ++ piece) ≡ option_to_list ahead ++ drop used piece

-- the reading goes on exactly as long as more bytes can change its answer
abbrev pub GoesWhileUndecided : Type 0
GoesWhileUndecided =
    (file : List ℕ) (answer : MetaAnswer) → MetaReads file answer
    → IsTrue (is_undecided (length file) answer) ↔ ((fold meta_step at_start file).end ≡ None)

-- a call refuses exactly where that is the answer of the bytes before it and its piece
abbrev pub CallsRefuse : Type 0
CallsRefuse =
    (before piece : List ℕ) (answer : MetaAnswer) (fault : Fault) (offset : ℕ) → MetaReads (before ++ piece) answer
    → CallRefuses before piece answer fault offset
