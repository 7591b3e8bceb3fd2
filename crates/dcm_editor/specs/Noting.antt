-- Where the edits are after an element that they leave as it is, also where the writer failed.
use Rattle.std.specs.Prelude.{◌≡◌, ℕ, List, Result, Err, MatchResult, ⊤}
use Rattle.dcm_base.specs.declared.syntax.Syntax.{Syntax}
use Rattle.dcm_head.specs.declared.head.Head.{Head}
use Rattle.dcm_stream.specs.Telling.{PutsWhole}
use Rattle.dcm_stream.specs.Tokens.{head_atoms, value_atoms}
use Rattle.dcm_stream.specs.declared.sink.Sink.{Ghosts}
use Rattle.dcm_stream.specs.declared.token.WholeFailed.{WholeFailed}
use Rattle.dcm_stream.specs.declared.token.WholeFailed.TheVariants.{AtHead, InValue}
use Rattle.dcm_editor.specs.declared.editor.Editor.{Editor}
use Rattle.dcm_editor.specs.Editing.{state}
use Rattle.dcm_editor.specs.Masks.{masks_passed_by}

-- the element is noted
abbrev pub Notes : (old new : Editor) → Head → Type 0
Notes old new head = state new ≡ masks_passed_by (state old) head.tag

-- where the writer failed, it is noted if its head was out
abbrev pub NotedAt : WholeFailed → (old new : Editor) → Head → Type 0
NotedAt AtHead old new head = new ≡ old
NotedAt InValue old new head = Notes old new head

pub record NotesFailed {S : Type 0} (sink : Ghosts S) (old new : S) (before after : Editor) (head : Head)
    (syntax : Syntax) (value : List ℕ) : Type 0 where
  pub place : WholeFailed
  pub puts : PutsWhole {T = ⊤} sink.step sink.writes (sink.state old) (sink.contents old) (sink.contents new)
      (head_atoms head syntax) (value_atoms value) (Err place)
  pub noted : NotedAt place before after head

-- so far the sink took it, and so it is noted or not
abbrev pub NotesWhole : {S T E : Type 0} → Ghosts S → (old new : S) → (before after : Editor) → Head → Syntax
    → List ℕ → Result T E → Type 0
NotesWhole sink old new before after head syntax value r = MatchResult r (λ _. Notes before after head)
    (λ _. NotesFailed sink old new before after head syntax value)
