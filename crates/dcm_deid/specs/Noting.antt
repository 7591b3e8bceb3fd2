-- Where the sink is after an element whose value nobody has to know, also where the writer failed.
use Rattle.std.specs.Prelude.{◌≡◌, ◌++◌, ℕ, List, [], Option, Some, None, Result, Err, OnErr, ⊤}
use Rattle.dcm_base.specs.Steps.Atoms.{Atom}
use Rattle.dcm_base.specs.declared.form.Form.TheVariants.{Value as a_value}
use Rattle.dcm_base.specs.declared.syntax.Syntax.{Syntax}
use Rattle.dcm_base.specs.declared.tag.Tag.{Tag}
use Rattle.dcm_deid.specs.DeidentifySink.{Place, head_by, holding, said_before, with_last}
use Rattle.dcm_deid.specs.Deidentifying.{place}
use Rattle.dcm_deid.specs.declared.deidentifier.Deidentifier.{Deidentifier}
use Rattle.dcm_deid.specs.declared.fate.Fate.{Fate}
use Rattle.dcm_deid.specs.declared.fate.Fate.TheVariants.{Keep}
use Rattle.dcm_deid.specs.declared.fate.Options.{Options}
use Rattle.dcm_head.specs.declared.head.Head.{Head}
use Rattle.dcm_stream.specs.Telling.{PutsWhole}
use Rattle.dcm_stream.specs.Tokens.{value_atoms}
use Rattle.dcm_stream.specs.declared.sink.Sink.{Ghosts}
use Rattle.dcm_stream.specs.declared.token.WholeFailed.{WholeFailed}
use Rattle.dcm_stream.specs.declared.token.WholeFailed.TheVariants.{AtHead, InValue}

-- what an element of this fate becomes at its head, and what its value does
abbrev pub head_put : Fate → Head → Syntax → List Atom
head_put fate head syntax = head_by fate a_value head.tag head.vr head.length syntax

abbrev pub value_put : Fate → List ℕ → List Atom
value_put Keep value = value_atoms value
value_put fate value = []

-- from a sink to another, what went out of both where the writer failed
abbrev pub Told : {S T : Type 0} → Ghosts S → (old new : S) → (head value : List Atom) → Result T WholeFailed → Type 0
Told sink old new head value r =
    PutsWhole sink.step sink.writes (sink.state old) (sink.contents old) (sink.contents new) head value r

-- where the writer failed, the element is noted if all that it becomes at its head was out
abbrev pub NotedAt : WholeFailed → (old new : Deidentifier) → Tag → Type 0
NotedAt AtHead old new tag = new ≡ old
NotedAt InValue old new tag = place new ≡ with_last (holding (place old) None) tag

pub record NotesFailed {S : Type 0} (sink : Ghosts S) (old new : S) (options : Options)
    (before after : Deidentifier) (fate : Fate) (head : Head) (syntax : Syntax) (value : List ℕ) : Type 0 where
  pub failed_at : WholeFailed
  pub told : Told {T = ⊤} sink old new
      (said_before options (place before) (Some head.tag) ++ head_put fate head syntax) (value_put fate value)
      (Err failed_at)
  pub noted : NotedAt failed_at before after head.tag
