-- The elements of a meta group in a sink.
use Rattle.std.specs.Prelude.{◌≡◌, List, [], ℕ, Result}
use Rattle.dcm_base.specs.Tables.Syntax.{Little}
use Rattle.dcm_base.specs.Tree.Tree.{Trees}
use Rattle.dcm_base.specs.Steps.Atoms.{Atom, trees_then}
use Rattle.dcm_base.specs.Steps.Steps.{Goes, outputs}
use Rattle.dcm_devices.specs.Device.{Puts, Tells}
use Rattle.dcm_head.specs.Rewriting.{OfElements}
use Rattle.dcm_stream.specs.Sinks.{Keeps}
use Rattle.dcm_sinks.specs.declared.dump.line_sink.LineSink.{Ghosts as LineGhosts}
use Rattle.dcm_stream.specs.declared.sink.Sink.{Ghosts}
use Rattle.dcm_named.specs.Filter.{Place}
use Rattle.dcm_named.specs.NamedSink.{named_step, named_writes}

abbrev pub meta_atoms : Trees → List Atom
meta_atoms elements = trees_then Little elements []

-- a sink took the elements of a group, or a beginning of their output went out where the call failed
pub record TookElements {S T E : Type 0} (sink : Ghosts S) (old new : S) (group : List ℕ) (r : Result T E) : Type 0 where
  pub takes : OfElements group (λ elements. Goes sink.step sink.writes (sink.state old) (sink.contents old)
      (sink.state new) (sink.contents new) (meta_atoms elements) r)
  pub failed : Tells (sink.has_failed old) (sink.has_failed new) r
  pub kept : Keeps sink old new

-- what writes lines showed those that are named, or a beginning of them where the call failed
pub record ShowedElements {S T E : Type 0} (lines : LineGhosts S) (old new : S) (place : Place) (group : List ℕ)
    (r : Result T E) : Type 0 where
  pub bytes : OfElements group (λ elements. Puts (lines.contents old) (lines.contents new)
      (outputs (named_step lines.step lines.over) (named_writes lines.writes) (place, lines.state old)
      (meta_atoms elements)) r)
  pub failed : Tells (lines.has_failed old) (lines.has_failed new) r
  pub kept : lines.kept new ≡ lines.kept old
