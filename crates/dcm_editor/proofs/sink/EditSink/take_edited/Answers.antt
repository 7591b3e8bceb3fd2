use Rattle.std.proofs.Common.{◌≡◌, ◌∙◌, ap, List}
use Rattle.dcm_edits.specs.Edit.{Edit}
use Rattle.dcm_editor.specs.Indexes.{has_all}
use Rattle.dcm_editor.specs.contracts.sink.EditSinkSink.TheImpl.{ghosts}
use Rattle.dcm_stream.proofs.Runs.Taking.{took_token}
use Rattle.std.specs.Prelude.{fold}
use Rattle.dcm_stream.specs.Tokens.{atoms_of}
use Rattle.dcm_editor.specs.EditSink.{next}
use Rattle.dcm_editor.specs.Editing as editing
use Rattle.dcm_editor.proofs.Words.MeantEdits.{few_listed, short_listed}
use Rattle.dcm_editor.proofs.EditSinks.ThroughSink.{state_after, put_after, sound_after, step_done, same_state}
use Rattle.dcm_editor.proofs.sink.EditSink.take_edited.Goals as goal

pub pass_edited-requires-clause-few : goal.pass_edited-requires-clause-few
pass_edited-requires-clause-few g c = few_listed c.list.result.now c.args.self.now.edits.now c.list.ensures.list c.list.ensures.meant

pub pass_edited-requires-clause-short : goal.pass_edited-requires-clause-short
pass_edited-requires-clause-short g c = short_listed c.list.result.now c.args.self.now.edits.now c.list.ensures.list c.list.ensures.meant

pub pass_edited-requires-clause-index : goal.pass_edited-requires-clause-index
pass_edited-requires-clause-index g c =
    ap (λ (es : List Edit). has_all c.args.self.now.index 0 es) c.list.ensures.list ∙ c.args.self.now.index_has

pub invariant_of-self : goal.invariant_of-self
invariant_of-self g c =
    let e = c.args.self.now in
    record {
      index_has = e.index_has;
      index_tells = e.index_tells;
      sound =
          sound_after c.list.result.now e.edits.now (editing.state e.editor) (editing.state c.pass_edited.new.editor) (atoms_of c.args.token) c.pass_edited.result c.list.ensures.list
          (same_state (editing.meant c.list.result.now c.pass_edited.new.editor ≡ fold next (editing.meant c.list.result.now e.editor) (atoms_of c.args.token)) e.editor c.pass_edited.new.editor c.pass_edited.result c.pass_edited.ensures.state) e.sound;
    }

pub returns : goal.returns
returns g c =
    let sink = ghosts g.row.S g.row.A g.S.Sink g.S.Sink-dict g.A.Allocator g.A.Allocator-dict g.A.Destruct-dict in
    let e = c.args.self.now in
    let new = c.pass_edited.new.editor in
    let state = state_after g.S.Sink.step g.S.Sink.writes e.edits.now (editing.state e.editor) (atoms_of c.args.token) c.list.result.now (editing.state new) (g.S.Sink.state e.inner.now) (g.S.Sink.state c.pass_edited.new.sink)
    (g.S.Sink.contents e.inner.now) (g.S.Sink.contents c.pass_edited.new.sink) c.pass_edited.result c.list.ensures.list
    (step_done (editing.meant c.list.result.now new ≡ fold next (editing.meant c.list.result.now e.editor) (atoms_of c.args.token)) (new ≡ e.editor) c.pass_edited.result c.pass_edited.ensures.state)
    c.pass_edited.ensures.took.takes in
    let bytes = put_after g.S.Sink.step g.S.Sink.writes e.edits.now (editing.state e.editor) (atoms_of c.args.token) c.list.result.now (g.S.Sink.state e.inner.now) (g.S.Sink.state c.pass_edited.new.sink)
    (g.S.Sink.contents e.inner.now) (g.S.Sink.contents c.pass_edited.new.sink) c.pass_edited.result c.list.ensures.list c.pass_edited.ensures.took.takes in
    took_token sink e _ (atoms_of c.args.token) c.pass_edited.result state bytes c.pass_edited.ensures.took.failed (ap (λ k. (e.inner.ghost_name, k)) c.pass_edited.ensures.took.kept)
