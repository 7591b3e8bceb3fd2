use Rattle.std.proofs.Common.{◌≡◌, ◌∙◌, ap, List, subst, sym}
use Rattle.dcm_edits.specs.Edit.{Edit}
use Rattle.dcm_editor.specs.Indexes.{has_all, tells_everywhere}
use Rattle.std.specs.Prelude.{fold}
use Rattle.dcm_stream.specs.Tokens.{atoms_of}
use Rattle.dcm_editor.specs.EditSink.{next}
use Rattle.dcm_editor.specs.Editing as editing
use Rattle.dcm_editor.proofs.Words.MeantEdits.{few_listed, short_listed}
use Rattle.dcm_editor.proofs.EditSinks.ThroughSink.{state_after, put_after, sound_after, step_done, same_state}
use Rattle.dcm_editor.proofs.sink.EditSinkSink.take.Goals as goal

pub pass_on-requires-clause-few : goal.pass_on-requires-clause-few
pass_on-requires-clause-few g c = few_listed c.list.result.now c.args.self.now.edits.now c.list.ensures.list c.list.ensures.meant

pub pass_on-requires-clause-short : goal.pass_on-requires-clause-short
pass_on-requires-clause-short g c = short_listed c.list.result.now c.args.self.now.edits.now c.list.ensures.list c.list.ensures.meant

pub pass_on-requires-clause-everywhere : goal.pass_on-requires-clause-everywhere
pass_on-requires-clause-everywhere g c = subst (λ (es : List Edit). tells_everywhere c.args.self.now.index es) (sym c.list.ensures.list) c.args.self.now.index_tells

pub pass_on-requires-clause-index : goal.pass_on-requires-clause-index
pass_on-requires-clause-index g c =
    ap (λ (es : List Edit). has_all c.args.self.now.index 0 es) c.list.ensures.list ∙ c.args.self.now.index_has

pub invariant_of-self : goal.invariant_of-self
invariant_of-self g c =
    let e = c.args.self.now in
    record {
      index_has = e.index_has;
      index_tells = e.index_tells;
      sound =
          sound_after c.list.result.now e.edits.now (editing.state e.editor) (editing.state c.pass_on.new.editor) (atoms_of c.args.token) c.pass_on.result c.list.ensures.list
          (same_state (editing.meant c.list.result.now c.pass_on.new.editor ≡ fold next (editing.meant c.list.result.now e.editor) (atoms_of c.args.token)) e.editor c.pass_on.new.editor c.pass_on.result c.pass_on.ensures.state) e.sound;
    }

pub returns-clause-state : goal.returns-clause-state
returns-clause-state g c =
    let e = c.args.self.now in
    let new = c.pass_on.new.editor in
    state_after g.S.Sink.step g.S.Sink.writes e.edits.now (editing.state e.editor) (atoms_of c.args.token) c.list.result.now (editing.state new) (g.S.Sink.state e.inner.now) (g.S.Sink.state c.pass_on.new.sink)
    (g.S.Sink.contents e.inner.now) (g.S.Sink.contents c.pass_on.new.sink) c.pass_on.result c.list.ensures.list
    (step_done (editing.meant c.list.result.now new ≡ fold next (editing.meant c.list.result.now e.editor) (atoms_of c.args.token)) (new ≡ e.editor) c.pass_on.result c.pass_on.ensures.state)
    c.pass_on.ensures.took.takes

pub returns-clause-bytes : goal.returns-clause-bytes
returns-clause-bytes g c =
    let e = c.args.self.now in
    put_after g.S.Sink.step g.S.Sink.writes e.edits.now (editing.state e.editor) (atoms_of c.args.token) c.list.result.now (g.S.Sink.state e.inner.now) (g.S.Sink.state c.pass_on.new.sink)
    (g.S.Sink.contents e.inner.now) (g.S.Sink.contents c.pass_on.new.sink) c.pass_on.result c.list.ensures.list c.pass_on.ensures.took.takes
