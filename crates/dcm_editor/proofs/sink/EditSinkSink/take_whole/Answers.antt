use Rattle.std.proofs.Common.{◌≡◌, ◌∙◌, sym, subst, List, true}
use Rattle.dcm_base.specs.Steps.Atoms.{Atom}
use Rattle.dcm_stream.specs.Sinks.{Takes}
use Rattle.dcm_stream.specs.Tokens.{whole_atoms}
use Rattle.dcm_edits.specs.Edit.{Edit}
use Rattle.dcm_editor.specs.Editing as editing
use Rattle.dcm_editor.specs.Masks as masks
use Rattle.dcm_editor.specs.Sound.{IsSound}
use Rattle.dcm_editor.proofs.Words.MeantEdits.{few_listed}
use Rattle.dcm_editor.proofs.EditSinks.ThroughSink.{state_after, put_after}
use Rattle.dcm_editor.proofs.EditSinks.Whole.{whole_passed, noted_state, noted_sound}
use Rattle.dcm_editor.proofs.sink.EditSinkSink.take_whole.Goals as goal

pub leaves-requires-clause-few : goal.leaves-requires-clause-few
leaves-requires-clause-few g c = few_listed c.list.result.now c.args.self.now.edits.now c.list.ensures.list c.list.ensures.meant

pub invariant_of-self-2 : goal.invariant_of-self-2
invariant_of-self-2 g c =
    let e = c.args.self.now in
    let list = c.list.result.now in
    let noted = c.pass_whole.ensures.noted in
    let left : true ≡ editing.leaves list e.editor c.args.head.tag = sym (sym c.leaves.ensures ∙ c.if-not-leaves.false) in
    let before = subst (λ (es : List Edit). IsSound (masks.meant es (editing.state e.editor))) (sym c.list.ensures.list) e.sound in
    record {
      index_has = e.index_has;
      index_tells = e.index_tells;
      sound = subst (λ (es : List Edit). IsSound (masks.meant es (editing.state c.pass_whole.new.editor))) c.list.ensures.list
          (noted_sound list e.editor c.args.head c.args.syntax c.args.value.now left g.S.Sink e.inner.now c.pass_whole.new.sink c.pass_whole.result c.pass_whole.new.editor noted before);
    }

pub returns-clause-state : goal.returns-clause-state
returns-clause-state g c =
    let e = c.args.self.now in
    let list = c.list.result.now in
    let new = c.pass_whole.new in
    let r = c.pass_whole.result in
    let noted = c.pass_whole.ensures.noted in
    let left : true ≡ editing.leaves list e.editor c.args.head.tag = sym (sym c.leaves.ensures ∙ c.if-not-leaves.false) in
    let whole = whole_atoms c.args.head c.args.syntax c.args.value.now in
    state_after g.S.Sink.step g.S.Sink.writes e.edits.now (editing.state e.editor) whole list (editing.state new.editor) (g.S.Sink.state e.inner.now) (g.S.Sink.state new.sink)
    (g.S.Sink.contents e.inner.now) (g.S.Sink.contents new.sink) r c.list.ensures.list
    (noted_state list e.editor c.args.head c.args.syntax c.args.value.now left r new.editor _ noted)
    (subst (λ (xs : List Atom). Takes g.S.Sink e.inner.now new.sink xs r) (whole_passed list e.editor c.args.head c.args.syntax c.args.value.now left) c.pass_whole.ensures.took.takes)

pub returns-clause-bytes : goal.returns-clause-bytes
returns-clause-bytes g c =
    let e = c.args.self.now in
    let list = c.list.result.now in
    let new = c.pass_whole.new in
    let r = c.pass_whole.result in
    let left : true ≡ editing.leaves list e.editor c.args.head.tag = sym (sym c.leaves.ensures ∙ c.if-not-leaves.false) in
    let whole = whole_atoms c.args.head c.args.syntax c.args.value.now in
    put_after g.S.Sink.step g.S.Sink.writes e.edits.now (editing.state e.editor) whole list (g.S.Sink.state e.inner.now) (g.S.Sink.state new.sink)
    (g.S.Sink.contents e.inner.now) (g.S.Sink.contents new.sink) r c.list.ensures.list
    (subst (λ (xs : List Atom). Takes g.S.Sink e.inner.now new.sink xs r) (whole_passed list e.editor c.args.head c.args.syntax c.args.value.now left) c.pass_whole.ensures.took.takes)
