use Rattle.std.proofs.Common.{◌≡◌, ◌∙◌, ap, subst, ℕ, List, Option, rules}
use Rattle.dcm_stream.specs.Reading.{start_of}
use Rattle.dcm_edits.specs.Edit.{Edit}
use Rattle.dcm_editor.specs.EditSink.{State as EditState, begun}
use Rattle.dcm_editor.specs.Editing as editing
use Rattle.dcm_editor.specs.Masks as masks
use Rattle.dcm_editor.specs.Through.{through_step, through_writes, through_bar}
use Rattle.dcm_cli.specs.Pass as spec
use Rattle.dcm_cli.proofs.Lines.FoundMasks.{not_found_by}
use Rattle.dcm_cli.proofs.Passes.Readers.{members}
use Rattle.dcm_cli.proofs.modify.read_edited.Goals as goal

pub returns : goal.returns
returns g c =
    let last = c.read_set-ending.new.sink in
    let opened = c.args.opened in
    let state : EditState = masks.meant last.edits.now (editing.state last.editor) in
    let first : EditState = begun c.args.edits.now in
    let Passed : EditState × g.S.Sink.State → Option (List ℕ) → g.row.S.Denot → Type 0 = λ from held x. spec.ReadsSet through_bar (through_step g.S.Sink.step) (through_writes g.S.Sink.step g.S.Sink.writes)
    (members g.R.Device g.R.DeviceIn) c.args.input.now c.read_set-ending.new.input opened.beginning.is_over (spec.set_bytes opened.beginning c.args.buffer.now) (start_of opened.coding.syntax opened.start) from held
    (state, g.S.Sink.state x) (g.S.Sink.contents x) c.read_set-ending.result
    in
    let new = c.new-edited.result in
    let begins : masks.meant new.edits.now (editing.state new.editor) ≡ first = ap (λ (es : List Edit). masks.meant es (editing.state new.editor)) c.new-edited.ensures.edits ∙ c.new-edited.ensures.state in
    let passed = subst (λ (from : EditState × g.S.Sink.State). Passed from (g.S.Sink.contents new.inner.now) last.inner.now)
    (ap (λ (s : EditState). (s, g.S.Sink.state new.inner.now)) begins ∙ ap (λ (x : g.row.S.Denot). (first, g.S.Sink.state x)) c.new-edited.ensures.inner) c.read_set-ending.ensures.ends
    in
    let whole = subst (λ (held : Option (List ℕ)). Passed (first, g.S.Sink.state c.args.sink.now) held last.inner.now) (ap (λ (x : g.row.S.Denot). g.S.Sink.contents x) c.new-edited.ensures.inner) passed in
    let k = c.read_set-ending.ensures.kept in
    let n = c.new-edited.ensures.same_reference in
    let mask = not_found_by last.edits.now last.editor.found c.unplaced.result c.unplaced.ensures.placed c.unplaced.ensures.few in
    record {
      passes = record {
        last = state;
        passed = c.read_set-ending.result;
        ends = subst (λ (x : g.row.S.Denot). Passed (first, g.S.Sink.state c.args.sink.now) (g.S.Sink.contents c.args.sink.now) x) (search (rules, k, n)) whole;
        was = c.read_set-ending.ensures.over;
        ending_is = c.with_unplaced.ensures ∙ ap (λ (m : ℕ). spec.with_unplaced c.read_set-ending.result m) mask;
      };
      unread = search rules;
      failed = search rules;
      kept = search rules;
    }
