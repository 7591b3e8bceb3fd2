use Rattle.std.proofs.Common.{List, sym, ap, ◌∙◌, subst}
use Rattle.dcm_edits.specs.Edit.{Edit}
use Rattle.dcm_editor.specs.EditSink.{State, begun}
use Rattle.dcm_editor.specs.Editing as editing
use Rattle.dcm_editor.specs.Indexes as indexes
use Rattle.dcm_editor.specs.Masks as masks
use Rattle.dcm_editor.specs.Sound.{IsSound}
use Rattle.dcm_editor.proofs.Words.MeantEdits.{few_listed, sound_meant}
use Rattle.dcm_editor.proofs.sink.EditSink.new.Goals as goal

pub new-requires : goal.new-requires
new-requires g c = few_listed c.list.result.now c.args.edits.now c.list.ensures.list c.list.ensures.meant

pub of-requires : goal.of-requires
of-requires g c = few_listed c.list-2.result.now c.args.edits.now c.list-2.ensures.list c.list-2.ensures.meant

pub invariant_of-result : goal.invariant_of-result
invariant_of-result g c =
    let at = λ (es : List Edit). masks.meant es (editing.state c.new.result) in
    let is = sym (ap at c.list.ensures.list) ∙ c.new.ensures ∙ ap begun c.list.ensures.list in
    record {
      index_has = sym (ap (λ (es : List Edit). indexes.has_all c.of.result 0 es) c.list-2.ensures.list) ∙ c.of.ensures.all;
      index_tells = subst (λ (es : List Edit). indexes.tells_everywhere c.of.result es) c.list-2.ensures.list c.of.ensures.everywhere;
      sound = subst (λ (s : State). IsSound s) (sym is) (sound_meant c.args.edits.now c.list.ensures.meant);
    }
