use Rattle.std.proofs.Common.{◌∙◌, ap, List, sym}
use Rattle.dcm_edits.specs.Meaning.{action_of, edit_of}
use Rattle.dcm_edits.specs.declared.edit.Edit.{Edit as AnEdit}
use Rattle.dcm_edits.specs.declared.edit.Step.{Step}
use Rattle.dcm_editor.specs.Indexes.{has_edit, names_steps}
use Rattle.dcm_editor.proofs.Masks.IndexGrows.{ends_grow, steps_grow, private_grow, path_there, with_steps, bit_kept}
use Rattle.dcm_editor.proofs.index.TagIndex.add.Goals as goal

pub returns-in-OnPath-clause-here : goal.returns-in-OnPath-clause-here
returns-in-OnPath-clause-here g c =
    let old = c.add_action.new.self in
    let new = c.add_steps.new.self in
    let path = c.in-OnPath.path in
    ap (λ (e : AnEdit g.row.A.Denot). has_edit (with_steps old new) c.args.place (edit_of e)) c.in-OnPath.is
    ∙ path_there old new c.args.place path.steps.items (action_of path.action) c.add_steps.ensures.others
    (ap (λ (s : List Step). names_steps new c.args.place s) (sym c.as_slice.ensures.value) ∙ c.add_steps.ensures.here) c.add_action.ensures.here

pub returns-in-OnPath-clause-others : goal.returns-in-OnPath-clause-others
returns-in-OnPath-clause-others g c = λ k e h. steps_grow c.add_action.new.self c.add_steps.new.self c.add_steps.ensures.others k e (c.add_action.ensures.others k e h)

pub returns-in-ModifyAll-clause-others : goal.returns-in-ModifyAll-clause-others
returns-in-ModifyAll-clause-others g c = ends_grow c.args.self.now c.add.new.self c.add.ensures.others

pub returns-in-EraseAll-clause-others : goal.returns-in-EraseAll-clause-others
returns-in-EraseAll-clause-others g c = ends_grow c.args.self.now c.add-in-EraseAll.new.self c.add-in-EraseAll.ensures.others

pub returns-in-ErasePrivate-clause-others : goal.returns-in-ErasePrivate-clause-others
returns-in-ErasePrivate-clause-others g c =
    private_grow c.args.self.now c.with_bit-self.result (bit_kept c.args.self.now.private c.with_bit-self.result c.args.place c.with_bit-self.ensures.same c.with_bit-self.ensures.others)
