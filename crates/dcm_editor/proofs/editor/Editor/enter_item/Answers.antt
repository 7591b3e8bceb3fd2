use Rattle.std.proofs.Common.{map, ap}
use Rattle.dcm_stream.specs.Skip.{depth}
use Rattle.dcm_edits.specs.Meaning.{edit_of}
use Rattle.dcm_editor.proofs.Masks.Editing.{enters, mask_level}
use Rattle.dcm_editor.proofs.editor.Editor.enter_item.Goals as goal

pub returns : goal.returns
returns g c = λ declared.
    let counted_level = mask_level c.args.self.now.level.mask c.args.self.now.level.last in
    enters (map edit_of c.args.edits.now) c.args.self.now.level c.new_level-self.result _ c.args.self.now.outermost_first.items c.push.new.self.items (depth c.args.self.now.skip) (depth c.open.new.self) c.args.self.now.found
    c.found_with-found.result c.answering-inner.result c.args.tag c.erases_item-is_erased.result c.depth.result declared c.requires.last c.requires.room c.new_level-self.ensures c.push.ensures.items (ap counted_level c.saturating_add-self.ensures) c.open.ensures
    c.erases_item-is_erased.ensures c.depth.ensures.value c.answering-inner.ensures c.found_with-found.ensures
