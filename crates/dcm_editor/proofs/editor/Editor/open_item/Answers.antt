use Rattle.std.proofs.Common.{map, arith}
use Rattle.dcm_stream.specs.Skip.{depth}
use Rattle.dcm_editor.specs.Editing.{level_of}
use Rattle.dcm_edits.specs.Meaning.{edit_of}
use Rattle.dcm_editor.proofs.Masks.Editing.{full_stays}
use Rattle.dcm_editor.proofs.editor.Editor.open_item.Goals as goal

pub returns-else-len-lt-MOST_AROUND : goal.returns-else-len-lt-MOST_AROUND
returns-else-len-lt-MOST_AROUND g c = λ declared.
    let size = c.len.ensures.value in
    let full = c.if-len-lt-MOST_AROUND.false in
    full_stays (map edit_of c.args.edits.now) (level_of c.args.self.now.level) c.args.self.now.outermost_first.items (depth c.args.self.now.skip) c.args.self.now.found declared (omega (arith, size, full))
