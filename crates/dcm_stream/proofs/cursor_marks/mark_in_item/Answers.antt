use Rattle.std.proofs.Common.{rules, ◌∙◌, sym, ap}
use Rattle.dcm_base.specs.Tables.Tag.{is_item_end}
use Rattle.dcm_stream.proofs.Heads.Marks.{item_end_judged}
use Rattle.dcm_stream.proofs.cursor_marks.mark_in_item.Goals as goal

pub returns-then-is_item_end : goal.returns-then-is_item_end
returns-then-is_item_end c = λ bar.
    item_end_judged bar c.args.inner c.args.levels.now c.args.position c.args.bytes.now c.requires.room c.requires.eight c.requires.inner c.requires.item (search rules)
    (ap is_item_end (sym c.read_tag.ensures) ∙ sym c.is_item_end.ensures ∙ c.if-is_item_end.true)
