use Rattle.std.proofs.Common.{rules, ◌∙◌, sym, ap}
use Rattle.dcm_base.specs.declared.tag.Tag.{Tag}
use Rattle.dcm_base.specs.Tables.Tag.{is_item, is_sequence_end}
use Rattle.dcm_head.specs.HeadRead.{tag_read}
use Rattle.dcm_stream.proofs.Heads.Marks.{item_judged, sequence_end_judged}
use Rattle.dcm_stream.proofs.cursor_marks.mark_in_sequence.Goals as goal

pub returns-then-is_item : goal.returns-then-is_item
returns-then-is_item c = λ bar.
    item_judged bar c.args.inner c.args.levels.now c.args.position c.args.bytes.now c.requires.room c.requires.eight c.requires.inner c.in-Done.head c.in-Done.field-1 c.requires.sequence
    (ap is_item (sym c.read_tag-tag.ensures) ∙ sym c.is_item.ensures ∙ c.if-is_item.true)
    (c.in-Done.ensures ∙ ap (λ (t : Tag). tag_read c.args.inner.syntax c.args.bytes.now t) c.read_tag-tag.ensures)
    (search rules)

pub returns-then-is_sequence_end : goal.returns-then-is_sequence_end
returns-then-is_sequence_end c = λ bar.
    sequence_end_judged bar c.args.inner c.args.levels.now c.args.position c.args.bytes.now c.requires.room c.requires.eight c.requires.inner c.requires.sequence (search rules)
    (ap is_sequence_end (sym c.read_tag-tag.ensures) ∙ sym c.is_sequence_end.ensures ∙ c.if-is_sequence_end.true)
