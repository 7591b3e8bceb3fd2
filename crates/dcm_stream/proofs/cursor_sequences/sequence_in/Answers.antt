use Rattle.std.proofs.Common.{rules, ◌≡◌, ◌∙◌, ap, sym, subst, ℕ, Ok}
use Rattle.dcm_base.specs.declared.tag.Tag.{Tag}
use Rattle.dcm_head.specs.HeadRead.{tag_read}
use Rattle.dcm_stream.specs.declared.judge.Judged.TheVariants as judged
use Rattle.dcm_stream.specs.declared.judge.Opening.TheVariants as opening
use Rattle.dcm_stream.specs.Judging.{bars_head, Judges}
use Rattle.dcm_stream.proofs.Heads.Elements.{may_come, whole_head, opens_judged}
use Rattle.dcm_stream.proofs.cursor_sequences.sequence_in.Goals as goal

pub returns-in-Ok-Sequence : goal.returns-in-Ok-Sequence
returns-in-Ok-Sequence g c =
    let bar = bars_head g.S.Sink.bar (g.S.Sink.state c.args.sink.now) in
    let m = may_come bar c.args.inner c.args.levels.now c.args.position c.args.bytes.now c.read_tag-tag.result c.is_allowed.result c.requires.room c.requires.eight c.read_tag-tag.ensures c.is_allowed.ensures c.if-not-is_allowed.false in
    let e = c.in-Done.ensures ∙ ap (λ (t : Tag). tag_read c.args.inner.syntax c.args.bytes.now t) c.read_tag-tag.ensures in
    let long : c.in-Done.size ≡ 12 = search rules in
    let o = opening.Sequence c.in-Ok-Sequence.head c.in-Ok-Sequence.syntax in
    subst (λ (n : ℕ). Judges bar c.args.inner c.args.levels.now c.args.position c.args.bytes.now (judged.Opens o n)) long
    (opens_judged bar c.args.inner c.args.levels.now c.args.position c.args.bytes.now m c.in-Done.head c.in-Done.size c.judge_head.result o c.requires.inner e c.judge_head.ensures.judges (c.in-Ok-Sequence.is ∙ ap Ok c.in-Ok-Sequence.field-0-is))
