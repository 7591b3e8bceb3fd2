use Rattle.std.proofs.Common.{sym, ◌∙◌, ap}
use Rattle.dcm_base.specs.declared.tag.Tag.{Tag}
use Rattle.dcm_head.specs.HeadRead.{tag_read}
use Rattle.dcm_head.proofs.Heads.Reads.{head_short, head_long}
use Rattle.dcm_head.proofs.head.read_head.Goals as goal

pub returns-then-bytes-lt-SHORT_HEAD : goal.returns-then-bytes-lt-SHORT_HEAD
returns-then-bytes-lt-SHORT_HEAD c = sym (head_short c.args.syntax c.args.bytes.now c.if-bytes-lt-SHORT_HEAD.true)

pub returns : goal.returns
returns c = c.read_tagged.ensures ∙ ap (λ (t : Tag). tag_read c.args.syntax c.args.bytes.now t) c.read_tag.ensures ∙ sym (head_long c.args.syntax c.args.bytes.now c.if-bytes-lt-SHORT_HEAD.false)
