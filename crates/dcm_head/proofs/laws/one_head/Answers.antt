use Rattle.dcm_base.proofs.DataSets.Heads.{head_same}
use Rattle.dcm_head.proofs.laws.one_head.Goals as goal

pub returns : goal.returns
returns c = λ s bytes after others head other h k.
    let same = head_same s head.tag other.tag head.vr other.vr head.length other.length bytes after others h k in
    (λ i. record { tag = same.tags i; vr = same.vrs i; length = same.lengths i }, same.contents)
