use Rattle.dcm_named.proofs.NamedReads.{reads_so_far, reads_whole}
use Rattle.dcm_named.proofs.laws.named_reads.Goals as goal

pub returns : goal.returns
returns c = record { whole = reads_whole; so_far = reads_so_far }
