use Rattle.dcm_sinks.proofs.Dumps.Reads.{reads_so_far, reads_whole}
use Rattle.dcm_sinks.proofs.laws.dump_reads.Goals as goal

pub returns : goal.returns
returns c = record { whole = reads_whole; so_far = reads_so_far }
