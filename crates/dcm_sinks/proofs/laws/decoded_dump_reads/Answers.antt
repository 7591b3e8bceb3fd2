use Rattle.dcm_sinks.proofs.DecodedDumps.Reads.{reads_so_far, reads_whole}
use Rattle.dcm_sinks.proofs.laws.decoded_dump_reads.Goals as goal

pub returns : goal.returns
returns c = record { whole = reads_whole; so_far = reads_so_far }
