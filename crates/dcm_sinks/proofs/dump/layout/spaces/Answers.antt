use Rattle.std.proofs.lemmas.List.{take-replicate}
use Rattle.dcm_sinks.proofs.dump.layout.spaces.Goals as goal

pub returns : goal.returns
returns c = take-replicate c.args.count 256 32 c.requires
