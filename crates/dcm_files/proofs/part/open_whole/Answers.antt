use Rattle.std.proofs.Common.{rules}
use Rattle.dcm_files.specs.Part.{stream, part}
use Rattle.dcm_files.proofs.part.open_whole.Goals as goal

pub returns-then-eq : goal.returns-then-eq
returns-then-eq g c = stream (search rules) c.open_stream.ensures

pub returns : goal.returns
returns g c = part (search rules) c.open_part.ensures
