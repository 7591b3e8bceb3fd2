use Rattle.std.proofs.Common.{rules}
use Rattle.dcm_files.specs.Devices.{to_stream, to_file}
use Rattle.dcm_files.proofs.devices.open_output.Goals as goal

pub returns-then-eq : goal.returns-then-eq
returns-then-eq g c = to_stream (search rules) c.open_stream.ensures

pub returns : goal.returns
returns g c = to_file (search rules) c.open_file.ensures
