-- What a run over a tree deals with.
use Rattle.std.specs.Prelude.{}
use Rattle.dcm_devices.specs.Writing.{Writer}
use Rattle.dcm_files.specs.Devices.{MayDo}
use Rattle.dcm_files.specs.Folders.{FoldersDo}
use Rattle.dcm_cli.specs.Calls.{Reader}

-- the calls of the system, its inputs and outputs, and standard error
pub record World (S I O F E : Type 0) : Type 1 where
  pub may : MayDo S I O
  pub folders : FoldersDo S O F
  pub reader : Reader I
  pub output : Writer O
  pub errors : Writer E

abbrev pub world : {S I O F E : Type 0} → MayDo S I O → FoldersDo S O F → Reader I → Writer O → Writer E → World S I O F E
world may folders reader output errors =
    record { may = may; folders = folders; reader = reader; output = output; errors = errors }
