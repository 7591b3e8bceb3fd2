use Rattle.std.proofs.Common.{◌≡◌, drop}
use Rattle.dcm_files.specs.Memory.{file_named}
use Rattle.dcm_files.proofs.memory.file_named.Given as goal

-- the file is among those that are left, if there is one
abbrev pub invariant-loop-file : goal.invariant-loop-file
invariant-loop-file l = file_named l.files l.name ≡ file_named (drop l.file-index l.files) l.name
