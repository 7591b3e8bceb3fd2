use Rattle.dcm_files.specs.HostFolder.{Passes}
use Rattle.dcm_files.proofs.host_folder.HostFolder.next.Given as goal

-- what was taken so far was `.` or `..`
abbrev pub invariant-loop-passed : goal.invariant-loop-passed
invariant-loop-passed g l = Passes g.D.Read.remaining g.D.StdReader.may_read l.fn.self l._passed l.self
