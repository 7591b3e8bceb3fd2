use Rattle.std.proofs.Common.{◌≡◌, ◌≤◌, ◌-◌, ◌++◌, List, length}
use Rattle.dcm_table_words.specs.Table.{Name}
use Rattle.dcm_table_words.specs.Plans.{names_as, names_from}
use Rattle.dcm_cli.specs.Change.{change_of}
use Rattle.dcm_cli.proofs.Passes.Readers.{members, writer}
use Rattle.dcm_each.specs.Each.{DoesName, DoneSoFar}
use Rattle.dcm_each.proofs.each.do_all.Given as goal

-- the names so far were done
abbrev pub invariant-loop-name : goal.invariant-loop-name
invariant-loop-name g l = record {
  front : List Name;
  whole : names_as l.names ≡ front ++ names_from l.names l.place;
  done : DoneSoFar (DoesName g.S.System.may_do (members g.S.Input.Device g.S.Input.DeviceIn) g.K.FileWork.work)
      (l.fn.work, l.fn.out) l.fn.system (change_of (writer g.E.Device g.E.DeviceOut) l.fn.errors l.errors) (l.work, l.out) front l.status l.system;
  within : l.status ≤ 4;
}

abbrev pub decreases-loop-name : goal.decreases-loop-name
decreases-loop-name g l = length l.names.words.now - l.place
