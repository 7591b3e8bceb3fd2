use Rattle.std.proofs.Common.{◌≡◌, ◌≤◌, ℕ, List}
use Rattle.dcm_names.specs.Reader.{HasRead, most_left}
use Rattle.dcm_cli.specs.Change.{change_of}
use Rattle.dcm_cli.proofs.Passes.Readers.{members, writer}
use Rattle.dcm_each.specs.Each.{DoesListed, Listed}
use Rattle.dcm_each.proofs.each.do_names.Given as goal

-- the names so far were read and done
abbrev pub invariant-loop-names : goal.invariant-loop-names
invariant-loop-names g l = record {
  given : List ℕ;
  front : List (List ℕ);
  read : HasRead l.names given front;
  done : Listed g.S.Input.DeviceIn.gets (DoesListed g.S.System.may_do g.K.FileWork.work)
      (l.fn.work, l.fn.out) l.fn.input l.fn.system (change_of (writer g.E.Device g.E.DeviceOut) l.fn.errors l.errors) (l.work, l.out) given l.input l.names.is_over front l.status l.system;
  within : l.status ≤ 4;
}

abbrev pub decreases-loop-names : goal.decreases-loop-names
decreases-loop-names g l = most_left l.names
