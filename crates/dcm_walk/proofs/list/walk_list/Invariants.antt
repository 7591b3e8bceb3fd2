use Rattle.std.proofs.Common.{ℕ, List}
use Rattle.dcm_names.specs.Reader.{HasRead, most_left}
use Rattle.dcm_walk.specs.List.{DoesLine, Listed}
use Rattle.dcm_walk.proofs.list.walk_list.Given as goal

-- the names so far were read and done
abbrev pub invariant-loop-names : goal.invariant-loop-names
invariant-loop-names g l = record {
  given : List ℕ;
  front : List (List ℕ);
  read : HasRead l.names given front;
  done : Listed g.S.Input.DeviceIn.gets (DoesLine g.S.Folders.folders_do g.V.Visitor.visits l.output) (l.fn.visitor, l.fn.errors) l.fn.system l.fn.input
      (l.visitor, l.errors) l.system given l.input l.names.is_over front;
}

abbrev pub decreases-loop-names : goal.decreases-loop-names
decreases-loop-names g l = most_left l.names
