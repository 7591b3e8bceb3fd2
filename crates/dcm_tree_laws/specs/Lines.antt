-- The names that a run over a list visits: those of its lines.
use Rattle.std.specs.Prelude.{◌≡◌, ℕ, List, ◌++◌, length, map, take, true, false, None, Result, Ok}
use Rattle.dcm_devices.specs.Writing.{Writer}
use Rattle.dcm_names.specs.Names.{NAME_LIMIT, names_of}
use Rattle.dcm_walk.specs.declared.list.ListEnd.{ListEnd}
use Rattle.dcm_walk.specs.declared.list.ListEnd.TheVariants.{Whole, Unread}
use Rattle.dcm_walk.specs.declared.visitor.Stopped.{Stopped}
use Rattle.dcm_walk.specs.List.{named_line}
use Rattle.dcm_walk.specs.Visits.{Named}
use Rattle.dcm_cli.specs.Calls.{Reader}
use Rattle.dcm_trees.specs.declared.beginning.Begun.{Begun}
use Rattle.dcm_trees.specs.declared.run.TreeRun.{TreeRun}
use Rattle.dcm_trees.specs.Tree.{VisitsListed}
use Rattle.dcm_trees.specs.World.{World}
use Rattle.dcm_tree_laws.specs.FileSystem.{FileSystem, Host}
use Rattle.dcm_tree_laws.specs.Laws.{over}
use Rattle.dcm_tree_laws.specs.OneRow.{ListHasRows}
use Rattle.dcm_tree_laws.specs.Rows.{Visit}
use Rattle.dcm_tree_laws.specs.Single.{as_held}

-- the names of visits, in their order
abbrev pub visited_names : List Visit → List Named
visited_names visits = map (λ v. v.named) visits

-- the names of lines, of each of which no more is taken than a name may have
abbrev pub line_names : List (List ℕ) → List Named
line_names lines = map (λ line. named_line (take NAME_LIMIT line)) lines

-- The list was read to its end, and each line of it that has bytes was visited, in order. Or it could be read no further,
-- and the lines were that had ended by then
pub data LinesVisited (list : List ℕ) (walked : Result ListEnd Stopped) (visits : List Visit) : Type 0 where
  to_its_end : walked ≡ Ok Whole → visited_names visits ≡ line_names (names_of list true)
      → LinesVisited list walked visits
  not_read : (count : ℕ) (front rest : List ℕ) → walked ≡ Ok (Unread count) → list ≡ front ++ rest
      → count ≡ length front → visited_names visits ≡ line_names (names_of front false)
      → LinesVisited list walked visits

-- so it is of a run over a list that does not end before its last name: of all that its input has to give
abbrev pub ListIsVisited : {I O F W E : Type 0} → Host I O → World FileSystem I O F E → Writer W → Type 0
ListIsVisited {I} {O} {F} {W} {E} h w m =
    (run : TreeRun) (list : List ℕ) (begun : Begun) (input : I) (headed : W) (from : E) (before : FileSystem)
    (status : ℕ) (left : W) (to : E) (after : FileSystem) (read : I)
    → (v : VisitsListed w m run list begun input headed from before status left to after read) → v.last.stop ≡ None
    → (has : ListHasRows w m run list begun input headed from before status left to after read v)
    → LinesVisited (h.holds input) v.walked has.visits

-- where readers give what files hold
abbrev pub LinesAreVisited : {I O W E : Type 0} → (F : Type 0) → Reader I → Writer O → Writer W → Writer E → Type 0
LinesAreVisited {I} {O} F reader output m errors =
    (h : Host I O) → ListIsVisited h (over {F = F} h (as_held h reader) output errors) m
