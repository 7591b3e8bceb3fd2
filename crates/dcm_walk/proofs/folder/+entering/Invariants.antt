use Rattle.std.proofs.Common.{◌≡◌, ◌-◌, ◌*◌, ◌+◌}
use Rattle.dcm_walk.specs.Folder.{EntryAt, Listed}
use Rattle.dcm_walk.proofs.folder.+entering.Given as goal

-- a folder stands above its names, and these above the folders in it
abbrev pub decreases-do_opened : goal.decreases-do_opened
decreases-do_opened g l = 6 * l.levels + 5

abbrev pub decreases-do_names : goal.decreases-do_names
decreases-do_names g l = 6 * l.levels + 4

abbrev pub decreases-do_entry : goal.decreases-do_entry
decreases-do_entry g l = 6 * l.levels + 3

abbrev pub decreases-do_path : goal.decreases-do_path
decreases-do_path g l = 6 * l.levels + 2

abbrev pub decreases-do_fit : goal.decreases-do_fit
decreases-do_fit g l = 6 * l.levels + 1

abbrev pub decreases-enter : goal.decreases-enter
decreases-enter g l = 6 * l.levels

-- the names so far were listed and done, and the path is the folder's
abbrev pub invariant-do_names-loop-count : goal.invariant-do_names-loop-count
invariant-do_names-loop-count g l =
    Listed g.S.Folders.folders_do (EntryAt g.S.Folders.folders_do g.V.Visitor.visits l.walk l.levels l.fn.trail.path.items) (l.fn.visitor, l.fn.errors) l.fn.system l.fn.folder
    l.count (l.visitor, l.errors) l.system l.folder
    × (l.trail.path.items ≡ l.fn.trail.path.items)

abbrev pub decreases-do_names-loop-count : goal.decreases-do_names-loop-count
decreases-do_names-loop-count g l = 18446744073709551615 - l.count
