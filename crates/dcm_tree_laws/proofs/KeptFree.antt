-- The output of a file that ends without one stays free in a run.
use Rattle.std.proofs.Common.{◌≡◌, ◌∙◌, ap, inl, inr, ℕ, List, true, false}
use Rattle.dcm_devices.specs.Writing.{Writer}
use Rattle.dcm_cli.specs.Calls.{Reader}
use Rattle.dcm_trees.specs.Task.{Task}
use Rattle.dcm_tree_laws.specs.Determined.{FileEnd, EndsAs}
use Rattle.dcm_tree_laws.specs.FileSystem.{Tree, Host}
use Rattle.dcm_tree_laws.specs.Kept.{StaysFree}
use Rattle.dcm_tree_laws.specs.Together.{IsFree, GoesBeside}
use Rattle.dcm_tree_laws.proofs.Ends.{one_end}
use Rattle.dcm_tree_laws.proofs.Fates.{end_written}
use Rattle.dcm_tree_laws.proofs.Frees.{keeps_itself}
use Rattle.dcm_tree_laws.proofs.Staged.{one_run}
use Rattle.dcm_tree_laws.proofs.Stages.{Settled, Stage}
use Rattle.dcm_tree_laws.proofs.TogetherBy.{leaving}

by_stage : {I O : Type 0} (h : Host I O) (task : Task) (output relative : List ℕ) (mode : ℕ) (bytes : List ℕ) (end : FileEnd) (t : Tree) → EndsAs task bytes end → end_written end ≡ false → Stage h task output relative mode bytes t → IsFree h output relative t
by_stage h task output relative mode bytes end t ends not (inl free) = free
by_stage h task output relative mode bytes end t ends not (inr s) = s.free (ap end_written (one_end task bytes s.end end s.ends ends) ∙ not)

pub stays_free : {I O F W E : Type 0} (r : Reader I) (w : Writer O) (m : Writer W) (e : Writer E) → StaysFree F r w m e
stays_free {I} {O} {F} r w m e h task folder first x mode bytes end number count after tells named ends not free run =
    by_stage h task folder x.named.relative mode bytes end after ends not
    ((one_run {F = F} h r w m e true task folder first x (Stage h task folder x.named.relative mode bytes) (Settled h task folder x.named.relative mode bytes) (λ t v. GoesBeside h folder t x bytes v)
    (leaving {F = F} h r w m e tells task folder first x mode bytes named) number count first after (keeps_itself h folder first) run).stage (inl free))
