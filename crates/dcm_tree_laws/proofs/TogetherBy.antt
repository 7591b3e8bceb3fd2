-- Runs of all shares leave what one run leaves.
use Rattle.std.proofs.Common.{◌≡◌, ◌∙◌, refl, sym, ap, subst, inl, inr, ℕ, ◌≤◌, ◌<◌, List, Bool, true, false, None, Ok}
use Rattle.dcm_devices.specs.Writing.{Writer}
use Rattle.dcm_instance.specs.Uids.{Uids, instance_name}
use Rattle.dcm_walk.specs.Names.{below}
use Rattle.dcm_walk.specs.Visits.{Named}
use Rattle.dcm_walk.specs.declared.visitor.What.{What}
use Rattle.dcm_cli.specs.Calls.{Reader}
use Rattle.dcm_trees.specs.declared.file.Done.{Done}
use Rattle.dcm_trees.specs.File.{DoesName}
use Rattle.dcm_trees.specs.Manner.{Manner}
use Rattle.dcm_trees.specs.Run.{part_name}
use Rattle.dcm_trees.specs.Share.{is_of}
use Rattle.dcm_trees.specs.Task.{Task}
use Rattle.dcm_tree_laws.specs.Determined.{working}
use Rattle.dcm_tree_laws.specs.FileSystem.{FileSystem, Tree, Host, number_of, place_of}
use Rattle.dcm_tree_laws.specs.Rows.{Visit}
use Rattle.dcm_tree_laws.specs.Single.{TellsAll}
use Rattle.dcm_tree_laws.specs.Together.{IsOpen, GoesBeside, IsNameOf, Has, IsSameAt, nothing, something, PartsAreOne, IsInstanceOf, NamesBeside, InstancesAreOne}
use Rattle.dcm_tree_laws.proofs.Ends.{one_end}
use Rattle.dcm_tree_laws.proofs.Fates.{end_written}
use Rattle.dcm_tree_laws.proofs.Frees.{KeepsAll, keeps_itself, beside_kept, IsMade, Stepped}
use Rattle.dcm_tree_laws.proofs.RowsBy.{visit_of}
use Rattle.dcm_tree_laws.proofs.SharesBy.{one_output}
use Rattle.dcm_tree_laws.proofs.Staged.{Leaving, RunLeft, one_run, AllLeft, all_runs, both_came, same_kept}
use Rattle.dcm_tree_laws.proofs.Stages.{Settled, Stage, step}
use Rattle.dcm_tree_laws.proofs.StagesAs.{StageAs, IsWrittenAs, beside_as_kept, step_as}
use Rattle.dcm_tree_laws.proofs.Working.{whole_gives}

module _ {I O : Type 0} (h : Host I O) (task : Task) (output relative : List ℕ) (mode : ℕ) (bytes : List ℕ) (one other : Tree) (a : Settled h task output relative mode bytes one) (b : Settled h task output relative mode bytes other) where
  same_made : IsMade h task output relative mode bytes one → IsMade h task output relative mode bytes other → IsSameAt one other (place_of h (below output relative))
  same_made x y = something x.file y.file x.is y.is (x.kind ∙ sym y.kind) (x.mode_is ∙ sym y.mode_is) (one_output task bytes (one.bytes (number_of x.file)) (other.bytes (number_of y.file)) x.answered y.answered)

  same_by : (written : Bool) → end_written a.end ≡ written → end_written b.end ≡ written → IsSameAt one other (place_of h (below output relative))
  same_by true x y = same_made (a.made x) (b.made y)
  same_by false x y = nothing (a.free x).nothing (b.free y).nothing

  same_settled : IsSameAt one other (place_of h (below output relative))
  same_settled = same_by (end_written a.end) refl (ap end_written (one_end task bytes b.end a.end b.ends a.ends))

module _ {I O F W E : Type 0} (h : Host I O) (r : Reader I) (w : Writer O) (m : Writer W) (e : Writer E) (tells : TellsAll h w) (task : Task) (folder : List ℕ) (first : Tree) (x : Visit) (mode : ℕ) (bytes : List ℕ) (named : IsNameOf h folder first x mode bytes) where
  step_of : (k : Manner) (number : ℕ) → k.part ≡ below k.output (part_name number) → k.keeps_names ≡ true → k.output ≡ folder → k.task ≡ task → (n : Named) (what : What) (from : E) (before : FileSystem) (done : Done) (to : E) (after : FileSystem) → before.written ≡ None → KeepsAll h folder first before.now → GoesBeside h folder before.now x bytes (visit_of n what)
      → DoesName (working {F = F} h r w e) k n what from before (Ok done) to after → Stepped (Stage h task folder x.named.relative mode bytes) (Settled h task folder x.named.relative mode bytes) x (visit_of n what) (Unit {0}) before.now after.now
  step_of k number part_is keeps output_is task_is n what from before done to after none since beside does =
      subst (λ (t : Task). Stepped (Stage h t folder x.named.relative mode bytes) (Settled h t folder x.named.relative mode bytes) x (visit_of n what) (Unit {0}) before.now after.now) task_is
      (subst (λ (o : List ℕ). Stepped (Stage h k.task o x.named.relative mode bytes) (Settled h k.task o x.named.relative mode bytes) x (visit_of n what) (Unit {0}) before.now after.now) output_is
      (step {F = F} h r w e k number part_is (whole_gives h r w tells) keeps first x mode bytes (subst (λ (o : List ℕ). IsNameOf h o first x mode bytes) (sym output_is) named) n what from before done to after none
      (subst (λ (o : List ℕ). GoesBeside h o before.now x bytes (visit_of n what)) (sym output_is) beside) does))

  pub leaving : Leaving F h r w e true task folder first x (Stage h task folder x.named.relative mode bytes) (Settled h task folder x.named.relative mode bytes) (λ t v. GoesBeside h folder t x bytes v)
  leaving = record {
    kept = λ t u keeps v beside. beside_kept h folder t u x bytes keeps v beside;
    step = λ k number part_is keeps output_is task_is n what from before done to after none since beside does. step_of k number part_is keeps output_is task_is n what from before done to after none since beside does;
  }

by_output : {I O : Type 0} (h : Host I O) (task : Task) (folder : List ℕ) (first : Tree) (x : Visit) (mode : ℕ) (bytes : List ℕ) (named : IsNameOf h folder first x mode bytes) (count : ℕ) (numbers : List ℕ) (after alone : Tree) → 0 < count → ((number : ℕ) → 1 ≤ number → number ≤ count → Has number numbers)
    → AllLeft h folder x (Stage h task folder x.named.relative mode bytes) (Settled h task folder x.named.relative mode bytes) count numbers first after → RunLeft h folder (Stage h task folder x.named.relative mode bytes) (Settled h task folder x.named.relative mode bytes) (is_of 1 1 x.named.relative ≡ true) first alone
    → IsOpen h folder x.named.relative first → IsSameAt after alone (place_of h (below folder x.named.relative))
by_output h task folder first x mode bytes named count numbers after alone some each all_left left (inl free) =
    let both = both_came h folder first x (Stage h task folder x.named.relative mode bytes) (Settled h task folder x.named.relative mode bytes) count numbers after alone some each all_left left (inl free) in
    same_settled h task folder x.named.relative mode bytes after alone both.0 both.1
by_output h task folder first x mode bytes named count numbers after alone some each all_left left (inr there) =
    same_kept h folder (place_of h (below folder x.named.relative)) first after alone there.0 all_left.keeps_all left.keeps_all named.own.no_part there.1

pub parts_are_one : {I O F W E : Type 0} (r : Reader I) (w : Writer O) (m : Writer W) (e : Writer E) → PartsAreOne F r w m e
parts_are_one {I} {O} {F} r w m e h task folder first x mode bytes count numbers after alone tells named some each runs run =
    let from : Leaving F h r w e true task folder first x (Stage h task folder x.named.relative mode bytes) (Settled h task folder x.named.relative mode bytes) (λ t v. GoesBeside h folder t x bytes v) = leaving {F = F} h r w m e tells task folder first x mode bytes named in
    by_output h task folder first x mode bytes named count numbers after alone some each
    (all_runs {F = F} h r w m e true task folder first x (Stage h task folder x.named.relative mode bytes) (Settled h task folder x.named.relative mode bytes) (λ t v. GoesBeside h folder t x bytes v) from count numbers after runs)
    (one_run {F = F} h r w m e true task folder first x (Stage h task folder x.named.relative mode bytes) (Settled h task folder x.named.relative mode bytes) (λ t v. GoesBeside h folder t x bytes v) from 1 1 first alone (keeps_itself h folder first) run)
    named.output_is

-- ---- by instances

same_written : {I O : Type 0} (h : Host I O) (output relative : List ℕ) (mode : ℕ) (out : List ℕ) (one other : Tree) → IsWrittenAs h output relative mode out one → IsWrittenAs h output relative mode out other → IsSameAt one other (place_of h (below output relative))
same_written h output relative mode out one other x y = something x.file y.file x.is y.is (x.kind ∙ sym y.kind) (x.mode_is ∙ sym y.mode_is) (x.bytes_are ∙ sym y.bytes_are)

module _ {I O F W E : Type 0} (h : Host I O) (r : Reader I) (w : Writer O) (m : Writer W) (e : Writer E) (tells : TellsAll h w) (task : Task) (folder : List ℕ) (first : Tree) (x : Visit) (mode : ℕ) (bytes out : List ℕ) (uids : Uids) (named : IsInstanceOf h task folder first x mode bytes out uids) where
  -- by how one run is done
  step_by : (k : Manner) (number : ℕ) → k.part ≡ below k.output (part_name number) → k.keeps_names ≡ false → k.output ≡ folder → k.task ≡ task → (n : Named) (what : What) (from : E) (before : FileSystem) (done : Done) (to : E) (after : FileSystem) → before.written ≡ None → KeepsAll h folder first before.now
      → NamesBeside h task folder mode out uids before.now (visit_of n what) → DoesName (working {F = F} h r w e) k n what from before (Ok done) to after
      → Stepped (StageAs h folder (instance_name uids) mode out) (IsWrittenAs h folder (instance_name uids) mode out) x (visit_of n what) (Unit {0}) before.now after.now
  step_by k number part_is keeps output_is task_is n what from before done to after none since beside does =
      subst (λ (o : List ℕ). Stepped (StageAs h o (instance_name uids) mode out) (IsWrittenAs h o (instance_name uids) mode out) x (visit_of n what) (Unit {0}) before.now after.now) output_is
      (step_as {F = F} h r w e (whole_gives h r w tells) k number part_is keeps first x mode bytes out uids
      (subst (λ (o : List ℕ). IsInstanceOf h k.task o first x mode bytes out uids) (sym output_is) (subst (λ (t : Task). IsInstanceOf h t folder first x mode bytes out uids) (sym task_is) named)) n what from before done to after none
      (subst (λ (o : List ℕ). KeepsAll h o first before.now) (sym output_is) since)
      (subst (λ (o : List ℕ). NamesBeside h k.task o mode out uids before.now (visit_of n what)) (sym output_is) (subst (λ (t : Task). NamesBeside h t folder mode out uids before.now (visit_of n what)) (sym task_is) beside)) does)

  leaving_as : Leaving F h r w e false task folder first x (StageAs h folder (instance_name uids) mode out) (IsWrittenAs h folder (instance_name uids) mode out) (λ t v. NamesBeside h task folder mode out uids t v)
  leaving_as = record {
    kept = λ t u keeps v beside. beside_as_kept h task folder mode out uids t u keeps v beside;
    step = λ k number part_is keeps output_is task_is n what from before done to after none since beside does. step_by k number part_is keeps output_is task_is n what from before done to after none since beside does;
  }

by_instance : {I O : Type 0} (h : Host I O) (task : Task) (folder : List ℕ) (first : Tree) (x : Visit) (mode : ℕ) (bytes out : List ℕ) (uids : Uids) (named : IsInstanceOf h task folder first x mode bytes out uids) (count : ℕ) (numbers : List ℕ) (after alone : Tree) → 0 < count → ((number : ℕ) → 1 ≤ number → number ≤ count → Has number numbers)
    → AllLeft h folder x (StageAs h folder (instance_name uids) mode out) (IsWrittenAs h folder (instance_name uids) mode out) count numbers first after → RunLeft h folder (StageAs h folder (instance_name uids) mode out) (IsWrittenAs h folder (instance_name uids) mode out) (is_of 1 1 x.named.relative ≡ true) first alone
    → IsOpen h folder (instance_name uids) first → IsSameAt after alone (place_of h (below folder (instance_name uids)))
by_instance h task folder first x mode bytes out uids named count numbers after alone some each all_left left (inl free) =
    let both = both_came h folder first x (StageAs h folder (instance_name uids) mode out) (IsWrittenAs h folder (instance_name uids) mode out) count numbers after alone some each all_left left (inl free) in
    same_written h folder (instance_name uids) mode out after alone both.0 both.1
by_instance h task folder first x mode bytes out uids named count numbers after alone some each all_left left (inr there) =
    same_kept h folder (place_of h (below folder (instance_name uids))) first after alone there.0 all_left.keeps_all left.keeps_all named.own.no_part there.1

pub instances_are_one : {I O F W E : Type 0} (r : Reader I) (w : Writer O) (m : Writer W) (e : Writer E) → InstancesAreOne F r w m e
instances_are_one {I} {O} {F} r w m e h task folder first x mode bytes out uids count numbers after alone tells named some each runs run =
    let from = leaving_as {F = F} h r w m e tells task folder first x mode bytes out uids named in
    by_instance h task folder first x mode bytes out uids named count numbers after alone some each
    (all_runs {F = F} h r w m e false task folder first x (StageAs h folder (instance_name uids) mode out) (IsWrittenAs h folder (instance_name uids) mode out) (λ t v. NamesBeside h task folder mode out uids t v) from count numbers after runs)
    (one_run {F = F} h r w m e false task folder first x (StageAs h folder (instance_name uids) mode out) (IsWrittenAs h folder (instance_name uids) mode out) (λ t v. NamesBeside h task folder mode out uids t v) from 1 1 first alone (keeps_itself h folder first) run)
    named.output_is
