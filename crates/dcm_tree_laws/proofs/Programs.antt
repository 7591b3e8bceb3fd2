-- The program, by words that mean a run over a tree, does it by such steps.
use Rattle.std.proofs.Common.{◌≡◌, ◌∙◌, refl, sym, ap, subst, ℕ, List, Bool, Option, Some, None, Result, Ok, Err}
use Rattle.std.specs.Prelude.{◌≢◌}
use Rattle.dcm_deid.specs.declared.fate.Options.{Options}
use Rattle.dcm_devices.specs.Writing.{Writer}
use Rattle.dcm_files.specs.declared.opened.FileKind.{FileKind}
use Rattle.dcm_words.specs.Words.{Job, deidentify}
use Rattle.dcm_words.specs.Words as words
use Rattle.dcm_tree_words.specs.Trees.{Source, Tree as WordsTree, meant_tree}
use Rattle.dcm_cli.specs.declared.key.KeyRead.{KeyRead}
use Rattle.dcm_cli.specs.declared.key.NoKey.{NoKey}
use Rattle.dcm_cli.specs.Calls.{Reader}
use Rattle.dcm_cli.specs.Keys as keys
use Rattle.dcm_cli.specs.Keys.{TakesKey}
use Rattle.dcm_trees.specs.Program as spec
use Rattle.dcm_trees.specs.Program.{RunsTask, Deidentifies, RunsAs, ObeysTree}
use Rattle.dcm_trees.specs.Task as tasks
use Rattle.dcm_trees.specs.Task.{Task, task_of}
use Rattle.dcm_trees.specs.Run.{part_name}
use Rattle.dcm_walk.specs.Names.{below}
use Rattle.dcm_tree_laws.specs.FileSystem.{FileSystem, Host, Tree, begins, may_do, ClosesOutput}
use Rattle.dcm_tree_laws.specs.Halves.{IsTaskOf, without_key, of_another_job, by_key, IsOutputOf, HasOneTask, by_task, nothing_changed, NeverHalfByWords}
use Rattle.dcm_tree_laws.specs.Laws.{IsOutput, over, part_of_tree, OthersStayByWords}
use Rattle.dcm_tree_laws.specs.Stays.{IsOfOutput}
use Rattle.dcm_tree_laws.proofs.Below.{part_is_within}
use Rattle.dcm_tree_laws.proofs.HalvesBy.{output_grows as output_of_grows, output_right}
use Rattle.dcm_tree_laws.proofs.Closing.{closes_kept}
use Rattle.dcm_tree_laws.proofs.Looking.{same_ok}
use Rattle.dcm_tree_laws.proofs.OfRuns.{always_so}
use Rattle.dcm_tree_laws.proofs.Runs.{RunCame, RightOf, does_tree, output_grows, always_right, opens_input}
use Rattle.dcm_tree_laws.proofs.SoFar.{Grows, at_first}

-- standard output is closed where no file is being written
closes_stdout : (now : Option _) (all kept : List ℕ) (before after : FileSystem) → now ≡ None → ClosesOutput now all kept before after → after ≡ before
closes_stdout None all kept before after none closes = closes
closes_stdout (Some n) all kept before after none closes = absurd (cc)

takes_key : {I O : Type 0} (h : Host I O) (r : Reader I) (path : List ℕ) (before : FileSystem) (result : Result KeyRead NoKey) (after : FileSystem) → TakesKey (may_do {I = I} h) r path before result after → after ≡ before
takes_key {I} h r path before result after (keys.not_opened e cause opens c is) = opens_input {I = I} h path before (Err e) after opens
takes_key {I} h r path before result after (keys.no_key i left has cause opens reads back is) = back ∙ opens_input {I = I} h path before (Ok i) has opens
takes_key {I} h r path before result after (keys.key i left has k opens reads kind back is) = back ∙ opens_input {I = I} h path before (Ok i) has opens

-- ---- the words that mean a run

-- what holds at a state that it came to
abbrev ByWords : {I O : Type 0} → Host I O → (IsWhole : List Tree → ℕ → List ℕ → Type 0) → WordsTree → (start : Tree) → (after : FileSystem) → Type 0
ByWords h IsWhole t start after = RunCame h IsWhole (part_of_tree t) t.plan.output start after

-- how it goes on, with this task, folder and number of a share
abbrev GoOnWith : {I O : Type 0} → Host I O → (IsWhole : List Tree → ℕ → List ℕ → Type 0) → Reader I → Writer O → Source → (start : Tree) → (before after : FileSystem) → Task → (output : List ℕ) → (number : ℕ) → Type 0
GoOnWith h IsWhole r w source start before after task output number =
    RightOf h source IsWhole r w task (below output (part_name number)) output start → RunCame h IsWhole (below output (part_name number)) output start before → RunCame h IsWhole (below output (part_name number)) output start after

as_words : {I O : Type 0} (h : Host I O) (IsWhole : List Tree → ℕ → List ℕ → Type 0) (r : Reader I) (w : Writer O) (source : Source) (start : Tree) (before after : FileSystem) (task that : Task) (output other : List ℕ) (number same : ℕ) → task ≡ that → output ≡ other → number ≡ same
    → GoOnWith h IsWhole r w source start before after task output number → GoOnWith h IsWhole r w source start before after that other same
as_words h IsWhole r w source start before after task that output other number same t o n goes =
    subst (λ (x : Task). GoOnWith h IsWhole r w source start before after x other same) t
    (subst (λ (x : List ℕ). GoOnWith h IsWhole r w source start before after task x same) o (subst (λ (x : ℕ). GoOnWith h IsWhole r w source start before after task output x) n goes))

words_by : {I O : Type 0} (h : Host I O) (IsWhole : List Tree → ℕ → List ℕ → Type 0) (t : WordsTree) (start : Tree) (before after : FileSystem) → after ≡ before → ByWords h IsWhole t start before → ByWords h IsWhole t start after
words_by h IsWhole t start before after same came = subst (ByWords h IsWhole t start) (sym same) came

-- ---- their task

-- a run is done by one task that the words mean, from what was found; or nothing is changed
data Obeys {I O E : Type 0} (F : Type 0) (h : Host I O) (r : Reader I) (w : Writer O) (e : Writer E) (t : WordsTree) (start : Tree) (from : E) (status : ℕ) (to : E) (after : FileSystem) : Type 0 where
  has_task : (task : Task) (key : Option FileKind) (before : FileSystem) → IsTaskOf h r t start task → before ≡ begins start → RunsTask (over {F = F} h r w e) t task key from before status to after → Obeys F h r w e t start from status to after
  no_task : after ≡ begins start → Obeys F h r w e t start from status to after

module _ {I O E : Type 0} (F : Type 0) (h : Host I O) (r : Reader I) (w : Writer O) (e : Writer E) (t : WordsTree) (start : Tree) where
  deidentifies : (options : Options) (reports : Bool) (planned : List ℕ) → t.plan.job ≡ deidentify options reports planned → (from : E) (status : ℕ) (to : E) (after : FileSystem)
      → Deidentifies (over {F = F} h r w e) t options reports from (begins start) status to after → Obeys F h r w e t start from status to after
  deidentifies options reports planned job from status to after (spec.without_key no_key runs) = has_task _ None (begins start) (without_key no_key refl) refl runs
  deidentifies options reports planned job from status to after (spec.no_key path cause named takes told is) = no_task (takes_key h r path (begins start) (Err cause) after takes)
  deidentifies options reports planned job from status to after (spec.with_key path k has named takes runs) =
      has_task _ _ has (by_key options reports planned path k has job named takes refl) (takes_key h r path (begins start) (Ok k) has takes) runs

  by_another : (job : Job) → t.plan.job ≡ job → ((options : Options) (reports : Bool) (planned : List ℕ) → job ≢ deidentify options reports planned) → (from : E) (status : ℕ) (to : E) (after : FileSystem)
      → RunsTask (over {F = F} h r w e) t (tasks.same t.plan.job) None from (begins start) status to after → Obeys F h r w e t start from status to after
  by_another job is other from status to after runs = has_task _ None (begins start) (of_another_job (λ options reports planned d. other options reports planned (sym is ∙ d)) refl) refl runs

  runs_as : (job : Job) → t.plan.job ≡ job → (from : E) (status : ℕ) (to : E) (after : FileSystem) → RunsAs (over {F = F} h r w e) t job from (begins start) status to after → Obeys F h r w e t start from status to after
  runs_as (words.deidentify options reports planned) is from status to after runs = deidentifies options reports planned is from status to after runs
  runs_as (words.dump d mode bare) is from status to after runs = by_another (words.dump d mode bare) is (λ options reports planned no. absurd (cc)) from status to after runs
  runs_as (words.dump_decoded d mode bare) is from status to after runs = by_another (words.dump_decoded d mode bare) is (λ options reports planned no. absurd (cc)) from status to after runs
  runs_as (words.dump_named texts d mode bare named) is from status to after runs = by_another (words.dump_named texts d mode bare named) is (λ options reports planned no. absurd (cc)) from status to after runs
  runs_as (words.convert d target) is from status to after runs = by_another (words.convert d target) is (λ options reports planned no. absurd (cc)) from status to after runs
  runs_as (words.build limit) is from status to after runs = by_another (words.build limit) is (λ options reports planned no. absurd (cc)) from status to after runs
  runs_as (words.modify d edits) is from status to after runs = by_another (words.modify d edits) is (λ options reports planned no. absurd (cc)) from status to after runs

  obeys : (given : List (List ℕ)) (from : E) (status : ℕ) (to : E) (after : FileSystem) → meant_tree given ≡ Ok t → ObeysTree (over {F = F} h r w e) given from (begins start) status to after → Obeys F h r w e t start from status to after
  obeys given from status to after meant (spec.meant other is runs) =
      runs_as t.plan.job refl from status to after (subst (λ (x : WordsTree). RunsAs (over {F = F} h r w e) x x.plan.job from (begins start) status to after) (same_ok (meant_tree given) t other meant is) runs)
  obeys given from status to after meant (spec.refused u is told s same) = no_task same
  obeys given from status to after meant (spec.no_memory told s same) = no_task same

-- ---- what its run leaves

module _ {I O E : Type 0} (F : Type 0) (h : Host I O) (IsWhole : List Tree → ℕ → List ℕ → Type 0) (grows : Grows IsWhole) (r : Reader I) (w : Writer O) (e : Writer E) (t : WordsTree) (start : Tree) where
  first : ByWords h IsWhole t start (begins start)
  first = at_first h IsWhole grows (part_of_tree t) (IsOfOutput t.plan.output) start (part_is_within t.plan.output (part_of_tree t) t.options.part.number refl)

  runs_task : (task : Task) (key : Option FileKind) → RightOf h t.source IsWhole r w task (part_of_tree t) t.plan.output start → (from : E) (before : FileSystem) (status : ℕ) (to : E) (after : FileSystem) → ByWords h IsWhole t start before → RunsTask (over {F = F} h r w e) t task key from before status to after
      → ByWords h IsWhole t start after
  runs_task task key right from before status to after so_far (spec.no_stdout error u call c told is) = words_by h IsWhole t start before after call so_far
  runs_task task key right from before status to after so_far (spec.has_run o run left mid done call meant does closes) =
      let came : ByWords h IsWhole t start done =
      as_words h IsWhole r w t.source start mid done (task_of run.task) task run.output.now t.plan.output run.options.part.number t.options.part.number meant.task_is meant.output (ap (λ o. o.part.number) meant.options)
      (λ right_there came. does_tree {F = F} h IsWhole grows r w e w start run t.source o.device from mid status left to done does right_there came) right (words_by h IsWhole t start before mid call so_far) in
      words_by h IsWhole t start done after (let kept = closes_kept done.written (h.took left) done closes.answer after closes.call in closes_stdout done.written (h.took left) kept.0 done after came.both.keeps.quiet kept.1) came

  after_task : (task : Task) (key : Option FileKind) → RightOf h t.source IsWhole r w task (part_of_tree t) t.plan.output start → (from : E) (before : FileSystem) (status : ℕ) (to : E) (after : FileSystem) → before ≡ begins start → RunsTask (over {F = F} h r w e) t task key from before status to after
      → ByWords h IsWhole t start after
  after_task task key right from before status to after same runs = runs_task task key right from before status to after (words_by h IsWhole t start (begins start) before same first) runs

  after_none : (after : FileSystem) → after ≡ begins start → ByWords h IsWhole t start after
  after_none after same = words_by h IsWhole t start (begins start) after same first

stay_after : {I O F E : Type 0} (h : Host I O) (r : Reader I) (w : Writer O) (e : Writer E) (t : WordsTree) (start : Tree) (from : E) (status : ℕ) (to : E) (after : FileSystem) → Obeys F h r w e t start from status to after → ByWords h (λ trees. IsOutput h r w) t start after
stay_after {I} {O} {F} h r w e t start from status to after (has_task task key before is same runs) =
    after_task F h (λ trees. IsOutput h r w) (output_grows h r w) r w e t start task key (always_right h r w t.source task (part_of_tree t) t.plan.output start) from before status to after same runs
stay_after {I} {O} {F} h r w e t start from status to after (no_task same) = after_none F h (λ trees. IsOutput h r w) (output_grows h r w) r w e t start after same

pub others_stay : {I O F E : Type 0} (r : Reader I) (w : Writer O) (e : Writer E) → OthersStayByWords F r w e
others_stay {I} {O} {F} r w e h given t start from status to after meant does =
    always_so h (IsOutput h r w) (part_of_tree t) t.plan.output start after (stay_after {F = F} h r w e t start from status to after (obeys F h r w e t start given from status to after meant does)).both

one_task : {I O F E : Type 0} (h : Host I O) (r : Reader I) (w : Writer O) (e : Writer E) (t : WordsTree) (start : Tree) (from : E) (status : ℕ) (to : E) (after : FileSystem) → Obeys F h r w e t start from status to after → HasOneTask h r w t start after
one_task {I} {O} {F} h r w e t start from status to after (has_task task key before is same runs) =
    by_task task is (after_task F h (IsOutputOf h r w t.source task (part_of_tree t) t.plan.output start) (output_of_grows h r w t.source task (part_of_tree t) t.plan.output start) r w e t start task key
    (output_right h r w t.source task (part_of_tree t) t.plan.output start) from before status to after same runs).so_far
one_task {I} {O} {F} h r w e t start from status to after (no_task same) = nothing_changed same

pub never_half : {I O F E : Type 0} (r : Reader I) (w : Writer O) (e : Writer E) → NeverHalfByWords F r w e
never_half {I} {O} {F} r w e h given t start from status to after meant does = one_task {F = F} h r w e t start from status to after (obeys F h r w e t start given from status to after meant does)
