-- What the laws of the ideal run say of runs over a tree.
use Rattle.std.specs.Prelude.{◌≡◌, ◌<◌, ℕ, List, [], ◌∷◌, map, Bool, true, false}
use Rattle.std.specs.Io.KnownBytes.{append_known}
use Rattle.dcm_devices.specs.Writing.{Writer}
use Rattle.dcm_walk.specs.Names.{below}
use Rattle.dcm_cli.specs.Calls.{Reader}
use Rattle.dcm_trees.specs.declared.run.TreeRun.{TreeRun}
use Rattle.dcm_trees.specs.Run.{part_name}
use Rattle.dcm_trees.specs.Task.{Task, task_of}
use Rattle.dcm_tree_laws.specs.Again.{OfAll}
use Rattle.dcm_tree_laws.specs.Determined.{FollowsLinks}
use Rattle.dcm_tree_laws.specs.FileSystem.{FileSystem, Tree, Host, at_path}
use Rattle.dcm_tree_laws.specs.Flows.{AlikeAt}
use Rattle.dcm_tree_laws.specs.Ideal.{Outputs, has_way, Name, outputs_after, rows_of, share}
use Rattle.dcm_tree_laws.specs.IdealLaws.{EachTwo, LeavesFree, row_again, AreAllShares, GoBeside}
use Rattle.dcm_tree_laws.specs.Laws.{part_path}
use Rattle.dcm_tree_laws.specs.Ran.{IsName, Shows, TellsApart, SpeaksOf, Ran, text_of}
use Rattle.dcm_tree_laws.specs.Rows.{Visit}
use Rattle.dcm_tree_laws.specs.Single.{TellsAll}
use Rattle.dcm_tree_laws.specs.Together.{IsRunOf}

-- what is asked of a run: its visits are these names, and the outputs at its start are these
pub record IsAsked {I O : Type 0} (h : Host I O) (run : TreeRun) (start : Tree) (visits : List Visit)
    (name_of : Visit → Name) (is_spoken : List ℕ → Bool) (outputs : Outputs) : Type 0 where
  pub follows : run.options.keeps_names ≡ false → FollowsLinks h start
  pub named : OfAll (λ v. IsName h run.options.keeps_names (task_of run.task) run.output.now start v (name_of v)) visits
  pub speaks : OfAll (λ v. SpeaksOf is_spoken (name_of v)) visits
  pub apart : TellsApart h run.output.now (part_path run) is_spoken outputs
  pub shows : Shows h run.output.now is_spoken start outputs

-- the names of its share
abbrev pub names_of : TreeRun → (Visit → Name) → List Visit → List Name
names_of run name_of visits = share run.options.part.number run.options.part.count (map name_of visits)

-- ---- a second run

-- both do the same into one folder, and go on
pub record IsSecond (first second : TreeRun) : Type 0 where
  pub task_is : task_of second.task ≡ task_of first.task
  pub output_is : second.output.now ≡ first.output.now
  pub part_is : second.options.part ≡ first.options.part
  pub keeps_is : second.options.keeps_names ≡ first.options.keeps_names
  pub goes_on : first.options.continues ≡ true
  pub goes_on_too : second.options.continues ≡ true

-- a second run that visits the same names leaves the outputs of the first, and has its rows, but `there` for `written`
abbrev pub SecondRunIsFirst : {I O W E : Type 0} → (F : Type 0) → Reader I → Writer O → Writer W → Writer E → Type 0
SecondRunIsFirst {I} {O} {W} {E} F reader output m errors =
    (h : Host I O) (first second : TreeRun) (before mid after : FileSystem) (visits : List Visit)
    (headed left reheaded releft : W) (name_of : Visit → Name) (is_spoken : List ℕ → Bool) (outputs : Outputs)
    → TellsAll h output → IsSecond first second
    → IsAsked h first before.now visits name_of is_spoken outputs → EachTwo LeavesFree (names_of first name_of visits)
    → Ran F h reader output m errors first before visits headed left mid
    → Ran F h reader output m errors second mid visits reheaded releft after
    → Shows h first.output.now is_spoken mid.now (outputs_after true outputs (names_of first name_of visits))
    × Shows h first.output.now is_spoken after.now (outputs_after true outputs (names_of first name_of visits))
    × (m.contents left
    ≡ append_known (m.contents headed) (text_of (rows_of true outputs (names_of first name_of visits))))
    × (m.contents releft ≡ append_known (m.contents reheaded)
    (text_of (map row_again (rows_of true outputs (names_of first name_of visits)))))

-- ---- names

-- at each name that is spoken of, and reached by folders alone, is the same
abbrev pub LeaveAlike : {I O : Type 0} → Host I O → (output : List ℕ) → (is_spoken : List ℕ → Bool) → Outputs
    → (one other : Tree) → Type 0
LeaveAlike h output is_spoken outputs one other = (relative : List ℕ) → is_spoken relative ≡ true
    → has_way outputs relative ≡ true
    → AlikeAt one other (at_path h one (below output relative)) (at_path h other (below output relative))

-- runs over two trees, whose names come to the same in their order, leave the same in one folder
abbrev pub NoNameShows : {I O W E : Type 0} → (F : Type 0) → Reader I → Writer O → Writer W → Writer E → Type 0
NoNameShows {I} {O} {W} {E} F reader output m errors =
    (h : Host I O) (first second : TreeRun) (before start after end : FileSystem) (visits others : List Visit)
    (headed left reheaded releft : W) (name_of other_of : Visit → Name) (is_spoken : List ℕ → Bool) (outputs : Outputs)
    → TellsAll h output → second.output.now ≡ first.output.now
    → second.options.continues ≡ first.options.continues
    → IsAsked h first before.now visits name_of is_spoken outputs
    → IsAsked h second start.now others other_of is_spoken outputs
    → map (λ n. n.comes) (names_of first name_of visits) ≡ map (λ n. n.comes) (names_of second other_of others)
    → Ran F h reader output m errors first before visits headed left after
    → Ran F h reader output m errors second start others reheaded releft end
    → LeaveAlike h first.output.now is_spoken
    (outputs_after first.options.continues outputs (names_of first name_of visits)) after.now end.now

-- ---- shares

-- one of several runs that do the same into one folder, and go on
pub record IsShareOf (keeps : Bool) (task : Task) (folder : List ℕ) (number count : ℕ) (run : TreeRun) : Type 0 where
  pub is_run : IsRunOf keeps task folder number count run
  pub goes_on : run.options.continues ≡ true

-- runs of these shares, one after another, each upon what the one before left, which all visit these names
pub data RanShares {I O W E : Type 0} (F : Type 0) (h : Host I O) (reader : Reader I) (output : Writer O) (m : Writer W)
    (errors : Writer E) (keeps : Bool) (task : Task) (folder : List ℕ) (count : ℕ) (visits : List Visit)
    : (numbers : List ℕ) → (before after : Tree) → Type 0 where
  no_run : {before after : Tree} → after ≡ before
      → RanShares F h reader output m errors keeps task folder count visits [] before after
  and_run : {numbers : List ℕ} {before after : Tree} (number : ℕ) (run : TreeRun) (start mid : FileSystem)
      (headed left : W) → IsShareOf keeps task folder number count run → start.now ≡ before
      → Ran F h reader output m errors run start visits headed left mid
      → RanShares F h reader output m errors keeps task folder count visits numbers mid.now after
      → RanShares F h reader output m errors keeps task folder count visits (number ∷ numbers) before after

-- what is asked of them: the same, with the part of each run apart from the outputs
pub record AreAsked {I O : Type 0} (h : Host I O) (keeps : Bool) (task : Task) (folder : List ℕ) (start : Tree)
    (visits : List Visit) (name_of : Visit → Name) (is_spoken : List ℕ → Bool) (outputs : Outputs) : Type 0 where
  pub follows : keeps ≡ false → FollowsLinks h start
  pub named : OfAll (λ v. IsName h keeps task folder start v (name_of v)) visits
  pub speaks : OfAll (λ v. SpeaksOf is_spoken (name_of v)) visits
  pub apart : (number : ℕ) → TellsApart h folder (below folder (part_name number)) is_spoken outputs
  pub shows : Shows h folder is_spoken start outputs

-- runs of all shares, in any order, leave what one run of all names leaves, where two names come to the same or their
-- outputs are apart
abbrev pub SharesLeaveOne : {I O W E : Type 0} → (F : Type 0) → Reader I → Writer O → Writer W → Writer E → Type 0
SharesLeaveOne {I} {O} {W} {E} F reader output m errors =
    (h : Host I O) (keeps : Bool) (task : Task) (folder : List ℕ) (count : ℕ) (numbers : List ℕ)
    (visits : List Visit) (start after alone : Tree) (name_of : Visit → Name) (is_spoken : List ℕ → Bool)
    (outputs : Outputs) → TellsAll h output → 0 < count → AreAllShares count numbers
    → AreAsked h keeps task folder start visits name_of is_spoken outputs → EachTwo GoBeside (map name_of visits)
    → RanShares F h reader output m errors keeps task folder count visits numbers start after
    → RanShares F h reader output m errors keeps task folder 1 visits (1 ∷ []) start alone
    → LeaveAlike h folder is_spoken (outputs_after true outputs (map name_of visits)) after alone
