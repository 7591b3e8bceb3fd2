-- The rows of runs of all shares that name outputs by the instances in them are those of one run.
use Rattle.std.specs.Prelude.{◌≡◌, ◌≢◌, ◌≤◌, ℕ, length, List, true, false}
use Rattle.std.specs.List.{concat}
use Rattle.std.specs.Io.KnownBytes.{append_known}
use Rattle.dcm_base.specs.Reading.Reads.{INPUT_LIMIT}
use Rattle.dcm_devices.specs.Writing.{Writer}
use Rattle.dcm_files.specs.declared.folders.Links.TheVariants.{Followed}
use Rattle.dcm_instance.specs.Uids.{Uids, instance_name}
use Rattle.dcm_walk.specs.Names.{below}
use Rattle.dcm_walk.specs.declared.visitor.What.TheVariants.{File}
use Rattle.dcm_cli.specs.Calls.{Reader}
use Rattle.dcm_trees.specs.declared.fate.Fate.{Fate}
use Rattle.dcm_trees.specs.declared.fate.Fate.TheVariants as fates
use Rattle.dcm_trees.specs.declared.file.Done.{Done}
use Rattle.dcm_trees.specs.Fate.{fate_of}
use Rattle.dcm_trees.specs.File.{is_media_index}
use Rattle.dcm_trees.specs.Lines.{verdict_fate}
use Rattle.dcm_trees.specs.Task.{Task}
use Rattle.dcm_tree_laws.specs.Again.{IsThere, OfAll}
use Rattle.dcm_tree_laws.specs.Copies.{IsNamedBy, EndsUnnamed}
use Rattle.dcm_tree_laws.specs.FileSystem.{Tree, Host, number_of, place_of}
use Rattle.dcm_tree_laws.specs.Rows.{Visit}
use Rattle.dcm_tree_laws.specs.Shares.{rows_in}
use Rattle.dcm_tree_laws.specs.Single.{TellsAll}
use Rattle.dcm_tree_laws.specs.Together.{IsAside, IsFree, HasBytes, HasPlainParts, NamesInstance, IsInstanceOf, its_own}
use Rattle.dcm_tree_laws.specs.Together.{Runs}
use Rattle.dcm_tree_laws.specs.Told.{EachTwo, AreOnce, EachRun}

-- ---- what becomes of a name

-- a file of a walk, that is no index of a medium
pub record IsFileOf {I O : Type 0} (h : Host I O) (output : List ℕ) (t : Tree) (v : Visit) (bytes : List ℕ)
    : Type 0 where
  pub mode : ℕ
  pub of_file : v.what ≡ File mode
  pub no_index : is_media_index v.named.relative ≡ false
  pub input : HasBytes h output t v bytes
  pub parts : HasPlainParts h output

-- a file with these bytes, and no link, is at the path of an output
pub record HasFileAt {I O : Type 0} (h : Host I O) (output relative : List ℕ) (t : Tree) (its : List ℕ) : Type 0 where
  pub there : IsThere h output relative t
  pub its_are : t.bytes (number_of there.file.found) ≡ its
  pub leads : h.leads Followed (below output relative) ≡ place_of h (below output relative)

-- in runs that name outputs by instances it is told by what is there at the start: it is no file, or the index of a
-- medium; its job is not done, or names no instance; or it names one, at whose path is nothing, the same bytes, or
-- others. The row has the name of that instance
pub data IsToldAs {I O : Type 0} (h : Host I O) (task : Task) (output : List ℕ) (t : Tree) (v : Visit) (done : Done)
    : Type 0 where
  told_as_no_file : ((mode : ℕ) → v.what ≢ File mode) → done ≡ its_own (fate_of v.what)
      → IsToldAs h task output t v done
  told_as_index : (mode : ℕ) → v.what ≡ File mode → is_media_index v.named.relative ≡ true
      → done ≡ its_own fates.MediaIndex → IsToldAs h task output t v done
  told_as_unnamed : (bytes : List ℕ) (fate : Fate) → IsFileOf h output t v bytes → EndsUnnamed task bytes fate
      → done ≡ its_own fate → IsToldAs h task output t v done
  told_as_free : (mode : ℕ) (bytes out : List ℕ) (uids : Uids)
      → (x : IsInstanceOf h task output t v mode bytes out uids) → IsFree h output (instance_name uids) t
      → done.fate ≡ verdict_fate x.named.verdict → IsNamedBy uids done → IsToldAs h task output t v done
  told_as_there : (mode : ℕ) (bytes out : List ℕ) (uids : Uids) → IsInstanceOf h task output t v mode bytes out uids
      → HasFileAt h output (instance_name uids) t out → length out ≤ INPUT_LIMIT → done.fate ≡ fates.There
      → IsNamedBy uids done → IsToldAs h task output t v done
  told_as_taken : (mode : ℕ) (bytes out its : List ℕ) (uids : Uids)
      → IsInstanceOf h task output t v mode bytes out uids → HasFileAt h output (instance_name uids) t its → its ≢ out
      → done.fate ≡ fates.Taken → IsNamedBy uids done → IsToldAs h task output t v done

-- a name has no output: it is no file, or the index of a medium; or it names no instance
pub data HasNoOutput {I O : Type 0} (h : Host I O) (task : Task) (output : List ℕ) (t : Tree) (v : Visit) : Type 0 where
  none_of_no_file : ((mode : ℕ) → v.what ≢ File mode) → HasNoOutput h task output t v
  none_of_index : is_media_index v.named.relative ≡ true → HasNoOutput h task output t v
  none_of_unnamed : (bytes : List ℕ) → HasBytes h output t v bytes
      → ((out : List ℕ) (uids : Uids) → ¬ (NamesInstance task bytes out uids)) → HasNoOutput h task output t v

-- two names have outputs apart, by the instances that they name, or one of them has none
pub data AreAsideAs {I O : Type 0} (h : Host I O) (task : Task) (output : List ℕ) (t : Tree) (one other : Visit)
    : Type 0 where
  one_has_none : HasNoOutput h task output t one → AreAsideAs h task output t one other
  other_has_none : HasNoOutput h task output t other → AreAsideAs h task output t one other
  both_aside_as : (bytes out : List ℕ) (uids : Uids) (others its : List ℕ) (who : Uids)
      → HasBytes h output t one bytes → NamesInstance task bytes out uids
      → HasBytes h output t other others → NamesInstance task others its who
      → IsAside h output (instance_name uids) (instance_name who)
      → IsAside h output (instance_name who) (instance_name uids) → AreAsideAs h task output t one other

-- ---- runs

-- in runs that go on or do not, no two of one share, which visit the same names with outputs apart, each row is told by
-- what was there before the first of them. One run of all names is such runs too
abbrev pub RowsAreToldAs : {I O W E : Type 0} → (F : Type 0) → Reader I → Writer O → Writer W → Writer E → Type 0
RowsAreToldAs {I} {O} {W} {E} F reader output m errors =
    (h : Host I O) (task : Task) (folder : List ℕ) (first : Tree) (visits : List Visit) (became : Visit → Done)
    (count : ℕ) (numbers : List ℕ) (after : Tree) → TellsAll h output
    → EachTwo (AreAsideAs h task folder first) visits
    → OfAll (λ v. IsToldAs h task folder first v (became v)) visits → AreOnce numbers
    → (runs : Runs F h reader output m errors false task folder (λ names. names ≡ visits) count first numbers after)
    → EachRun F h reader output m errors false task folder (λ names. names ≡ visits) count first
    (λ number start left one. m.contents one.left ≡ append_known (m.contents one.headed)
    (concat (rows_in became number count visits))) numbers after runs
