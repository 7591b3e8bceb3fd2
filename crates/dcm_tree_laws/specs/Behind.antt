-- The rows of runs of all shares, some of whose names come to one output.
use Rattle.std.specs.Prelude.{◌≡◌, ◌≤◌, ℕ, length, List, [], ◌∷◌, ◌++◌, Bool, true, false, ◌&&◌, ◌||◌}
use Rattle.std.specs.List.{concat}
use Rattle.std.specs.Io.KnownBytes.{append_known}
use Rattle.dcm_base.specs.Reading.Reads.{INPUT_LIMIT}
use Rattle.dcm_devices.specs.Writing.{Writer}
use Rattle.dcm_files.specs.declared.folders.Links.TheVariants.{Followed}
use Rattle.dcm_instance.specs.Uids.{Uids, instance_name}
use Rattle.dcm_walk.specs.Names.{below}
use Rattle.dcm_walk.specs.declared.visitor.What.TheVariants.{File}
use Rattle.dcm_cli.specs.Calls.{Reader}
use Rattle.dcm_trees.specs.declared.fate.Fate.TheVariants as fates
use Rattle.dcm_trees.specs.declared.file.Done.{Done}
use Rattle.dcm_trees.specs.Fate.{is_written}
use Rattle.dcm_trees.specs.File.{is_media_index}
use Rattle.dcm_trees.specs.Share.{is_of}
use Rattle.dcm_trees.specs.Task.{Task}
use Rattle.dcm_tree_laws.specs.Again.{OfAll}
use Rattle.dcm_tree_laws.specs.FileSystem.{Tree, Host, place_of}
use Rattle.dcm_tree_laws.specs.Rows.{Visit}
use Rattle.dcm_tree_laws.specs.Shares.{row_of, row_if}
use Rattle.dcm_tree_laws.specs.Single.{TellsAll}
use Rattle.dcm_tree_laws.specs.Together.{HasBytes, NamesInstance, OneRun, Runs, no_run, and_run}
use Rattle.dcm_tree_laws.specs.Told.{IsTold, AreAside, EachRun}
use Rattle.dcm_tree_laws.specs.ToldAs.{IsToldAs, AreAsideAs}

-- ---- one name behind another

-- one of the names before, which comes to the same output, was written
abbrev pub is_met : (same : Visit → Visit → Bool) → (became : Visit → Done) → (before : List Visit) → Visit → Bool
is_met same became [] v = false
is_met same became (u ∷ before) v = (same u v && is_written (became u).fate) || is_met same became before v

-- its output is there
abbrev pub met : Done → Done
met done = record { fate = fates.There; instance = done.instance }

-- what becomes of a name behind those: that, or what became of it
abbrev pub met_if : Bool → Done → Done
met_if true done = met done
met_if false done = done

abbrev pub behind : (same : Visit → Visit → Bool) → (became : Visit → Done) → (before : List Visit) → Visit → Done
behind same became before v = met_if (is_met same became before v) (became v)

-- ---- the names of runs

abbrev pub done_if : (is_done : Bool) → (before : List Visit) → Visit → List Visit
done_if true before v = v ∷ before
done_if false before v = before

-- those that a run does, behind others, the last first
abbrev pub done_in : (number count : ℕ) → (before visits : List Visit) → List Visit
done_in number count before [] = before
done_in number count before (v ∷ visits) =
    done_in number count (done_if (is_of number count v.named.relative) before v) visits

-- those that runs of these numbers do
abbrev pub done_by : (count : ℕ) → (before : List Visit) → (numbers : List ℕ) → (visits : List Visit) → List Visit
done_by count before [] visits = before
done_by count before (number ∷ numbers) visits = done_by count (done_in number count before visits) numbers visits

-- the rows of a run behind others
abbrev pub rows_behind : (same : Visit → Visit → Bool) → (became : Visit → Done) → (number count : ℕ)
    → (before visits : List Visit) → List (List ℕ)
rows_behind same became number count before [] = []
rows_behind same became number count before (v ∷ visits) =
    row_if (is_of number count v.named.relative) (row_of (behind same became before) v)
    ++ rows_behind same became number count (done_if (is_of number count v.named.relative) before v) visits

-- something is so of each of the runs, by the numbers of those before it
abbrev pub EachRunBehind : {I O W E : Type 0} (F : Type 0) (h : Host I O) (reader : Reader I) (output : Writer O)
    (m : Writer W) (errors : Writer E) (keeps : Bool) (task : Task) (folder : List ℕ) (AreSo : List Visit → Type 0)
    (count : ℕ) (first : Tree)
    → ((earlier : List ℕ) (number : ℕ) (start left : Tree)
    → OneRun F h reader output m errors keeps task folder AreSo number count start left → Type 0)
    → (numbers : List ℕ) (after : Tree)
    → Runs F h reader output m errors keeps task folder AreSo count first numbers after → Type 0
EachRunBehind F h reader output m errors keeps task folder AreSo count first Is numbers after (no_run none is) =
    Unit {0}
EachRunBehind F h reader output m errors keeps task folder AreSo count first Is numbers after
    (and_run earlier number mid runs one more) =
    EachRunBehind F h reader output m errors keeps task folder AreSo count first Is earlier mid runs
    × Is earlier number mid after one

-- ---- runs that name outputs by instances

-- two names come to one output: the same bytes are written of both, which name one instance
pub record AreOneAs {I O : Type 0} (h : Host I O) (task : Task) (output : List ℕ) (t : Tree) (one other : Visit)
    : Type 0 where
  pub mode : ℕ
  pub of_file : other.what ≡ File mode
  pub no_index : is_media_index other.named.relative ≡ false
  pub bytes : List ℕ
  pub others : List ℕ
  pub out : List ℕ
  pub uids : Uids
  pub has : HasBytes h output t one bytes
  pub has_other : HasBytes h output t other others
  pub names : NamesInstance task bytes out uids
  pub names_other : NamesInstance task others out uids
  pub leads : h.leads Followed (below output (instance_name uids)) ≡ place_of h (below output (instance_name uids))
  pub fits : length out ≤ INPUT_LIMIT

-- they do, or their outputs are apart
abbrev pub AreBesideAs : {I O : Type 0} → Host I O → Task → (output : List ℕ) → Tree → (is_same : Bool)
    → (one other : Visit) → Type 0
AreBesideAs h task output t true one other = AreOneAs h task output t one other
AreBesideAs h task output t false one other = AreAsideAs h task output t one other

-- so it is of each two, and of each with itself
abbrev pub EachBesideAs : {I O : Type 0} → Host I O → Task → (output : List ℕ) → Tree
    → (same : Visit → Visit → Bool) → List Visit → Type 0
EachBesideAs h task output t same visits =
    OfAll (λ one. OfAll (λ other. AreBesideAs h task output t (same one other) one other) visits) visits

-- in runs in any order, also more than one of a share, each row is told by what was there before the first of them; but
-- of the names that come to one output only the first that is done is written, and each one behind it has `there`
abbrev pub RowsAreToldBehindAs : {I O W E : Type 0} → (F : Type 0) → Reader I → Writer O → Writer W → Writer E → Type 0
RowsAreToldBehindAs {I} {O} {W} {E} F reader output m errors =
    (h : Host I O) (task : Task) (folder : List ℕ) (first : Tree) (visits : List Visit) (same : Visit → Visit → Bool)
    (became : Visit → Done) (count : ℕ) (numbers : List ℕ) (after : Tree) → TellsAll h output
    → EachBesideAs h task folder first same visits
    → OfAll (λ v. IsToldAs h task folder first v (became v)) visits
    → (runs : Runs F h reader output m errors false task folder (λ names. names ≡ visits) count first numbers after)
    → EachRunBehind F h reader output m errors false task folder (λ names. names ≡ visits) count first
    (λ earlier number start left one. m.contents one.left ≡ append_known (m.contents one.headed)
    (concat (rows_behind same became number count (done_by count [] earlier visits) visits))) numbers after runs

-- ---- runs that keep names

-- two names come to one output, which has the relative name of both
pub record AreOne (one other : Visit) : Type 0 where
  pub mode : ℕ
  pub of_file : other.what ≡ File mode
  pub same : one.named.relative ≡ other.named.relative

abbrev pub AreBeside : {I O : Type 0} → Host I O → (output : List ℕ) → (is_same : Bool) → (one other : Visit) → Type 0
AreBeside h output true one other = AreOne one other
AreBeside h output false one other = AreAside h output one other

-- the same of runs that go on and keep names
abbrev pub RowsAreToldBehind : {I O W E : Type 0} → (F : Type 0) → Reader I → Writer O → Writer W → Writer E → Type 0
RowsAreToldBehind {I} {O} {W} {E} F reader output m errors =
    (h : Host I O) (task : Task) (folder : List ℕ) (first : Tree) (visits : List Visit) (same : Visit → Visit → Bool)
    (became : Visit → Done) (count : ℕ) (numbers : List ℕ) (after : Tree) → TellsAll h output
    → OfAll (λ one. OfAll (λ other. AreBeside h folder (same one other) one other) visits) visits
    → OfAll (λ v. IsTold h task folder first v (became v)) visits
    → (runs : Runs F h reader output m errors true task folder (λ names. names ≡ visits) count first numbers after)
    → EachRun F h reader output m errors true task folder (λ names. names ≡ visits) count first
    (λ number start left one. one.run.options.continues ≡ true) numbers after runs
    → EachRunBehind F h reader output m errors true task folder (λ names. names ≡ visits) count first
    (λ earlier number start left one. m.contents one.left ≡ append_known (m.contents one.headed)
    (concat (rows_behind same became number count (done_by count [] earlier visits) visits))) numbers after runs
