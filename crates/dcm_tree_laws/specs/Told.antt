-- The rows of runs of all shares are those of one run.
use Rattle.std.specs.Prelude.{◌≡◌, ◌≢◌, ℕ, List, [], ◌∷◌, Bool, true, false}
use Rattle.std.specs.List.{concat}
use Rattle.std.specs.Io.KnownBytes.{append_known}
use Rattle.dcm_devices.specs.Writing.{Writer}
use Rattle.dcm_walk.specs.declared.visitor.What.TheVariants.{File}
use Rattle.dcm_cli.specs.Calls.{Reader}
use Rattle.dcm_trees.specs.declared.fate.Fate.TheVariants as fates
use Rattle.dcm_trees.specs.declared.file.Done.{Done}
use Rattle.dcm_trees.specs.Fate.{fate_of}
use Rattle.dcm_trees.specs.File.{is_media_index}
use Rattle.dcm_trees.specs.Task.{Task}
use Rattle.dcm_tree_laws.specs.Again.{IsThere, OfAll, left_there}
use Rattle.dcm_tree_laws.specs.Determined.{FileEnd, EndsAs}
use Rattle.dcm_tree_laws.specs.FileSystem.{Tree, Host}
use Rattle.dcm_tree_laws.specs.Rows.{Visit}
use Rattle.dcm_tree_laws.specs.Shares.{rows_in}
use Rattle.dcm_tree_laws.specs.Single.{TellsAll}
use Rattle.dcm_tree_laws.specs.Together.{IsAside, HasOwnPlace, IsNameOf, IsFree, its_own}
use Rattle.dcm_tree_laws.specs.Together.{end_fate, Has, OneRun, Runs, no_run, and_run}

-- ---- what becomes of a name

-- in runs that go on and keep names it is told by what is there at the start: it is no file, or the index of a medium;
-- a file is at its output; or that is free, and its bytes say it
pub data IsTold {I O : Type 0} (h : Host I O) (task : Task) (output : List ℕ) (t : Tree) (v : Visit) (done : Done)
    : Type 0 where
  told_no_file : ((mode : ℕ) → v.what ≢ File mode) → done ≡ its_own (fate_of v.what) → IsTold h task output t v done
  told_index : (mode : ℕ) → v.what ≡ File mode → is_media_index v.named.relative ≡ true
      → done ≡ its_own fates.MediaIndex → IsTold h task output t v done
  told_there : (mode : ℕ) → v.what ≡ File mode → is_media_index v.named.relative ≡ false
      → HasOwnPlace h output v.named.relative → IsThere h output v.named.relative t → done ≡ left_there
      → IsTold h task output t v done
  told_free : (mode : ℕ) (bytes : List ℕ) (end : FileEnd) → IsNameOf h output t v mode bytes
      → IsFree h output v.named.relative t → EndsAs task bytes end → done ≡ its_own (end_fate end)
      → IsTold h task output t v done

-- two names have outputs apart, or one of them is no file
pub data AreAside {I O : Type 0} (h : Host I O) (output : List ℕ) (one other : Visit) : Type 0 where
  one_no_file : ((mode : ℕ) → one.what ≢ File mode) → AreAside h output one other
  other_no_file : ((mode : ℕ) → other.what ≢ File mode) → AreAside h output one other
  both_aside : IsAside h output one.named.relative other.named.relative
      → IsAside h output other.named.relative one.named.relative → AreAside h output one other

-- something is so of each two of these
abbrev pub EachTwo : (AreSo : Visit → Visit → Type 0) → List Visit → Type 0
EachTwo AreSo [] = Unit {0}
EachTwo AreSo (v ∷ visits) = OfAll (AreSo v) visits × EachTwo AreSo visits

abbrev pub EachAside : {I O : Type 0} → Host I O → (output : List ℕ) → List Visit → Type 0
EachAside h output visits = EachTwo (AreAside h output) visits

-- ---- runs

-- no number is twice among these
abbrev pub AreOnce : List ℕ → Type 0
AreOnce [] = Unit {0}
AreOnce (number ∷ numbers) = (¬ (Has number numbers)) × AreOnce numbers

-- something is so of each of the runs
abbrev pub EachRun : {I O W E : Type 0} (F : Type 0) (h : Host I O) (reader : Reader I) (output : Writer O)
    (m : Writer W) (errors : Writer E) (keeps : Bool) (task : Task) (folder : List ℕ) (AreSo : List Visit → Type 0)
    (count : ℕ) (first : Tree)
    → ((number : ℕ) (start left : Tree)
    → OneRun F h reader output m errors keeps task folder AreSo number count start left → Type 0)
    → (numbers : List ℕ) (after : Tree)
    → Runs F h reader output m errors keeps task folder AreSo count first numbers after → Type 0
EachRun F h reader output m errors keeps task folder AreSo count first Is numbers after (no_run none is) = Unit {0}
EachRun F h reader output m errors keeps task folder AreSo count first Is numbers after
    (and_run earlier number mid runs one more) =
    EachRun F h reader output m errors keeps task folder AreSo count first Is earlier mid runs × Is number mid after one

-- in runs that go on, no two of one share, which visit the same names with outputs apart, each row is told by what was
-- there before the first of them. One run of all names is such runs too: so the rows of runs of all shares are its own,
-- in another order (`names_are_shared`)
abbrev pub RowsAreTold : {I O W E : Type 0} → (F : Type 0) → Reader I → Writer O → Writer W → Writer E → Type 0
RowsAreTold {I} {O} {W} {E} F reader output m errors =
    (h : Host I O) (task : Task) (folder : List ℕ) (first : Tree) (visits : List Visit) (became : Visit → Done)
    (count : ℕ) (numbers : List ℕ) (after : Tree) → TellsAll h output → EachAside h folder visits
    → OfAll (λ v. IsTold h task folder first v (became v)) visits → AreOnce numbers
    → (runs : Runs F h reader output m errors true task folder (λ names. names ≡ visits) count first numbers after)
    → EachRun F h reader output m errors true task folder (λ names. names ≡ visits) count first
    (λ number start left one. one.run.options.continues ≡ true) numbers after runs
    → EachRun F h reader output m errors true task folder (λ names. names ≡ visits) count first
    (λ number start left one. m.contents one.left ≡ append_known (m.contents one.headed)
    (concat (rows_in became number count visits))) numbers after runs
