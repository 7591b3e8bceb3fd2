-- Runs over two trees whose files differ in pairs only in what is taken.
use Rattle.std.specs.Prelude.{◌≡◌, ◌≤◌, ℕ, ℤ, length, List, Bool}
use Rattle.dcm_base.specs.File.MetaReads.{Meta}
use Rattle.dcm_base.specs.Reading.Reads.{INPUT_LIMIT}
use Rattle.dcm_base.specs.Tree.Front.{Front}
use Rattle.dcm_deid.specs.Alike.{Alike, moving}
use Rattle.dcm_deid.specs.declared.fate.Depth.TheVariants.{Outermost}
use Rattle.dcm_deid.specs.declared.fate.Options.{Options}
use Rattle.dcm_deid.specs.Saying.{whole_of}
use Rattle.dcm_devices.specs.Writing.{Writer}
use Rattle.dcm_walk.specs.declared.visitor.What.TheVariants.{File}
use Rattle.dcm_words.specs.Words.{deidentify, with_days}
use Rattle.dcm_cli.specs.Answer.{Answer}
use Rattle.dcm_cli.specs.Calls.{Reader}
use Rattle.dcm_cli.specs.First.{FirstReads}
use Rattle.dcm_cli.specs.declared.first.FirstEnd.TheVariants.{Days}
use Rattle.dcm_run_laws.specs.Flows.{IsDeidentified, meta_left}
use Rattle.dcm_trees.specs.Task.{Task, same, by_days}
use Rattle.dcm_tree_laws.specs.FileSystem.{Tree, Host, number_of}
use Rattle.dcm_tree_laws.specs.Flows.{IsFile, LeaveTheSame}
use Rattle.dcm_tree_laws.specs.Rows.{Visit}

-- two files are read without fault, the same meta elements of them stay, and their data sets differ only in what is
-- taken, where the dates of one are moved by d days, and of the other by e; what is written of the first is no longer
-- than an input may be
pub record DifferInTaken (options : Options) (reports : Bool) (key : List ℕ) (d e : ℤ) (one other : List ℕ)
    : Type 0 where
  pub first : Answer
  pub second : Answer
  pub first_meta : Meta
  pub second_meta : Meta
  pub first_set : Front
  pub second_set : Front
  pub first_read : IsDeidentified (moving options d) reports key one first first_meta first_set
  pub second_read : IsDeidentified (moving options e) reports key other second second_meta second_set
  pub left : meta_left options first_meta ≡ meta_left options second_meta
  pub alike : Alike options Outermost d e (whole_of first_set) (whole_of second_set)
  pub fits : length first.output ≤ INPUT_LIMIT

-- so it is of two files by the job of all files; or by the days that a key makes of the patient of each
pub data DifferBy (task : Task) (one other : List ℕ) : Type 0 where
  of_all : (options : Options) (reports : Bool) (key : List ℕ) (days : ℤ)
      → task ≡ same (deidentify (moving options days) reports key)
      → DifferInTaken options reports key days days one other → DifferBy task one other
  of_days : (options : Options) (reports : Bool) (key : List ℕ) (d e : ℤ) → task ≡ by_days options reports key
      → FirstReads key one (Days d) → FirstReads key other (Days e)
      → DifferInTaken (with_days options d) reports key d e one other → DifferBy task one other

-- two visits are of such files, of one mode
pub record IsTakenPair {I O : Type 0} (h : Host I O) (task : Task) (one other : Tree) (v w : Visit) : Type 0 where
  pub mode : ℕ
  pub first_mode : v.what ≡ File mode
  pub second_mode : w.what ≡ File mode
  pub first : IsFile h one v
  pub second : IsFile h other w
  pub differ : DifferBy task (one.bytes (number_of first.file.file)) (other.bytes (number_of second.file.file))

-- two runs over them leave the same
abbrev pub NothingTakenFlows : {I O W E : Type 0} → (F : Type 0) → Reader I → Writer O → Writer W → Writer E → Type 0
NothingTakenFlows F reader output m errors = LeaveTheSame F reader output m errors IsTakenPair
