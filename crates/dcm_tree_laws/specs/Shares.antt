-- The shares of several runs over one tree.
use Rattle.std.specs.Prelude.{◌≡◌, ◌≤◌, ◌<◌, ℕ, zero, suc, List, [], ◌∷◌, ◌++◌, Bool, true, false}
use Rattle.std.specs.List.{concat}
use Rattle.std.specs.List.Sorted.{IsPermutation}
use Rattle.dcm_trees.specs.declared.file.Done.{Done}
use Rattle.dcm_trees.specs.declared.progress.Shared.{Shared}
use Rattle.dcm_trees.specs.Fate.{word}
use Rattle.dcm_trees.specs.Share.{is_of}
use Rattle.dcm_trees.specs.Task.{Task}
use Rattle.dcm_trees.specs.Work.{row, output_of}
use Rattle.dcm_tree_laws.specs.OneRow.{RowsOf}
use Rattle.dcm_tree_laws.specs.Rows.{Visit}
use Rattle.dcm_tree_laws.specs.Single.{IsAnswered}

-- of so many runs exactly one has a name in its share
pub record HasOneShare (count : ℕ) (relative : List ℕ) : Type 0 where
  pub number : ℕ
  pub first : 1 ≤ number
  pub last : number ≤ count
  pub its : is_of number count relative ≡ true
  pub alone : (other : ℕ) → is_of other count relative ≡ true → other ≡ number

abbrev pub OneShare : Type 0
OneShare = (count : ℕ) (relative : List ℕ) → 0 < count → HasOneShare count relative

-- ---- rows

-- the row of a visited name, by what became of it
abbrev pub row_of : (became : Visit → Done) → Visit → List ℕ
row_of became v = row v.named.name (output_of v.named (became v)) (word (became v).fate)

abbrev pub row_if : (has_row : Bool) → (its_row : List ℕ) → List (List ℕ)
row_if true its_row = its_row ∷ []
row_if false its_row = []

-- the rows of those of these visits that are of a run's share, in their order
abbrev pub rows_in : (became : Visit → Done) → (number count : ℕ) → (visits : List Visit) → List (List ℕ)
rows_in became number count [] = []
rows_in became number count (v ∷ visits) =
    row_if (is_of number count v.named.relative) (row_of became v) ++ rows_in became number count visits

-- the rows of runs 1 to `last` of `count`, one run after another
abbrev pub rows_of_runs : (became : Visit → Done) → (count last : ℕ) → (visits : List Visit) → List (List ℕ)
rows_of_runs became count zero visits = []
rows_of_runs became count (suc last) visits =
    rows_of_runs became count last visits ++ rows_in became (suc last) count visits

-- where the same becomes of each name in them as in one run, these are its rows in another order
abbrev pub RowsOfRuns : Type 0
RowsOfRuns = (became : Visit → Done) (count : ℕ) (visits : List Visit) → 0 < count
    → IsPermutation (rows_in became 1 1 visits) (rows_of_runs became count count visits)

-- and a manifest that has the rows of a run has these, one behind another
abbrev pub ManifestOfShare : Type 0
ManifestOfShare = (became : Visit → Done) (shared : Shared) (visits : List Visit) (text : List ℕ)
    → RowsOf (λ v done. done ≡ became v) shared visits text
    → text ≡ concat (rows_in became shared.part.number shared.part.count visits)

-- ---- outputs

-- what a single run writes of a file is one, whatever run does it
abbrev pub OneOutput : Type 0
OneOutput = (task : Task) (bytes one other : List ℕ) → IsAnswered task bytes one → IsAnswered task bytes other
    → one ≡ other
