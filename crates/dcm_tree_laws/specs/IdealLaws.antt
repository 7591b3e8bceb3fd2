-- What holds of each ideal run: facts about lists.
use Rattle.std.specs.Prelude.{◌≡◌, ◌≢◌, ◌⊎◌, ◌≤◌, ◌<◌, ℕ, List, [], ◌∷◌, ◌++◌, map, Bool, true, false, Option}
use Rattle.std.specs.Prelude.{Some, None, IsPermutation}
use Rattle.dcm_trees.specs.declared.fate.Fate.{Fate}
use Rattle.dcm_trees.specs.declared.fate.Fate.TheVariants.{There}
use Rattle.dcm_trees.specs.Fate.{status}
use Rattle.dcm_cli.specs.Status.{DONE}
use Rattle.dcm_tree_laws.specs.Ideal.{Thing, a_file, Outputs, is_on_way, place_at, free, held, Output, nothing}
use Rattle.dcm_tree_laws.specs.Ideal.{an_output, Comes, without, kept, named, Name, Became, ended, met, wrote, become}
use Rattle.dcm_tree_laws.specs.Ideal.{Row, outputs_after, rows_of, outputs_after_all, rows_of_all, fate_of}

-- ---- lists

-- something is so of each of these, and of each and each behind it
abbrev pub Each : {A : Type 0} → (A → Type 0) → List A → Type 0
Each Is [] = Unit {0}
Each Is (a ∷ more) = Is a × Each Is more

abbrev pub EachTwo : {A : Type 0} → (A → A → Type 0) → List A → Type 0
EachTwo Are [] = Unit {0}
EachTwo Are (a ∷ more) = Each (Are a) more × EachTwo Are more

-- ---- what was there stays, what is written is there

-- at each name is what was there
abbrev pub Keeps : (before after : Outputs) → Type 0
Keeps before after = (relative : List ℕ) (thing : Thing) → before relative ≡ Some thing → after relative ≡ Some thing

abbrev pub OutputsStay : Type 0
OutputsStay = (continues : Bool) (before : Outputs) (names : List Name)
    → Keeps before (outputs_after continues before names)

-- what a row says was written is there at the end
abbrev pub IsThereAt : Outputs → Became → Type 0
IsThereAt after (ended why) = Unit {0}
IsThereAt after (met relative fate) = Unit {0}
IsThereAt after (wrote relative output) = after relative ≡ Some (a_file output.mode output.bytes)

abbrev pub WrittenIsThere : Type 0
WrittenIsThere = (continues : Bool) (before : Outputs) (names : List Name)
    → Each (λ row. IsThereAt (outputs_after continues before names) row.became) (rows_of continues before names)

-- an output that was written is at a name of its own, at which nothing was
abbrev pub written_as : Became → List (List ℕ)
written_as (ended why) = []
written_as (met relative fate) = []
written_as (wrote relative output) = relative ∷ []

abbrev pub written : List Row → List (List ℕ)
written [] = []
written (row ∷ rows) = written_as row.became ++ written rows

abbrev pub OutputsAreDistinct : Type 0
OutputsAreDistinct = (continues : Bool) (before : Outputs) (names : List Name)
    → Each (λ relative. before relative ≡ None) (written (rows_of continues before names))
    × EachTwo ◌≢◌ (written (rows_of continues before names))

-- ---- what a name comes to is done

-- the name of what may be written of a name
abbrev pub may_write : Comes → Option (List ℕ)
may_write (without why) = None
may_write (kept relative (nothing why)) = None
may_write (kept relative (an_output output)) = Some relative
may_write (named relative output) = Some relative

-- what is made of it
pub data IsMadeOf (comes : Comes) (relative : List ℕ) (output : Output) : Type 0 where
  of_kept : comes ≡ kept relative (an_output output) → IsMadeOf comes relative output
  of_named : comes ≡ named relative output → IsMadeOf comes relative output

-- where the place of an output is free, and only there, it is written
abbrev pub FreeIsWritten : Type 0
FreeIsWritten = (continues : Bool) (outputs : Outputs) (comes : Comes) (relative : List ℕ)
    → may_write comes ≡ Some relative → place_at outputs relative ≡ free
    → (output : Output) × IsMadeOf comes relative output × (become continues outputs comes ≡ wrote relative output)

abbrev pub WrittenIsMade : Type 0
WrittenIsMade = (continues : Bool) (outputs : Outputs) (comes : Comes) (relative : List ℕ) (output : Output)
    → become continues outputs comes ≡ wrote relative output
    → IsMadeOf comes relative output × (place_at outputs relative ≡ free)

-- a file with these bytes is there
abbrev pub HasBytes : Outputs → (relative bytes : List ℕ) → Type 0
HasBytes outputs relative bytes = place_at outputs relative ≡ held bytes

-- a name is done: nothing was to be done of it, or its output is there; in a run that goes on and keeps names, a file
-- is
abbrev pub IsDone : (continues : Bool) → Outputs → Comes → Type 0
IsDone continues after (without why) = status why ≡ DONE
IsDone continues after (kept relative (nothing why)) =
    (status why ≡ DONE) ⊎ ((continues ≡ true) × (bytes : List ℕ) × HasBytes after relative bytes)
IsDone continues after (kept relative (an_output output)) =
    HasBytes after relative output.bytes ⊎ ((continues ≡ true) × (bytes : List ℕ) × HasBytes after relative bytes)
IsDone continues after (named relative output) = HasBytes after relative output.bytes

-- so it is of each name whose row has the status 0
abbrev pub StatusSays : Type 0
StatusSays = (continues : Bool) (before : Outputs) (earlier later : List Name) (n : Name)
    → status (fate_of (become continues (outputs_after continues before earlier) n.comes)) ≡ DONE
    → IsDone continues (outputs_after continues before (earlier ++ n ∷ later)) n.comes

-- ---- rows

-- one for each name, in order
abbrev pub OneRow : Type 0
OneRow = (continues : Bool) (before : Outputs) (names : List Name)
    → map (λ row. row.name) (rows_of continues before names) ≡ map (λ n. n.name) names

-- ---- a second run

-- the same, but that an output is there where it was written
abbrev pub again : Became → Became
again (ended why) = ended why
again (met relative fate) = met relative fate
again (wrote relative output) = met relative There

abbrev pub row_again : Row → Row
row_again row = record { name = row.name; became = again row.became }

-- two outputs have names of their own, and neither is on the way to the other
pub record AreApart (one other : List ℕ) : Type 0 where
  pub differ : one ≢ other
  pub before : is_on_way one other ≡ false
  pub behind : is_on_way other one ≡ false

-- where nothing is written of a name that is kept, nothing is written there, or on the way there, of another one
abbrev pub LeavesFree : (one other : Name) → Type 0
LeavesFree one other = (relative behind : List ℕ) (why : Fate) → one.comes ≡ kept relative (nothing why)
    → may_write other.comes ≡ Some behind → AreApart relative behind

-- a second run that goes on changes nothing, and has the rows of the first, but `there` for what that wrote
abbrev pub SecondIsFirst : Type 0
SecondIsFirst = (before : Outputs) (names : List Name) → EachTwo LeavesFree names
    → (outputs_after true (outputs_after true before names) names ≡ outputs_after true before names)
    × (rows_of true (outputs_after true before names) names ≡ map row_again (rows_of true before names))

-- the name of the output that a name may have
abbrev pub its_output : Comes → Option (List ℕ)
its_output (without why) = None
its_output (kept relative made) = Some relative
its_output (named relative output) = Some relative

abbrev pub HaveOtherOutputs : (one other : Name) → Type 0
HaveOtherOutputs one other = (relative behind : List ℕ) → its_output one.comes ≡ Some relative
    → its_output other.comes ≡ Some behind → relative ≢ behind

-- where nothing is there and no two outputs have one name, a run that does not go on is one that does
abbrev pub NewIsContinued : Type 0
NewIsContinued = (before : Outputs) (names : List Name) → ((relative : List ℕ) → before relative ≡ None)
    → EachTwo HaveOtherOutputs names
    → (outputs_after false before names ≡ outputs_after true before names)
    × (rows_of false before names ≡ rows_of true before names)

-- ---- shares

-- two names come to the same, or their outputs are apart
pub data GoBeside (one other : Name) : Type 0 where
  alike : one.comes ≡ other.comes → GoBeside one other
  aside : ((relative behind : List ℕ) → its_output one.comes ≡ Some relative → its_output other.comes ≡ Some behind
      → AreApart relative behind) → GoBeside one other

-- each number from 1 on is once among these
abbrev pub Has : ℕ → List ℕ → Type 0
Has number [] = ⊥
Has number (other ∷ numbers) = (number ≡ other) ⊎ Has number numbers

pub record AreAllShares (count : ℕ) (numbers : List ℕ) : Type 0 where
  pub each : (number : ℕ) → 1 ≤ number → number ≤ count → Has number numbers
  pub once : EachTwo ◌≢◌ numbers

-- the same is at each name
abbrev pub SameOutputs : Outputs → Outputs → Type 0
SameOutputs one other = (relative : List ℕ) → one relative ≡ other relative

-- runs of all shares, in any order, leave what one run leaves; and their rows are its rows, in another order, but for
-- which of the names that come to the same is written
abbrev pub SharesAreOne : Type 0
SharesAreOne = (continues : Bool) (before : Outputs) (names : List Name) (count : ℕ) (numbers : List ℕ) → 0 < count
    → AreAllShares count numbers → EachTwo GoBeside names
    → SameOutputs (outputs_after_all continues before count numbers names) (outputs_after continues before names)
    × IsPermutation (map (λ row. row.became) (rows_of_all continues before count numbers names))
    (map (λ row. row.became) (rows_of continues before names))

-- ---- no name flows

-- where the names of two trees come to the same in their order, these trees leave the same, and what becomes of their
-- names is the same: what names are called shows only in what a name comes to
abbrev pub NoNameFlows : Type 0
NoNameFlows = (continues : Bool) (before : Outputs) (one other : List Name)
    → map (λ n. n.comes) one ≡ map (λ n. n.comes) other
    → (outputs_after continues before one ≡ outputs_after continues before other)
    × (map (λ row. row.became) (rows_of continues before one)
    ≡ map (λ row. row.became) (rows_of continues before other))
