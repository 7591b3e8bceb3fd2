-- Whether the folder of the outputs tells small letters from capital ones.
use Rattle.std.specs.Prelude.{◌≡◌, ℕ, ◌==◌, ◌&&◌, List, drop, ◌++◌, codes, Bool, true, false, Option, Some, Result, Ok, Err}
use Rattle.std.specs.Str.{IsUtf8}
use Rattle.std.specs.declared.io.Error.{Error}
use Rattle.dcm_files.specs.Devices.{MayDo, Closes}
use Rattle.dcm_files.specs.Folders.{FoldersDo}
use Rattle.dcm_files.specs.declared.folders.Found.{Found}
use Rattle.dcm_trees.specs.declared.beginning.Refusal.{Refusal}
use Rattle.dcm_trees.specs.declared.beginning.Refusal.TheVariants.{Output, AtWork}
use Rattle.dcm_trees.specs.declared.part.NoPart.{NoPart}
use Rattle.dcm_trees.specs.declared.part.NoPart.TheVariants.{There, Memory, NotMade}
use Rattle.dcm_trees.specs.declared.place.Unseen.{Unseen}
use Rattle.dcm_trees.specs.Part.{MakesPart}
use Rattle.dcm_trees.specs.Place.{path_in, Looks}

-- ---- the name of the part in capital letters

-- what is behind the letters of its name
abbrev pub number_in : (part : List ℕ) → List ℕ
number_in part = drop 6 part

abbrev pub path_in_capitals : (output part : List ℕ) → Option (List ℕ)
path_in_capitals output part = path_in output (codes ".PART." ++ number_in part)

-- ---- a file that is made to be looked at

abbrev pub refusal_of : NoPart → Refusal
refusal_of There = AtWork
refusal_of Memory = Output
refusal_of NotMade = Output

-- its owner alone may read and write it
abbrev pub OWN_MODE : ℕ
OWN_MODE = 384

-- it is made, and closed
pub data MakesClosed {S I O F : Type 0} (may : MayDo S I O) (d : FoldersDo S O F) (part : List ℕ) (before : S)
    (r : Result (Unit {0}) Refusal) (after : S) : Type 0 where
  not_made : (cause : NoPart) → MakesPart d part OWN_MODE before (Err cause) after → r ≡ Err (refusal_of cause)
      → MakesClosed may d part before r after
  made : (output : O) (mid : S) → MakesPart d part OWN_MODE before (Ok output) mid → Closes may mid output after
      → r ≡ Ok _ → MakesClosed may d part before r after

-- it is removed, if it is still at its path
pub data RemovesHeld {S I O : Type 0} (may : MayDo S I O) (part : List ℕ) (before : S) (r : Result (Unit {0}) Refusal)
    (after : S) : Type 0 where
  removed : may.removes before part (Ok _) after → r ≡ Ok _ → RemovesHeld may part before r after
  not_removed : (e : Error) → may.removes before part (Err e) after → r ≡ Err Output
      → RemovesHeld may part before r after

pub data RemovesOwn {S I O : Type 0} (may : MayDo S I O) (part : List ℕ) (before : S) (r : Result (Unit {0}) Refusal)
    (after : S) : Type 0 where
  of_another : may.holds before part false after → r ≡ Err AtWork → RemovesOwn may part before r after
  its_own : (mid : S) → may.holds before part true mid → RemovesHeld may part mid r after
      → RemovesOwn may part before r after

pub data RemovesMade {S I O : Type 0} (may : MayDo S I O) (part : List ℕ) (before : S) (r : Result (Unit {0}) Refusal)
    (after : S) : Type 0 where
  no_text : ¬ (IsUtf8 part) → r ≡ Err Output → after ≡ before → RemovesMade may part before r after
  by_path : IsUtf8 part → RemovesOwn may part before r after → RemovesMade may part before r after

-- what was found at two paths is one file
abbrev pub are_found_one : Option Found → Option Found → Bool
are_found_one (Some one) (Some other) = one.device == other.device && one.number == other.number
are_found_one _ other = false

abbrev pub are_one : Result (Option Found) Unseen → Result (Option Found) Unseen → Bool
are_one (Ok one) (Ok other) = are_found_one one other
are_one _ other = false

-- a file that is made at a path is at a path in capital letters too, or not; none is left
pub data IsOneName {S I O F : Type 0} (may : MayDo S I O) (d : FoldersDo S O F) (part capitals : List ℕ) (before : S)
    (r : Result Bool Refusal) (after : S) : Type 0 where
  not_made : (refusal : Refusal) → MakesClosed may d part before (Err refusal) after → r ≡ Err refusal
      → IsOneName may d part capitals before r after
  not_removed : (own other : Result (Option Found) Unseen) (refusal : Refusal) (made mid looked : S)
      → MakesClosed may d part before (Ok _) made → Looks d part made own mid → Looks d capitals mid other looked
      → RemovesMade may part looked (Err refusal) after → r ≡ Err refusal → IsOneName may d part capitals before r after
  was_looked : (own other : Result (Option Found) Unseen) (made mid looked : S)
      → MakesClosed may d part before (Ok _) made → Looks d part made own mid → Looks d capitals mid other looked
      → RemovesMade may part looked (Ok _) after → r ≡ Ok (are_one own other)
      → IsOneName may d part capitals before r after
