-- What a system says of folders and the names in them, and the names that it makes.
use Rattle.std.specs.Prelude.{ℕ, List, Bool, true, false, Option, Some, None, Result, Ok, Err}
use Rattle.std.specs.declared.io.Error.{Error}
use Rattle.dcm_files.specs.declared.folders.Found.{Found}
use Rattle.dcm_files.specs.declared.folders.Links.{Links}
use Rattle.dcm_files.specs.declared.opened.Opened.{Opened}

-- what the calls on folders may answer, and what they may leave of the system and of a folder
pub record FoldersDo (S O F : Type 0) : Type 1 where
  -- of a path whose names are to be listed
  pub opens_folder : S → List ℕ → Result F Error → S → Type 0
  -- the next name of a folder, or none
  pub names : S → F → Result (Option (List ℕ)) Error → F → S → Type 0
  -- takes a folder back
  pub closes_folder : S → F → S → Type 0
  -- of a path: what is there
  pub finds : S → List ℕ → Links → Result (Option Found) Error → S → Type 0
  -- of the folder of a name in a folder, or of that one where the name is empty: its mode
  pub modes : S → (folder name : List ℕ) → Result ℕ Error → S → Type 0
  -- of a path at which nothing was, and the mode of the new folder
  pub makes_folder : S → List ℕ → ℕ → Result (Unit {0}) Error → S → Type 0
  -- of a path that is written, and at which nothing was, and the mode of the new file
  pub makes_as : S → List ℕ → ℕ → Result (Opened O) Error → S → Type 0
  -- gives the file at a path a second one
  pub links : S → (from to : List ℕ) → Result (Unit {0}) Error → S → Type 0

-- nothing is known of the system
abbrev pub anything : {S O F : Type 0} → FoldersDo S O F
anything = record {
  opens_folder = λ before path r after. Unit {0};
  names = λ before folder r left after. Unit {0};
  closes_folder = λ before folder after. Unit {0};
  finds = λ before path links r after. Unit {0};
  modes = λ before folder name r after. Unit {0};
  makes_folder = λ before path mode r after. Unit {0};
  makes_as = λ before path mode r after. Unit {0};
  links = λ before from to r after. Unit {0};
}

-- the name that was given, by whether there was one
abbrev pub name_given : List ℕ → Result Bool Error → Result (Option (List ℕ)) Error
name_given name (Ok true) = Ok (Some name)
name_given name (Ok false) = Ok None
name_given name (Err e) = Err e
