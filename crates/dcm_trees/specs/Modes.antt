-- The modes of the folders that a run makes.
use Rattle.std.specs.Prelude.{◌≡◌, ℕ, bit_or, List, [], Bool, Option, Some, None, Result, Ok, Err, if◌then◌else◌}
use Rattle.std.specs.Option.{option_map}
use Rattle.std.specs.declared.io.Error.{Error}
use Rattle.dcm_files.specs.Folders.{FoldersDo}
use Rattle.dcm_tree_words.specs.Trees as words
use Rattle.dcm_tree_words.specs.Trees.{Source}
use Rattle.dcm_trees.specs.declared.modes.Modes.{Modes as Lent}
use Rattle.dcm_trees.specs.declared.modes.NoMode.{NoMode}

-- the folder that is read, whose mode they get, but not where it is a list; and whether each gets that of the folder of
-- its own name in it instead
pub record Modes : Type 0 where
  pub folder : Option (List ℕ)
  pub by_name : Bool

abbrev pub modes_as : Lent → Modes
modes_as m = record { folder = option_map (λ f. f.now) m.folder; by_name = m.by_name }

abbrev pub folder_of : Source → Option (List ℕ)
folder_of (words.folder path) = Some path
folder_of (words.list path) = None

-- the modes of a run over what words name
abbrev pub modes_of : Source → (keeps_names : Bool) → Modes
modes_of source keeps_names = record { folder = folder_of source; by_name = keeps_names }

-- all bits
abbrev pub USUAL_MODE : ℕ
USUAL_MODE = 511

-- those of another one, and all that let the owner do something
abbrev pub mode_like : ℕ → ℕ
mode_like mode = bit_or mode 448

abbrev pub name_like : (by_name : Bool) → (name : List ℕ) → List ℕ
name_like by_name name = if by_name then name else []

-- the mode of a new folder of this name in the folder of the outputs, or of that folder where the name is empty: that of
-- a folder that is looked at, or the usual one
pub data FindsMode {S O F : Type 0} (d : FoldersDo S O F) (modes : Modes) (name : List ℕ) (before : S)
    (r : Result ℕ NoMode) (after : S) : Type 0 where
  usual : modes.folder ≡ None → r ≡ Ok USUAL_MODE → after ≡ before → FindsMode d modes name before r after
  like : (folder : List ℕ) (mode : ℕ) → modes.folder ≡ Some folder
      → d.modes before folder (name_like modes.by_name name) (Ok mode) after → r ≡ Ok (mode_like mode)
      → FindsMode d modes name before r after
  not_seen : (folder : List ℕ) (e : Error) (n : NoMode) → modes.folder ≡ Some folder
      → d.modes before folder (name_like modes.by_name name) (Err e) after → r ≡ Err n
      → FindsMode d modes name before r after
