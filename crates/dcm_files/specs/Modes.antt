-- The mode of the folder of a name in a folder.
use Rattle.std.specs.Prelude.{ℕ, nat_le, length, List, [], ◌∷◌, ◌++◌, codes, Option, Some, None, if◌then◌else◌}
use Rattle.dcm_files.specs.declared.folders.Found.{Found}
use Rattle.dcm_files.specs.declared.folders.FoundKind.{FoundKind}
use Rattle.dcm_files.specs.declared.folders.FoundKind.TheVariants.{Folder}
use Rattle.dcm_files.specs.declared.folders.Links.{Links}
use Rattle.dcm_files.specs.declared.folders.Links.TheVariants.{Kept, Followed}

-- a path that the system takes
abbrev pub short : List ℕ → Option (List ℕ)
short path = if nat_le (length path) 4095 then Some path else None

abbrev pub behind : (folder name : List ℕ) → List ℕ
behind folder name = folder ++ codes "/" ++ name

-- where it is looked for: of no name at the folder itself, which may be at a link
abbrev pub path_below : (folder name : List ℕ) → Option (List ℕ)
path_below folder [] = short folder
path_below folder (b ∷ bs) = short (behind folder (b ∷ bs))

abbrev pub links_of : (name : List ℕ) → Links
links_of [] = Followed
links_of (b ∷ bs) = Kept

-- what was found has a mode where it is a folder
abbrev pub mode_at : FoundKind → (mode : ℕ) → Option ℕ
mode_at Folder mode = Some mode
mode_at _ mode = None

abbrev pub mode_found : Option Found → Option ℕ
mode_found None = None
mode_found (Some found) = mode_at found.kind found.mode
