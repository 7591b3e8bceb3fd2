-- The paths that begin with the folder of the outputs; and what stays of a tree, wherever it is that things may be new.
use Rattle.std.specs.Prelude.{◌≡◌, ◌≢◌, ◌⊎◌, ℕ, List, Some}
use Rattle.dcm_files.specs.declared.folders.Found.{Found}
use Rattle.dcm_walk.specs.Names.{below}
use Rattle.dcm_tree_laws.specs.FileSystem.{Tree, Host, number_of, place_of}

-- it begins with that folder, wherever it leads
pub data IsNear (output path : List ℕ) : Type 0 where
  itself : path ≡ output → IsNear output path
  near : (relative : List ℕ) → path ≡ below output relative → IsNear output path

-- one of these paths leads to a place
pub record LeadsIn {I O : Type 0} (h : Host I O) (Of : List ℕ → Type 0) (place : List ℕ) : Type 0 where
  pub path : List ℕ
  pub of_output : Of path
  pub leads : place ≡ place_of h path

-- what was at the start is there, but at the place of the part; and what is new is at one of these paths
pub record StaysIn {I O : Type 0} (h : Host I O) (part : List ℕ) (Of : List ℕ → Type 0) (start now : Tree) : Type 0 where
  pub there : (place : List ℕ) (f : Found) → place ≢ place_of h part → start.at place ≡ Some f → now.at place ≡ Some f
  pub bytes : (place : List ℕ) (f : Found) → place ≢ place_of h part → start.at place ≡ Some f → now.bytes (number_of f) ≡ start.bytes (number_of f)
  pub new : (place : List ℕ) → (now.at place ≡ start.at place) ⊎ LeadsIn h Of place

abbrev pub Stays : {I O : Type 0} → Host I O → (part output : List ℕ) → (start now : Tree) → Type 0
Stays h part output start now = StaysIn h part (IsNear output) start now
