-- An output of a run over a tree gets its name only when it is complete.
use Rattle.std.specs.Prelude.{◌≡◌, ◌≢◌, ℕ, List, Some, None}
use Rattle.dcm_files.specs.declared.folders.Found.{Found}
use Rattle.dcm_files.specs.declared.folders.FoundKind.TheVariants.{File, Folder}
use Rattle.dcm_tree_laws.specs.FileSystem.{Tree, Host, number_of, place_of}

-- at a place is nothing, or what was there at the start, or a folder, or a file with the bytes of a whole output
pub data IsWholeAt (IsWhole : ℕ → List ℕ → Type 0) (start now : Tree) (place : List ℕ) : Type 0 where
  nothing : now.at place ≡ None → IsWholeAt IsWhole start now place
  was_there : (f : Found) → now.at place ≡ Some f → start.at place ≡ Some f
      → now.bytes (number_of f) ≡ start.bytes (number_of f) → IsWholeAt IsWhole start now place
  a_folder : (f : Found) → now.at place ≡ Some f → f.kind ≡ Folder → IsWholeAt IsWhole start now place
  an_output : (f : Found) → now.at place ≡ Some f → f.kind ≡ File → IsWhole f.mode (now.bytes (number_of f))
      → IsWholeAt IsWhole start now place

-- at each place but that of the part
abbrev pub NoneHalf : {I O : Type 0} → Host I O → (IsWhole : ℕ → List ℕ → Type 0) → (part : List ℕ) → (start now : Tree)
    → Type 0
NoneHalf h IsWhole part start now = (place : List ℕ) → place ≢ place_of h part → IsWholeAt IsWhole start now place

-- where it depends on the trees that were before what a whole output is
abbrev pub NoneHalfSoFar : {I O : Type 0} → Host I O → (IsWhole : (earlier : List Tree) → ℕ → List ℕ → Type 0)
    → (part : List ℕ) → (start now : Tree) → (earlier : List Tree) → Type 0
NoneHalfSoFar h IsWhole part start now earlier = NoneHalf h (IsWhole earlier) part start now
