-- What a run over a tree leaves as it was.
use Rattle.std.specs.Prelude.{◌≡◌, ◌≢◌, ◌⊎◌, ℕ, true, List, [], ◌∷◌, Some}
use Rattle.dcm_files.specs.declared.folders.Found.{Found}
use Rattle.dcm_walk.specs.Names.{below, leads_below}
use Rattle.dcm_tree_laws.specs.FileSystem.{Tree, FileSystem, Host, number_of, place_of}

-- the folder of the outputs, or what lies in it at any depth. No part of the name in it is empty, `.` or `..`: such a
-- path leads out of it only where a link lies on its way
pub data IsOfOutput (output : List ℕ) (path : List ℕ) : Type 0 where
  itself : path ≡ output → IsOfOutput output path
  within : (relative : List ℕ) → leads_below relative ≡ true → path ≡ below output relative → IsOfOutput output path

-- a path of it leads to a place
pub record LeadsThere {I O : Type 0} (h : Host I O) (output place : List ℕ) : Type 0 where
  pub path : List ℕ
  pub of_output : IsOfOutput output path
  pub leads : place ≡ place_of h path

-- but at the place of the part, what was at the start is there: the same thing, of the same mode, with the same bytes.
-- What else is there, or is not, is where the outputs are
pub record Stays {I O : Type 0} (h : Host I O) (part output : List ℕ) (start now : Tree) : Type 0 where
  pub there : (place : List ℕ) (f : Found) → place ≢ place_of h part → start.at place ≡ Some f → now.at place ≡ Some f
  pub bytes : (place : List ℕ) (f : Found) → place ≢ place_of h part → start.at place ≡ Some f
      → now.bytes (number_of f) ≡ start.bytes (number_of f)
  pub new : (place : List ℕ) → (now.at place ≡ start.at place) ⊎ LeadsThere h output place

-- it is so of each of these trees
abbrev pub OfEach : (Tree → Type 0) → List Tree → Type 0
OfEach Is [] = Unit {0}
OfEach Is (t ∷ ts) = Is t × OfEach Is ts

-- and of a file system as it is, and of all that it was
abbrev pub Always : (Tree → Type 0) → FileSystem → Type 0
Always Is s = Is s.now × OfEach Is s.earlier

-- it is so of each of these trees, beside those that were before it
abbrev pub OfEachSoFar : ((now : Tree) → (earlier : List Tree) → Type 0) → List Tree → Type 0
OfEachSoFar Is [] = Unit {0}
OfEachSoFar Is (t ∷ ts) = Is t ts × OfEachSoFar Is ts

-- and of a file system as it is, and of all that it was
abbrev pub AlwaysSoFar : ((now : Tree) → (earlier : List Tree) → Type 0) → FileSystem → Type 0
AlwaysSoFar Is s = OfEachSoFar Is (s.now ∷ s.earlier)
