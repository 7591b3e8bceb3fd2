-- A file system, and what the calls of a run over a tree do to it.
use Rattle.std.specs.Prelude.{◌≡◌, ◌≢◌, ◌⊎◌, ℕ, List, [], ◌∷◌, ◌++◌, Option, Some, None, Result}
use Rattle.std.specs.Prelude.{Ok, Err, IfOk, Bool, true, false}
use Rattle.std.specs.declared.io.Error.{Error}
use Rattle.dcm_files.specs.declared.folders.Found.{Found}
use Rattle.dcm_files.specs.declared.folders.FoundKind.TheVariants.{File, Folder}
use Rattle.dcm_files.specs.declared.folders.Links.{Links}
use Rattle.dcm_files.specs.declared.folders.Links.TheVariants.{Kept, Followed}
use Rattle.dcm_files.specs.Devices.{MayDo, anything}
use Rattle.dcm_files.specs.Folders.{FoldersDo}
use Rattle.dcm_walk.specs.Names.{below}

-- ---- what a file system is

-- which thing it is: where it is at two places, these are two names of one file
pub record Number : Type 0 where
  pub device : ℕ
  pub number : ℕ

abbrev pub number_of : Found → Number
number_of f = record { device = f.device; number = f.number }

-- what is at each place, a link as a link, and the bytes of each file
pub record Tree : Type 0 where
  pub at : (place : List ℕ) → Option Found
  pub bytes : Number → List ℕ

-- a file system as it is now; all that it was earlier, the latest first; the file that is being written, where one is:
-- it was made, and its output is not yet closed; the file that is held, where one is: it was made or locked last, and no
-- file was removed since; and whether a file could not be removed, or not be looked at to be removed
pub record FileSystem : Type 0 where
  pub now : Tree
  pub earlier : List Tree
  pub written : Option Number
  pub held : Option Number
  pub unremoved : Bool

-- one as a run finds it
abbrev pub begins : Tree → FileSystem
begins start = record { now = start; earlier = []; written = None; held = None; unremoved = false }

-- a run whose trees were these, the latest first, had this state: they are those up to it, and some later ones
pub record WasState (trees : List Tree) (s : FileSystem) : Type 0 where
  pub later : List Tree
  pub trees_are : trees ≡ later ++ s.now ∷ s.earlier

-- what differs from one system to another: where a path leads, a link at its end followed or not, which no call of a
-- run changes, since it makes and takes no link; the bytes that an input has still to give, and those that an output
-- took; and what is left of the bits of a mode
pub record Host (I O : Type 0) : Type 0 where
  pub leads : Links → (path : List ℕ) → List ℕ
  pub holds : I → List ℕ
  pub took : O → List ℕ
  pub masked : ℕ → ℕ

abbrev pub place_of : {I O : Type 0} → Host I O → (path : List ℕ) → List ℕ
place_of h path = h.leads Kept path

-- what is at a path, a link at its end not followed
abbrev pub at_path : {I O : Type 0} → Host I O → Tree → (path : List ℕ) → Option Found
at_path h t path = t.at (h.leads Kept path)

-- an input that was opened at a path has still to give all bytes of the file there, where it is a regular one
abbrev pub HoldsFile : {I O : Type 0} → Host I O → Tree → (path : List ℕ) → I → Type 0
HoldsFile h t path input = (f : Found) → t.at (h.leads Followed path) ≡ Some f → f.kind ≡ File
    → h.holds input ≡ t.bytes (number_of f)

-- where the folder of a name in a folder is, a link at its end not followed; of no name where that folder is, which
-- may be at a link
abbrev pub place_below : {I O : Type 0} → Host I O → (folder name : List ℕ) → List ℕ
place_below h folder [] = h.leads Followed folder
place_below h folder (b ∷ bs) = h.leads Kept (below folder (b ∷ bs))

-- a folder is there, and has this mode
pub record HasMode {I O : Type 0} (h : Host I O) (t : Tree) (folder name : List ℕ) (mode : ℕ) : Type 0 where
  pub found : Found
  pub is : t.at (place_below h folder name) ≡ Some found
  pub kind : found.kind ≡ Folder
  pub mode_is : found.mode ≡ mode

-- nothing has this number
abbrev pub IsFresh : Tree → Number → Type 0
IsFresh t n = (place : List ℕ) (f : Found) → t.at place ≡ Some f → number_of f ≢ n

-- ---- how one tree becomes another

-- this is at a place, and at each other one is what was there
pub record Puts (place : List ℕ) (what : Option Found) (before after : Tree) : Type 0 where
  pub there : after.at place ≡ what
  pub elsewhere : (other : List ℕ) → (other ≡ place) ⊎ (after.at other ≡ before.at other)

-- a file has these bytes, and each other one has its own
pub record Fills (n : Number) (bytes : List ℕ) (before after : Tree) : Type 0 where
  pub filled : after.bytes n ≡ bytes
  pub others : (other : Number) → (other ≡ n) ⊎ (after.bytes other ≡ before.bytes other)

-- each file has its bytes
abbrev pub SameBytes : (before after : Tree) → Type 0
SameBytes before after = (n : Number) → after.bytes n ≡ before.bytes n

-- at each place is what was there
abbrev pub SameNames : (before after : Tree) → Type 0
SameNames before after = (place : List ℕ) → after.at place ≡ before.at place

-- what was is noted, and the file that is being written is this one from then on
pub record Notes (written : Option Number) (before after : FileSystem) : Type 0 where
  pub noted : after.earlier ≡ before.now ∷ before.earlier
  pub written_is : after.written ≡ written
  pub unremoved_is : after.unremoved ≡ before.unremoved

-- ---- calls that change it

-- where nothing is there is a folder, with what is left of the bits of a mode
pub record MakesFolder {I O : Type 0} (h : Host I O) (path : List ℕ) (mode : ℕ) (before after : FileSystem)
    : Type 0 where
  pub made : Found
  pub nothing : at_path h before.now path ≡ None
  pub kind : made.kind ≡ Folder
  pub bits : made.mode ≡ h.masked mode
  pub fresh : IsFresh before.now (number_of made)
  pub puts : Puts (place_of h path) (Some made) before.now after.now
  pub bytes : SameBytes before.now after.now
  pub notes : Notes before.written before after
  pub held_is : after.held ≡ before.held

-- where nothing is there is an empty file, which is being written
pub record MakesFile {I O : Type 0} (h : Host I O) (path : List ℕ) (mode : ℕ) (before after : FileSystem) : Type 0 where
  pub made : Found
  pub nothing : at_path h before.now path ≡ None
  pub kind : made.kind ≡ File
  pub mode_is : made.mode ≡ h.masked mode
  pub fresh : IsFresh before.now (number_of made)
  pub puts : Puts (place_of h path) (Some made) before.now after.now
  pub empty : Fills (number_of made) [] before.now after.now
  pub notes : Notes (Some (number_of made)) before after
  pub held_is : after.held ≡ Some (number_of made)

-- a file took bytes, and is still being written
pub record Takes (n : Number) (bytes : List ℕ) (before after : FileSystem) : Type 0 where
  pub fills : Fills n bytes before.now after.now
  pub names : SameNames before.now after.now
  pub notes : Notes (Some n) before after
  pub held_is : after.held ≡ before.held

-- it took beginnings of all its bytes, one after another
pub data TakesPieces (n : Number) (all : List ℕ) (before : FileSystem) : (after : FileSystem) → Type 0 where
  no_piece : {after : FileSystem} → after ≡ before → TakesPieces n all before after
  and_piece : {after : FileSystem} (mid : FileSystem) (front rest : List ℕ) → TakesPieces n all before mid
      → all ≡ front ++ rest → Takes n front mid after → TakesPieces n all before after

-- and then it keeps these bytes, and is no longer being written
pub record Closes (n : Number) (all kept : List ℕ) (before after : FileSystem) : Type 0 where
  pub last : FileSystem
  pub pieces : TakesPieces n all before last
  pub fills : Fills n kept last.now after.now
  pub names : SameNames last.now after.now
  pub notes : Notes None last after
  pub held_is : after.held ≡ last.held

-- an output is closed: that of the file that is being written, or else standard output
abbrev pub ClosesOutput : Option Number → (all kept : List ℕ) → (before after : FileSystem) → Type 0
ClosesOutput (Some n) all kept before after = Closes n all kept before after
ClosesOutput None all kept before after = after ≡ before

-- a file keeps all bytes that it took, unless its closing fails: then it may have any bytes
abbrev pub ClosesAs : {A : Type 0} → Result A Error → Option Number → (all : List ℕ) → (before after : FileSystem)
    → Type 0
ClosesAs (Ok a) now all before after = ClosesOutput now all all before after
ClosesAs (Err e) now all before after = (kept : List ℕ) × ClosesOutput now all kept before after

-- where nothing is there is what is at another path too: it is the same thing, with a second name
pub record MakesLink {I O : Type 0} (h : Host I O) (from to : List ℕ) (before after : FileSystem) : Type 0 where
  pub linked : Found
  pub was : at_path h before.now from ≡ Some linked
  pub nothing : at_path h before.now to ≡ None
  pub puts : Puts (place_of h to) (Some linked) before.now after.now
  pub bytes : SameBytes before.now after.now
  pub notes : Notes before.written before after
  pub held_is : after.held ≡ before.held

-- something is on the way to a path, at each slash of it
abbrev pub HasWay : {I O : Type 0} → Host I O → Tree → (path : List ℕ) → Type 0
HasWay h t path = (folder behind : List ℕ) → path ≡ below folder behind → folder ≢ [] → at_path h t folder ≢ None

-- what was at a path is at another one, in the place of what was there
pub record Moves {I O : Type 0} (h : Host I O) (from to : List ℕ) (before after : FileSystem) : Type 0 where
  pub moved : Found
  pub was : at_path h before.now from ≡ Some moved
  pub way : HasWay h before.now to
  pub there : at_path h after.now to ≡ Some moved
  pub gone : at_path h after.now from ≡ None
  pub elsewhere : (other : List ℕ)
      → ((other ≡ place_of h from) ⊎ (other ≡ place_of h to)) ⊎ (after.now.at other ≡ before.now.at other)
  pub bytes : SameBytes before.now after.now
  pub notes : Notes before.written before after
  pub held_is : after.held ≡ before.held

-- nothing is done where both are names of one file; and what becomes of a folder is not said
pub data MovesWhat {I O : Type 0} (h : Host I O) (from to : List ℕ) (before after : FileSystem) : Type 0 where
  a_file : Moves h from to before after → MovesWhat h from to before after
  same_file : (one other : Found) → HasWay h before.now to → at_path h before.now from ≡ Some one
      → at_path h before.now to ≡ Some other
      → number_of one ≡ number_of other → after ≡ before → MovesWhat h from to before after
  a_folder : (one : Found) → at_path h before.now from ≡ Some one → one.kind ≡ Folder
      → after.unremoved ≡ before.unremoved → MovesWhat h from to before after

-- what was at a path is there no more
pub record Removes {I O : Type 0} (h : Host I O) (path : List ℕ) (before after : FileSystem) : Type 0 where
  pub puts : Puts (place_of h path) None before.now after.now
  pub bytes : SameBytes before.now after.now
  pub notes : Notes before.written before after
  pub held_is : after.held ≡ None

-- a file that is locked is held from then on
abbrev pub Seizes : Result Bool Error → (before after : FileSystem) → Type 0
Seizes (Ok true) before after = (file : Number) × (after ≡ record before { held = Some file })
Seizes (Ok false) before after = after ≡ before
Seizes (Err e) before after = after ≡ before

-- the file that is held is at a path, a link at its end not followed
pub record IsHeldAt {I O : Type 0} (h : Host I O) (s : FileSystem) (path : List ℕ) : Type 0 where
  pub found : Found
  pub is : at_path h s.now path ≡ Some found
  pub held_is : s.held ≡ Some (number_of found)

-- whether it is; what is there and cannot be looked at is told not to be, and that is noted
pub data Holds {I O : Type 0} (h : Host I O) (path : List ℕ) (before : FileSystem) (is_held : Bool) (after : FileSystem)
    : Type 0 where
  held_there : is_held ≡ true → IsHeldAt h before path → after ≡ before → Holds h path before is_held after
  not_there : is_held ≡ false → ¬ (IsHeldAt h before path) → after ≡ before → Holds h path before is_held after
  not_seen : is_held ≡ false → after ≡ record before { unremoved = true } → Holds h path before is_held after

-- ---- all calls

-- a call that fails leaves all as it was; that a file could not be removed is noted
abbrev pub OrFails : {A : Type 0} → Result A Error → Type 0 → (before after : FileSystem) → Type 0
OrFails (Ok a) Done before after = Done
OrFails (Err e) Done before after = after ≡ before

abbrev pub OrStays : {A : Type 0} → Result A Error → Type 0 → (before after : FileSystem) → Type 0
OrStays (Ok a) Done before after = Done
OrStays (Err e) Done before after = after ≡ record before { unremoved = true }

-- Any call may fail. A new output has taken nothing. Of the calls that no run over a tree makes nothing is said at all,
-- so no law could be proved of a run that makes one
abbrev pub may_do : {I O : Type 0} → Host I O → MayDo FileSystem I O
may_do h = record anything {
  stdin = λ before d after. after ≡ before;
  opens = λ before path r after. (after ≡ before) × IfOk r (λ o. HoldsFile h before.now path o.device);
  releases = λ before d after. after ≡ before;
  seizes = λ before path r after. Seizes r before after;
  holds = λ before path r after. Holds h path before r after;
  stdout = λ before r after. after ≡ before;
  moves = λ before from to r after. OrFails r (MovesWhat h from to before after) before after;
  removes = λ before path r after. OrStays r (Removes h path before after) before after;
  closes = λ before d r after. ClosesAs r before.written (h.took d) before after;
}

abbrev pub folders_do : {I O F : Type 0} → Host I O → FoldersDo FileSystem O F
folders_do h = record {
  opens_folder = λ before path r after. after ≡ before;
  names = λ before folder r left after. after ≡ before;
  closes_folder = λ before folder after. after ≡ before;
  finds = λ before path links r after. IfOk r (λ found. found ≡ before.now.at (h.leads links path)) × (after ≡ before);
  modes = λ before folder name r after. IfOk r (λ mode. HasMode h before.now folder name mode) × (after ≡ before);
  makes_folder = λ before path mode r after. OrFails r (MakesFolder h path mode before after) before after;
  makes_as = λ before path mode r after.
      OrFails r (MakesFile h path mode before after) before after × IfOk r (λ o. h.took o.device ≡ []);
  links = λ before from to r after. OrFails r (MakesLink h from to before after) before after;
}
