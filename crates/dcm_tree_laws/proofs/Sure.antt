-- What is done over a system of which no look fails is done over one of which any call may fail.
use Rattle.std.proofs.Common.{ℕ, List, Bool, true, false, Option, Result, Ok, Err}
use Rattle.std.specs.declared.io.Error.{Error}
use Rattle.dcm_files.specs.Folders.{FoldersDo}
use Rattle.dcm_files.specs.declared.folders.Found.{Found}
use Rattle.dcm_files.specs.declared.folders.Links.{Links}
use Rattle.dcm_files.specs.declared.folders.Links.TheVariants.{Kept}
use Rattle.dcm_files.specs.declared.opened.Opened.{Opened}
use Rattle.dcm_trees.specs.declared.modes.NoMode.{NoMode}
use Rattle.dcm_trees.specs.declared.part.NoPart.{NoPart}
use Rattle.dcm_trees.specs.declared.place.NotMade.{NotMade}
use Rattle.dcm_trees.specs.declared.place.Place.{Place}
use Rattle.dcm_trees.specs.Modes.{Modes, FindsMode, usual, like, not_seen}
use Rattle.dcm_trees.specs.Part as parts
use Rattle.dcm_trees.specs.Part.{MakesPart, MovesIfFree, GivesSecondName, GivesName, NamesOutput, FillsAndNames}
use Rattle.dcm_trees.specs.Place as places
use Rattle.dcm_trees.specs.Place.{Looks, AreFolders, LooksAlong, Finds, FindsFolder, MakesNew, HasFolder, AreMade, MakesWay}

-- ---- looks

-- what looks answer in one system they may answer in another one
abbrev pub Sees : {S O F : Type 0} → (d e : FoldersDo S O F) → Type 0
Sees {S} d e = (before : S) (path : List ℕ) (links : Links) (r : Result (Option Found) Error) (after : S) → d.finds before path links r after → e.finds before path links r after

module _ {S O F : Type 0} (d e : FoldersDo S O F) (sees : Sees d e) where
  pub looks : (path : List ℕ) (before : S) (seen : Result (Option Found) _) (after : S) → Looks d path before seen after → Looks e path before seen after
  looks path before seen after (places.no_text u t is same) = places.no_text u t is same
  looks path before seen after (places.looked found t call is) = places.looked found t (sees before path Kept (Ok found) after call) is
  looks path before seen after (places.not_looked error u t call is) = places.not_looked error u t (sees before path Kept (Err error) after call) is

  folders : (path : List ℕ) (base : ℕ) (before : S) (at : ℕ) (after : S) → AreFolders d path base before at after → AreFolders e path base before at after
  folders path base before at after (places.none_yet a s) = places.none_yet a s
  folders path base before at after (places.and_folder from size seen mid more slash l ends a) =
      places.and_folder from size seen mid (folders path base before from mid more) slash (looks _ mid seen after l) ends a

  along : (path : List ℕ) (base : ℕ) (before : S) (way : _) (after : S) → LooksAlong d path base before way after → LooksAlong e path base before way after
  along path base before way after (places.to_its_end at f slash is) = places.to_its_end at (folders path base before at after f) slash is
  along path base before way after (places.ended at size seen end mid f slash l ends is) = places.ended at size seen end mid (folders path base before at mid f) slash (looks _ mid seen after l) ends is

  pub finds : (path : List ℕ) (base : ℕ) (before : S) (place : Place) (after : S) → Finds d path base before place after → Finds e path base before place after
  finds path base before place after (places.missing l is) = places.missing (along path base before _ after l) is
  finds path base before place after (places.blocked l is) = places.blocked (along path base before _ after l) is
  finds path base before place after (places.at_its_end seen mid l looked_at is) = places.at_its_end seen mid (along path base before _ mid l) (looks path mid seen after looked_at) is

  finds_folder : (path : List ℕ) (before : S) (is_there : Bool) (after : S) → FindsFolder d path before is_there after → FindsFolder e path before is_there after
  finds_folder path before is_there after (places.by_looking seen l is) = places.by_looking seen (looks path before seen after l) is

-- ---- all calls

-- what a system does another one may do
pub record Implies {S O F : Type 0} (d e : FoldersDo S O F) : Type 0 where
  pub sees : Sees d e
  pub modes : (before : S) (folder name : List ℕ) (r : Result ℕ Error) (after : S) → d.modes before folder name r after → e.modes before folder name r after
  pub folder : (before : S) (path : List ℕ) (mode : ℕ) (r : Result (Unit {0}) Error) (after : S) → d.makes_folder before path mode r after → e.makes_folder before path mode r after
  pub file : (before : S) (path : List ℕ) (mode : ℕ) (r : Result (Opened O) Error) (after : S) → d.makes_as before path mode r after → e.makes_as before path mode r after
  pub link : (before : S) (from to : List ℕ) (r : Result (Unit {0}) Error) (after : S) → d.links before from to r after → e.links before from to r after

module _ {S O F : Type 0} (d e : FoldersDo S O F) (can : Implies d e) where
  finds_mode : {modes : Modes} {name : List ℕ} (before : S) (r : Result ℕ NoMode) (after : S) → FindsMode d modes name before r after → FindsMode e modes name before r after
  finds_mode before r after (usual none is same) = usual none is same
  finds_mode before r after (like folder mode some call is) = like folder mode some (can.modes before folder _ (Ok mode) after call) is
  finds_mode before r after (not_seen folder x n some call is) = not_seen folder x n some (can.modes before folder _ (Err x) after call) is

  makes_new : (path : List ℕ) (mode : ℕ) (before : S) (r : Result (Unit {0}) NotMade) (after : S) → MakesNew d path mode before r after → MakesNew e path mode before r after
  makes_new path mode before r after (places.no_text x t is same) = places.no_text x t is same
  makes_new path mode before r after (places.made t call is) = places.made t (can.folder before path mode _ after call) is
  makes_new path mode before r after (places.was_there cause tried t call k f is) = places.was_there cause tried t (can.folder before path mode _ tried call) k (finds_folder d e can.sees path tried true after f) is
  makes_new path mode before r after (places.no_folder cause x tried t call k f is) = places.no_folder cause x tried t (can.folder before path mode _ tried call) k (finds_folder d e can.sees path tried false after f) is
  makes_new path mode before r after (places.not_made cause x t call k is) = places.not_made cause x t (can.folder before path mode _ after call) k is

  has_folder : {modes : Modes} {base : ℕ} (path : List ℕ) (before : S) (r : Result (Unit {0}) NotMade) (after : S) → HasFolder d modes path base before r after → HasFolder e modes path base before r after
  has_folder path before r after (places.there_already f is) = places.there_already (finds_folder d e can.sees path before true after f) is
  has_folder path before r after (places.no_mode n x looked f m is) = places.no_mode n x looked (finds_folder d e can.sees path before false looked f) (finds_mode looked (Err n) after m) is
  has_folder path before r after (places.has_mode mode looked seen f m new) = places.has_mode mode looked seen (finds_folder d e can.sees path before false looked f) (finds_mode looked (Ok mode) seen m) (makes_new path mode seen r after new)

  pub are_made : {modes : Modes} (path : List ℕ) (base : ℕ) (before : S) (at : ℕ) (after : S) → AreMade d modes path base before at after → AreMade e modes path base before at after
  are_made path base before at after (places.none_made a s) = places.none_made a s
  are_made path base before at after (places.and_made from size mid more slash has a) = places.and_made from size mid (are_made path base before from mid more) slash (has_folder _ mid (Ok _) after has) a

  pub makes_way : {modes : Modes} (path : List ℕ) (base : ℕ) (before : S) (r : Result (Unit {0}) NotMade) (after : S) → MakesWay d modes path base before r after → MakesWay e modes path base before r after
  makes_way path base before r after (places.all_made at more slash is) = places.all_made at (are_made path base before at after more) slash is
  makes_way path base before r after (places.not_all at size x mid more slash has is) = places.not_all at size x mid (are_made path base before at mid more) slash (has_folder _ mid (Err x) after has) is

  pub makes_part : (part : List ℕ) (mode : ℕ) (before : S) (r : Result O NoPart) (after : S) → MakesPart d part mode before r after → MakesPart e part mode before r after
  makes_part part mode before r after (parts.no_text t is same) = parts.no_text t is same
  makes_part part mode before r after (parts.made o t call is) = parts.made o t (can.file before part mode (Ok o) after call) is
  makes_part part mode before r after (parts.is_there x t call k is) = parts.is_there x t (can.file before part mode (Err x) after call) k is
  makes_part part mode before r after (parts.no_memory x t call k is) = parts.no_memory x t (can.file before part mode (Err x) after call) k is
  makes_part part mode before r after (parts.not_made x t call k m is) = parts.not_made x t (can.file before part mode (Err x) after call) k m is
