-- The folders on the way to an output are made, each a step.
use Rattle.std.proofs.Common.{◌≡◌, ◌∙◌, refl, ℕ, ◌+◌, ◌≤◌, List, length, take, drop, true, false, Some, Result, Ok, Err, arith}
use Rattle.dcm_walk.specs.List.{IsSlash}
use Rattle.dcm_walk.specs.Names.{below}
use Rattle.dcm_trees.specs.declared.place.NotMade.{NotMade}
use Rattle.dcm_trees.specs.Modes.{Modes}
use Rattle.dcm_trees.specs.Place.{MakesNew, no_text, made, was_there, no_folder, not_made, HasFolder, there_already, no_mode, has_mode, AreMade, none_made, and_made, MakesWay, all_made, not_all}
use Rattle.dcm_tree_laws.specs.FileSystem.{FileSystem, Host, folders_do}
use Rattle.dcm_tree_laws.proofs.Near.{IsNear, near}
use Rattle.dcm_tree_laws.proofs.Quiet.{are_quiet}
use Rattle.dcm_tree_laws.proofs.Looking.{finds_folder, seeks_mode}
use Rattle.dcm_tree_laws.proofs.Steps.{Phase, is_writing, Steps, StepsIn, folder, goes_on, one, quiet}
use Rattle.dcm_tree_laws.proofs.Ways.{way_is_of_output}

new_folder : {I O F : Type 0} (h : Host I O) (IsWhole : ℕ → List ℕ → Type 0) (part : List ℕ) (Of : List ℕ → Type 0) (at : Phase) → is_writing at ≡ false → (path : List ℕ) → Of path → (mode : ℕ)
    → (before : FileSystem) (r : Result (Unit {0}) NotMade) (after : FileSystem) → MakesNew (folders_do {F = F} h) path mode before r after → StepsIn h IsWhole part Of at before at after
new_folder h IsWhole part Of at rest path to mode before r after (no_text e t is same) = quiet same
new_folder h IsWhole part Of at rest path to mode before r after (made t call is) = one (folder path mode rest to call refl)
new_folder {I} {O} {F} h IsWhole part Of at rest path to mode before r after (was_there cause tried t call k f is) = quiet (finds_folder (folders_do {F = F} h) (are_quiet h) path tried true after f ∙ call)
new_folder {I} {O} {F} h IsWhole part Of at rest path to mode before r after (no_folder cause e tried t call k f is) = quiet (finds_folder (folders_do {F = F} h) (are_quiet h) path tried false after f ∙ call)
new_folder h IsWhole part Of at rest path to mode before r after (not_made cause e t call k is) = quiet call

pub has_folder : {I O F : Type 0} {modes : Modes} {base : ℕ} (h : Host I O) (IsWhole : ℕ → List ℕ → Type 0) (part : List ℕ) (Of : List ℕ → Type 0) (at : Phase) → is_writing at ≡ false → (path : List ℕ) → Of path
    → (before : FileSystem) (r : Result (Unit {0}) NotMade) (after : FileSystem) → HasFolder (folders_do {F = F} h) modes path base before r after → StepsIn h IsWhole part Of at before at after
has_folder {I} {O} {F} h IsWhole part Of at rest path to before r after (there_already f is) = quiet (finds_folder (folders_do {F = F} h) (are_quiet h) path before true after f)
has_folder {I} {O} {F} h IsWhole part Of at rest path to before r after (no_mode n e looked f m is) = quiet (seeks_mode (folders_do {F = F} h) (are_quiet h) path before looked (Err n) after f m)
has_folder {I} {O} {F} h IsWhole part Of at rest path to before r after (has_mode mode looked seen f m new) =
    goes_on (quiet (seeks_mode (folders_do {F = F} h) (are_quiet h) path before looked (Ok mode) seen f m)) (new_folder {F = F} h IsWhole part Of at rest path to mode seen r after new)

pub beyond : {I O F : Type 0} {modes : Modes} (h : Host I O) (path : List ℕ) (base : ℕ) (before : FileSystem) (at : ℕ) (after : FileSystem) → AreMade (folders_do {F = F} h) modes path base before at after → base ≤ at
beyond h path base before at after (none_made a s) = omega (arith, a)
beyond {I} {O} {F} h path base before at after (and_made from size mid more slash has a) = let least : base ≤ from = beyond {F = F} h path base before from mid more in omega (arith, a, least)

-- a path, and each folder on its way, are of the outputs
pub record Leads (Of : List ℕ → Type 0) (path : List ℕ) (base : ℕ) : Type 0 where
  pub end : Of path
  pub way : (from size : ℕ) → base ≤ from → IsSlash (drop from path) (Some size) → Of (take (from + size) path)

are_made_in : {I O F : Type 0} {modes : Modes} (h : Host I O) (IsWhole : ℕ → List ℕ → Type 0) (part : List ℕ) (Of : List ℕ → Type 0) (phase : Phase) → is_writing phase ≡ false → (path : List ℕ) (base : ℕ) → Leads Of path base
    → (before : FileSystem) (at : ℕ) (after : FileSystem) → AreMade (folders_do {F = F} h) modes path base before at after → StepsIn h IsWhole part Of phase before phase after
are_made_in h IsWhole part Of phase rest path base leads before at after (none_made a s) = quiet s
are_made_in {I} {O} {F} h IsWhole part Of phase rest path base leads before at after (and_made from size mid more slash has a) =
    goes_on (are_made_in {F = F} h IsWhole part Of phase rest path base leads before from mid more)
    (has_folder {F = F} h IsWhole part Of phase rest (take (from + size) path) (leads.way from size (beyond {F = F} h path base before from mid more) slash) mid (Ok _) after has)

pub makes_way_in : {I O F : Type 0} {modes : Modes} (h : Host I O) (IsWhole : ℕ → List ℕ → Type 0) (part : List ℕ) (Of : List ℕ → Type 0) (phase : Phase) → is_writing phase ≡ false → (path : List ℕ) (base : ℕ) → Leads Of path base
    → (before : FileSystem) (r : Result (Unit {0}) NotMade) (after : FileSystem) → MakesWay (folders_do {F = F} h) modes path base before r after → StepsIn h IsWhole part Of phase before phase after
makes_way_in {I} {O} {F} h IsWhole part Of phase rest path base leads before r after (all_made at more slash e) = are_made_in {F = F} h IsWhole part Of phase rest path base leads before at after more
makes_way_in {I} {O} {F} h IsWhole part Of phase rest path base leads before r after (not_all at size e mid more slash has was) =
    goes_on (are_made_in {F = F} h IsWhole part Of phase rest path base leads before at mid more)
    (has_folder {F = F} h IsWhole part Of phase rest (take (at + size) path) (leads.way at size (beyond {F = F} h path base before at mid more) slash) mid (Err e) after has)

-- ---- where they begin with the folder of the outputs

pub leads_near : (output relative path : List ℕ) (base : ℕ) → path ≡ below output relative → length output + 1 ≤ base → Leads (IsNear output) path base
leads_near output relative path base is least = record {
  end = near relative is;
  way = λ from size far slash. way_is_of_output output relative path (from + size) is (omega (arith, least, far));
}

pub are_made : {I O F : Type 0} {modes : Modes} (h : Host I O) (IsWhole : ℕ → List ℕ → Type 0) (part output : List ℕ) (phase : Phase) → is_writing phase ≡ false → (path relative : List ℕ) → path ≡ below output relative → (base : ℕ) → length output + 1 ≤ base
    → (before : FileSystem) (at : ℕ) (after : FileSystem) → AreMade (folders_do {F = F} h) modes path base before at after → Steps h IsWhole part output phase before phase after
are_made {I} {O} {F} h IsWhole part output phase rest path relative is base least = are_made_in {F = F} h IsWhole part (IsNear output) phase rest path base (leads_near output relative path base is least)

pub makes_way : {I O F : Type 0} {modes : Modes} (h : Host I O) (IsWhole : ℕ → List ℕ → Type 0) (part output : List ℕ) (phase : Phase) → is_writing phase ≡ false → (path relative : List ℕ) → path ≡ below output relative → (base : ℕ) → length output + 1 ≤ base
    → (before : FileSystem) (r : Result (Unit {0}) NotMade) (after : FileSystem) → MakesWay (folders_do {F = F} h) modes path base before r after → Steps h IsWhole part output phase before phase after
makes_way {I} {O} {F} h IsWhole part output phase rest path relative is base least = makes_way_in {F = F} h IsWhole part (IsNear output) phase rest path base (leads_near output relative path base is least)
