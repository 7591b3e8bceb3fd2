-- What is done with a file of a tree.
use Rattle.std.specs.Prelude.{◌≡◌, ◌≢◌, ℕ, ◌+◌, length, List, [], ◌∷◌, codes, bytes_eq, map, Bool, true, false, ◌&&◌, ◌||◌}
use Rattle.std.specs.Prelude.{Some, None, Result, Ok, Err, ◌==◌, nat_le, take, drop, if◌then◌else◌}
use Rattle.std.specs.List.{list_all}
use Rattle.std.specs.Str.{byte}
use Rattle.dcm_names.specs.NamedLines.{named_line, unopened_line}
use Rattle.dcm_walk.specs.Names.{is_slash, small}
use Rattle.dcm_walk.specs.Visits.{Named}
use Rattle.dcm_walk.specs.declared.visitor.What.{What}
use Rattle.dcm_walk.specs.declared.visitor.What.TheVariants.{File}
use Rattle.dcm_words.specs.Words.{Job}
use Rattle.dcm_cli.specs.Calls.{Reports}
use Rattle.dcm_trees.specs.declared.fate.Fate.{Fate}
use Rattle.dcm_trees.specs.declared.fate.Fate.TheVariants as fates
use Rattle.dcm_trees.specs.declared.file.Done.{Done}
use Rattle.dcm_trees.specs.declared.part.NoPart.{NoPart}
use Rattle.dcm_trees.specs.declared.progress.Stop.{Stop as RunStop}
use Rattle.dcm_trees.specs.declared.place.Place.{Place}
use Rattle.dcm_trees.specs.declared.task.NoDays.{NoDays}
use Rattle.dcm_trees.specs.Fate.{fate_of, text_of}
use Rattle.dcm_trees.specs.Instance.{DoesUnnamed}
use Rattle.dcm_trees.specs.Lines.{barred_line, place_lines, place_fate, no_days_line, no_days_fate}
pub use Rattle.dcm_trees.specs.Manner.{Manner, manner_of}
use Rattle.dcm_trees.specs.Opening.{OpensFile}
use Rattle.dcm_trees.specs.Part.{MakesPart, TellsNoPart, FillsAndNames}
use Rattle.dcm_trees.specs.Place.{path_in, is_free, Finds}
use Rattle.dcm_trees.specs.Task.{FindsJob}
use Rattle.dcm_trees.specs.World.{World}

-- ---- the index of a medium

abbrev pub is_digit : ℕ → Bool
is_digit b = nat_le (byte "0") b && nat_le b (byte "9")

-- digits, at least one
abbrev pub are_digits : List ℕ → Bool
are_digits [] = false
are_digits (b ∷ bs) = is_digit b && list_all is_digit bs

-- nothing, or a version: a semicolon and digits (ISO 9660, section 7.5.1)
abbrev pub is_version : List ℕ → Bool
is_version [] = true
is_version (b ∷ bs) = (b == byte ";") && are_digits bs

-- which may have the dot of an empty extension before it
abbrev pub is_behind_index : List ℕ → Bool
is_behind_index [] = true
is_behind_index (b ∷ bs) = if b == byte "." then is_version bs else is_version (b ∷ bs)

-- its name as PS3.10 has it, in capitals or not
abbrev pub is_index_name : List ℕ → Bool
is_index_name name = bytes_eq (map small name) (codes "dicomdir")

-- its name, and what a medium may write behind
abbrev pub is_index : List ℕ → Bool
is_index name = nat_le 8 (length name) && (is_index_name (take 8 name) && is_behind_index (drop 8 name))

-- it stands behind a slash, up to the end
abbrev pub ends_in_index : List ℕ → Bool
ends_in_index [] = false
ends_in_index (b ∷ bs) = (is_slash b && is_index bs) || ends_in_index bs

-- it is the last part of a relative name
abbrev pub is_media_index : List ℕ → Bool
is_media_index relative = is_index relative || ends_in_index relative

-- ---- a file whose output has its name

-- a job is done of a file at the name of whose output nothing is: it is opened, then the part is made, and it is done into that
pub data DoesReady {S I O F E : Type 0} (w : World S I O F E) (job : Job) (m : Manner) (n : Named) (mode : ℕ) (path : List ℕ)
    (from : E) (before : S) (r : Result Fate RunStop) (to : E) (after : S) : Type 0 where
  not_opened : OpensFile w.may n.path before None after → Reports w.errors from to (unopened_line n.name)
      → r ≡ Ok fates.Unread → DoesReady w job m n mode path from before r to after
  no_part : (input : _) (cause : NoPart) (opened tried : S) → OpensFile w.may n.path before (Some input) opened
      → MakesPart w.folders m.part mode opened (Err cause) tried → w.may.releases tried input after
      → TellsNoPart w.errors n.name cause from r to → DoesReady w job m n mode path from before r to after
  filled : (input : _) (output : _) (fate : Fate) (opened made : S)
      → OpensFile w.may n.path before (Some input) opened → MakesPart w.folders m.part mode opened (Ok output) made
      → FillsAndNames w job m n.name path input output from made fate to after → r ≡ Ok fate
      → DoesReady w job m n mode path from before r to after

-- nothing is at the name of its output: its job is found, and done
pub data DoesFree {S I O F E : Type 0} (w : World S I O F E) (m : Manner) (n : Named) (mode : ℕ) (path : List ℕ)
    (from : E) (before : S) (r : Result Fate RunStop) (to : E) (after : S) : Type 0 where
  no_days : (cause : NoDays) → FindsJob w.may w.reader m.task n.path before (Err cause) after
      → Reports w.errors from to (no_days_line n.name cause) → r ≡ Ok (no_days_fate cause)
      → DoesFree w m n mode path from before r to after
  has_job : (job : Job) (mid : S) → FindsJob w.may w.reader m.task n.path before (Ok job) mid
      → DoesReady w job m n mode path from mid r to after → DoesFree w m n mode path from before r to after

-- what is at the name of its output is looked at first
pub data DoesPlaced {S I O F E : Type 0} (w : World S I O F E) (m : Manner) (n : Named) (mode : ℕ) (path : List ℕ)
    (from : E) (before : S) (r : Result Fate RunStop) (to : E) (after : S) : Type 0 where
  not_free : (place : Place) → Finds w.folders path (length m.output + 1) before place after → is_free place ≡ false
      → Reports w.errors from to (place_lines n.name place m.continues) → r ≡ Ok (place_fate place m.continues)
      → DoesPlaced w m n mode path from before r to after
  free : (place : Place) (looked : S) → Finds w.folders path (length m.output + 1) before place looked
      → is_free place ≡ true
      → DoesFree w m n mode path from looked r to after → DoesPlaced w m n mode path from before r to after

-- the path of its output is short enough, or not
pub data DoesNamed {S I O F E : Type 0} (w : World S I O F E) (m : Manner) (n : Named) (mode : ℕ) (from : E)
    (before : S) (r : Result Fate RunStop) (to : E) (after : S) : Type 0 where
  too_long : path_in m.output n.relative ≡ None → Reports w.errors from to (barred_line n.name)
      → r ≡ Ok fates.Unwritten → after ≡ before → DoesNamed w m n mode from before r to after
  placed : (path : List ℕ) → path_in m.output n.relative ≡ Some path
      → DoesPlaced w m n mode path from before r to after → DoesNamed w m n mode from before r to after

-- ---- a name

-- what became of a name that gives its output its own
abbrev pub under_its_name : Result Fate RunStop → Result Done RunStop
under_its_name (Ok fate) = Ok (record { fate = fate; instance = None })
under_its_name (Err p) = Err p

-- a regular file: the index of a medium is left out; the output of another has its name, or that of the instance in it
pub data DoesFile {S I O F E : Type 0} (w : World S I O F E) (m : Manner) (n : Named) (mode : ℕ) (from : E) (before : S)
    (r : Result Done RunStop) (to : E) (after : S) : Type 0 where
  an_index : is_media_index n.relative ≡ true
      → Reports w.errors from to (named_line n.name (codes "DICOMDIR is left out"))
      → r ≡ under_its_name (Ok fates.MediaIndex) → after ≡ before → DoesFile w m n mode from before r to after
  keeps_name : (became : Result Fate RunStop) → is_media_index n.relative ≡ false → m.keeps_names ≡ true
      → DoesNamed w m n mode from before became to after → r ≡ under_its_name became
      → DoesFile w m n mode from before r to after
  by_instance : is_media_index n.relative ≡ false → m.keeps_names ≡ false
      → DoesUnnamed w m n mode from before r to after → DoesFile w m n mode from before r to after

-- a name that is not entered
pub data DoesName {S I O F E : Type 0} (w : World S I O F E) (m : Manner) (n : Named) (what : What) (from : E)
    (before : S) (r : Result Done RunStop) (to : E) (after : S) : Type 0 where
  a_file : (mode : ℕ) → what ≡ File mode → DoesFile w m n mode from before r to after
      → DoesName w m n what from before r to after
  no_file : ((mode : ℕ) → what ≢ File mode) → Reports w.errors from to (named_line n.name (text_of what))
      → r ≡ under_its_name (Ok (fate_of what)) → after ≡ before → DoesName w m n what from before r to after
