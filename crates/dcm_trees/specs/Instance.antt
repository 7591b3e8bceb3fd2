-- A file whose output is named by the unique identifiers in it.
use Rattle.std.specs.Prelude.{◌≡◌, ℕ, ◌+◌, length, List, codes, Bool, true, false, Some, None, Result, Ok, Err}
use Rattle.arrayvec.specs.ArrayVec.{ArrayVec}
use Rattle.dcm_files.specs.Devices.{MayDo}
use Rattle.dcm_files.specs.Folders.{FoldersDo}
use Rattle.dcm_instance.specs.declared.names.Instance.{Instance}
use Rattle.dcm_instance.specs.declared.names.InstanceUid.{InstanceUid}
use Rattle.dcm_instance.specs.declared.names.InstanceUid.TheVariants as uids
use Rattle.dcm_instance.specs.declared.names.NoInstance.{NoInstance}
use Rattle.dcm_instance.specs.declared.names.NoInstance.TheVariants.{Unread, Unfit}
use Rattle.dcm_instance.specs.ReadInstance.{ReadsInstance}
use Rattle.dcm_instance.specs.Uids.{instance_name, told, uids_of}
use Rattle.dcm_instance.specs.Same as bytes
use Rattle.dcm_names.specs.NamedLines.{named_line, unopened_line}
use Rattle.dcm_walk.specs.Visits.{Named}
use Rattle.dcm_words.specs.Words.{Job}
use Rattle.dcm_cli.specs.declared.ending.Ending.{Ending}
use Rattle.dcm_cli.specs.Calls.{Reader, Reports}
use Rattle.dcm_devices.specs.Writing.{Writer}
use Rattle.dcm_trees.specs.declared.fate.Fate.{Fate}
use Rattle.dcm_trees.specs.declared.fate.Fate.TheVariants as fates
use Rattle.dcm_trees.specs.declared.file.Done.{Done}
use Rattle.dcm_trees.specs.declared.part.Naming.{Naming}
use Rattle.dcm_trees.specs.declared.part.Naming.TheVariants.{NotFree}
use Rattle.dcm_trees.specs.declared.part.NoPart.{NoPart}
use Rattle.dcm_trees.specs.declared.progress.Stop.{Stop as RunStop}
use Rattle.dcm_trees.specs.declared.place.Place.{Place}
use Rattle.dcm_trees.specs.declared.task.NoDays.{NoDays}
use Rattle.dcm_trees.specs.declared.place.Place.TheVariants.{There}
use Rattle.dcm_trees.specs.Fate.{is_written}
use Rattle.dcm_trees.specs.Lines.{ended_lines, ending_fate, output_line, barred_line, no_days_line, no_days_fate}
use Rattle.dcm_trees.specs.Manner.{Manner}
use Rattle.dcm_trees.specs.Modes.{Modes}
use Rattle.dcm_trees.specs.Opening.{OpensFile}
use Rattle.dcm_trees.specs.Part.{MakesPart, RemovesPart, Fills, GivesName, ClearsPart, naming_lines, naming_fate}
use Rattle.dcm_trees.specs.Part.{TellsNoPart}
use Rattle.dcm_trees.specs.Place.{path_in, is_free, Finds}
use Rattle.dcm_trees.specs.Task.{FindsJob}
use Rattle.dcm_trees.specs.World.{World}

-- what became of a file whose output has no name
abbrev pub without_name : Fate → Done
without_name fate = record { fate = fate; instance = None }

-- the name of an output, of the instance in it
abbrev pub name_of_instance : Instance → List ℕ
name_of_instance instance = instance_name (uids_of instance)

-- ---- the unique identifiers in the part

-- the part is opened, read as far as they stand, and given back
pub data FindsInstance {S I O : Type 0} (may : MayDo S I O) (reader : Reader I) (part : List ℕ) (before : S)
    (r : Result Instance NoInstance) (after : S) : Type 0 where
  not_opened : OpensFile may part before None after → r ≡ Err Unread → FindsInstance may reader part before r after
  was_read : (input left : I) (opened : S) → OpensFile may part before (Some input) opened
      → ReadsInstance reader input left (told r) → may.releases opened left after
      → FindsInstance may reader part before r after

abbrev pub unfit_text : InstanceUid → List ℕ
unfit_text uids.Study = codes "StudyInstanceUID is missing or unfit"
unfit_text uids.Series = codes "SeriesInstanceUID is missing or unfit"
unfit_text uids.Instance = codes "SOPInstanceUID is missing or unfit"

abbrev pub no_instance_line : (name : List ℕ) → NoInstance → List ℕ
no_instance_line name Unread = output_line name
no_instance_line name (Unfit uid) = named_line name (unfit_text uid)

abbrev pub no_instance_fate : NoInstance → Fate
no_instance_fate Unread = fates.Unwritten
no_instance_fate (Unfit uid) = fates.Unnamed

-- ---- what is at the name of an output

abbrev pub is_there : Naming → Bool
is_there (NotFree There) = true
is_there _ = false

-- the bytes of two open files are compared, and both are given back
pub record Compares {S I O : Type 0} (may : MayDo S I O) (reader : Reader I) (first second : I) (before : S)
    (same : Bool) (after : S) : Type 0 where
  pub first_left : I
  pub second_left : I
  pub mid : S
  pub compared : bytes.Compares reader reader first first_left second second_left same
  pub second_back : may.releases before second_left mid
  pub first_back : may.releases mid first_left after

-- the files at two paths are opened and compared; they are not the same where one cannot be opened
pub data ComparesFiles {S I O : Type 0} (may : MayDo S I O) (reader : Reader I) (first second : List ℕ) (before : S)
    (same : Bool) (after : S) : Type 0 where
  no_first : OpensFile may first before None after → same ≡ false
      → ComparesFiles may reader first second before same after
  no_second : (one : I) (mid tried : S) → OpensFile may first before (Some one) mid
      → OpensFile may second mid None tried → may.releases tried one after → same ≡ false
      → ComparesFiles may reader first second before same after
  both : (one other : I) (mid opened : S) → OpensFile may first before (Some one) mid
      → OpensFile may second mid (Some other) opened → Compares may reader one other opened same after
      → ComparesFiles may reader first second before same after

-- where a file is there, it is compared with the part
pub data FindsCopy {S I O : Type 0} (may : MayDo S I O) (reader : Reader I) (naming : Naming) (part path : List ℕ)
    (before : S) (same : Bool) (after : S) : Type 0 where
  not_there : is_there naming ≡ false → same ≡ false → after ≡ before
      → FindsCopy may reader naming part path before same after
  compared : is_there naming ≡ true → ComparesFiles may reader part path before same after
      → FindsCopy may reader naming part path before same after

-- ---- the name of the part

-- what is at the name is looked at, and the part gets it where that is nothing
pub data GivesFreeName {S I O F : Type 0} (may : MayDo S I O) (d : FoldersDo S O F) (modes : Modes)
    (part path : List ℕ) (base : ℕ) (before : S) (naming : Naming) (after : S) : Type 0 where
  not_free : (place : Place) → Finds d path base before place after → is_free place ≡ false → naming ≡ NotFree place
      → GivesFreeName may d modes part path base before naming after
  free : (place : Place) (looked : S) → Finds d path base before place looked → is_free place ≡ true
      → GivesName may d modes part path base looked naming after
      → GivesFreeName may d modes part path base before naming after

-- the part got its name, or not, what is there was compared with it, that is told, and the part is removed
pub record PlacesPart {S I O F E : Type 0} (w : World S I O F E) (m : Manner) (name path : List ℕ) (fate : Fate)
    (from : E) (before : S) (became : Fate) (to : E) (after : S) : Type 0 where
  pub naming : Naming
  pub same : Bool
  pub named : S
  pub compared : S
  pub gives : GivesFreeName w.may w.folders m.modes m.part path (length m.output + 1) before naming named
  pub copy : FindsCopy w.may w.reader naming m.part path named same compared
  pub clears : ClearsPart w.may naming m.part compared after
  pub told : Reports w.errors from to (naming_lines name naming same)
  pub becomes : became ≡ naming_fate naming fate same

-- the part is named by an instance, where the path of that is short enough
pub data NamesBy {S I O F E : Type 0} (w : World S I O F E) (m : Manner) (name : List ℕ) (instance : Instance)
    (fate : Fate) (from : E) (before : S) (done : Done) (to : E) (after : S) : Type 0 where
  too_long : path_in m.output (name_of_instance instance) ≡ None → RemovesPart w.may m.part before after
      → Reports w.errors from to (barred_line name) → done ≡ without_name fates.Unwritten
      → NamesBy w m name instance fate from before done to after
  placed : (path : List ℕ) (became : Fate) (relative : ArrayVec ℕ)
      → path_in m.output (name_of_instance instance) ≡ Some path
      → PlacesPart w m name path fate from before became to after → relative.items ≡ name_of_instance instance
      → done ≡ record { fate = became; instance = Some relative } → NamesBy w m name instance fate from before done to after

-- the instance in the part is read, and names it
pub data NamesPart {S I O F E : Type 0} (w : World S I O F E) (m : Manner) (name : List ℕ) (fate : Fate) (from : E)
    (before : S) (done : Done) (to : E) (after : S) : Type 0 where
  no_instance : (cause : NoInstance) (read : S) → FindsInstance w.may w.reader m.part before (Err cause) read
      → RemovesPart w.may m.part read after → Reports w.errors from to (no_instance_line name cause)
      → done ≡ without_name (no_instance_fate cause) → NamesPart w m name fate from before done to after
  has_instance : (instance : Instance) (read : S) → FindsInstance w.may w.reader m.part before (Ok instance) read
      → NamesBy w m name instance fate from read done to after → NamesPart w m name fate from before done to after

-- ---- a file

-- a job was done of a file into the part: that was named, where all was done, and was removed
pub data FillsByInstance {S I O F E : Type 0} (w : World S I O F E) (job : Job) (m : Manner) (name : List ℕ)
    (input : I) (output : O) (from : E) (before : S) (done : Done) (to : E) (after : S) : Type 0 where
  not_done : (ending : Ending) (filled : S)
      → (fills : Fills w.may w.reader w.output job input output before ending filled)
      → is_written (ending_fate ending) ≡ false → Reports w.errors from to (ended_lines name ending fills.remarks)
      → RemovesPart w.may m.part filled after → done ≡ without_name (ending_fate ending)
      → FillsByInstance w job m name input output from before done to after
  has_done : (ending : Ending) (filled : S) (told : E)
      → (fills : Fills w.may w.reader w.output job input output before ending filled)
      → is_written (ending_fate ending) ≡ true → Reports w.errors from told (ended_lines name ending fills.remarks)
      → NamesPart w m name (ending_fate ending) told filled done to after
      → FillsByInstance w job m name input output from before done to after

abbrev pub unnamed : Result Fate RunStop → Result Done RunStop
unnamed (Ok fate) = Ok (without_name fate)
unnamed (Err p) = Err p

-- there is no part to write to
pub data EndsWithoutPart {E : Type 0} (e : Writer E) (name : List ℕ) (cause : NoPart) (from : E)
    (r : Result Done RunStop) (to : E) : Type 0 where
  ended : (became : Result Fate RunStop) → TellsNoPart e name cause from became to → r ≡ unnamed became
      → EndsWithoutPart e name cause from r to

-- the file is opened, then the part is made, and the job is done into that
pub data DoesByInstance {S I O F E : Type 0} (w : World S I O F E) (job : Job) (m : Manner) (n : Named) (mode : ℕ)
    (from : E) (before : S) (r : Result Done RunStop) (to : E) (after : S) : Type 0 where
  not_opened : OpensFile w.may n.path before None after → Reports w.errors from to (unopened_line n.name)
      → r ≡ Ok (without_name fates.Unread) → DoesByInstance w job m n mode from before r to after
  no_part : (input : _) (cause : NoPart) (opened tried : S) → OpensFile w.may n.path before (Some input) opened
      → MakesPart w.folders m.part mode opened (Err cause) tried → w.may.releases tried input after
      → EndsWithoutPart w.errors n.name cause from r to → DoesByInstance w job m n mode from before r to after
  filled : (input : _) (output : _) (done : Done) (opened made : S)
      → OpensFile w.may n.path before (Some input) opened → MakesPart w.folders m.part mode opened (Ok output) made
      → FillsByInstance w job m n.name input output from made done to after → r ≡ Ok done
      → DoesByInstance w job m n mode from before r to after

-- its job is found, and done
pub data DoesUnnamed {S I O F E : Type 0} (w : World S I O F E) (m : Manner) (n : Named) (mode : ℕ) (from : E)
    (before : S) (r : Result Done RunStop) (to : E) (after : S) : Type 0 where
  no_days : (cause : NoDays) → FindsJob w.may w.reader m.task n.path before (Err cause) after
      → Reports w.errors from to (no_days_line n.name cause) → r ≡ Ok (without_name (no_days_fate cause))
      → DoesUnnamed w m n mode from before r to after
  has_job : (job : Job) (mid : S) → FindsJob w.may w.reader m.task n.path before (Ok job) mid
      → DoesByInstance w job m n mode from mid r to after → DoesUnnamed w m n mode from before r to after
