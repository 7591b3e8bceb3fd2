-- The part: a file that a job is done into before it gets the name of an output.
use Rattle.std.specs.Prelude.{◌≡◌, ◌≢◌, ℕ, ◌+◌, length, List, [], Bool, true, false}
use Rattle.std.specs.Prelude.{Option, Some, None, Result, Ok, Err}
use Rattle.std.specs.IoError.{error_kind}
use Rattle.std.specs.Str.{IsUtf8}
use Rattle.std.specs.declared.io.Error.{Error}
use Rattle.std.specs.declared.io.ErrorKind.TheVariants.{AlreadyExists, OutOfMemory}
use Rattle.dcm_devices.specs.Writing.{Writer}
use Rattle.dcm_files.specs.Devices.{MayDo}
use Rattle.dcm_files.specs.Folders.{FoldersDo}
use Rattle.dcm_files.specs.declared.opened.Opened.{Opened}
use Rattle.dcm_words.specs.Words.{Job}
use Rattle.dcm_cli.specs.declared.ending.Ended.{Ended}
use Rattle.dcm_cli.specs.declared.ending.Ending.{Ending}
use Rattle.dcm_cli.specs.declared.ending.Ending.TheVariants.{Worked, Output}
use Rattle.dcm_cli.specs.declared.ending.Remarks.{Remarks}
use Rattle.dcm_cli.specs.declared.ending.Verdict.TheVariants.{Done}
use Rattle.dcm_cli.specs.Calls.{Reader, Finishes, Reports}
use Rattle.dcm_cli.specs.Run.{RemarkedAs}
use Rattle.dcm_trees.specs.declared.fate.Fate.{Fate}
use Rattle.dcm_trees.specs.declared.fate.Fate.TheVariants as fates
use Rattle.dcm_trees.specs.declared.part.Naming.{Naming}
use Rattle.dcm_trees.specs.declared.part.Naming.TheVariants.{Linked, Moved, NotFree, Failed}
use Rattle.dcm_trees.specs.declared.part.NoPart.{NoPart}
use Rattle.dcm_trees.specs.declared.part.NoPart.TheVariants.{There as PartIsThere, Memory as PartWantsMemory, NotMade as PartNotMade}
use Rattle.dcm_trees.specs.declared.progress.Stop.{Stop as RunStop}
use Rattle.dcm_trees.specs.declared.progress.Stop.TheVariants as stops
use Rattle.dcm_trees.specs.declared.place.NotMade.{NotMade}
use Rattle.dcm_trees.specs.declared.place.Place.{Place}
use Rattle.dcm_trees.specs.Fate.{is_written}
use Rattle.dcm_trees.specs.Lines.{ended_lines, ending_fate, output_line, barred_line, place_lines, place_fate}
use Rattle.dcm_trees.specs.Manner.{Manner}
use Rattle.dcm_trees.specs.Modes.{Modes}
use Rattle.dcm_trees.specs.Place.{is_free, Finds, MakesWay}
use Rattle.dcm_trees.specs.World.{World}

-- ---- devices

-- the part is made, with bits of a mode
pub data MakesPart {S O F : Type 0} (d : FoldersDo S O F) (part : List ℕ) (mode : ℕ) (before : S)
    (r : Result O NoPart) (after : S) : Type 0 where
  no_text : ¬ (IsUtf8 part) → r ≡ Err PartNotMade → after ≡ before → MakesPart d part mode before r after
  made : (o : Opened O) → IsUtf8 part → d.makes_as before part mode (Ok o) after → r ≡ Ok o.device
      → MakesPart d part mode before r after
  is_there : (e : Error) → IsUtf8 part → d.makes_as before part mode (Err e) after → error_kind e ≡ AlreadyExists
      → r ≡ Err PartIsThere → MakesPart d part mode before r after
  no_memory : (e : Error) → IsUtf8 part → d.makes_as before part mode (Err e) after → error_kind e ≡ OutOfMemory
      → r ≡ Err PartWantsMemory → MakesPart d part mode before r after
  not_made : (e : Error) → IsUtf8 part → d.makes_as before part mode (Err e) after → error_kind e ≢ AlreadyExists
      → error_kind e ≢ OutOfMemory → r ≡ Err PartNotMade → MakesPart d part mode before r after

-- the part is removed, or stays where that fails
pub data RemovesPart {S I O : Type 0} (may : MayDo S I O) (part : List ℕ) (before after : S) : Type 0 where
  no_text : ¬ (IsUtf8 part) → after ≡ before → RemovesPart may part before after
  removed : (r : Result (Unit {0}) Error) → IsUtf8 part → may.removes before part r after
      → RemovesPart may part before after

-- how a job ended whose output was then closed: where all was done, and the closing lost bytes, the output failed
abbrev pub after_closing : Ending → Result (Unit {0}) Error → Ending
after_closing (Worked (Done unplaced)) (Err e) = Output
after_closing ending closing = ending

-- a job was done from a file into the part, and both were given back exactly as that left them
pub record Fills {S I O : Type 0} (may : MayDo S I O) (r : Reader I) (w : Writer O) (job : Job) (input : I) (output : O)
    (before : S) (ending : Ending) (after : S) : Type 0 where
  pub left : I
  pub written : O
  pub closed : S
  pub ended : Ending
  pub closing : Result (Unit {0}) Error
  pub finished : Finishes r w job input left output written ended
  pub remarks : Remarks
  pub remarked : RemarkedAs job finished.works.given finished.works.how finished.worked remarks
  pub closes : may.closes before written closing closed
  pub releases : may.releases closed left after
  pub ending_is : ending ≡ after_closing ended closing

-- with what is remarked of the file
pub record FillsOn {S I O : Type 0} (may : MayDo S I O) (r : Reader I) (w : Writer O) (job : Job) (input : I) (output : O)
    (before : S) (ended : Ended) (after : S) : Type 0 where
  pub fills : Fills may r w job input output before ended.ending after
  pub remarks_are : fills.remarks ≡ ended.remarks

-- ---- the name of an output

-- the part is moved to it
pub data MovesPart {S I O : Type 0} (may : MayDo S I O) (part path : List ℕ) (before : S) (naming : Naming) (after : S)
    : Type 0 where
  moved : may.moves before part path (Ok _) after → naming ≡ Moved → MovesPart may part path before naming after
  not_moved : (e : Error) → may.moves before part path (Err e) after → naming ≡ Failed
      → MovesPart may part path before naming after

-- what is there is looked at, and the part is moved where that is nothing
pub data MovesIfFree {S I O F : Type 0} (may : MayDo S I O) (d : FoldersDo S O F) (part path : List ℕ) (base : ℕ)
    (before : S) (naming : Naming) (after : S) : Type 0 where
  not_free : (place : Place) → Finds d path base before place after → is_free place ≡ false → naming ≡ NotFree place
      → MovesIfFree may d part path base before naming after
  free : (place : Place) (looked : S) → Finds d path base before place looked → is_free place ≡ true
      → MovesPart may part path looked naming after → MovesIfFree may d part path base before naming after

-- what was said to be there is looked at
pub data LooksAgain {S O F : Type 0} (d : FoldersDo S O F) (path : List ℕ) (base : ℕ) (before : S) (naming : Naming)
    (after : S) : Type 0 where
  found : (place : Place) → Finds d path base before place after → naming ≡ NotFree place
      → LooksAgain d path base before naming after

-- the part gets a second name; or something has it; or it is moved, where the file system has none
pub data GivesSecondName {S I O F : Type 0} (may : MayDo S I O) (d : FoldersDo S O F) (part path : List ℕ) (base : ℕ)
    (before : S) (naming : Naming) (after : S) : Type 0 where
  no_part_text : ¬ (IsUtf8 part) → naming ≡ Failed → after ≡ before
      → GivesSecondName may d part path base before naming after
  no_text : IsUtf8 part → ¬ (IsUtf8 path) → naming ≡ Failed → after ≡ before
      → GivesSecondName may d part path base before naming after
  linked : IsUtf8 part → IsUtf8 path → d.links before part path (Ok _) after → naming ≡ Linked
      → GivesSecondName may d part path base before naming after
  was_there : (e : Error) (tried : S) → IsUtf8 part → IsUtf8 path → d.links before part path (Err e) tried
      → error_kind e ≡ AlreadyExists → LooksAgain d path base tried naming after
      → GivesSecondName may d part path base before naming after
  not_linked : (e : Error) (tried : S) → IsUtf8 part → IsUtf8 path → d.links before part path (Err e) tried
      → error_kind e ≢ AlreadyExists → MovesIfFree may d part path base tried naming after
      → GivesSecondName may d part path base before naming after

-- the folders on the way are made first
pub data GivesName {S I O F : Type 0} (may : MayDo S I O) (d : FoldersDo S O F) (modes : Modes) (part path : List ℕ)
    (base : ℕ) (before : S) (naming : Naming) (after : S) : Type 0 where
  no_way : (e : NotMade) → MakesWay d modes path base before (Err e) after → naming ≡ Failed
      → GivesName may d modes part path base before naming after
  on_its_way : (has_way : S) → MakesWay d modes path base before (Ok _) has_way
      → GivesSecondName may d part path base has_way naming after
      → GivesName may d modes part path base before naming after

abbrev pub is_moved : Naming → Bool
is_moved Moved = true
is_moved Linked = false
is_moved (NotFree place) = false
is_moved Failed = false

abbrev pub naming_lines : (name : List ℕ) → Naming → (continues : Bool) → List ℕ
naming_lines name Linked continues = []
naming_lines name Moved continues = []
naming_lines name (NotFree place) continues = place_lines name place continues
naming_lines name Failed continues = output_line name

abbrev pub naming_fate : Naming → Fate → (continues : Bool) → Fate
naming_fate Linked fate continues = fate
naming_fate Moved fate continues = fate
naming_fate (NotFree place) fate continues = place_fate place continues
naming_fate Failed fate continues = fates.Unwritten

-- the part is removed, unless it was moved
pub data ClearsPart {S I O : Type 0} (may : MayDo S I O) (naming : Naming) (part : List ℕ) (before after : S)
    : Type 0 where
  moved : is_moved naming ≡ true → after ≡ before → ClearsPart may naming part before after
  removed : is_moved naming ≡ false → RemovesPart may part before after → ClearsPart may naming part before after

-- the output got its name, or not, and that is told; and the part is removed
pub record NamesOutput {S I O F E : Type 0} (may : MayDo S I O) (d : FoldersDo S O F) (e : Writer E) (m : Manner)
    (name path : List ℕ) (fate : Fate) (from : E) (before : S) (became : Fate) (to : E) (after : S) : Type 0 where
  pub naming : Naming
  pub named : S
  pub gives : GivesName may d m.modes m.part path (length m.output + 1) before naming named
  pub clears : ClearsPart may naming m.part named after
  pub told : Reports e from to (naming_lines name naming m.continues)
  pub becomes : became ≡ naming_fate naming fate m.continues

-- ---- a file

-- a job was done of a file into the part: that got the name of the output, where all was done, and was removed
pub data FillsAndNames {S I O F E : Type 0} (w : World S I O F E) (job : Job) (m : Manner) (name path : List ℕ) (input : I)
    (output : O) (from : E) (before : S) (fate : Fate) (to : E) (after : S) : Type 0 where
  not_done : (ending : Ending) (filled : S)
      → (fills : Fills w.may w.reader w.output job input output before ending filled)
      → is_written (ending_fate ending) ≡ false → Reports w.errors from to (ended_lines name ending fills.remarks)
      → RemovesPart w.may m.part filled after → fate ≡ ending_fate ending
      → FillsAndNames w job m name path input output from before fate to after
  has_done : (ending : Ending) (filled : S) (told : E)
      → (fills : Fills w.may w.reader w.output job input output before ending filled)
      → is_written (ending_fate ending) ≡ true → Reports w.errors from told (ended_lines name ending fills.remarks)
      → NamesOutput w.may w.folders w.errors m name path (ending_fate ending) told filled fate to after
      → FillsAndNames w job m name path input output from before fate to after

-- what there is no part for ends the run, where another run's is there, and without memory
abbrev pub stop_of : NoPart → Option RunStop
stop_of PartIsThere = Some stops.PartThere
stop_of PartWantsMemory = Some stops.Memory
stop_of PartNotMade = None

-- there is no part to write to: the run ends by that, or that is told
pub data TellsNoPart {E : Type 0} (e : Writer E) (name : List ℕ) (cause : NoPart) (from : E)
    (r : Result Fate RunStop) (to : E) : Type 0 where
  ends_run : (stop : RunStop) → stop_of cause ≡ Some stop → to ≡ from → r ≡ Err stop → TellsNoPart e name cause from r to
  told : cause ≡ PartNotMade → Reports e from to (barred_line name) → r ≡ Ok fates.Unwritten
      → TellsNoPart e name cause from r to
