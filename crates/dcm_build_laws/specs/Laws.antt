-- The statements of the laws.
use Rattle.std.specs.Prelude.{◌≡◌, ◌≤◌, ◌++◌, ℕ, List, Some, None, fold}
use Rattle.dcm_base.specs.Lines.Ascending.{Ascend}
use Rattle.dcm_base.specs.Lines.Build.{lines_of}
use Rattle.dcm_base.specs.Lines.Limits.{LINE_LIMIT}
use Rattle.dcm_base.specs.declared.fault.LineStop.{LineStop}
use Rattle.dcm_base.specs.Dump.Dump.{dump_set}
use Rattle.dcm_base.specs.File.MetaReads.{Meta}
use Rattle.dcm_base.specs.Steps.Steps.{outputs}
use Rattle.dcm_base.specs.Tree.Tree.{Trees}
use Rattle.dcm_base.specs.declared.mode.Mode.TheVariants.{Full}
use Rattle.dcm_base.specs.declared.syntax.Coding.{Coding}
use Rattle.dcm_base.specs.declared.dictionary.Dictionary.{Dictionary}
use Rattle.dcm_build.specs.BuildLaws.{Builds, BuiltSoFar, Stays}
use Rattle.dcm_build.specs.Building.{build_start, build_step, build_writes}
use Rattle.dcm_build_laws.specs.DumpBuilds.{BuildsFile, CanBuild, FileRead, FitsLines, WholeUnits, full_dump}
use Rattle.dcm_build_laws.specs.DumpLines.{AllWithin, SetReadsBack, TextMeans, set_steps}

-- over the bytes of an input the state writes what the lines of the input build, and reports their fault
abbrev pub StepsBuild : Type 0
StepsBuild =
    (limit : ℕ) (bytes : List ℕ)
    → Builds limit bytes (fold build_step (build_start limit) bytes)
    (outputs build_step build_writes (build_start limit) bytes)

-- over a beginning of an input without fault it has built what the lines that have ended build
abbrev pub StepsBuildSoFar : Type 0
StepsBuildSoFar =
    (limit : ℕ) (bytes : List ℕ) → (fold build_step (build_start limit) bytes).told ≡ None
    → BuiltSoFar limit bytes (fold build_step (build_start limit) bytes)
    (outputs build_step build_writes (build_start limit) bytes)

-- a fault that was reported stays, whatever follows
abbrev pub FaultStays : Type 0
FaultStays =
    (limit : ℕ) (bytes later : List ℕ) (told : LineStop) → (fold build_step (build_start limit) bytes).told ≡ Some told
    → Stays limit (bytes ++ later) told (outputs build_step build_writes (build_start limit) bytes)

-- the lines of a full dump of a data set mean the steps of what it shows, where none of them is too long
abbrev pub LinesMean : Type 0
LinesMean =
    (d : Dictionary) (level : ℕ) (set : Trees) → SetReadsBack set
    → AllWithin LINE_LIMIT (lines_of (dump_set d Full level set)).ended
    → TextMeans (dump_set d Full level set) (set_steps set)

-- the full dump of a file that is read without fault builds it again, where its values are of whole units, its tags
-- ascend and its lines are short enough
abbrev pub FileBuilds : Type 0
FileBuilds =
    (d : Dictionary) (limit : ℕ) (file : List ℕ) (meta : Meta) (coding : Coding) (set : Trees) → limit ≤ LINE_LIMIT
    → FileRead d file meta coding set → WholeUnits meta.elements → WholeUnits set → Ascend None set
    → FitsLines limit (full_dump d meta.elements set)
    → BuildsFile limit (full_dump d meta.elements set) meta.elements coding set

-- so does the full dump of any trees that can be built
abbrev pub TreesBuild : Type 0
TreesBuild =
    (d : Dictionary) (limit : ℕ) (meta : Trees) (coding : Coding) (set : Trees) → limit ≤ LINE_LIMIT
    → CanBuild meta coding set
    → FitsLines limit (full_dump d meta set) → BuildsFile limit (full_dump d meta set) meta coding set
