-- What two runs make of a file, one after the other: its full dump, and the file that this builds.
use Rattle.std.specs.Prelude.{◌≡◌, ◌≤◌, ℕ, List, [], ◌++◌, drop, replicate, None}
use Rattle.dcm_base.specs.declared.syntax.Coding.{Coding}
use Rattle.dcm_base.specs.declared.mode.Mode.TheVariants.{Full}
use Rattle.dcm_base.specs.Lines.Ascending.{Ascend}
use Rattle.dcm_base.specs.File.MetaReads.{Meta}
use Rattle.dcm_base.specs.Conversion.Normal.{whole_front}
use Rattle.dcm_base.specs.Tables.Number.{AreBytes}
use Rattle.dcm_base.specs.Reading.Stop.{complete}
use Rattle.dcm_base.specs.Tree.Tree.{Trees}
use Rattle.dcm_base.specs.declared.dictionary.Dictionary.{Dictionary}
use Rattle.dcm_build_laws.specs.DumpBuilds.{FitsLines, WholeUnits}
use Rattle.dcm_words.specs.Words.{GREATEST_LIMIT, dump, convert, build}
use Rattle.dcm_cli.specs.Answer.{Answer, Answers, FileReads, file as a_file}
use Rattle.dcm_cli.specs.Status.{DONE}

-- a file that is read by a dictionary without fault, whose values are of whole units, and where the tags of each data
-- set ascend without repeats
pub record CanBeBuilt (d : Dictionary) (file : List ℕ) : Type 0 where
  pub bytes : AreBytes file
  pub meta : Meta
  pub coding : Coding
  pub set : Trees
  pub reads : FileReads (dump d Full None) file (a_file meta coding (whole_front set) complete)
  pub units_of_group : WholeUnits meta.elements
  pub units : WholeUnits set
  pub ascends : Ascend None set

-- a file is built without fault: the one that is converted, with a preamble of zeros
pub record BuildsWhatConverts (built converted : Answer) : Type 0 where
  pub status : built.status ≡ DONE
  pub lines : built.lines ≡ []
  pub output : built.output ≡ replicate 128 0 ++ drop 128 converted.output

-- where no line of its full dump passes the limit, that dump builds what a conversion to the file's own transfer syntax
-- writes
abbrev pub DumpBuilds : Type 0
DumpBuilds =
    (d : Dictionary) (limit : ℕ) (file : List ℕ) (dumped built converted : Answer) → limit ≤ GREATEST_LIMIT
    → CanBeBuilt d file
    → Answers (dump d Full None) file dumped → FitsLines limit dumped.output
    → Answers (build limit) dumped.output built → Answers (convert d None) file converted
    → BuildsWhatConverts built converted
