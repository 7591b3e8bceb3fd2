-- What is built of a full dump.
use Rattle.std.specs.Prelude.{◌≡◌, ◌≤◌, ◌+◌, ◌%◌, ℕ, List, ◌++◌, length, drop, replicate, Some, None}
use Rattle.dcm_base.specs.declared.syntax.Coding.{Coding}
use Rattle.dcm_base.specs.declared.mode.Mode.TheVariants.{Full}
use Rattle.dcm_base.specs.Tables.Syntax.{Little, read_by}
use Rattle.dcm_base.specs.Lines.Ascending.{Ascend}
use Rattle.dcm_base.specs.Dump.Dump.{dump_set}
use Rattle.dcm_base.specs.Dump.Header.{meta_header, set_header}
use Rattle.dcm_base.specs.File.MetaGroup.{META_LIMIT, AreMeta}
use Rattle.dcm_base.specs.Reading.Bars.{no_bar}
use Rattle.dcm_base.specs.File.MetaReads.{PREFIX, Meta, MetaReads, begins}
use Rattle.dcm_base.specs.Conversion.Normal.{whole_front}
use Rattle.dcm_base.specs.Reading.Stop.{complete}
use Rattle.dcm_base.specs.Dump.ValueText.{shown_unit}
use Rattle.dcm_base.specs.Conversion.NewMeta.{new_meta}
use Rattle.dcm_base.specs.Tables.Number.{AreBytes}
use Rattle.dcm_base.specs.Reading.Reads.{INPUT_LIMIT, Reads}
use Rattle.dcm_base.specs.Conversion.Recode.{recode_set}
use Rattle.dcm_base.specs.Reading.Size.{trees_size}
use Rattle.dcm_base.specs.Tree.Tree.{Trees, no_tree, leaf, sequence, fragments, Items, no_item, item}
use Rattle.dcm_base.specs.Lines.Build.{built, built_bytes, lines_of, named_coding, named_syntax}
use Rattle.dcm_base.specs.declared.dictionary.Dictionary.{Dictionary}
use Rattle.dcm_build_laws.specs.DumpLines.{AllWithin, SetReadsBack}
use Rattle.dcm_build_laws.specs.StepsBuild.{MayStand}

-- the full dump, by a dictionary, of a file with these elements in its meta group and in its data set
abbrev pub full_dump : Dictionary → Trees → Trees → List ℕ
full_dump d meta set = meta_header d Full meta ++ set_header (named_syntax meta) ++ dump_set d Full 0 set

-- a file whose full dump builds it again, where none of its lines is too long: the group names a coding, values are
-- of whole units, and the tags of each data set ascend
pub record CanBuild (meta : Trees) (coding : Coding) (set : Trees) : Type 0 where
  pub group : AreMeta meta
  pub size : trees_size Little meta ≤ META_LIMIT
  pub group_reads : SetReadsBack meta
  pub named : named_coding meta ≡ Some coding
  pub syntax : AreBytes (named_syntax meta)
  pub reads : SetReadsBack set
  pub ascends : Ascend None set
  pub stands : MayStand coding 0 set

-- no line passes the limit, and there are no more bytes than are read of an input; a newline ends each line of a dump,
-- the last too
pub record FitsLines (limit : ℕ) (text : List ℕ) : Type 0 where
  pub lines : AllWithin limit (lines_of text).ended
  pub size : length text ≤ INPUT_LIMIT

-- a file is read by a dictionary: its meta group, which names a coding, and these elements in its data set, without
-- fault
pub record FileRead (d : Dictionary) (file : List ℕ) (meta : Meta) (coding : Coding) (set : Trees) : Type 0 where
  pub bytes : AreBytes file
  pub group : List ℕ
  pub head : MetaReads file (begins meta group coding)
  pub reads : Reads no_bar (read_by d coding.syntax) (132 + length group) (drop (132 + length group) file)
      (whole_front set) complete

-- each value is of whole units, an attribute tag of four bytes; a fragment is of bytes
unfoldable mutual
  pub WholeUnits : Trees → Type 0
  WholeUnits no_tree = Unit {0}
  WholeUnits (leaf tag vr value rest) = (length value % shown_unit vr ≡ 0) × WholeUnits rest
  WholeUnits (sequence tag vr declared items rest) = ItemsOfWholeUnits items × WholeUnits rest
  WholeUnits (fragments tag vr values rest) = WholeUnits rest

  pub ItemsOfWholeUnits : Items → Type 0
  ItemsOfWholeUnits no_item = Unit {0}
  ItemsOfWholeUnits (item declared set rest) = WholeUnits set × ItemsOfWholeUnits rest

-- a text builds the file with these elements, in its own transfer syntax, after a preamble of zeros
pub record BuildsFile (limit : ℕ) (text : List ℕ) (meta : Trees) (coding : Coding) (set : Trees) : Type 0 where
  pub no_fault : (built limit text).told ≡ None
  pub file : built_bytes (built limit text).built ≡ replicate 128 0 ++ PREFIX ++ new_meta meta (named_syntax meta)
      ++ recode_set coding.syntax set
