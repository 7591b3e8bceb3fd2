-- Explicit data sets that say of themselves what they hold (PS3.5 6.2.2).
use Rattle.std.specs.Prelude.{◌≡◌, ◌⊎◌, ℕ, true}
use Rattle.dcm_base.specs.declared.dictionary.Dictionary.{Dictionary}
use Rattle.dcm_base.specs.declared.fault.Fault.TheVariants.{NotAscending, TooDeep}
use Rattle.dcm_base.specs.declared.vr.Vr.TheVariants.{SQ}
use Rattle.dcm_base.specs.Bytes.Spelling.{read_in}
use Rattle.dcm_base.specs.Conversion.Recode.{is_explicit}
use Rattle.dcm_base.specs.Reading.Stop.{Stop, refused}
use Rattle.dcm_base.specs.Tree.Front.{Front, front, OpenTree, nothing_open, open_leaf, open_sequence, open_fragments}
use Rattle.dcm_base.specs.Tree.Front.{OpenItem, no_open_item, open_item}
use Rattle.dcm_base.specs.Tree.Tree.{Trees, no_tree, leaf, sequence, fragments, Items, no_item, item}
use Rattle.dcm_cli.specs.Answer.{Answer, Source, alone, file, reading_line, unopened}

-- by the dictionary no unknown value is a sequence, and no sequence is unknown
unfoldable mutual
  pub SaysItself : Dictionary → Trees → Type 0
  SaysItself e no_tree = Unit {0}
  SaysItself e (leaf t vr v rest) = (read_in e t vr ≡ vr) × SaysItself e rest
  SaysItself e (sequence t vr size items rest) = (vr ≡ SQ) × ItemsSay e items × SaysItself e rest
  SaysItself e (fragments t vr values rest) = SaysItself e rest

  pub ItemsSay : Dictionary → Items → Type 0
  ItemsSay e no_item = Unit {0}
  ItemsSay e (item size set rest) = SaysItself e set × ItemsSay e rest

-- so it is with a data set as far as it was read; of a head that was not read nothing is asked
unfoldable mutual
  pub FrontSays : Dictionary → Front → Type 0
  FrontSays e (front whole last reached closed) = SaysItself e whole × OpenSays e last

  pub OpenSays : Dictionary → OpenTree → Type 0
  OpenSays e nothing_open = Unit {0}
  OpenSays e (open_leaf t vr size v) = read_in e t vr ≡ vr
  OpenSays e (open_sequence t vr size items last) = (vr ≡ SQ) × ItemsSay e items × OpenItemSays e last
  OpenSays e (open_fragments t vr values last) = Unit {0}

  pub OpenItemSays : Dictionary → OpenItem → Type 0
  OpenItemSays e no_open_item = Unit {0}
  OpenItemSays e (open_item size set) = FrontSays e set

-- an input is refused before its data set, or that is explicit and says of itself what it holds
abbrev pub SourceSays : Dictionary → Source → Type 0
SourceSays e (unopened fault offset) = Unit {0}
SourceSays e (file m coding set stop) = (is_explicit coding.syntax ≡ true) × FrontSays e set
SourceSays e (alone syntax set stop) = (is_explicit syntax ≡ true) × FrontSays e set

-- a head that is unknown, does not ascend, and is in 64 open sequences, where the dictionary calls its tag a sequence:
-- the extract refuses it as it does not ascend, and the dictionary as it is too deep, which is asked first
abbrev pub IsTooDeep : (stop other : Stop) → Type 0
IsTooDeep stop other = (offset : ℕ) × (stop ≡ refused NotAscending offset) × (other ≡ refused TooDeep offset)

-- the same stop, but for such a head
abbrev pub StopsSo : (stop other : Stop) → Type 0
StopsSo stop other = (other ≡ stop) ⊎ IsTooDeep stop other

-- the same lines, but for such a head
abbrev pub LinesSo : (a b : Answer) → Type 0
LinesSo a b =
    (b.lines ≡ a.lines)
    ⊎ ((offset : ℕ) × (a.lines ≡ reading_line NotAscending offset) × (b.lines ≡ reading_line TooDeep offset))
