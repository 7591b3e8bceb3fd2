-- A reader with another dictionary.
use Rattle.std.specs.Prelude.{◌≡◌, ℕ, List, []}
use Rattle.dcm_base.specs.declared.form.Form.TheVariants.{Sequence as a_sequence}
use Rattle.dcm_base.specs.declared.length.Length.{Length}
use Rattle.dcm_base.specs.declared.dictionary.Dictionary.{Dictionary}
use Rattle.dcm_base.specs.declared.syntax.Syntax.{Syntax}
use Rattle.dcm_base.specs.declared.syntax.Syntax.TheVariants.{Implicit as implicit_in}
use Rattle.dcm_base.specs.declared.tag.Tag.{Tag}
use Rattle.dcm_base.specs.declared.vr.Vr.TheVariants.{SQ}
use Rattle.dcm_base.specs.Reading.Bars.{target_bar}
use Rattle.dcm_base.specs.Tables.Dictionary.{vr_in}
use Rattle.dcm_base.specs.Tree.Front.{Front, front}
use Rattle.dcm_base.specs.Conversion.Normal.{FrontFits}
use Rattle.dcm_base.specs.Reading.Reads.{Reads}
use Rattle.dcm_base.specs.Conversion.Recode.{recode}
use Rattle.dcm_base.specs.Bytes.Spelling.{form, read_as}
use Rattle.dcm_base.specs.Reading.Stop.{Stop}
use Rattle.dcm_base.specs.Tables.Syntax.{read_by}
use Rattle.dcm_base.specs.Tree.Tree.{Trees, no_tree, leaf, sequence, fragments, Items, no_item, item}
use Rattle.dcm_edits.specs.Edit.{Edit, edited}
use Rattle.dcm_base.specs.declared.vr.Vr.{Vr}

-- the dictionary opens the elements of a data set of the syntax as they are: by it no value of an implicit one is a
-- sequence, and each sequence is one (PS3.5 6.2.2); in an explicit one the heads say that themselves, but for an
-- unknown value
abbrev pub OpensAlike : Dictionary → Syntax → Front → Type 0
OpensAlike e s set = FrontFits (read_by e s) set

-- what is written is read by the dictionary, in the same syntax
abbrev pub ReadsBy : Dictionary → List Edit → Syntax → (at : ℕ) → Front → (again : Front) → Stop → Type 0
ReadsBy e edits s at f again stop =
    Reads (target_bar (read_by e s)) (read_by e s) at (recode s (edited edits f)) again stop

-- by the dictionary of a syntax a value is no sequence, or an implicit and empty one, and a sequence of this length is
-- one (PS3.5 6.2.2)
abbrev pub HoldsNothing : Syntax → Tag → Vr → List ℕ → Type 0
HoldsNothing (implicit_in e) t vr v = vr_in e t ≡ SQ → v ≡ []
HoldsNothing s t vr v = read_as s t vr ≡ vr

abbrev pub IsSequence : Syntax → Tag → Length → Type 0
IsSequence (implicit_in e) t declared = form (implicit_in e) (vr_in e t) declared ≡ a_sequence
IsSequence s t declared = Unit {0}

-- so it is with all elements of a data set
abbrev mutual
  pub NothingHidden : Syntax → Trees → Type 0
  NothingHidden s no_tree = Unit {0}
  NothingHidden s (leaf t vr v rest) = HoldsNothing s t vr v × NothingHidden s rest
  NothingHidden s (sequence t vr declared items rest) =
      IsSequence s t declared × NoItemHidden s items × NothingHidden s rest
  NothingHidden s (fragments t vr values rest) = NothingHidden s rest

  pub NoItemHidden : Syntax → Items → Type 0
  NoItemHidden s no_item = Unit {0}
  NoItemHidden s (item declared set rest) = NothingHidden s set × NoItemHidden s rest

-- no value of a data set of the syntax is a sequence by the dictionary that holds something
abbrev pub HidesNothing : Dictionary → Syntax → Front → Type 0
HidesNothing e s (front whole open_tree reached closed) = NothingHidden (read_by e s) whole
