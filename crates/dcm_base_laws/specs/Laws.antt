-- The statements of the laws.
use Rattle.std.specs.Prelude.{◌≡◌, ◌≢◌, ◌≤◌, ◌%◌, ℕ, List, codes, length, true, false, Some}
use Rattle.dcm_base.specs.Tree.Front.{Front}
use Rattle.dcm_base.specs.Reading.Stop.{Bar, Stop}
use Rattle.dcm_base.specs.Reading.Reads.{Reads}
use Rattle.dcm_base.specs.Conversion.Normal.{FrontFits, FrontStays}
use Rattle.dcm_base.specs.Conversion.Recode.{is_explicit}
use Rattle.dcm_base.specs.Tables.Number.{AreBytes, HasLength, IsLength, IsTag}
use Rattle.dcm_base.specs.Tables.Representation.{is_sequence, letters}
use Rattle.dcm_base.specs.Dump.Dump.{line, leaf_line, fragment_line, sequence_line}
use Rattle.dcm_base.specs.Lines.Line.{LineMeans, one, show_leaf, begin_sequence, begin_fragments, show_fragment}
use Rattle.dcm_base.specs.Lines.Line.{may_be_sequence, may_be_fragments}
use Rattle.dcm_base.specs.declared.length.Length.{Length}
use Rattle.dcm_base.specs.declared.length.Length.TheVariants.{Undefined}
use Rattle.dcm_base.specs.declared.mode.Mode.TheVariants.{Full}
use Rattle.dcm_base.specs.declared.tag.Tag.{Tag}
use Rattle.dcm_base.specs.declared.vr.Vr.TheVariants.{OB}
use Rattle.dcm_base.specs.Lines.ReadValue.{value_shown}
use Rattle.dcm_base.specs.Dump.ValueText.{display, shown_unit}
use Rattle.dcm_base.specs.declared.vr.Vr.{Vr}
use Rattle.dcm_base.specs.declared.syntax.Syntax.{Syntax}
use Rattle.dcm_base.specs.declared.syntax.Syntax.TheVariants.{Implicit as implicit_in}
use Rattle.dcm_base.specs.declared.dictionary.Dictionary.{Dictionary}
use Rattle.dcm_base.specs.Tables.Syntax.{dictionary_of}

-- the full line of a value means that value
abbrev pub LeafLinesMean : Type 0
LeafLinesMean =
    (d : Dictionary) (level : ℕ) (tag : Tag) (vr : Vr) (v : List ℕ) → IsTag tag → tag.group ≢ 0xFFFE
    → is_sequence vr ≡ false → AreBytes v
    → IsLength (length v) → length v % shown_unit vr ≡ 0 → length (display vr v) ≤ 16384
    → LineMeans (leaf_line d Full level tag vr v) (one (show_leaf tag vr (Some (value_shown vr v))))

-- the full line of a fragment means that fragment
abbrev pub FragmentLinesMean : Type 0
FragmentLinesMean =
    (d : Dictionary) (level : ℕ) (v : List ℕ) → AreBytes v → IsLength (length v) → length (display OB v) ≤ 16384
    → LineMeans (fragment_line d Full level v) (one (show_fragment (Some v)))

-- the line of a sequence means that it begins
abbrev pub SequenceLinesMean : Type 0
SequenceLinesMean =
    (d : Dictionary) (level : ℕ) (tag : Tag) (vr : Vr) (size : Length) → HasLength size → IsTag tag → tag.group ≢ 0xFFFE
    → may_be_sequence vr ≡ true → LineMeans (sequence_line d level tag vr size) (one (begin_sequence tag vr))

-- the line of a fragment list means that it begins
abbrev pub FragmentListLinesMean : Type 0
FragmentListLinesMean =
    (d : Dictionary) (level : ℕ) (tag : Tag) (vr : Vr) → IsTag tag → tag.group ≢ 0xFFFE → may_be_fragments vr ≡ true
    → LineMeans (line d level tag (letters vr) (codes "(PixelSequence)") Undefined 1) (one (begin_fragments tag vr))

-- what was read of an implicit data set fits each target with the same dictionary
abbrev pub ImplicitFits : Type 0
ImplicitFits =
    (d : Dictionary) (target : Syntax) (bar : Bar) (start : ℕ) (bytes : List ℕ) (f : Front) (stop : Stop)
    → dictionary_of target ≡ d
    → Reads bar (implicit_in d) start bytes f stop → FrontFits target f

-- what was read of a data set fits each explicit target with the same dictionary, but for values that are too long
abbrev pub ExplicitFits : Type 0
ExplicitFits =
    (source target : Syntax) (bar : Bar) (start : ℕ) (bytes : List ℕ) (f : Front) (stop : Stop)
    → is_explicit target ≡ true → dictionary_of target ≡ dictionary_of source → FrontStays target f
    → Reads bar source start bytes f stop → FrontFits target f
