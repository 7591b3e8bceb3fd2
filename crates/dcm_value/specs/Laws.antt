-- What a value that is fed in any pieces comes to.
use Rattle.std.specs.Prelude.{◌≡◌, ◌≢◌, ◌<◌, ◌≤◌, ◌%◌, ℕ, Some, List, ◌++◌, length, fold}
use Rattle.dcm_base.specs.declared.vr.Vr.{Vr}
use Rattle.dcm_base.specs.declared.syntax.Syntax.{Syntax}
use Rattle.dcm_base.specs.declared.mode.Mode.{Mode}
use Rattle.dcm_base.specs.Tree.Value.{order}
use Rattle.dcm_base.specs.Dump.ValueText.{Shape, text, identifier, text_of, count, shape, shown_unit, shown_so_far}
use Rattle.dcm_base.specs.Dump.ValueText.{display, unpadded}
use Rattle.dcm_base.specs.declared.vr.Vr.TheVariants.{SQ}
use Rattle.dcm_base.specs.Tables.Number.{AreBytes}
use Rattle.dcm_base.specs.Lines.ReadValue.{value_of_text}
use Rattle.dcm_value.specs.Display.{at_once}
use Rattle.dcm_value.specs.Progress.{Progress, started, opened, step, feeds, finishes, multiplicity}

-- after these bytes, in the order of the syntax, and what is written of them
abbrev pub after : Vr → Syntax → ℕ → Mode → List ℕ → Progress
after vr syntax size mode v = fold step (opened (started vr syntax size mode)) v

abbrev pub written : Vr → Syntax → ℕ → Mode → List ℕ → List ℕ
written vr syntax size mode v = feeds (started vr syntax size mode) v

-- two pieces are as one
abbrev pub InPieces : Type 0
InPieces = (p : Progress) (v w : List ℕ)
    → (fold step (opened (fold step (opened p) v)) w ≡ fold step (opened p) (v ++ w))
    × (feeds p v ++ feeds (fold step (opened p) v) w ≡ feeds p (v ++ w))

-- in the end its whole text is written
abbrev pub WholeText : Type 0
WholeText = (vr : Vr) (syntax : Syntax) (mode : Mode) (v : List ℕ) → written vr syntax (length v) mode v
    ++ finishes (after vr syntax (length v) mode v) ≡ text_of mode vr (order syntax vr v)

-- and its values are counted
abbrev pub WholeCount : Type 0
WholeCount = (vr : Vr) (syntax : Syntax) (mode : Mode) (v : List ℕ) → multiplicity (after vr syntax (length v) mode v)
    ≡ count vr (order syntax vr v)

-- while bytes are missing, what is shown so far is written, or in Short nothing
abbrev pub TextSoFar : Type 0
TextSoFar = (vr : Vr) (syntax : Syntax) (size : ℕ) (mode : Mode) (v : List ℕ) → length v < size
    → written vr syntax size mode v ≡ at_once mode (shown_so_far (shape vr) vr size (order syntax vr v))

-- the bytes of a value that its text shows
abbrev pub kept : Shape → Vr → List ℕ → List ℕ
kept text vr v = unpadded vr v
kept identifier vr v = unpadded vr v
kept _ vr v = v

-- the text of a value of whole units is read as it
abbrev pub ReadsBack : Type 0
ReadsBack = (vr : Vr) (v : List ℕ) → vr ≢ SQ → AreBytes v → length v % shown_unit vr ≡ 0
    → length (display vr v) ≤ 16384 → value_of_text vr (display vr v) ≡ Some (kept (shape vr) vr v)
