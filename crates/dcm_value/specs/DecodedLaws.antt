-- What a value that is fed in any pieces comes to, by Specific Character Set.
use Rattle.std.specs.Prelude.{◌≡◌, ◌<◌, ℕ, true, List, ◌++◌, length, fold, IsUtf8}
use Rattle.std.specs.List.{list_all}
use Rattle.dcm_base.specs.declared.vr.Vr.{Vr}
use Rattle.dcm_base.specs.declared.mode.Mode.{Mode}
use Rattle.dcm_base.specs.Dump.ValueText.{shape, unpadded, text_of, count}
use Rattle.dcm_base.specs.Lines.ReadValue.{takes_bytes}
use Rattle.dcm_text.specs.declared.sets.Sets.{Sets}
use Rattle.dcm_text.specs.Laws.{is_byte, is_plain}
use Rattle.dcm_value.specs.Display.{at_once}
use Rattle.dcm_value.specs.DecodedProgress.{DecodedProgress, started, opened, step, feeds, finishes, multiplicity, sets_for}
use Rattle.dcm_value.specs.DecodedDisplay.{decoded_text_of, decoded_count, decoded_so_far}

-- after these bytes, and what is written of them
abbrev pub decoded_after : Vr → Sets → ℕ → Mode → List ℕ → DecodedProgress
decoded_after vr sets size mode v = fold step (opened (started vr sets size mode)) v

abbrev pub decoded_written : Vr → Sets → ℕ → Mode → List ℕ → List ℕ
decoded_written vr sets size mode v = feeds (started vr sets size mode) v

-- two pieces are as one
abbrev pub DecodedInPieces : Type 0
DecodedInPieces = (p : DecodedProgress) (v w : List ℕ)
    → (fold step (opened (fold step (opened p) v)) w ≡ fold step (opened p) (v ++ w))
    × (feeds p v ++ feeds (fold step (opened p) v) w ≡ feeds p (v ++ w))

-- in the end its whole text is written
abbrev pub DecodedWhole : Type 0
DecodedWhole = (vr : Vr) (sets : Sets) (mode : Mode) (v : List ℕ) → decoded_written vr sets (length v) mode v
    ++ finishes (decoded_after vr sets (length v) mode v) ≡ decoded_text_of mode vr sets v

-- and its values are counted
abbrev pub DecodedCounts : Type 0
DecodedCounts = (vr : Vr) (sets : Sets) (mode : Mode) (v : List ℕ)
    → multiplicity (decoded_after vr sets (length v) mode v) ≡ decoded_count vr sets v

-- while bytes are missing, what is decided is written, or in Short nothing
abbrev pub DecodedSoFar : Type 0
DecodedSoFar = (vr : Vr) (sets : Sets) (size : ℕ) (mode : Mode) (v : List ℕ) → length v < size
    → decoded_written vr sets size mode v ≡ at_once mode (decoded_so_far vr sets size v)

-- a text of bytes below 80 that designates nothing is shown and counted as without Specific Character Set, whatever is in
-- force: what designates is an ESC, and that where code extensions are in use
abbrev pub AsBefore : (mode : Mode) (vr : Vr) (sets : Sets) (v : List ℕ) → Type 0
AsBefore mode vr sets v = (decoded_text_of mode vr sets v ≡ text_of mode vr v) × (decoded_count vr sets v ≡ count vr v)

abbrev pub AsciiAsBefore : Type 0
AsciiAsBefore = (mode : Mode) (vr : Vr) (sets : Sets) (v : List ℕ) → takes_bytes (shape vr) ≡ true
    → list_all (is_plain (sets_for vr sets)) v ≡ true → AsBefore mode vr sets v

-- the pad byte may be another one
abbrev pub DecodedAsBefore : Type 0
DecodedAsBefore = (mode : Mode) (vr : Vr) (sets : Sets) (v : List ℕ) → takes_bytes (shape vr) ≡ true
    → list_all (is_plain (sets_for vr sets)) (unpadded vr v) ≡ true → AsBefore mode vr sets v

-- what is shown of bytes is UTF-8, whole, cut or while bytes are missing
abbrev pub DecodedIsUtf8 : Type 0
DecodedIsUtf8 = (mode : Mode) (vr : Vr) (sets : Sets) (v : List ℕ) → list_all is_byte v ≡ true
    → IsUtf8 (decoded_text_of mode vr sets v)

abbrev pub SoFarIsUtf8 : Type 0
SoFarIsUtf8 = (vr : Vr) (sets : Sets) (size : ℕ) (v : List ℕ) → list_all is_byte v ≡ true
    → IsUtf8 (decoded_so_far vr sets size v)
