-- The lines on standard error.
use Rattle.std.specs.Prelude.{◌≡◌, ◌⊎◌, ℕ, zero, suc, ◌/◌, ◌%◌, ◌==◌, List, [], ◌∷◌, ◌++◌, codes, decimal, Bool, true}
use Rattle.std.specs.Prelude.{false, Option, flat_map, if◌then◌else◌}
use Rattle.std.specs.Io.KnownBytes.{append_known}
use Rattle.std.specs.Borrow.{Bor}
use Rattle.dcm_base.specs.declared.fault.Stop.{Stop}
use Rattle.dcm_devices.specs.Device.{AppendsFront}
use Rattle.dcm_base.specs.Tables.Fault.{fault_number, fault_text, edit_refusal_number, edit_refusal_text}
use Rattle.dcm_base.specs.Tables.Fault.{word_fault_number, word_fault_text}
use Rattle.dcm_words.specs.declared.usage.Usage.{Usage}
use Rattle.dcm_words.specs.declared.usage.Usage.TheVariants.{AtWord, Whole, InEdit, InElement, TooManyElements}
use Rattle.dcm_words.specs.declared.usage.Usage.TheVariants.{Memory}
use Rattle.dcm_cli.specs.Change.{Change}
use Rattle.dcm_cli.specs.Status.{MEMORY, USAGE}

-- lines were written, or the writer failed in the call and has a beginning of them
abbrev pub Tries : (before after : Option (List ℕ)) → (failed_before failed_after : Bool) → (lines : List ℕ) → Type 0
Tries before after failed_before failed_after lines =
    ((after ≡ append_known before lines) × (failed_after ≡ failed_before))
    ⊎ (AppendsFront before after lines × (failed_after ≡ true))

-- the same of a writer that was changed so
abbrev pub Reports : Change → (lines : List ℕ) → Type 0
Reports c lines = Tries c.before c.after c.failed_before c.failed_after lines

-- the most bytes of a line
abbrev pub LONGEST : ℕ
LONGEST = 192

-- parts of a line, one after the other
abbrev pub joined : List (Bor (List ℕ)) → List ℕ
joined parts = flat_map (λ part. part.now) parts

-- a line: the name of the program, a text and a newline
abbrev pub error_line : List ℕ → List ℕ
error_line text = codes "dcmtools: " ++ text ++ 10 ∷ []

-- a refusal by its number, where it is, and its words
abbrev pub refusal_line : (number place text : List ℕ) → List ℕ
refusal_line number place text = error_line (number ++ place ++ codes ": " ++ text)

-- words that are refused
abbrev pub usage_line : Usage → List ℕ
usage_line (AtWord refusal word) =
    error_line (word_fault_number refusal ++ codes " at word " ++ decimal word ++ codes ": " ++ word_fault_text refusal)
usage_line (Whole refusal) = error_line (word_fault_number refusal ++ codes ": " ++ word_fault_text refusal)
usage_line (InEdit refusal edit) =
    error_line (edit_refusal_number refusal ++ codes " in edit " ++ decimal edit ++ codes ": "
    ++ edit_refusal_text refusal)
usage_line (InElement refusal element) =
    error_line (edit_refusal_number refusal ++ codes " in element " ++ decimal element ++ codes ": "
    ++ edit_refusal_text refusal)
usage_line TooManyElements = error_line (codes "V12: more than 64 elements")
usage_line Memory = error_line (codes "out of memory")

-- the status of words that are refused
abbrev pub usage_status : Usage → ℕ
usage_status Memory = MEMORY
usage_status _ = USAGE

-- the input cannot be opened, or the output
abbrev pub open_line : Bool → List ℕ
open_line false = error_line (codes "input cannot be opened")
open_line true = error_line (codes "output cannot be opened")

-- the input is to be read twice, and is no regular file
abbrev pub irregular_line : List ℕ
irregular_line = error_line (codes "input is no regular file")

-- the output is the input
abbrev pub same_line : List ℕ
same_line = error_line (codes "output is the input")

-- the output holds bytes, and is not to be overwritten
abbrev pub there_line : List ℕ
there_line = error_line (codes "output is there already")

-- what is written until the output is whole is there
abbrev pub part_line : List ℕ
part_line = error_line (codes "output part is there: another run is at work, or was cut off")

-- a fault of the input
abbrev pub fault_line : Stop → List ℕ
fault_line stop = error_line (fault_number stop.fault ++ codes " at byte " ++ decimal stop.at ++ codes ": "
    ++ fault_text stop.fault)

-- reading failed after so many bytes
abbrev pub unread_line : ℕ → List ℕ
unread_line read = error_line (codes "reading failed after " ++ decimal read ++ codes " bytes")

-- the output failed
abbrev pub output_line : List ℕ
output_line = error_line (codes "output failed")

-- a value that was written says that pixels show identity
abbrev pub pixels_line : List ℕ
pixels_line = error_line (codes "pixels may show identity")

-- dates that were moved have nothing left
abbrev pub emptied_line : ℕ → List ℕ
emptied_line count = error_line (decimal count ++ codes " dates are emptied")

abbrev pub emptied_lines : (count : ℕ) → List ℕ
emptied_lines zero = []
emptied_lines (suc n) = emptied_line (suc n)

-- PatientID names nobody, of whom a pseudonym could be made
abbrev pub nobody_line : List ℕ
nobody_line = error_line (codes "no pseudonym: PatientID names nobody")

abbrev pub nobody_lines : (unnamed : Bool) → List ℕ
nobody_lines true = nobody_line
nobody_lines false = []

-- a value of Specific Character Set names what is not known
abbrev pub unknown_line : List ℕ
unknown_line = error_line (codes "character set is not known")

abbrev pub unknown_lines : (unknown : Bool) → List ℕ
unknown_lines false = []
unknown_lines true = unknown_line

-- the key cannot be opened, or cannot be read
abbrev pub key_line : (was_opened : Bool) → List ℕ
key_line false = error_line (codes "key cannot be opened")
key_line true = error_line (codes "reading the key failed")

-- an edit found no place; it is counted from 1
abbrev pub unplaced_line : ℕ → List ℕ
unplaced_line n = error_line (codes "edit " ++ decimal n ++ codes " found no place")

-- the line of edit n, where it found none
abbrev pub line_where : Bool → ℕ → List ℕ
line_where unplaced n = if unplaced then unplaced_line n else []

-- a line for each edit that found none, of so many from edit n on: bit 0 of the mask is set for edit n
unfoldable pub mask_lines : (count n mask : ℕ) → List ℕ
mask_lines zero n mask = []
mask_lines (suc count) n mask = line_where (mask % 2 == 1) n ++ mask_lines count (suc n) (mask / 2)
