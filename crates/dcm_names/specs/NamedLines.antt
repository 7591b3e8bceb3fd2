-- The lines on standard error that name a file.
use Rattle.std.specs.Prelude.{ℕ, zero, suc, List, [], ◌∷◌, ◌++◌, Bool, true, false, codes, decimal}
use Rattle.dcm_base.specs.declared.fault.Stop.{Stop}
use Rattle.dcm_base.specs.declared.tag.Tag.{Tag}
use Rattle.dcm_base.specs.Tables.Fault.{fault_number, fault_text}
use Rattle.dcm_base.specs.Dump.ValueText.{tag_text}
use Rattle.dcm_files.specs.declared.opened.Unopened.{Unopened}
use Rattle.dcm_files.specs.declared.opened.Unopened.TheVariants.{Same}
use Rattle.dcm_names.specs.Names.{shown_name}

-- a line: the name of the program, that of the file, a text and a newline
abbrev pub named_line : (name text : List ℕ) → List ℕ
named_line name text = codes "dcmtools: " ++ shown_name name ++ codes ": " ++ text ++ 10 ∷ []

-- a line that names no file: a refusal by its number, where it is, and its words
abbrev pub refusal_line : (number place text : List ℕ) → List ℕ
refusal_line number place text = codes "dcmtools: " ++ number ++ place ++ codes ": " ++ text ++ 10 ∷ []

-- the file cannot be opened
abbrev pub unopened_line : List ℕ → List ℕ
unopened_line name = named_line name (codes "input cannot be opened")

-- it is the output; or it may be, since the system does not say what it is, and the output holds bytes
abbrev pub clash_text : Unopened → List ℕ
clash_text Same = codes "output is the input"
clash_text _ = codes "output cannot be opened"

abbrev pub clash_line : List ℕ → Unopened → List ℕ
clash_line name cause = named_line name (clash_text cause)

-- reading it failed after so many bytes
abbrev pub unread_line : List ℕ → ℕ → List ℕ
unread_line name read = named_line name (codes "reading failed after " ++ decimal read ++ codes " bytes")

-- a fault of it
abbrev pub fault_line : List ℕ → Stop → List ℕ
fault_line name stop =
    named_line name (fault_number stop.fault ++ codes " at byte " ++ decimal stop.at ++ codes ": "
    ++ fault_text stop.fault)

-- a value of it is too long for a cell
abbrev pub too_long_line : List ℕ → Tag → List ℕ
too_long_line name t =
    named_line name (codes "value of " ++ tag_text t.group t.element ++ codes " is longer than 16384 bytes")

-- an edit, counted from 1, found no place in it
abbrev pub unplaced_line : List ℕ → ℕ → List ℕ
unplaced_line name edit = named_line name (codes "edit " ++ decimal edit ++ codes " found no place")

-- dates of it that were moved have nothing left
abbrev pub emptied_line : List ℕ → ℕ → List ℕ
emptied_line name count = named_line name (decimal count ++ codes " dates are emptied")

abbrev pub emptied_lines : List ℕ → (count : ℕ) → List ℕ
emptied_lines name zero = []
emptied_lines name (suc n) = emptied_line name (suc n)

-- its PatientID names nobody, of whom a pseudonym could be made
abbrev pub nobody_line : List ℕ → List ℕ
nobody_line name = named_line name (codes "no pseudonym: PatientID names nobody")

abbrev pub nobody_lines : List ℕ → (unnamed : Bool) → List ℕ
nobody_lines name true = nobody_line name
nobody_lines name false = []

-- a value of Specific Character Set in it names what is not known
abbrev pub unknown_line : List ℕ → List ℕ
unknown_line name = named_line name (codes "character set is not known")

abbrev pub unknown_lines : List ℕ → Bool → List ℕ
unknown_lines name true = unknown_line name
unknown_lines name false = []
