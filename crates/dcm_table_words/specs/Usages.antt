-- How a refusal of words is reported.
use Rattle.std.specs.Prelude.{ℕ, List, [], ◌++◌, codes, decimal}
use Rattle.dcm_base.specs.Tables.Fault.{word_fault_number, word_fault_text, edit_refusal_number, edit_refusal_text}
use Rattle.dcm_base.specs.declared.fault.WordFault.TheVariants as faults
use Rattle.dcm_names.specs.NamedLines.{refusal_line}
use Rattle.dcm_table_words.specs.declared.usage.TableUsage.{TableUsage}
use Rattle.dcm_table_words.specs.declared.usage.TableUsage.TheVariants.{AtWord, InColumn, NumberOfColumns, WrongPaths}
use Rattle.dcm_table_words.specs.declared.usage.TableUsage.TheVariants.{StandardTwice}

-- its number
abbrev pub usage_number : TableUsage → List ℕ
usage_number (AtWord fault n) = word_fault_number fault
usage_number (InColumn refusal n) = edit_refusal_number refusal
usage_number NumberOfColumns = codes "V8"
usage_number WrongPaths = word_fault_number faults.WrongPaths
usage_number StandardTwice = codes "V9"

-- its words
abbrev pub usage_text : TableUsage → List ℕ
usage_text (AtWord fault n) = word_fault_text fault
usage_text (InColumn refusal n) = edit_refusal_text refusal
usage_text NumberOfColumns = codes "not 1 to 64 columns"
usage_text WrongPaths = word_fault_text faults.WrongPaths
usage_text StandardTwice = codes "standard input is named twice"

-- where it is
abbrev pub usage_place : TableUsage → List ℕ
usage_place (AtWord fault n) = codes " at word " ++ decimal n
usage_place (InColumn refusal n) = codes " in column " ++ decimal n
usage_place _ = []

-- the line that reports it
abbrev pub usage_line : TableUsage → List ℕ
usage_line u = refusal_line (usage_number u) (usage_place u) (usage_text u)
