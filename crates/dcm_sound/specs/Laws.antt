-- The statements of the laws.
use Rattle.std.specs.Prelude.{◌≡◌, ◌≤◌, ℕ, suc, List, [], ◌∷◌, ◌++◌, length, Option, None, Some, ◌||◌, if◌then◌else◌}
use Rattle.std.specs.Prelude.{replicate}
use Rattle.dcm_base.specs.declared.dictionary.Dictionary.{Dictionary}
use Rattle.dcm_base.specs.declared.mode.Mode.{Mode}
use Rattle.dcm_base.specs.declared.mode.Mode.TheVariants.{Full}
use Rattle.dcm_base.specs.declared.syntax.Coding.{Coding}
use Rattle.dcm_base.specs.declared.syntax.Syntax.{Syntax}
use Rattle.dcm_base.specs.Tree.Tree.{Trees}
use Rattle.dcm_base.specs.Tables.Number.{AreBytes}
use Rattle.dcm_base.specs.Tables.Syntax.{read_by}
use Rattle.dcm_base.specs.Bytes.Spelling.{Spells}
use Rattle.dcm_base.specs.Lines.Ascending.{Ascend}
use Rattle.dcm_base.specs.Reading.Reads.{INPUT_LIMIT}
use Rattle.dcm_base.specs.Conversion.NewMeta.{new_meta}
use Rattle.dcm_base.specs.Conversion.Recode.{recode_set}
use Rattle.dcm_base.specs.File.MetaReads.{Meta, PREFIX}
use Rattle.dcm_base.specs.Dump.Header.{set_header, meta_header}
use Rattle.dcm_base.specs.Dump.Dump.{dump_set}
use Rattle.dcm_edits.specs.Edit.{Edit, edited_sets, element_of, found_in, has_place_in}
use Rattle.dcm_build_laws.specs.DumpBuilds.{FitsLines, WholeUnits}
use Rattle.dcm_words.specs.Words.{GREATEST_LIMIT, build, convert, dump, modify}
use Rattle.dcm_cli.specs.Answer.{Answer, Answers, status_of_lines, target_syntax, target_uid}
use Rattle.dcm_head.specs.SyntaxUids.{uid_of_syntax}
use Rattle.dcm_cli.specs.ErrorLines.{unplaced_line}
use Rattle.dcm_cli.specs.Status.{DONE}
use Rattle.dcm_sound.specs.Sound.{CanBecome, IsDataSet, IsSound}

-- all was done, and there is nothing to report
abbrev pub all_done : List ℕ → Answer
all_done output = record { output = output; lines = []; status = DONE }

-- the dump of a file with these meta elements and this data set
abbrev pub file_dump : Dictionary → Mode → Meta → Trees → List ℕ
file_dump d mode m set = meta_header d mode m.elements ++ set_header m.uid ++ dump_set d mode 0 set

-- the dump of a sound file
abbrev pub DumpsSound : Type 0
DumpsSound =
    (d : Dictionary) (mode : Mode) (bytes : List ℕ) (m : Meta) (coding : Coding) (set : Trees) (a : Answer)
    → IsSound d bytes m coding set → Answers (dump d mode None) bytes a
    → a ≡ all_done (file_dump d mode m set)

-- and where the status says that all was done, the file is sound
abbrev pub DoneIsSound : Type 0
DoneIsSound =
    (d : Dictionary) (mode : Mode) (bytes : List ℕ) (a : Answer) → AreBytes bytes → Answers (dump d mode None) bytes a
    → a.status ≡ DONE → (m : Meta) × (coding : Coding) × (set : Trees) × IsSound d bytes m coding set

-- the dump of a data set alone
abbrev pub DumpsSetAlone : Type 0
DumpsSetAlone =
    (d : Dictionary) (mode : Mode) (syntax : Syntax) (bytes : List ℕ) (set : Trees) (a : Answer)
    → Spells (read_by d syntax) set bytes → IsDataSet 0 set → length bytes ≤ INPUT_LIMIT
    → Answers (dump d mode (Some syntax)) bytes a
    → a ≡ all_done (set_header (uid_of_syntax (read_by d syntax)) ++ dump_set d mode 0 set)

-- a file with these meta elements, but for the transfer syntax, and this data set
abbrev pub new_file : (uid : List ℕ) → Syntax → Meta → Trees → List ℕ
new_file uid syntax m set = m.preamble ++ PREFIX ++ new_meta m.elements uid ++ recode_set syntax set

-- the conversion of a sound file
abbrev pub ConvertsSound : Type 0
ConvertsSound =
    (d : Dictionary) (target : Option Syntax) (bytes : List ℕ) (m : Meta) (coding : Coding) (set : Trees) (a : Answer)
    → IsSound d bytes m coding set → CanBecome target coding set → Answers (convert d target) bytes a
    → a ≡ all_done (new_file (target_uid target m) (target_syntax target coding) m set)

-- a line for each edit that finds no place, from number n on
abbrev pub unplaced : (n : ℕ) → List Edit → Trees → List ℕ
unplaced n [] set = []
unplaced n (e ∷ edits) set =
    let more = unplaced (suc n) edits set in
    if has_place_in (element_of e) set || found_in e set then more else unplaced_line n ++ more

-- the edits of a sound file, the tags of whose data sets ascend
abbrev pub EditsSound : Type 0
EditsSound =
    (d : Dictionary) (edits : List Edit) (bytes : List ℕ) (m : Meta) (coding : Coding) (set : Trees) (a : Answer)
    → IsSound d bytes m coding set → Ascend None set → Answers (modify d edits) bytes a
    → a ≡ record {
      output = new_file m.uid coding.syntax m (edited_sets edits set);
      lines = unplaced 1 edits set;
      status = status_of_lines (unplaced 1 edits set);
    }

-- the full dump of a sound file builds its conversion to its own transfer syntax, with a preamble of zeros: values are
-- of whole units, tags ascend, and the lines fit
abbrev pub BuildsSound : Type 0
BuildsSound =
    (d : Dictionary) (limit : ℕ) (bytes : List ℕ) (m : Meta) (coding : Coding) (set : Trees) (a : Answer)
    → IsSound d bytes m coding set → AreBytes bytes → WholeUnits m.elements → WholeUnits set → Ascend None set
    → limit ≤ GREATEST_LIMIT → FitsLines limit (file_dump d Full m set)
    → Answers (build limit) (file_dump d Full m set) a
    → a ≡ all_done (new_file m.uid coding.syntax (record m { preamble = replicate 128 0 }) set)
