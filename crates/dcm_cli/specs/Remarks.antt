-- What is remarked of an input as far as it was read. It changes no status.
use Rattle.std.specs.Prelude.{List, ℕ, [], ◌++◌, Bool, false, ◌&&◌}
use Rattle.dcm_base.specs.Tree.Front.{Front}
use Rattle.dcm_deid.specs.Emptied.{dates_emptied}
use Rattle.dcm_deid.specs.MadeNew.{made_new}
use Rattle.dcm_deid.specs.Unnamed.{names_nobody}
use Rattle.dcm_sinks.specs.Unknown.{has_unknown}
use Rattle.dcm_words.specs.declared.job.Texts.TheVariants.{Characters}
use Rattle.dcm_words.specs.Words.{Job, dump_decoded, dump_named, deidentify}
use Rattle.dcm_cli.specs.declared.ending.Remarks.{Remarks}
use Rattle.dcm_cli.specs.declared.ending.Ending.{Ending}
use Rattle.dcm_cli.specs.declared.ending.Ending.TheVariants.{Worked, Unread, Output}
use Rattle.dcm_cli.specs.declared.ending.Ended.{Ended}
use Rattle.dcm_cli.specs.ErrorLines.{emptied_lines, nobody_lines, unknown_lines}

abbrev pub no_remarks : Remarks
no_remarks = record { unnamed = false; emptied = 0; unknown = false }

-- of a data set whose texts are shown by characters: whether it named a character set that is not known
abbrev pub unknown_remarked : Bool → Remarks
unknown_remarked unknown = record { unnamed = false; emptied = 0; unknown = unknown }

-- of a data set as far as it was read
abbrev pub remarks_at : Job → Front → Remarks
remarks_at (deidentify options reports key) set =
    record {
      unnamed = options.pseudonyms && names_nobody set;
      emptied = dates_emptied options (made_new options key) set;
      unknown = false;
    }
remarks_at (dump_decoded d mode bare) set = unknown_remarked (has_unknown set)
remarks_at (dump_named Characters d mode bare named) set = unknown_remarked (has_unknown set)
remarks_at job set = no_remarks

-- the lines that tell it
abbrev pub remark_lines : Remarks → List ℕ
remark_lines remarks =
    nobody_lines remarks.unnamed ++ (unknown_lines remarks.unknown ++ emptied_lines remarks.emptied)

-- it is told unless the output failed
abbrev pub remarks_told : Ending → Remarks → List ℕ
remarks_told (Worked verdict) remarks = remark_lines remarks
remarks_told (Unread read) remarks = remark_lines remarks
remarks_told Output remarks = []

-- a job ended so, and remarked nothing
abbrev pub remarking_nothing : Ending → Ended
remarking_nothing ending = record { remarks = no_remarks; ending = ending }

-- and it named a character set that is not known, or none such
abbrev pub remarking_unknown : Ending → Bool → Ended
remarking_unknown ending unknown = record { remarks = unknown_remarked unknown; ending = ending }
