-- What a function made of the words of dcmdump that name several files.
use Rattle.std.specs.Prelude.{◌≡◌, Result, Ok, Err}
use Rattle.dcm_words.specs.Plans.{dump_job}
use Rattle.dcm_table_words.specs.Plans.{names_as}
use Rattle.dcm_dumps.specs.declared.plan.DumpsPlan.{DumpsPlan}
use Rattle.dcm_dumps.specs.declared.plan.DumpsUsage.{DumpsUsage}
use Rattle.dcm_dumps.specs.Words.{Dumps}

abbrev pub dumps_as : DumpsPlan → Dumps
dumps_as p = record { job = dump_job p.dump; names = names_as p.names }

-- what a function returned is what the words mean
abbrev pub GivesDumps : Result DumpsPlan DumpsUsage → Result Dumps DumpsUsage → Type 0
GivesDumps (Ok p) meant = meant ≡ Ok (dumps_as p)
GivesDumps (Err u) meant = meant ≡ Err u
