-- What does the files of dumps.
use Rattle.std.specs.Prelude.{◌≡◌}
use Rattle.dcm_devices.specs.Writing.{Writer}
use Rattle.dcm_words.specs.Plans.{dump_job}
use Rattle.dcm_cli.specs.Calls.{Reader}
use Rattle.dcm_each.specs.Each.{Work}
use Rattle.dcm_dumps.specs.declared.dumps.DumpWork.{DumpWork}
use Rattle.dcm_dumps.specs.Dumps.{Manner, Shown, DoesDump, next_number}

abbrev pub manner : DumpWork → Manner
manner d = record { job = dump_job d.dump; output = d.output; total = d.total }

-- what goes from one file to the next
abbrev pub shown : {W : Type 0} → DumpWork × W → Shown W
shown x = record { out = x.1; number = x.0.number; is_first = x.0.is_first }

abbrev pub work_of : {I W : Type 0} → Reader I → Writer W → Work I (DumpWork × W)
work_of r w = record {
  does = λ name errors from to before result after.
      DoesDump r w (manner from.0) name errors (shown from) (shown to) before result after
      × (manner to.0 ≡ manner from.0);
  passes = λ from to. (shown to ≡ record (shown from) { number = next_number from.0.number })
      × (manner to.0 ≡ manner from.0);
}
