-- The days of a file are of the patient in the outermost data set of what is read of it.
use Rattle.std.proofs.Common.{◌∙◌, ℕ, ◌≤◌, List, drop}
use Rattle.dcm_base.specs.declared.syntax.Syntax.{Syntax}
use Rattle.dcm_base.specs.Reading.Bars.{no_bar}
use Rattle.dcm_base.specs.Reading.Reads.{INPUT_LIMIT}
use Rattle.dcm_sinks.proofs.Dumps.Reads.{bars_late, bars_none, no_bars}
use Rattle.dcm_sinks.proofs.ReadBack.IsRead.{IsRead, whole_read}
use Rattle.dcm_cli.specs.Answer.{set_at}
use Rattle.dcm_run_laws.specs.FirstLaws.{DaysAreOfOutermost, NamesInSet, NamesPatient}
use Rattle.dcm_run_laws.proofs.Patient.AsFar.{named_in}
use Rattle.dcm_run_laws.proofs.ReadBack.ReadsAgain.{begins_within}
use Rattle.dcm_run_laws.proofs.Runs.FirstLaws.{days_of_patient}

names_in_set : (bytes named : List ℕ) → NamesPatient bytes named → NamesInSet bytes named
names_in_set bytes named x =
    let s : Syntax = x.coding.syntax in
    let le : set_at x.group ≤ INPUT_LIMIT = begins_within bytes x.m x.group x.head.named x.head.head in
    let read : IsRead s x.set = whole_read no_bars no_bar bars_none bars_late s (set_at x.group) (drop (set_at x.group) bytes) le x.set x.stop x.reads.whole in
    record {
      m = x.m;
      group = x.group;
      coding = x.coding;
      set = x.set;
      stop = x.stop;
      head = x.head;
      reads = x.reads.whole;
      named_is = named_in s x.set read x.whole ∙ x.named_is;
    }

pub days_of_outermost : DaysAreOfOutermost
days_of_outermost key bytes d reads =
    let x = days_of_patient key bytes d reads in
    (x.0, names_in_set bytes x.0 x.1, x.2, x.3)
