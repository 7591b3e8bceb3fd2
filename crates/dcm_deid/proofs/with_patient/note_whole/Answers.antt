use Rattle.std.proofs.Common.{◌∙◌, ap, sym, Option, Some, fold}
use Rattle.dcm_stream.specs.Tokens.{whole_atoms}
use Rattle.dcm_deid.specs.Patient.{PatientState}
use Rattle.dcm_deid.specs.WithPatient.{noted}
use Rattle.dcm_deid.proofs.NotedPatient.{noted_none, noted_some}
use Rattle.dcm_deid.proofs.with_patient.note_whole.Goals as goal

pub returns-in-Some : goal.returns-in-Some
returns-in-Some c =
    ap (λ (p : PatientState). Some p) c.go_on_whole.ensures
    ∙ sym (noted_some c.in-Some.patient (whole_atoms c.args.head c.args.syntax c.args.value.now))
    ∙ ap (λ (p : Option PatientState). fold noted p (whole_atoms c.args.head c.args.syntax c.args.value.now)) (sym c.in-Some.is)

pub returns-in-None : goal.returns-in-None
returns-in-None c = c.in-None.is ∙ sym (noted_none (whole_atoms c.args.head c.args.syntax c.args.value.now)) ∙ ap (λ (p : Option PatientState). fold noted p (whole_atoms c.args.head c.args.syntax c.args.value.now)) (sym c.in-None.is)
