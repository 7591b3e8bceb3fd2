use Rattle.std.proofs.Common.{◌∙◌, ap, sym, Option, Some, fold}
use Rattle.dcm_stream.specs.Tokens.{atoms_of}
use Rattle.dcm_deid.specs.Patient.{PatientState}
use Rattle.dcm_deid.specs.WithPatient.{noted}
use Rattle.dcm_deid.proofs.NotedPatient.{noted_none, noted_some}
use Rattle.dcm_deid.proofs.with_patient.note.Goals as goal

pub returns-in-Some : goal.returns-in-Some
returns-in-Some c =
    ap (λ (p : PatientState). Some p) c.go_on.ensures
    ∙ sym (noted_some c.in-Some.patient (atoms_of c.args.token))
    ∙ ap (λ (p : Option PatientState). fold noted p (atoms_of c.args.token)) (sym c.in-Some.is)

pub returns-in-None : goal.returns-in-None
returns-in-None c = c.in-None.is ∙ sym (noted_none (atoms_of c.args.token)) ∙ ap (λ (p : Option PatientState). fold noted p (atoms_of c.args.token)) (sym c.in-None.is)
