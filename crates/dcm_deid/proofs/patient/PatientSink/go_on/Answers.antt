use Rattle.std.proofs.Common.{◌≡◌, ◌∙◌, sym, subst, fold}
use Rattle.dcm_stream.specs.Tokens.{atoms_of}
use Rattle.dcm_deid.specs.Patient.{patient_next}
use Rattle.dcm_deid.proofs.PatientSteps.{bytes_held}
use Rattle.dcm_deid.proofs.patient.PatientSink.go_on.Goals as goal

pub returns-in-Bytes : goal.returns-in-Bytes
returns-in-Bytes c =
    subst (λ t. c.add.new.self ≡ fold patient_next c.args.self.now (atoms_of t)) (sym c.in-Bytes.is)
    (c.add.ensures ∙ sym (bytes_held c.in-Bytes.bytes.now c.args.self.now.depth c.args.self.now.naming c.args.self.now.held))
