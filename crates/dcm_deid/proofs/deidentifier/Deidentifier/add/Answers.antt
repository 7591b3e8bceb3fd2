use Rattle.std.proofs.Common.{◌∙◌, sym, ap, Option, Some, option_map}
use Rattle.dcm_deid.specs.DeidentifySink as spec
use Rattle.dcm_deid.specs.DeidentifySink.{Held}
use Rattle.dcm_deid.specs.Deidentifying as deidentifying
use Rattle.dcm_deid.proofs.Passing.{bytes_held, bytes_unheld}
use Rattle.dcm_deid.proofs.deidentifier.Deidentifier.add.Goals as goal

pub returns-in-Some : goal.returns-in-Some
returns-in-Some c =
    let p = deidentifying.place c.args.self.now in
    ap (λ (h : Held). spec.holding p (Some h)) c.add.ensures
    ∙ sym (bytes_held p (deidentifying.held c.in-Some.held) c.args.bytes.now)
    ∙ ap (λ (o : Option Held). spec.with_bytes (spec.holding p o) c.args.bytes.now) (sym (ap (option_map deidentifying.held) c.in-Some.is))

pub returns-in_default : goal.returns-in_default
returns-in_default c =
    let p = deidentifying.place c.args.self.now in
    let none = ap (option_map deidentifying.held) c.in_default.is in
    ap (λ (o : Option Held). spec.holding p o) none
    ∙ sym (bytes_unheld p c.args.bytes.now)
    ∙ ap (λ (o : Option Held). spec.with_bytes (spec.holding p o) c.args.bytes.now) (sym none)
