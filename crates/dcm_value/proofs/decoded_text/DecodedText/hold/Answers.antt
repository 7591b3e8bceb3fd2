use Rattle.std.proofs.Common.{rules, refl, sym, arith}
use Rattle.dcm_value.specs.DecodedText.{decoded_progress}
use Rattle.dcm_value.proofs.Displays.Emits.{settled_of}
use Rattle.dcm_value.proofs.Displays.DecodedSteps.{same_progress}
use Rattle.dcm_value.proofs.decoded_text.DecodedText.hold.Goals as goal

pub returns : goal.returns
returns c =
    let p = decoded_progress c.args.self.now in
    let s = c.args.self.now.shown in
    same_progress p _ _ _ _ _ _ _ _ _ _ refl (search rules) refl (omega arith) (sym (settled_of s.mode s.count s.front.items s.capped s.filled))
