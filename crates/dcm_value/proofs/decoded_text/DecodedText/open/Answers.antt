use Rattle.std.proofs.Common.{rules, sym, ◌∙◌, ap, ◌≡◌, [], codes}
use Rattle.dcm_value.specs.Display.{emit}
use Rattle.dcm_value.specs.Shown.{display_of}
use Rattle.dcm_value.specs.DecodedText.{decoded_progress}
use Rattle.dcm_value.specs.DecodedProgress.{opening}
use Rattle.dcm_value.proofs.Displays.Emits.{settled_of}
use Rattle.dcm_value.proofs.Displays.DecodedSteps.{opened_as}
use Rattle.dcm_value.proofs.decoded_text.DecodedText.open.Goals as goal

pub returns-in_ok-emit-clause-state : goal.returns-in_ok-emit-clause-state
returns-in_ok-emit-clause-state g c =
    let p = decoded_progress c.args.self.now in
    let is : opening p ≡ codes "[" = search rules in
    opened_as p (display_of c.emit.new.self) (c.in_ok-emit.ensures.state ∙ ap (emit p.display) (sym is))

pub returns-else-not-is_named-clause-state : goal.returns-else-not-is_named-clause-state
returns-else-not-is_named-clause-state g c =
    let p = decoded_progress c.args.self.now in
    let s = c.args.self.now.shown in
    let none : opening p ≡ [] = search rules in
    opened_as p (display_of s) (sym (ap (emit p.display) none ∙ settled_of s.mode s.count s.front.items s.capped s.filled))
