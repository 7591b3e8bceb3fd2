use Rattle.std.proofs.Common.{rules, sym, ◌∙◌, ap, ◌≡◌, [], codes}
use Rattle.dcm_value.specs.Display.{emit}
use Rattle.dcm_value.specs.Shown.{display_of}
use Rattle.dcm_value.specs.ValueText.{progress}
use Rattle.dcm_value.specs.Progress.{opening}
use Rattle.dcm_value.proofs.Displays.Emits.{settled_of}
use Rattle.dcm_value.proofs.Displays.Steps.{opened_as}
use Rattle.dcm_value.proofs.value_text.ValueText.open.Goals as goal
use Rattle.dcm_value.proofs.value_text.ValueText.open.Goals.{else-eq-via-then-eq+then-self-gt0+else-is_blank, else-eq-via-then-eq+else-self-gt0, else-eq-via-else-eq}

pub returns-in_ok-emit-clause-state : goal.returns-in_ok-emit-clause-state
returns-in_ok-emit-clause-state g c =
    let p = progress c.args.self.now in
    let is : opening p ≡ codes "[" = search rules in
    opened_as p (display_of c.emit.new.self) (c.in_ok-emit.ensures.state ∙ ap (emit p.display) (sym is))

pub returns-else-eq-clause-state : goal.returns-else-eq-clause-state
returns-else-eq-clause-state g c =
    let p = progress c.args.self.now in
    let s = c.args.self.now.shown in
    let none : opening p ≡ [] =
    elim c.else-eq.branch [
      | else-eq-via-then-eq+then-self-gt0+else-is_blank w ↦ search rules
      | else-eq-via-then-eq+else-self-gt0 w ↦ search rules
      | else-eq-via-else-eq w ↦ search rules
    ]
    in
    opened_as p (display_of s) (sym (ap (emit p.display) none ∙ settled_of s.mode s.count s.front.items s.capped s.filled))
