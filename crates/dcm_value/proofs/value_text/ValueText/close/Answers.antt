use Rattle.std.proofs.Common.{rules, sym, ◌∙◌, ap, ◌≡◌, []}
use Rattle.dcm_value.specs.Display.{emit}
use Rattle.dcm_value.specs.Shown.{display_of}
use Rattle.dcm_value.specs.ValueText.{progress}
use Rattle.dcm_value.specs.Progress.{closing}
use Rattle.dcm_value.proofs.Displays.Emits.{settled_of}
use Rattle.dcm_value.proofs.value_text.ValueText.close.Goals as goal

pub returns-in-InUnits-clause-display : goal.returns-in-InUnits-clause-display
returns-in-InUnits-clause-display g c =
    let s = c.args.self.now.shown in
    let none : closing (progress c.args.self.now) ≡ [] = search rules in
    sym (ap (emit (display_of s)) none ∙ settled_of s.mode s.count s.front.items s.capped s.filled)
