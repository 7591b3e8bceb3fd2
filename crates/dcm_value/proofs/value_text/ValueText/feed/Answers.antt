use Rattle.std.proofs.Common.{rules, refl, sym, ◌∙◌, ap, ◌≡◌, fold}
use Rattle.dcm_value.specs.declared.way.Way.TheVariants.{ByName}
use Rattle.dcm_value.specs.ValueText.{progress}
use Rattle.dcm_value.specs.Progress.{way, step}
use Rattle.dcm_value.proofs.Displays.Emits.{settled_of}
use Rattle.dcm_value.proofs.Displays.Steps.{same_progress, leads_name, feeds_on, opening_waits, opening_failed}
use Rattle.dcm_value.proofs.value_text.ValueText.feed.Goals as goal

pub returns-in_err-open-clause-wrote : goal.returns-in_err-open-clause-wrote
returns-in_err-open-clause-wrote g c = record { bytes = opening_failed _ _ (progress c.args.self.now) c.args.bytes.now _ c.from_residual.ensures.0 c.in_err-open.ensures.wrote.bytes; failed = search rules }

pub returns-in-InBrackets-clause-wrote : goal.returns-in-InBrackets-clause-wrote
returns-in-InBrackets-clause-wrote g c = record { bytes = feeds_on (progress c.args.self.now) _ _ _ _ _ c.args.bytes.now c.feed_text.result c.in_ok-open.ensures.state c.in_ok-open.ensures.wrote.bytes c.feed_text.ensures.went.goes; failed = search rules }

pub returns-in-ByName-clause-state : goal.returns-in-ByName-clause-state
returns-in-ByName-clause-state g c =
    let q = progress c.open.new.self in
    let s = c.open.new.self.shown in
    let is_way : way q ≡ ByName = search rules in
    let name = leads_name q c.args.bytes.now is_way (settled_of s.mode s.count s.front.items s.capped s.filled) in
    same_progress q _ _ _ _ _ _ _ _ refl c.hold.ensures refl refl ∙ sym name.state ∙ ap (λ x. fold step x c.args.bytes.now) c.in_ok-open.ensures.state

pub returns-in-ByName-clause-wrote : goal.returns-in-ByName-clause-wrote
returns-in-ByName-clause-wrote g c =
    let q = progress c.open.new.self in
    let s = c.open.new.self.shown in
    let is_way : way q ≡ ByName = search rules in
    let name = leads_name q c.args.bytes.now is_way (settled_of s.mode s.count s.front.items s.capped s.filled) in
    record { bytes = opening_waits (progress c.args.self.now) q _ _ c.args.bytes.now c.in_ok-open.ensures.state c.in_ok-open.ensures.wrote.bytes name; failed = search rules }
