use Rattle.std.proofs.Common.{rules, sym, ◌∙◌, ap, ◌≡◌, fold, true}
use Rattle.dcm_value.specs.DecodedText.{decoded_progress}
use Rattle.dcm_value.specs.DecodedProgress.{is_named, step}
use Rattle.dcm_value.proofs.Displays.Emits.{settled_of}
use Rattle.dcm_value.proofs.Displays.DecodedSteps.{leads_name, feeds_on, opening_waits, opening_failed}
use Rattle.dcm_value.proofs.decoded_text.DecodedText.feed.Goals as goal

pub returns-in_err-open-clause-wrote : goal.returns-in_err-open-clause-wrote
returns-in_err-open-clause-wrote g c = record { bytes = opening_failed _ _ (decoded_progress c.args.self.now) c.args.bytes.now _ c.from_residual.ensures.0 c.in_err-open.ensures.wrote.bytes; failed = search rules }

pub returns-else-is_named-clause-wrote : goal.returns-else-is_named-clause-wrote
returns-else-is_named-clause-wrote g c = record { bytes = feeds_on (decoded_progress c.args.self.now) _ _ _ _ _ c.args.bytes.now c.feed_text.result c.in_ok-open.ensures.state c.in_ok-open.ensures.wrote.bytes c.feed_text.ensures.went.goes; failed = search rules }

pub returns-then-is_named-clause-state : goal.returns-then-is_named-clause-state
returns-then-is_named-clause-state g c =
    let q = decoded_progress c.open.new.self in
    let s = c.open.new.self.shown in
    let named : is_named q.vr q.size ≡ true = sym c.is_named.ensures.named ∙ c.if-is_named.true in
    let name = leads_name q c.args.bytes.now named (settled_of s.mode s.count s.front.items s.capped s.filled) in
    c.hold.ensures ∙ sym name.state ∙ ap (λ x. fold step x c.args.bytes.now) c.in_ok-open.ensures.state

pub returns-then-is_named-clause-wrote : goal.returns-then-is_named-clause-wrote
returns-then-is_named-clause-wrote g c =
    let q = decoded_progress c.open.new.self in
    let s = c.open.new.self.shown in
    let named : is_named q.vr q.size ≡ true = sym c.is_named.ensures.named ∙ c.if-is_named.true in
    let name = leads_name q c.args.bytes.now named (settled_of s.mode s.count s.front.items s.capped s.filled) in
    record { bytes = opening_waits (decoded_progress c.args.self.now) q _ _ _ c.args.bytes.now c.in_ok-open.ensures.state c.in_ok-open.ensures.wrote.bytes name; failed = search rules }
