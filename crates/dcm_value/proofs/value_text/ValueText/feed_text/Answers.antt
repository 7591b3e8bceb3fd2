use Rattle.std.proofs.Common.{rules, refl, ap, ◌+◌, ◌%◌, ◌==◌, ◌&&◌, length, List, ℕ, ◌≡◌}
use Rattle.std.specs.Prelude.{count_by}
use Rattle.dcm_base.specs.Dump.ValueText.{escaped}
use Rattle.dcm_value.specs.Way.{without_pad}
use Rattle.dcm_value.specs.ValueText.{progress}
use Rattle.dcm_value.proofs.Displays.Emits.{settled_of}
use Rattle.dcm_value.proofs.Displays.Steps.{shown_goes, same_progress}
use Rattle.dcm_value.proofs.Displays.TextEnds.{leads_some}
use Rattle.dcm_value.proofs.value_text.ValueText.feed_text.Goals as goal

pub returns-clause-went : goal.returns-clause-went
returns-clause-went g c =
    let p = progress c.args.self.now in
    let s = c.args.self.now.shown in
    let v = c.args.bytes.now in
    let settled = settled_of s.mode s.count s.front.items s.capped s.filled in
    let shown : List ℕ = without_pad p.vr (p.seen + length v == p.size && p.size % 2 == 0) v in
    let text : c.without_pad-text.result.now ≡ shown = search rules in
    record {
      failed = search rules;
      goes = shown_goes p _ _ _ v (length v) p.held (count_by (λ b. b == 92) v) (escaped shown) c.emit_text.result
          (leads_some p v c.requires.way settled c.requires.within)
          (same_progress p _ _ _ _ _ _ _ _ refl refl (ap (λ k. p.values + k) c.backslashes.ensures.count) refl)
          (rw (← text) c.emit_text.ensures.state)
          (rw (← text) c.emit_text.ensures.bytes);
    }
