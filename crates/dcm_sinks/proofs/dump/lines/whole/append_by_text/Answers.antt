use Rattle.std.proofs.Common.{rules, refl, ap, subst, ◌∙◌, List, ℕ, [], length}
use Rattle.std.specs.Prelude.{fold}
use Rattle.dcm_devices.specs.Device.{AppendsFront}
use Rattle.dcm_devices.proofs.Writes.Puts.{puts_err}
use Rattle.dcm_devices.proofs.Writes.PartsOut.{parts_put}
use Rattle.dcm_value.specs.Progress.{Progress, opened, step, feeds, closing_writes}
use Rattle.dcm_sinks.proofs.Dumps.WholeLines.{feeds_none, closing_none}
use Rattle.dcm_sinks.proofs.dump.lines.whole.append_by_text.Goals as goal

pub returns-in_err-feed-clause-wrote : goal.returns-in_err-feed-clause-wrote
returns-in_err-feed-clause-wrote g c =
    let v : List ℕ = c.args.value.now in
    let none = ap (λ (p : Progress). feeds p v) c.new-text.ensures ∙ feeds_none c.args.vr c.args.syntax (length v) v in
    record {
      bytes = puts_err _ _ _ c.from_residual.result c.from_residual.ensures.0
          (subst (λ (bs : List ℕ). AppendsFront (g.W.DeviceOut.contents c.args.out.now) (g.W.DeviceOut.contents c.feed.new.out) bs) none c.in_err-feed.ensures.wrote.bytes);
      failed = search rules;
    }

pub returns-clause-wrote : goal.returns-clause-wrote
returns-clause-wrote g c =
    let v : List ℕ = c.args.value.now in
    let none = ap (λ (p : Progress). feeds p v) c.new-text.ensures ∙ feeds_none c.args.vr c.args.syntax (length v) v in
    let last = c.in_ok-feed.ensures.state ∙ ap (λ (p : Progress). fold step (opened p) v) c.new-text.ensures in
    record {
      bytes = parts_put _ _ _ [] _ [] _ _ c.finish.result none (ap closing_writes last ∙ closing_none c.args.vr c.args.syntax v) refl c.in_ok-feed.ensures.wrote.bytes c.finish.ensures.wrote.bytes;
      failed = search rules;
    }
