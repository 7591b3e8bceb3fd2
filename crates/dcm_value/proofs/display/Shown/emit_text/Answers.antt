use Rattle.std.proofs.Common.{rules, ◌≡◌, ◌∙◌, sym, refl, true}
use Rattle.dcm_base.specs.Dump.ValueText.{escaped}
use Rattle.dcm_value.specs.Display.{is_cut}
use Rattle.dcm_value.specs.Shown.{display_of}
use Rattle.dcm_value.proofs.Displays.Emits.{part_starts, part_more, part_failed, part_cut, settled_of, cut_stays, escaped_split}
use Rattle.dcm_value.proofs.display.Shown.emit_text.Goals as goal

pub loop-self-init : goal.loop-self-init
loop-self-init g c =
    let now = c.args.self.now in
    record { part = part_starts _ _ _ (settled_of now.mode now.count now.front.items now.capped now.filled); failed = refl }

pub returns-in_err-emit_part : goal.returns-in_err-emit_part
returns-in_err-emit_part g c =
    let split = escaped_split c.loop-self.rest.now c.split_at.result.0.now c.split_at.result.1.now _ c.split_at.ensures.front c.split_at.ensures.back in
    record { state = search rules; bytes = part_failed _ (escaped c.split_at.result.0.now) _ _ _ c.loop-self.invariant.part split c.from_residual.ensures.0 c.in_err-emit_part.ensures.bytes; failed = search rules }

pub loop-self-preserved : goal.loop-self-preserved
loop-self-preserved g c =
    let split = escaped_split c.loop-self.rest.now c.split_at.result.0.now c.split_at.result.1.now _ c.split_at.ensures.front c.split_at.ensures.back in
    record {
      part = part_more _ _ (escaped c.split_at.result.0.now) _ _ c.loop-self.invariant.part split c.in_ok-emit_part.ensures.state c.in_ok-emit_part.ensures.bytes;
      failed = c.in_ok-emit_part.ensures.failed ∙ c.loop-self.invariant.failed;
    }

pub returns-else-not-is_cut : goal.returns-else-not-is_cut
returns-else-not-is_cut g c =
    let s = c.loop-self.self in
    let cut : is_cut (display_of s) ≡ true = sym c.is_cut.ensures ∙ c.if-not-is_cut.false in
    let all = part_cut _ c.loop-self.invariant.part cut (cut_stays s.mode s.count s.front.items _ s.capped s.filled cut) in
    record { state = all.0; bytes = all.1; failed = search rules }
