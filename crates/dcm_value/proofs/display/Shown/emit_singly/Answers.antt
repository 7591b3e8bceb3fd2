use Rattle.std.proofs.Common.{rules, ◌≡◌, ◌∙◌, ap, sym, refl, true, ◌*◌, List, ℕ, length, min}
use Rattle.dcm_value.specs.Display.{is_cut}
use Rattle.dcm_value.specs.Shown.{display_of}
use Rattle.dcm_base.specs.Dump.ValueText.{shown_unit}
use Rattle.dcm_value.specs.Units.{one_text, separated_units}
use Rattle.dcm_value.proofs.UnitOrder.HighestFirst.{shown_some}
use Rattle.dcm_value.proofs.UnitOrder.Pieces.{units_split}
use Rattle.dcm_value.proofs.Displays.Emits.{part_starts, part_more, part_failed, part_cut, settled_of, cut_stays}
use Rattle.dcm_value.proofs.display.Shown.emit_singly.Goals as goal

pub loop-self-init : goal.loop-self-init
loop-self-init g c =
    let now = c.args.self.now in
    record { part = part_starts _ _ _ (settled_of now.mode now.count now.front.items now.capped now.filled); failed = refl }

pub returns-else-not-is_cut-2 : goal.returns-else-not-is_cut-2
returns-else-not-is_cut-2 g c =
    let s = c.loop-self.self in
    let cut : is_cut (display_of s) ≡ true = sym c.is_cut-in-loop-self.ensures ∙ c.if-not-is_cut-2.false in
    let all = part_cut _ c.loop-self.invariant.part cut (cut_stays s.mode s.count s.front.items _ s.capped s.filled cut) in
    record { state = all.0; bytes = all.1; failed = search rules }

pub returns-in_err-emit_block : goal.returns-in_err-emit_block
returns-in_err-emit_block g c =
    let vr = c.args.vr in
    let one : List ℕ → List ℕ = one_text vr c.args.syntax in
    let block : List ℕ = c.split_at.result.0.now in
    let after : List ℕ = c.split_at.result.1.now in
    let size : c.min.result ≡ min (length c.loop-self.rest.now) (128 * shown_unit vr) = c.min.ensures ∙ ap (λ k. min (length c.loop-self.rest.now) (128 * k)) c.shown_unit-size.ensures.value in
    let split = units_split (shown_unit vr) (shown_some vr) one 128 c.min.result c.loop-self.rest.now block after size c.split_at.ensures.front c.split_at.ensures.back in
    record { state = search rules; bytes = part_failed _ (separated_units vr c.args.syntax block) _ _ _ c.loop-self.invariant.part split c.from_residual.ensures.0 c.in_err-emit_block.ensures.bytes; failed = search rules }

pub loop-self-preserved : goal.loop-self-preserved
loop-self-preserved g c =
    let vr = c.args.vr in
    let one : List ℕ → List ℕ = one_text vr c.args.syntax in
    let block : List ℕ = c.split_at.result.0.now in
    let after : List ℕ = c.split_at.result.1.now in
    let size : c.min.result ≡ min (length c.loop-self.rest.now) (128 * shown_unit vr) = c.min.ensures ∙ ap (λ k. min (length c.loop-self.rest.now) (128 * k)) c.shown_unit-size.ensures.value in
    let split = units_split (shown_unit vr) (shown_some vr) one 128 c.min.result c.loop-self.rest.now block after size c.split_at.ensures.front c.split_at.ensures.back in
    record {
      part = part_more _ _ (separated_units vr c.args.syntax block) _ _ c.loop-self.invariant.part split c.in_ok-emit_block.ensures.state c.in_ok-emit_block.ensures.bytes;
      failed = c.in_ok-emit_block.ensures.failed ∙ c.loop-self.invariant.failed;
    }
