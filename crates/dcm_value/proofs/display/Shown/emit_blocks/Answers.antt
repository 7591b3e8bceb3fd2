use Rattle.std.proofs.Common.{rules, ◌≡◌, ◌∙◌, ap, sym, refl, true, ◌++◌, ◌*◌, ◌+◌, ◌-◌, ◌/◌, List, ℕ, length, take}
use Rattle.std.proofs.lemmas.List.{length-drop}
use Rattle.dcm_value.specs.Display.{is_cut}
use Rattle.dcm_value.specs.Shown.{display_of}
use Rattle.dcm_value.specs.Woven.{woven}
use Rattle.dcm_value.proofs.UnitOrder.Woven.{woven_split, whole_blocks}
use Rattle.dcm_value.proofs.Displays.Emits.{part_starts, part_more, part_failed, part_cut, settled_of, cut_stays}
use Rattle.dcm_value.proofs.display.Shown.emit_blocks.Goals as goal

pub loop-self-init : goal.loop-self-init
loop-self-init g c =
    let now = c.args.self.now in
    record { part = part_starts _ _ _ (settled_of now.mode now.count now.front.items now.capped now.filled); whole = c.requires.whole; failed = refl }

pub returns-else-not-is_cut : goal.returns-else-not-is_cut
returns-else-not-is_cut g c =
    let s = c.loop-self.self in
    let cut : is_cut (display_of s) ≡ true = sym c.is_cut.ensures ∙ c.if-not-is_cut.false in
    let all = part_cut _ c.loop-self.invariant.part cut (cut_stays s.mode s.count s.front.items _ s.capped s.filled cut) in
    record { state = all.0; bytes = all.1; failed = search rules }

pub returns-in_err-emit : goal.returns-in_err-emit
returns-in_err-emit g c =
    let size : ℕ = c.args.size in
    let block : List ℕ = c.split_at.result.0.now in
    let after : List ℕ = c.split_at.result.1.now in
    let shown : List ℕ = take (2 * length block + length block / size) c.weave_blocks.new.text in
    let cut = whole_blocks c.min.result c.woven_at_a_time-most.result (length c.loop-self.rest.now) c.woven_at_a_time-most.ensures.whole c.loop-self.invariant.whole c.min.ensures in
    let split = woven_split size c.args.is_turned c.min.result c.loop-self.rest.now block after c.requires.size cut.0 cut.1 c.split_at.ensures.front c.split_at.ensures.back in
    let parts = split ∙ ap (λ xs. xs ++ woven size c.args.is_turned after) (sym c.weave_blocks.ensures.text) in
    record { state = search rules; bytes = part_failed _ shown _ _ _ c.loop-self.invariant.part parts c.from_residual.ensures.0 c.in_err-emit.ensures.bytes; failed = search rules }

pub loop-self-preserved : goal.loop-self-preserved
loop-self-preserved g c =
    let size : ℕ = c.args.size in
    let rest : List ℕ = c.loop-self.rest.now in
    let block : List ℕ = c.split_at.result.0.now in
    let after : List ℕ = c.split_at.result.1.now in
    let shown : List ℕ = take (2 * length block + length block / size) c.weave_blocks.new.text in
    let cut = whole_blocks c.min.result c.woven_at_a_time-most.result (length rest) c.woven_at_a_time-most.ensures.whole c.loop-self.invariant.whole c.min.ensures in
    let split = woven_split size c.args.is_turned c.min.result rest block after c.requires.size cut.0 cut.1 c.split_at.ensures.front c.split_at.ensures.back in
    let parts = split ∙ ap (λ xs. xs ++ woven size c.args.is_turned after) (sym c.weave_blocks.ensures.text) in
    let left : length after ≡ length rest - c.min.result = ap length c.split_at.ensures.back ∙ length-drop c.min.result rest in
    record {
      part = part_more _ _ shown _ _ c.loop-self.invariant.part parts c.in_ok-emit.ensures.state c.in_ok-emit.ensures.bytes;
      whole = ap (λ n. 16 * (n / 16)) left ∙ cut.2 ∙ sym left;
      failed = c.in_ok-emit.ensures.failed ∙ c.loop-self.invariant.failed;
    }
