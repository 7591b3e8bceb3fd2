use Rattle.std.proofs.Common.{rules, ◌≡◌, ◌∙◌, ap, sym, refl, true, ◌++◌, Bool, List, ℕ, take}
use Rattle.dcm_value.specs.Display.{is_cut}
use Rattle.dcm_value.specs.Shown.{display_of}
use Rattle.dcm_value.specs.Numbers.{numbers}
use Rattle.dcm_value.proofs.UnitOrder.NumberLists.{numbers_split}
use Rattle.dcm_value.proofs.Displays.Emits.{part_starts, part_more, part_failed, part_cut, settled_of, cut_stays}
use Rattle.dcm_value.proofs.display.Shown.emit_numbers.Goals as goal

pub loop-self-init : goal.loop-self-init
loop-self-init g c =
    let now = c.args.self.now in
    record { part = part_starts _ _ _ (settled_of now.mode now.count now.front.items now.capped now.filled); room = refl; failed = refl }

pub returns-else-not-is_cut : goal.returns-else-not-is_cut
returns-else-not-is_cut g c =
    let s = c.loop-self.self in
    let cut : is_cut (display_of s) ≡ true = sym c.is_cut.ensures ∙ c.if-not-is_cut.false in
    let all = part_cut _ c.loop-self.invariant.part cut (cut_stays s.mode s.count s.front.items _ s.capped s.filled cut) in
    record { state = all.0; bytes = all.1; failed = search rules }

pub returns-in_err-emit : goal.returns-in_err-emit
returns-in_err-emit g c =
    let signed : Bool = c.args.is_signed in
    let big : Bool = c.args.is_big in
    let size : ℕ = c.args.size in
    let block : List ℕ = c.split_at.result.0.now in
    let after : List ℕ = c.split_at.result.1.now in
    let shown : List ℕ = take c.write_numbers-end.result c.write_numbers-end.new.text in
    let split = numbers_split signed big size c.min.result c.loop-self.rest.now block after c.requires c.min.ensures c.split_at.ensures.front c.split_at.ensures.back in
    let parts = split ∙ ap (λ xs. xs ++ numbers signed big size after) (sym c.write_numbers-end.ensures.text) in
    record { state = search rules; bytes = part_failed _ shown _ _ _ c.loop-self.invariant.part parts c.from_residual.ensures.0 c.in_err-emit.ensures.bytes; failed = search rules }

pub loop-self-preserved : goal.loop-self-preserved
loop-self-preserved g c =
    let signed : Bool = c.args.is_signed in
    let big : Bool = c.args.is_big in
    let size : ℕ = c.args.size in
    let rest : List ℕ = c.loop-self.rest.now in
    let block : List ℕ = c.split_at.result.0.now in
    let after : List ℕ = c.split_at.result.1.now in
    let shown : List ℕ = take c.write_numbers-end.result c.write_numbers-end.new.text in
    let split = numbers_split signed big size c.min.result rest block after c.requires c.min.ensures c.split_at.ensures.front c.split_at.ensures.back in
    let parts = split ∙ ap (λ xs. xs ++ numbers signed big size after) (sym c.write_numbers-end.ensures.text) in
    record {
      part = part_more _ _ shown _ _ c.loop-self.invariant.part parts c.in_ok-emit.ensures.state c.in_ok-emit.ensures.bytes;
      room = c.write_numbers-end.ensures.size ∙ c.loop-self.invariant.room;
      failed = c.in_ok-emit.ensures.failed ∙ c.loop-self.invariant.failed;
    }
