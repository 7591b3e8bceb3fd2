use Rattle.std.proofs.Common.{◌≡◌, rules, refl, sym, ap, ◌∙◌, List, ℕ, ◌++◌, arith, length}
use Rattle.dcm_text.specs.Runs.{Run, run, state_of}
use Rattle.dcm_value.specs.DecodedProgress.{shown_pieces}
use Rattle.dcm_value.proofs.Displays.DecodedTexts.{bytes_are}
use Rattle.dcm_value.proofs.Displays.DecodedRuns.{few_run}
use Rattle.dcm_value.proofs.Displays.Emits.{part_starts, part_more, part_failed, settled_of}
use Rattle.dcm_value.proofs.display.Shown.emit_decoded.Goals as goal

pub loop-next-init : goal.loop-next-init
loop-next-init g c =
    let now = c.args.self.now in
    record {
      part = part_starts _ _ _ (settled_of now.mode now.count now.front.items now.capped now.filled);
      state = refl;
      count = refl;
      few = omega arith;
      failed = refl;
    }

pub returns-in_err-emit-clause-shown : goal.returns-in_err-emit-clause-shown
returns-in_err-emit-clause-shown g c =
    let old = run c.args.at_end (state_of c.loop-next.decoder) c.loop-next.rest.now in
    let new = run c.args.at_end (state_of c.next_shown.new.decoder) c.in-Some.after.now in
    let step : shown_pieces old ≡ c.bytes.result.now ++ shown_pieces new = c.in-Some.ensures.shown.shown ∙ ap (λ (x : List ℕ). x ++ shown_pieces new) (sym c.bytes.ensures) in
    record {
      state = search rules;
      bytes = part_failed _ c.bytes.result.now _ _ _ c.loop-next.invariant.part step c.from_residual.ensures.0 c.in_err-emit.ensures.bytes;
      failed = search rules;
    }

pub overflow_add-backslashes : goal.overflow_add-backslashes
overflow_add-backslashes g c = omega (arith, c.loop-next.invariant.few, c.in-Some.ensures.few, c.backslashes.ensures, c.requires)

pub loop-next-preserved : goal.loop-next-preserved
loop-next-preserved g c =
    let old = run c.args.at_end (state_of c.loop-next.decoder) c.loop-next.rest.now in
    let new = run c.args.at_end (state_of c.next_shown.new.decoder) c.in-Some.after.now in
    let step : shown_pieces old ≡ c.bytes.result.now ++ shown_pieces new = c.in-Some.ensures.shown.shown ∙ ap (λ (x : List ℕ). x ++ shown_pieces new) (sym c.bytes.ensures) in
    record {
      part = part_more _ _ c.bytes.result.now _ _ c.loop-next.invariant.part step c.in_ok-emit.ensures.state c.in_ok-emit.ensures.bytes;
      state = sym c.in-Some.ensures.shown.state ∙ c.loop-next.invariant.state;
      count = omega (arith, c.loop-next.invariant.count, c.in-Some.ensures.shown.count, c.backslashes.ensures);
      few = omega (arith, c.loop-next.invariant.few, c.in-Some.ensures.few, c.backslashes.ensures);
      failed = c.in_ok-emit.ensures.failed ∙ c.loop-next.invariant.failed;
    }

pub returns-in_err-emit-clause-few : goal.returns-in_err-emit-clause-few
returns-in_err-emit-clause-few g c =
    omega (arith, c.loop-next.invariant.few, c.in-Some.ensures.fewer, bytes_are c.next_shown.new.decoder c.in-Some.after.now)

pub returns-clause-few : goal.returns-clause-few
returns-clause-few g c =
    let all = few_run c.args.at_end (state_of c.loop-next.decoder) c.loop-next.rest.now in
    let left = ap (λ (r : Run). length r.1.held) c.in_default.ensures.none in
    omega (arith, c.loop-next.invariant.few, all, left, bytes_are c.loop-next.decoder c.loop-next.rest.now)
