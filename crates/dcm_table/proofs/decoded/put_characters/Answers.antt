use Rattle.std.proofs.Common.{◌≡◌, rules, refl, subst, ap, ◌∙◌, true, List, ℕ, ◌++◌}
use Rattle.dcm_sinks.proofs.DecodedDumps.Characters.{TextSoFar, text_failed, text_more, text_none}
use Rattle.dcm_text.specs.Decoding.{piece_of}
use Rattle.dcm_text.specs.Runs.{run, state_of}
use Rattle.dcm_text.specs.Shown.{cell}
use Rattle.dcm_table.specs.Quoted.{doubled}
use Rattle.dcm_table.proofs.DecodedTexts.{shown, cell_run, shown_step, all_written}
use Rattle.dcm_table.proofs.decoded.put_characters.Goals as goal

pub loop-part-init : goal.loop-part-init
loop-part-init g c =
    let out = g.W.DeviceOut.contents c.args.out.now in
    record {
      out =
          subst (λ (x : List ℕ). TextSoFar out out (doubled (cell c.args.sets c.args.kind c.args.text.now)) x)
          (cell_run c.args.sets c.args.kind c.args.text.now (state_of c.new-decoder.result) c.new-decoder.ensures) (text_none out _);
      failed = refl;
    }

pub returns-in_err-put_doubled : goal.returns-in_err-put_doubled
returns-in_err-put_doubled g c =
    let old = run true (state_of c.loop-part.decoder) c.loop-part.rest.now in
    let new = run true (state_of c.next.new.self) c.in-Some.after.now in
    let step : shown old ≡ doubled c.as_slice.result.now ++ shown new =
    shown_step old new (piece_of c.in-Some.part) c.as_slice.result.now c.in-Some.ensures.part (c.as_slice.ensures.value ∙ c.in_cell.ensures) in
    record {
      bytes = text_failed _ _ _ _ c.loop-part.invariant.out step c.from_residual.ensures.0 c.in_err-put_doubled.ensures.bytes;
      failed = search rules;
    }

pub loop-part-preserved : goal.loop-part-preserved
loop-part-preserved g c =
    let old = run true (state_of c.loop-part.decoder) c.loop-part.rest.now in
    let new = run true (state_of c.next.new.self) c.in-Some.after.now in
    let step : shown old ≡ doubled c.as_slice.result.now ++ shown new =
    shown_step old new (piece_of c.in-Some.part) c.as_slice.result.now c.in-Some.ensures.part (c.as_slice.ensures.value ∙ c.in_cell.ensures) in
    record {
      out = text_more _ _ _ c.loop-part.invariant.out step c.in_ok-put_doubled.ensures.bytes;
      failed = search rules;
    }

pub returns : goal.returns
returns g c = record {
  bytes = all_written _ _ _ _ c.loop-part.invariant.out (ap shown c.in_default.ensures.none);
  failed = search rules;
}
