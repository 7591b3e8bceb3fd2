use Rattle.std.proofs.Common.{◌≡◌, rules, refl, subst, ap, ◌∙◌, true, List, ℕ, ◌++◌}
use Rattle.dcm_text.specs.declared.set.TextKind.TheVariants.{OneValue}
use Rattle.dcm_text.specs.declared.sets.Sets.{Sets}
use Rattle.dcm_text.specs.Decoding.{piece_of}
use Rattle.dcm_text.specs.Runs.{begun, run, state_of}
use Rattle.dcm_text.specs.Shown.{dumped}
use Rattle.dcm_sinks.specs.InForce.{EMPTY}
use Rattle.dcm_sinks.proofs.DecodedDumps.Characters.{TextSoFar, text_none, text_more, text_failed, shown, dumped_run, shown_step, all_written}
use Rattle.dcm_sinks.proofs.dump.decoded_header.put_characters.Goals as goal

pub loop-part-init : goal.loop-part-init
loop-part-init g c =
    let out = g.W.DeviceOut.contents c.args.out.now in
    record {
      out =
          subst (λ (x : List ℕ). TextSoFar out out (dumped EMPTY OneValue c.args.text.now) x)
          (dumped_run EMPTY OneValue c.args.text.now (state_of c.new-decoder.result) (c.new-decoder.ensures ∙ ap (λ (x : Sets). begun x OneValue) c.default_sets.ensures)) (text_none out _);
      failed = refl;
    }

pub returns-in_err-put_all : goal.returns-in_err-put_all
returns-in_err-put_all g c =
    let old = run true (state_of c.loop-part.decoder) c.loop-part.rest.now in
    let new = run true (state_of c.next.new.self) c.in-Some.after.now in
    let step : shown old ≡ c.as_slice.result.now ++ shown new =
    shown_step old new (piece_of c.in-Some.part) c.as_slice.result.now c.in-Some.ensures.part (c.as_slice.ensures.value ∙ c.dumped.ensures) in
    record {
      bytes = text_failed _ _ _ _ c.loop-part.invariant.out step c.from_residual.ensures.0 c.in_err-put_all.ensures.wrote.bytes;
      failed = search rules;
    }

pub loop-part-preserved : goal.loop-part-preserved
loop-part-preserved g c =
    let old = run true (state_of c.loop-part.decoder) c.loop-part.rest.now in
    let new = run true (state_of c.next.new.self) c.in-Some.after.now in
    let step : shown old ≡ c.as_slice.result.now ++ shown new =
    shown_step old new (piece_of c.in-Some.part) c.as_slice.result.now c.in-Some.ensures.part (c.as_slice.ensures.value ∙ c.dumped.ensures) in
    record {
      out = text_more _ _ _ c.loop-part.invariant.out step c.in_ok-put_all.ensures.wrote.bytes;
      failed = search rules;
    }

pub returns : goal.returns
returns g c = record {
  bytes = all_written _ _ _ _ c.loop-part.invariant.out (ap shown c.in_default.ensures.none);
  failed = search rules;
}
