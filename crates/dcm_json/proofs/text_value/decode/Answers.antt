use Rattle.std.proofs.Common.{rules, ◌∙◌, ap, sym, arith, length}
use Rattle.std.specs.Prelude.{fold}
use Rattle.dcm_base.specs.Steps.Steps.{outputs}
use Rattle.dcm_text.specs.Decoding.{piece_of}
use Rattle.dcm_text.specs.Runs.{Run, run, state_of}
use Rattle.dcm_json.specs.TextState.{parts_in}
use Rattle.dcm_json.specs.Values as values
use Rattle.dcm_json.specs.Values.{Values}
use Rattle.dcm_json.proofs.Written.{SoFar_of, one_more, next_failed}
use Rattle.dcm_json.proofs.Decoding.{few_bytes, few_spaces, part_first, part_state, left_is, no_more_waits}
use Rattle.dcm_json.proofs.text_value.decode.Goals as goal

pub take-requires : goal.take-requires
take-requires g c =
    omega (arith, few_bytes c.args.decoder.now c.args.bytes.now, c.requires, c.loop-part.invariant.few, c.in-Some.ensures.fewer)

pub returns-in_err-take-clause-wrote : goal.returns-in_err-take-clause-wrote
returns-in_err-take-clause-wrote g c =
    let old : Run = run c.args.at_end (state_of c.loop-part.decoder) c.loop-part.rest.now in
    let new : Run = run c.args.at_end (state_of c.next.new.self) c.in-Some.after.now in
    record {
      bytes = next_failed _ _ (outputs values.step values.writes (values.step c.loop-part.values c.as_slice.result.now) (parts_in new)) _ c.loop-part.invariant.out
          (part_first c.loop-part.values old new (piece_of c.in-Some.part) c.as_slice.result.now c.in-Some.ensures.part (c.as_slice.ensures.value ∙ c.in_cell.ensures))
          c.from_residual.ensures.0 c.in_err-take.ensures.wrote.bytes;
      failed = search rules;
    }

pub loop-part-preserved : goal.loop-part-preserved
loop-part-preserved g c =
    let old : Run = run c.args.at_end (state_of c.loop-part.decoder) c.loop-part.rest.now in
    let new : Run = run c.args.at_end (state_of c.next.new.self) c.in-Some.after.now in
    record {
      out = SoFar_of (one_more _ (values.writes c.loop-part.values c.as_slice.result.now) (outputs values.step values.writes (values.step c.loop-part.values c.as_slice.result.now) (parts_in new)) c.loop-part.invariant.out
          (part_first c.loop-part.values old new (piece_of c.in-Some.part) c.as_slice.result.now c.in-Some.ensures.part (c.as_slice.ensures.value ∙ c.in_cell.ensures))
          c.in_ok-take.ensures.wrote.bytes) (ap (λ (v : Values). outputs values.step values.writes v (parts_in new)) (sym c.in_ok-take.ensures.state));
      values = ap (λ (v : Values). fold values.step v (parts_in new)) c.in_ok-take.ensures.state
          ∙ part_state c.loop-part.values old new (piece_of c.in-Some.part) c.as_slice.result.now c.in-Some.ensures.part (c.as_slice.ensures.value ∙ c.in_cell.ensures)
          ∙ c.loop-part.invariant.values;
      decoder = left_is old new (piece_of c.in-Some.part) c.in-Some.ensures.part ∙ c.loop-part.invariant.decoder;
      few = omega (arith, ap (λ (v : Values). v.spaces) c.in_ok-take.ensures.state, few_spaces c.loop-part.values c.as_slice.result.now, c.in-Some.ensures.fewer, c.loop-part.invariant.few);
      failed = search rules;
    }

pub returns-clause-few : goal.returns-clause-few
returns-clause-few g c =
    omega (
      arith,
      ap (λ (r : Run). length r.1.held) c.in_default.ensures.none,
      no_more_waits c.args.at_end (state_of c.loop-part.decoder) c.loop-part.rest.now,
      few_bytes c.loop-part.decoder c.loop-part.rest.now,
      few_bytes c.args.decoder.now c.args.bytes.now,
      c.loop-part.invariant.few,
    )

pub returns-in_err-take-clause-few : goal.returns-in_err-take-clause-few
returns-in_err-take-clause-few g c =
    omega (
      arith,
      ap (λ (v : Values). v.spaces) c.in_err-take.ensures.kept,
      c.in-Some.ensures.fewer,
      few_bytes c.next.new.self c.in-Some.after.now,
      few_bytes c.args.decoder.now c.args.bytes.now,
      c.loop-part.invariant.few,
    )
