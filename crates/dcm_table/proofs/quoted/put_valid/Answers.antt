use Rattle.std.specs.Prelude.{slice_index}
use Rattle.std.proofs.Common.{rules, refl, drop, sym, subst, ◌∙◌, List, ℕ, ◌<◌, length}
use Rattle.dcm_devices.specs.Device.{Puts}
use Rattle.dcm_sinks.proofs.DecodedDumps.Characters.{text_failed, text_more, text_none}
use Rattle.dcm_table.specs.Quoted as spec
use Rattle.dcm_table.proofs.Texts.{text_last, text_failed_first, text_step, went_twice, broke_second, valid_all}
use Rattle.dcm_table.proofs.quoted.put_valid.Goals as goal

pub loop-error-init : goal.loop-error-init
loop-error-init g c = record { out = text_none _ _; failed = refl }

pub returns-in_err-put_doubled : goal.returns-in_err-put_doubled
returns-in_err-put_doubled g c =
    let rest : List ℕ = c.loop-error.rest.now in
    record {
      bytes = text_failed_first _ _ _ _ _ c.loop-error.invariant.out
          (text_step rest c.split_at.result.0.now c.split_at.result.1.now (drop 1 c.split_at.result.1.now) c.valid_up_to.result (slice_index c.split_at.result.1.now 0)
          (c.valid_up_to.ensures ∙ c.in-Err.ensures.valid_len) (subst (λ (n : ℕ). n < length rest) (sym c.valid_up_to.ensures) c.in-Err.ensures.cases.1.short) c.split_at.ensures.front c.split_at.ensures.back refl refl)
          c.from_residual.ensures.0 c.in_err-put_doubled.ensures.bytes;
      failed = search rules;
    }

pub returns-in_err-put_escaped : goal.returns-in_err-put_escaped
returns-in_err-put_escaped g c =
    let rest : List ℕ = c.loop-error.rest.now in
    record {
      bytes = text_failed _ _ _ _ c.loop-error.invariant.out
          (text_step rest c.split_at.result.0.now c.split_at.result.1.now (drop 1 c.split_at.result.1.now) c.valid_up_to.result (slice_index c.split_at.result.1.now 0)
          (c.valid_up_to.ensures ∙ c.in-Err.ensures.valid_len) (subst (λ (n : ℕ). n < length rest) (sym c.valid_up_to.ensures) c.in-Err.ensures.cases.1.short) c.split_at.ensures.front c.split_at.ensures.back refl refl)
          c.from_residual-in_err-put_escaped.ensures.0 (broke_second _ _ _ _ _ c.in_ok-put_doubled.ensures.bytes c.in_err-put_escaped.ensures.bytes);
      failed = search rules;
    }

pub loop-error-preserved : goal.loop-error-preserved
loop-error-preserved g c =
    let rest : List ℕ = c.loop-error.rest.now in
    record {
      out = text_more _ _ _ c.loop-error.invariant.out
          (text_step rest c.split_at.result.0.now c.split_at.result.1.now c.split_at-in-Err.result.1.now c.valid_up_to.result (slice_index c.split_at.result.1.now 0)
          (c.valid_up_to.ensures ∙ c.in-Err.ensures.valid_len) (subst (λ (n : ℕ). n < length rest) (sym c.valid_up_to.ensures) c.in-Err.ensures.cases.1.short) c.split_at.ensures.front c.split_at.ensures.back c.split_at-in-Err.ensures.back refl)
          (went_twice _ _ _ _ _ c.in_ok-put_doubled.ensures.bytes c.in_ok-put_escaped.ensures.bytes);
      failed = search rules;
    }

pub returns : goal.returns
returns g c =
    let rest : List ℕ = c.loop-error.rest.now in
    record {
      bytes = text_last _ _ c.loop-error.invariant.out (subst (λ (x : List ℕ). Puts (g.W.DeviceOut.contents c.loop-error.out) (g.W.DeviceOut.contents c.put_doubled-2.new.out) (spec.doubled x) c.put_doubled-2.result) (sym (valid_all rest c.in_default.ensures.cases.1)) c.put_doubled-2.ensures.bytes);
      failed = search rules;
    }
