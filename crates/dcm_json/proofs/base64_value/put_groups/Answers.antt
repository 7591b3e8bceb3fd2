use Rattle.std.proofs.Common.{rules, ◌∙◌, ap, sym, arith, length}
use Rattle.dcm_lemmas.proofs.Numbers.{equal_numbers}
use Rattle.base64.specs.Engines.{standard}
use Rattle.base64.specs.GeneralPurpose.{encode_of}
use Rattle.base64.proofs.EngineFacts.{encode_of-nil}
use Rattle.dcm_json.proofs.Groups.{next_block}
use Rattle.dcm_json.proofs.Written.{all_out, next_failed, nothing_left, one_more}
use Rattle.dcm_json.proofs.base64_value.put_groups.Goals as goal

pub returns-in_err-put_block : goal.returns-in_err-put_block
returns-in_err-put_block g c = record {
  bytes = next_failed _ _ _ _ c.loop-rest.invariant.out
      (next_block c.loop-rest.rest.now c.split_at.result.0.now c.split_at.result.1.now c.min.result c.min.ensures c.loop-rest.invariant.whole c.split_at.ensures.front c.split_at.ensures.back)
      c.from_residual.ensures.0 c.in_err-put_block.ensures.bytes;
  failed = search rules;
}

pub loop-rest-preserved : goal.loop-rest-preserved
loop-rest-preserved g c = record {
  out = one_more _ _ _ c.loop-rest.invariant.out
      (next_block c.loop-rest.rest.now c.split_at.result.0.now c.split_at.result.1.now c.min.result c.min.ensures c.loop-rest.invariant.whole c.split_at.ensures.front c.split_at.ensures.back)
      c.in_ok-put_block.ensures.bytes;
  whole = omega (arith, c.split_at.ensures.back_len, c.min.ensures, c.loop-rest.invariant.whole);
  failed = search rules;
}

pub returns : goal.returns
returns g c = record {
  bytes = all_out c.loop-rest.invariant.out (ap (encode_of standard) (nothing_left c.loop-rest.rest.now (equal_numbers (length c.loop-rest.rest.now) 0 (sym c.loop-rest-test.ensures))) ∙ encode_of-nil standard);
  failed = search rules;
}
