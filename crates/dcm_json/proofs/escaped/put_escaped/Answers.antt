use Rattle.std.proofs.Common.{rules, ap, List, ℕ}
use Rattle.json.specs.Print.{escape, escape_byte}
use Rattle.dcm_json.proofs.Escapes.{escape_run}
use Rattle.dcm_json.proofs.Written.{one_more, next_failed, all_out, nothing_left}
use Rattle.dcm_json.proofs.escaped.put_escaped.Goals as goal

pub returns-in_err-put_all : goal.returns-in_err-put_all
returns-in_err-put_all g c =
    let rest : List ℕ = c.loop-rest.rest.now in
    record {
      bytes = next_failed _ _ _ _ c.loop-rest.invariant.out
          (escape_run rest c.split_at.result.0.now c.split_at.result.1.now c.plain_front.result c.plain_front.ensures.value c.split_at.ensures.front c.split_at.ensures.back)
          c.from_residual.ensures.0 c.in_err-put_all.ensures.wrote.bytes;
      failed = search rules;
    }

pub returns-in_default : goal.returns-in_default
returns-in_default g c =
    let rest : List ℕ = c.loop-rest.rest.now in
    let after : List ℕ = c.split_at.result.1.now in
    record {
      bytes = all_out (one_more _ _ (escape after) c.loop-rest.invariant.out
          (escape_run rest c.split_at.result.0.now after c.plain_front.result c.plain_front.ensures.value c.split_at.ensures.front c.split_at.ensures.back)
          c.in_ok-put_all.ensures.wrote.bytes) (ap escape (nothing_left after c.in_default.ensures.cases));
      failed = search rules;
    }

pub returns-in_err-put_byte : goal.returns-in_err-put_byte
returns-in_err-put_byte g c =
    let rest : List ℕ = c.loop-rest.rest.now in
    let after : List ℕ = c.split_at.result.1.now in
    record {
      bytes = next_failed _ (escape_byte c.in-Some.first.now) (escape c.in-Some.behind.now) _ (one_more _ _ (escape after) c.loop-rest.invariant.out
          (escape_run rest c.split_at.result.0.now after c.plain_front.result c.plain_front.ensures.value c.split_at.ensures.front c.split_at.ensures.back)
          c.in_ok-put_all.ensures.wrote.bytes) (ap escape c.in-Some.ensures.cases.0)
          c.from_residual-in_err-put_byte.ensures.0 c.in_err-put_byte.ensures.bytes;
      failed = search rules;
    }

pub loop-rest-preserved : goal.loop-rest-preserved
loop-rest-preserved g c =
    let rest : List ℕ = c.loop-rest.rest.now in
    let after : List ℕ = c.split_at.result.1.now in
    record {
      out = one_more _ _ _ (one_more _ _ (escape after) c.loop-rest.invariant.out
          (escape_run rest c.split_at.result.0.now after c.plain_front.result c.plain_front.ensures.value c.split_at.ensures.front c.split_at.ensures.back)
          c.in_ok-put_all.ensures.wrote.bytes) (ap escape c.in-Some.ensures.cases.0) c.in_ok-put_byte.ensures.bytes;
      failed = search rules;
    }
