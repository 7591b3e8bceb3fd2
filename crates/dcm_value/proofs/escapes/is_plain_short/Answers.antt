use Rattle.std.proofs.Common.{◌≡◌, ◌+◌, ◌*◌, ◌∙◌, ap, sym, arith, ℕ, List, length, take, not, ◌-◌, true}
use Rattle.std.specs.List.{list_all}
use lib.Lanes.{chunk}
use Rattle.dcm_value.specs.Plain.{is_plain_byte}
use Rattle.dcm_value.proofs.Displays.TextLanes.{plain_more, plain_not, plain_all, plain_less, last_lanes, not_twice, none_escaped, some_escaped}
use Rattle.dcm_value.proofs.escapes.is_plain_short.Goals as goal

pub returns-then-has_escapes : goal.returns-then-has_escapes
returns-then-has_escapes c = sym (plain_not is_plain_byte c.args.bytes.now (8 * c.loop-block.block) 8 (some_escaped c.has_escapes.ensures c.if-has_escapes.true))

pub loop-block-preserved : goal.loop-block-preserved
loop-block-preserved c =
    let block : ℕ = c.loop-block.block in
    let v : List ℕ = c.args.bytes.now in
    let goes : 8 * block + 8 ≡ 8 * (block + 1) = omega arith in
    let so_far : list_all is_plain_byte (take (8 * block) v) ≡ true = c.loop-block.invariant in
    ap (λ n. list_all is_plain_byte (take n v)) (sym goes) ∙ plain_more is_plain_byte v (8 * block) 8 so_far (none_escaped c.has_escapes.ensures c.if-has_escapes.false)

pub returns : goal.returns
returns c =
    let v : List ℕ = c.args.bytes.now in
    let n : ℕ = length v - 8 in
    let gone : ℕ = 8 * c.loop-block.block - n in
    let here : list_all is_plain_byte (take (8 * c.loop-block.block) v) ≡ true = c.loop-block.invariant in
    let reached : n + gone ≡ 8 * c.loop-block.block = omega arith in
    let so_far : list_all is_plain_byte (take n v) ≡ true = plain_less is_plain_byte v n gone (ap (λ k. list_all is_plain_byte (take k v)) reached ∙ here) in
    let last = last_lanes v c.split_at.result.1.now n c.split_at.ensures.back (omega arith) in
    ap not c.has_escapes-2.ensures ∙ not_twice (list_all is_plain_byte (chunk 0 8 c.split_at.result.1.now)) ∙ ap (list_all is_plain_byte) last ∙ sym (plain_all is_plain_byte v n so_far)
