use Rattle.std.proofs.Common.{◌≡◌, ◌+◌, ◌*◌, ◌∙◌, ap, sym, arith, ℕ, List, take, true}
use Rattle.std.specs.List.{list_all}
use Rattle.std.proofs.lemmas.List.{take_all}
use Rattle.dcm_value.specs.Plain.{is_plain_byte}
use Rattle.dcm_value.proofs.Displays.TextLanes.{plain_more, plain_not, none_escaped, some_escaped}
use Rattle.dcm_value.proofs.escapes.are_plain_blocks.Goals as goal

pub returns-then-has_escapes : goal.returns-then-has_escapes
returns-then-has_escapes c = sym (plain_not is_plain_byte c.args.bytes.now (64 * c.loop-block.block) 64 (some_escaped c.has_escapes.ensures c.if-has_escapes.true))

pub loop-block-preserved : goal.loop-block-preserved
loop-block-preserved c =
    let block : ℕ = c.loop-block.block in
    let v : List ℕ = c.args.bytes.now in
    let goes : 64 * block + 64 ≡ 64 * (block + 1) = omega arith in
    let so_far : list_all is_plain_byte (take (64 * block) v) ≡ true = c.loop-block.invariant in
    ap (λ n. list_all is_plain_byte (take n v)) (sym goes) ∙ plain_more is_plain_byte v (64 * block) 64 so_far (none_escaped c.has_escapes.ensures c.if-has_escapes.false)

pub returns : goal.returns
returns c =
    let v : List ℕ = c.args.bytes.now in
    let here : list_all is_plain_byte (take (64 * c.loop-block.block) v) ≡ true = c.loop-block.invariant in
    sym (ap (list_all is_plain_byte) (sym (take_all (64 * c.loop-block.block) v (omega arith))) ∙ here)
