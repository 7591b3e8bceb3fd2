use Rattle.std.proofs.Common.{◌≡◌, ◌+◌, ◌*◌, ◌/◌, ◌∙◌, ap, sym, arith, List, ℕ, drop, take, length, true}
use Rattle.std.specs.List.{list_all}
use Rattle.std.proofs.lemmas.Simd.{length-chunk}
use Rattle.std.proofs.lemmas.List.{length-drop}
use lib.Lanes.{chunk}
use Rattle.dcm_value.proofs.Displays.TextLanes.{plain_more}
use Rattle.dcm_json.specs.Escaped.{is_plain_byte, plain_size}
use Rattle.dcm_json.proofs.PlainFronts.{size_all, size_less, size_behind}
use Rattle.dcm_json.proofs.escaped.plain_front.Goals as goal

pub returns-then-size-lt-LANES-clause-value : goal.returns-then-size-lt-LANES-clause-value
returns-then-size-lt-LANES-clause-value c =
    let v : List ℕ = c.args.bytes.now in
    let front : ℕ = 16 * c.loop-block.block in
    let so_far : list_all is_plain_byte (take front v) ≡ true = c.loop-block.invariant in
    let inside = c.loop-block-test.true in
    let size : c.plain_of_sixteen-size.result ≡ plain_size (take 16 (drop front v)) = c.plain_of_sixteen-size.ensures.value in
    let less = c.if-size-lt-LANES.true in
    ap (λ (n : ℕ). front + n) (size ∙ sym (size_less 16 (drop front v) (omega (arith, size, less)) (omega (arith, inside, length-drop front v))))
    ∙ size_behind v front (omega (arith, inside)) so_far

pub loop-block-preserved : goal.loop-block-preserved
loop-block-preserved c =
    let block : ℕ = c.loop-block.block in
    let v : List ℕ = c.args.bytes.now in
    let goes : 16 * block + 16 ≡ 16 * (block + 1) = omega arith in
    let inside = c.loop-block-test.true in
    let all = c.if-size-lt-LANES.false in
    let so_far : list_all is_plain_byte (take (16 * block) v) ≡ true = c.loop-block.invariant in
    ap (λ n. list_all is_plain_byte (take n v)) (sym goes) ∙ plain_more is_plain_byte v (16 * block) 16 so_far
    (size_all (chunk (16 * block) 16 v) (omega (arith, length-chunk (16 * block) 16 v (omega (arith, inside)), c.plain_of_sixteen-size.ensures.value, all)))

pub returns-clause-value : goal.returns-clause-value
returns-clause-value c =
    let v : List ℕ = c.args.bytes.now in
    let front : ℕ = 16 * (length v / 16) in
    let last : c.loop-block.block ≡ length v / 16 = omega (arith, c.loop-block-test.false, c.loop-block.auto.block-end) in
    let so_far : list_all is_plain_byte (take front v) ≡ true = sym (ap (λ (k : ℕ). list_all is_plain_byte (take (16 * k) v)) last) ∙ c.loop-block.invariant in
    ap (λ (n : ℕ). front + n) (c.plain_front_singly.ensures.value ∙ ap plain_size c.split_at.ensures.back)
    ∙ size_behind v front (omega arith) so_far
