use Rattle.std.proofs.Common.{◌≡◌, ◌+◌, ◌*◌, ◌/◌, ◌∙◌, ap, sym, arith, List, ℕ, drop, take, length, true}
use Rattle.std.specs.List.{list_all}
use Rattle.std.proofs.lemmas.Simd.{length-chunk}
use Rattle.std.proofs.lemmas.List.{length-drop}
use lib.Lanes.{chunk}
use Rattle.dcm_value.specs.Plain.{is_ascii_byte, ascii_size}
use Rattle.dcm_value.proofs.Displays.AsciiLanes.{size_all, size_less}
use Rattle.dcm_value.proofs.Displays.PlainRuns.{size_behind}
use Rattle.dcm_value.proofs.Displays.TextLanes.{plain_more}
use Rattle.dcm_value.proofs.escapes.ascii_front.Goals as goal

pub returns-then-size-lt-TEXT_LANES-clause-value : goal.returns-then-size-lt-TEXT_LANES-clause-value
returns-then-size-lt-TEXT_LANES-clause-value c =
    let v : List ℕ = c.args.bytes.now in
    let front : ℕ = 8 * c.loop-block.block in
    let so_far : list_all is_ascii_byte (take front v) ≡ true = c.loop-block.invariant in
    let inside = c.loop-block-test.true in
    let size : c.ascii_of_eight-size.result ≡ ascii_size (take 8 (drop front v)) = c.ascii_of_eight-size.ensures in
    let less = c.if-size-lt-TEXT_LANES.true in
    ap (λ (n : ℕ). front + n) (size ∙ sym (size_less 8 (drop front v) (omega (arith, size, less)) (omega (arith, inside, length-drop front v))))
    ∙ size_behind v front (omega (arith, inside)) so_far

pub loop-block-preserved : goal.loop-block-preserved
loop-block-preserved c =
    let block : ℕ = c.loop-block.block in
    let v : List ℕ = c.args.bytes.now in
    let goes : 8 * block + 8 ≡ 8 * (block + 1) = omega arith in
    let inside = c.loop-block-test.true in
    let all = c.if-size-lt-TEXT_LANES.false in
    let so_far : list_all is_ascii_byte (take (8 * block) v) ≡ true = c.loop-block.invariant in
    ap (λ n. list_all is_ascii_byte (take n v)) (sym goes) ∙ plain_more is_ascii_byte v (8 * block) 8 so_far
    (size_all (chunk (8 * block) 8 v) (omega (arith, length-chunk (8 * block) 8 v (omega (arith, inside)), c.ascii_of_eight-size.ensures, all)))

pub returns-clause-value : goal.returns-clause-value
returns-clause-value c =
    let v : List ℕ = c.args.bytes.now in
    let front : ℕ = 8 * (length v / 8) in
    let last : c.loop-block.block ≡ length v / 8 = omega (arith, c.loop-block-test.false, c.loop-block.auto.block-end) in
    let so_far : list_all is_ascii_byte (take front v) ≡ true = sym (ap (λ (k : ℕ). list_all is_ascii_byte (take (8 * k) v)) last) ∙ c.loop-block.invariant in
    ap (λ (n : ℕ). front + n) (c.ascii_front_singly.ensures.value ∙ ap ascii_size c.split_at.ensures.back)
    ∙ size_behind v front (omega arith) so_far
