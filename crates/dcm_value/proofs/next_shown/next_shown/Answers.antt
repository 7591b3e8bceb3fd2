use Rattle.std.proofs.Common.{◌∙◌, ap, arith, List, ℕ, take, drop}
use Rattle.dcm_text.specs.Runs.{state_of}
use Rattle.dcm_value.proofs.Displays.DecodedTexts.{bytes_are}
use Rattle.dcm_value.proofs.Displays.PlainRuns.{plain_step, count_within}
use Rattle.dcm_value.proofs.next_shown.next_shown.Goals as goal

pub returns-then-size-gt0-clause-shown : goal.returns-then-size-gt0-clause-shown
returns-then-size-gt0-clause-shown c =
    let d = c.args.decoder.now in
    let input : List ℕ = c.args.input.now in
    let p =
    plain_step c.args.at_end (state_of d) d.sets d.kind input c.split_at.result.0.now c.split_at.result.1.now (c.is_at_start.ensures.start c.if-is_at_start.true)
    (c.split_at.ensures.front ∙ ap (λ (n : ℕ). take n input) c.ascii_front-size.ensures.value)
    (c.split_at.ensures.back ∙ ap (λ (n : ℕ). drop n input) c.ascii_front-size.ensures.value) in
    record { shown = p.shown; state = p.state; count = p.count }

pub returns-then-size-gt0-clause-few : goal.returns-then-size-gt0-clause-few
returns-then-size-gt0-clause-few c =
    let d = c.args.decoder.now in
    omega (arith, bytes_are d c.split_at.result.1.now, bytes_are d c.args.input.now, count_within c.split_at.result.0.now, c.split_at.ensures.front_len, c.split_at.ensures.back_len, c.ascii_front-size.ensures.most)

pub returns-then-size-gt0-clause-fewer : goal.returns-then-size-gt0-clause-fewer
returns-then-size-gt0-clause-fewer c =
    let d = c.args.decoder.now in
    omega (arith, bytes_are d c.split_at.result.1.now, bytes_are d c.args.input.now, c.split_at.ensures.front_len, c.split_at.ensures.back_len, c.ascii_front-size.ensures.most, c.if-size-gt0.true)
