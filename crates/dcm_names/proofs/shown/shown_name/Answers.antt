use Rattle.std.proofs.Common.{◌∙◌, ap, ◌≤◌, ℕ, List, length, arith}
use Rattle.std.specs.Prelude.{flat_map}
use Rattle.std.proofs.lemmas.List.{take_all}
use Rattle.dcm_names.specs.Names.{shown_name, shown_byte}
use Rattle.dcm_names.proofs.Kept.{first_bytes}
use Rattle.dcm_names.proofs.shown.shown_name.Goals as goal

pub returns-clause-value : goal.returns-clause-value
unfolding shown_name
returns-clause-value c =
    let shown : List ℕ = c.split_at.result.0.now in
    let all : length shown ≤ c.loop-byte.byte-index = omega (arith, c.loop-byte-test.false) in
    c.loop-byte.invariant.text
    ∙ ap (flat_map shown_byte) (take_all c.loop-byte.byte-index shown all ∙ c.split_at.ensures.front ∙ first_bytes 4096 c.args.name.now c.min.result (omega (arith, c.min.ensures)))
