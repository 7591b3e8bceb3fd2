use Rattle.std.proofs.Common.{◌≡◌, length}
use Rattle.dcm_json.specs.NumberText as spec
use Rattle.dcm_json.proofs.number_text.exponent.Given as goal

-- no exponent began in what was passed
abbrev pub invariant-loop-text : goal.invariant-loop-text
invariant-loop-text l = spec.exponent l.text ≡ spec.exponent l.fn.text

abbrev pub decreases-loop-text : goal.decreases-loop-text
decreases-loop-text l = length l.text
