use Rattle.std.proofs.Common.{◌≡◌, ◌≤◌, ◌+◌, drop, option_map}
use Rattle.dcm_base.specs.Lines.ReadValue.{number_in}
use Rattle.dcm_words.specs.Plans.{capped}
use Rattle.dcm_words.proofs.words.limited_number.Given as goal

-- the digits that are left lead to where all of them lead
abbrev pub invariant-loop-byte : goal.invariant-loop-byte
invariant-loop-byte l = record {
  same : option_map (capped l.most) (number_in 10 0 l.digits) ≡ option_map (capped l.most) (number_in 10 l.number (drop l.byte-index l.digits));
  small : l.number ≤ l.most + 1;
}
