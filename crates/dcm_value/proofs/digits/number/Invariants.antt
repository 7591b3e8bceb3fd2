use Rattle.std.proofs.Common.{◌≡◌, ◌<◌, ◌^◌, drop}
use Rattle.dcm_base.specs.Lines.ReadValue.{number_in}
use Rattle.dcm_value.proofs.digits.number.Given as goal

-- the digits that are left lead to where all of them lead
abbrev pub invariant-loop-byte : goal.invariant-loop-byte
invariant-loop-byte l = record {
  same : number_in 16 0 l.digits ≡ number_in 16 l.number (drop l.byte-index l.digits);
  small : l.number < 16 ^ l.byte-index;
}
