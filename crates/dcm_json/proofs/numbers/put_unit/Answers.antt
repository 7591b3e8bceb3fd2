use Rattle.dcm_json.proofs.FloatTexts.{integer_out, tag_out}
use Rattle.dcm_json.proofs.numbers.put_unit.Goals as goal

pub returns-in-AT : goal.returns-in-AT
returns-in-AT g c = record { bytes = tag_out c.args.vr c.args.unit.now _ _ _ _ c.in-AT.is c.tag_digits.ensures c.put_string.ensures.bytes; failed = c.put_string.ensures.failed }

pub returns-in_default : goal.returns-in_default
returns-in_default g c = record {
  bytes = integer_out c.args.vr c.args.unit.now _ _ _ c.in_default.not-FL c.in_default.not-FD c.in_default.not-AT c.put_integer.ensures.bytes;
  failed = c.put_integer.ensures.failed;
}
