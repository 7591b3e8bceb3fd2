use Rattle.std.proofs.Common.{sym}
use Rattle.dcm_table.specs.Parts.{double}
use Rattle.dcm_json.proofs.FloatTexts.{finite_out, other_out}
use Rattle.dcm_json.proofs.numbers.put_double.Goals as goal

pub returns-then-is_finite : goal.returns-then-is_finite
returns-then-is_finite g c =
    let f = c.format.ensures in
    record {
      bytes = finite_out double c.args.bits c.f64_from_bits_with_nan-number.result c.as_bytes.result.now c.format.result.now _ _ _ c.f64_from_bits_with_nan-number.ensures (sym c.if-is_finite.ensures.value)
          (record { parses = f.parses; plain = f.plain; layout = f.layout; word = f.word; short = f.short; ascii = f.ascii }) c.as_bytes.ensures.value c.put_all.ensures.wrote.bytes;
      failed = c.put_all.ensures.wrote.failed;
    }

pub returns-else-is_finite : goal.returns-else-is_finite
returns-else-is_finite g c =
    let f = c.format-else-is_finite.ensures in
    record {
      bytes = other_out double c.args.bits c.f64_from_bits_with_nan-number.result c.as_bytes-else-is_finite.result.now c.format-else-is_finite.result.now _ _ _ c.f64_from_bits_with_nan-number.ensures (sym c.if-is_finite.ensures.value)
          (record { parses = f.parses; plain = f.plain; layout = f.layout; word = f.word; short = f.short; ascii = f.ascii }) c.as_bytes-else-is_finite.ensures.value c.put_string.ensures.bytes;
      failed = c.put_string.ensures.failed;
    }
