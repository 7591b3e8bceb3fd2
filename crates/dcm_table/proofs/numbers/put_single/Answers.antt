use Rattle.std.proofs.Common.{sym}
use Rattle.dcm_table.specs.Parts.{single}
use Rattle.dcm_table.proofs.NumberParts.{nan_out, float_out}
use Rattle.dcm_table.proofs.numbers.put_single.Goals as goal

pub returns-then-is_nan_single : goal.returns-then-is_nan_single
returns-then-is_nan_single g c =
    record { bytes = nan_out single c.args.bits _ _ _ (sym c.if-is_nan_single.ensures) c.put_all.ensures.wrote.bytes; failed = c.put_all.ensures.wrote.failed }

pub returns : goal.returns
returns g c =
    let f = c.format.ensures in
    record {
      bytes = float_out single c.args.bits c.as_bytes.result.now c.format.result.now _ _ _ (sym c.if-is_nan_single.ensures)
          (record { parses = f.parses; plain = f.plain; layout = f.layout; word = f.word; short = f.short; ascii = f.ascii })
          c.as_bytes.ensures.value c.put_all-2.ensures.wrote.bytes;
      failed = c.put_all-2.ensures.wrote.failed;
    }
