use Rattle.std.proofs.Common.{rules, arith, ◌≢◌, get_or}
use Rattle.dcm_value.proofs.ReadBack.Parts.{plain_text}
use Rattle.dcm_value.proofs.reading.read_byte.Goals as goal

pub returns-in_default-byte-clause-value : goal.returns-in_default-byte-clause-value
returns-in_default-byte-clause-value c =
    let v = c.args.text.now in
    let no_end : get_or v 0 0 ≢ 93 = search rules in
    let no_escape : get_or v 0 0 ≢ 37 = search rules in
    plain_text v (omega arith) no_end no_escape
