use Rattle.std.proofs.Common.{sym}
use Rattle.dcm_json.proofs.NumberTexts.{numbers_are_utf8}
use Rattle.dcm_json.proofs.number_text.is_json_number.Goals as goal

pub returns-in-Err : goal.returns-in-Err
returns-in-Err c = absurd (c.in-Err.ensures.cases.0 (numbers_are_utf8 c.args.text.now (sym c.if-not-are_of_number.ensures)))
