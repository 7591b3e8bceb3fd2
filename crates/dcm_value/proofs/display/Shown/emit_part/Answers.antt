use Rattle.std.proofs.Common.{sym, ◌∙◌}
use Rattle.dcm_value.proofs.Displays.Emits.{emits_same}
use Rattle.dcm_value.proofs.Displays.PlainTexts.{plain_escaped}
use Rattle.dcm_value.proofs.display.Shown.emit_part.Goals as goal

pub returns-then-is_plain_text : goal.returns-then-is_plain_text
returns-then-is_plain_text g c = emits_same (sym (plain_escaped c.args.bytes.now (sym c.is_plain_text.ensures ∙ c.if-is_plain_text.true))) c.emit.ensures
