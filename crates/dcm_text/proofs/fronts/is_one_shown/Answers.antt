use Rattle.std.proofs.Common.{sym, ◌∙◌}
use Rattle.dcm_text.proofs.Ahead.{one_shown}
use Rattle.dcm_text.proofs.fronts.is_one_shown.Goals as goal

pub returns-then-byte-ne37 : goal.returns-then-byte-ne37
returns-then-byte-ne37 c = one_shown c.args.byte (sym c.is_printed.ensures ∙ c.if-is_printed.true) c.if-byte-ne37.true
