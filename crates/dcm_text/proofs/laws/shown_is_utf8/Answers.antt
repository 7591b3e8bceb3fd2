use Rattle.dcm_text.proofs.Sound.{dump_utf8, table_utf8}
use Rattle.dcm_text.proofs.laws.shown_is_utf8.Goals as goal

pub returns : goal.returns
returns c = record { dumped = dump_utf8; cell = table_utf8 }
