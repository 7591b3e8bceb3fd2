use Rattle.std.proofs.Common.{sym}
use Rattle.dcm_text.proofs.Pieces.{found_some}
use Rattle.dcm_text.proofs.decoder.found.Goals as goal

pub returns-in-Some : goal.returns-in-Some
returns-in-Some c =
    sym (found_some c.args.at_end c.args.sets.now c.args.kind c.args.halves c.args.text.now c.in-Some.found (sym c.in-Some.ensures))
