use Rattle.std.proofs.Common.{sym}
use Rattle.dcm_deid.proofs.fate.fate_of.Goals as goal

-- an element that is always kept
pub returns-then-is_always_kept : goal.returns-then-is_always_kept
returns-then-is_always_kept c =
    sym (c.is_always_kept.ensures c.if-is_always_kept.true c.args.options.now c.args.depth c.args.tag (sym c.number.ensures))
