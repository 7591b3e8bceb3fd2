use Rattle.std.proofs.Common.{arith}
use Rattle.dcm_value.proofs.Displays.Facts.{filled_full, filled_short}
use Rattle.dcm_value.proofs.display.Shown.emit.Goals as goal
use Rattle.dcm_value.proofs.display.Shown.emit.Goals.{in-Full+in_ok-put_all-in-Full, in-Short}

pub invariant_of-self-2-clause-filled : goal.invariant_of-self-2-clause-filled
invariant_of-self-2-clause-filled g c =
    let now = c.args.self.now in
    elim c.match-self.branch [
      | in-Full+in_ok-put_all-in-Full w ↦ rw w.self-is (filled_full now.mode now.front.items now.count _ w.in-Full.is now.filled)
      | in-Short w ↦ rw w.self-is (filled_short now.mode now.front.items c.args.bytes.now now.count _ w.fill.new.front.items w.in-Short.is now.filled now.capped w.fill.ensures (omega arith))
    ]
