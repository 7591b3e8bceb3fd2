use Rattle.std.proofs.Common.{sym, arith}
use Rattle.dcm_text.proofs.Pieces.{found_sized, none_sized}
use Rattle.dcm_text.proofs.decoder.Decoder.next_of.Goals as goal

pub split_at-requires : goal.split_at-requires
split_at-requires c =
    let d = c.args.self.now in
    (found_sized c.args.at_end d.sets d.kind d.halves c.args.input.now c.in-Some.found (sym c.in-Some.ensures)).1

pub copied-requires : goal.copied-requires
copied-requires c =
    let d = c.args.self.now in
    let s = found_sized c.args.at_end d.sets d.kind d.halves c.args.input.now c.in-Some.found (sym c.in-Some.ensures) in
    (omega arith, omega (arith, s.2, c.split_at.ensures.front_len))

pub copied-self-requires : goal.copied-self-requires
copied-self-requires c =
    let d = c.args.self.now in
    let s = none_sized c.args.at_end d.sets d.kind d.halves c.args.input.now (sym c.in-None.ensures) in
    (omega arith, omega arith)
