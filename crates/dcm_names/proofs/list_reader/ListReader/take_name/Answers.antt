use Rattle.std.proofs.Common.{◌∙◌, sym, refl, arith}
use Rattle.dcm_names.proofs.NameByName.{none_passed, one_passed}
use Rattle.dcm_names.proofs.list_reader.ListReader.take_name.Goals as goal

pub loop-self-init : goal.loop-self-init
loop-self-init c = record { passes = λ line held. none_passed c.args.self.now line held; same = record { read = refl; over = refl; filled = refl }; later = omega arith }

pub loop-self-preserved : goal.loop-self-preserved
loop-self-preserved c =
    let loop = c.loop-self.invariant in
    let same = c.loop-self-test.ensures.same in
    record {
      passes = λ line held.
          let p = loop.passes line held in
          let e = c.loop-self-test.ensures.takes p.now p.held in
          one_passed _ c.loop-self.self c.take_line.new.self _ line p e (sym (c.if-has_bytes.ensures e.ended e.held)) c.clear.ensures refl;
      later = let here = c.loop-self-test.ensures.later refl in omega (arith, here, loop.later);
      same = record { read = same.read ∙ loop.same.read; over = same.over ∙ loop.same.over; filled = same.filled ∙ loop.same.filled };
    }
