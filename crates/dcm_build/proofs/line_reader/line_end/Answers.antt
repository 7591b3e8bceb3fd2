use Rattle.std.proofs.Common.{arith, length}
use Rattle.std.proofs.lemmas.Bool.{eqb-true}
use Rattle.dcm_build.proofs.Lines.Pieces.{plain_before}
use Rattle.dcm_build.proofs.line_reader.line_end.Goals as goal

pub returns-in-Some : goal.returns-in-Some
returns-in-Some c =
    let place = c.in-Some.ensures.0 in
    let is = eqb-true _ _ c.in-Some.ensures.1 in
    record {
      plain = plain_before c.args.bytes.now c.in-Some.at (λ j l. place.before j (omega arith) l);
      within = omega (arith, place.high);
      newline = λ h. is;
    }

pub returns-in-None : goal.returns-in-None
returns-in-None c =
    let bytes = c.args.bytes.now in
    record {
      plain = plain_before bytes (length bytes) (λ j l. c.in-None.ensures j (omega arith) l);
      within = omega arith;
      newline = λ h. absurd (omega (arith, h));
    }
