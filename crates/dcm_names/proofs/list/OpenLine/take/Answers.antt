use Rattle.std.proofs.Common.{◌≡◌, ◌∙◌, ap, sym, subst, ◌+◌, ℕ, List, [], ◌∷◌, ◌++◌, suc, take, drop, arith}
use Rattle.dcm_names.specs.Names.{open_line, ended_lines}
use Rattle.dcm_names.specs.Held.{Holds}
use Rattle.dcm_names.proofs.Lists.{at_newline, no_newline}
use Rattle.dcm_names.proofs.list.OpenLine.take.Goals as goal

pub returns-in-Some-clause-takes : goal.returns-in-Some-clause-takes
returns-in-Some-clause-takes c = λ line held.
    let ends = at_newline line c.args.piece.now c.in-Some.at c.in-Some.ensures in
    let next : suc c.in-Some.at ≡ c.in-Some.at + 1 = omega arith in
    record {
      ended = line ++ take c.in-Some.at c.args.piece.now;
      held = subst (λ (l : List ℕ). Holds c.keep.new.self (line ++ l)) c.split_at.ensures.front (c.keep.ensures line held);
      lines = ends.0 ∙ ap (λ n. (line ++ take c.in-Some.at c.args.piece.now) ∷ ended_lines [] (drop n c.args.piece.now)) next;
      goes_on = ends.1 ∙ ap (λ n. open_line [] (drop n c.args.piece.now)) next;
    }

pub returns-in-None-clause-takes : goal.returns-in-None-clause-takes
returns-in-None-clause-takes c = λ line held.
    let ends = no_newline line c.args.piece.now c.in-None.ensures in
    record {
      held = subst (λ (l : List ℕ). Holds c.keep-in-None.new.self l) (sym ends.1) (c.keep-in-None.ensures line held);
      lines = ends.0;
    }
