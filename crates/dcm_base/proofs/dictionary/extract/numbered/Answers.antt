use Rattle.std.proofs.Common.{sym, rules, arith}
use Rattle.dcm_base.proofs.Dictionaries.ByNumber.{found_at_place, missed_at_place}
use Rattle.dcm_base.proofs.dictionary.extract.numbered.Goals as goal
use Rattle.dcm_base.proofs.dictionary.extract.numbered.Goals.{else-at-rows-via-then-at-rows+else-rows-at, else-at-rows-via-else-at-rows}

-- the row has it
pub returns-then-rows-at : goal.returns-then-rows-at
returns-then-rows-at c = sym (found_at_place c.args.number c.args.rows.now c.requires.ascending _ _ c.if-at-rows.true c.if-rows-at.true)

-- no row has it
pub returns : goal.returns
returns c = sym (missed_at_place c.args.number c.args.rows.now c.requires.ascending c.args.places.now c.from-at.result c.requires.placed (search rules)
    (elim c.else-at-rows.branch [
      | else-at-rows-via-then-at-rows+else-rows-at w ↦ λ within. w.if-rows-at.false
      | else-at-rows-via-else-at-rows w ↦ λ within. absurd (omega (arith, within, w.if-at-rows.false))
    ]))
