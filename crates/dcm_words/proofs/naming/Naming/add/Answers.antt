use Rattle.std.proofs.Common.{sym, ◌∙◌, ap, arith}
use Rattle.dcm_words.proofs.NamingLemmas.{stays, adds, refuses, counts}
use Rattle.dcm_words.proofs.naming.Naming.add.Goals as goal

pub returns-then-is_some : goal.returns-then-is_some
returns-then-is_some c words is = (counts c.args.self.now.number words c.args.word.now is.0, stays c.args.self.now.refused _ words c.args.word.now (sym c.is_some.ensures ∙ c.if-is_some.true) is.1)

pub returns-in-Ok : goal.returns-in-Ok
returns-in-Ok c words is = (counts c.args.self.now.number words c.args.word.now is.0, adds c.args.self.now.refused _ _ c.in-Ok.tag words c.args.word.now (sym c.is_some.ensures ∙ c.if-is_some.false) (sym c.tag_named.ensures ∙ c.in-Ok.is) c.push.ensures is.1)

pub returns-in-Err : goal.returns-in-Err
returns-in-Err c words is = (counts c.args.self.now.number words c.args.word.now is.0, refuses c.args.self.now.refused _ _ c.in-Err.refusal words c.args.word.now (sym c.is_some.ensures ∙ c.if-is_some.false) (sym c.tag_named.ensures ∙ c.in-Err.is) (omega (arith, is.0)) is.1)
