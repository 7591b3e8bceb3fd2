use Rattle.std.proofs.Common.{◌∙◌, sym, subst, Option, arith}
use Rattle.dcm_words.specs.declared.naming.NamingRefusal.{NamingRefusal}
use Rattle.dcm_words.specs.Naming.{KeptAs}
use Rattle.dcm_words.specs.Tags.{tags_of}
use Rattle.dcm_words.specs.Words.{tags_after}
use Rattle.dcm_words.proofs.NamingLemmas.{many_meant, few_meant}
use Rattle.dcm_words.proofs.naming.Naming.finish.Goals as goal

pub returns-then-self-gt-MOST_NAMED : goal.returns-then-self-gt-MOST_NAMED
returns-then-self-gt-MOST_NAMED c words is =
    many_meant words (tags_of c.args.self.tags) (subst (λ (o : Option NamingRefusal). KeptAs o (tags_of c.args.self.tags) (tags_after 0 words)) c.in_default.is is.1) (omega (arith, is.0, c.if-self-gt-MOST_NAMED.true))

pub returns : goal.returns
returns c words is =
    few_meant words (tags_of c.args.self.tags) (subst (λ (o : Option NamingRefusal). KeptAs o (tags_of c.args.self.tags) (tags_after 0 words)) c.in_default.is is.1) (omega (arith, is.0, c.if-self-gt-MOST_NAMED.false))
