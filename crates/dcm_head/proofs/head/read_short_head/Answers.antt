use Rattle.std.proofs.Common.{◌∙◌, sym, ap, List, ℕ}
use Rattle.std.proofs.lemmas.Bool.{ne_eqb}
use Rattle.dcm_lemmas.proofs.Lists.{tail_is}
use Rattle.dcm_base.specs.declared.syntax.Syntax.TheVariants.{Little as little_in}
use Rattle.dcm_base.specs.Tables.Number.{number}
use Rattle.dcm_head.proofs.Heads.Short.{begins_short}
use Rattle.dcm_head.proofs.head.read_short_head.Goals as goal

pub returns : goal.returns
returns c =
    let s = little_in c.args.dictionary in
    let size = c.from.ensures ∙ c.read_short.ensures ∙ ap (λ (x : List ℕ). number s 2 x) (tail_is 6 c.args.bytes.now) in
    begins_short c.args.dictionary c.args.bytes.now c.read_tag-tag.result c.in_ok-vr.vr c.from.result c.requires c.read_tag-tag.ensures
    (ne_eqb _ _ c.if-tag.false) (ne_eqb _ _ c.if-tag-eq-META_GROUP.false) c.in_ok-vr.ensures (sym c.is_long.ensures ∙ c.if-is_long.false) size
