use Rattle.std.proofs.Common.{◌∙◌, ◌+◌, sym, ap, length, length-append, List, ℕ}
use Rattle.dcm_base.specs.Tree.Tree.{no_tree}
use Rattle.dcm_base.specs.Conversion.NewMeta.{new_elements, renewed}
use Rattle.dcm_head.proofs.MetaGroups.Rewritten.{elements_and_own}
use Rattle.dcm_head.proofs.rewriting.elements_size.Goals as goal

pub returns-clause-size : goal.returns-clause-size
returns-clause-size g c = λ all s m.
    let new = g.N.Renewal.renewing c.args.renewal.now in
    let own = g.N.Renewal.own c.args.renewal.now in
    let bytes = c.own_elements.result.now in
    ap (λ (n : ℕ). n + length bytes) (c.stay_size.ensures.size all s m)
    ∙ sym (length-append (new_elements (renewed new no_tree all) c.args.uid.now) bytes)
    ∙ ap (λ (x : List ℕ). length x) (sym (elements_and_own new own c.args.uid.now bytes all c.own_elements.ensures m))
