use Rattle.std.proofs.Common.{rules, ◌∙◌, List, ℕ, ap}
use Rattle.dcm_base.specs.declared.vr.Vr.TheVariants.{UL}
use Rattle.dcm_base.specs.Tables.Syntax.{Little}
use Rattle.dcm_base.specs.Conversion.Recode.{recoded_leaf}
use Rattle.dcm_base.specs.Conversion.NewMeta.{new_elements, group_length, renewed}
use Rattle.dcm_head.proofs.MetaGroups.Rewritten.{meta_puts, meta_failed}
use Rattle.dcm_head.proofs.rewriting.renew_meta.Goals as goal

pub returns-in_err-put_leaf : goal.returns-in_err-put_leaf
returns-in_err-put_leaf g c =
    let length_of = ap (λ (bytes : List ℕ). recoded_leaf Little (record { group = 2; element = 0 }) UL bytes) c.to_le_bytes.ensures in
    record { bytes = λ all s m. meta_failed _ _ _ (new_elements (renewed (g.N.Renewal.renewing c.args.renewal.now) (g.N.Renewal.own c.args.renewal.now) all) c.args.uid.now) c.from_residual.result c.in_err-put_leaf.ensures.bytes (length_of ∙ ap group_length (c.elements_size-size.ensures.size all s m)) c.from_residual.ensures.0; failed = search rules }

pub returns : goal.returns
returns g c =
    let length_of = ap (λ (bytes : List ℕ). recoded_leaf Little (record { group = 2; element = 0 }) UL bytes) c.to_le_bytes.ensures in
    record { bytes = λ all s m. meta_puts _ _ _ _ (new_elements (renewed (g.N.Renewal.renewing c.args.renewal.now) (g.N.Renewal.own c.args.renewal.now) all) c.args.uid.now) c.put_elements.result c.in_ok-put_leaf.ensures.bytes (length_of ∙ ap group_length (c.elements_size-size.ensures.size all s m)) (c.put_elements.ensures.bytes all s m); failed = search rules }
