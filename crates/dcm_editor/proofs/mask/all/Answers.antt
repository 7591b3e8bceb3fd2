use Rattle.dcm_editor.proofs.Masks.Bits.{full_mask, ones_below}
use Rattle.dcm_editor.proofs.mask.all.Goals as goal

pub returns-then-count-eq-MOST_EDITS : goal.returns-then-count-eq-MOST_EDITS
returns-then-count-eq-MOST_EDITS c = λ k l. full_mask k c.args.count c.requires l

pub returns : goal.returns
returns c = λ k l. ones_below c.args.count k c.requires c.if-count-eq-MOST_EDITS.false l
