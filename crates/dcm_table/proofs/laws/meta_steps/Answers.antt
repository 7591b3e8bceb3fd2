use Rattle.dcm_table.proofs.MetaCells.{meta_fills, meta_settles, meta_sets_nothing}
use Rattle.dcm_table.proofs.laws.meta_steps.Goals as goal

pub returns : goal.returns
returns c = record { steps = λ tags elements. meta_fills tags elements; settles = λ tags elements. meta_settles tags elements; sets = meta_sets_nothing }
