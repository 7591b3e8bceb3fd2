use Rattle.std.proofs.Common.{◌≡◌, subst, ◌⊎◌, true, false, Some, None, length}
use Rattle.std.specs.Prelude.{fold}
use Rattle.dcm_base.specs.File.MetaReads.{MetaAnswer, is_undecided}
use Rattle.dcm_head.specs.MetaReading.{Says, at_start, meta_step, meta_finished}
use Rattle.std.proofs.lemmas.List.Sums.{fold-append}
use Rattle.dcm_head.proofs.HeadReading.Stays.{stays, kept_all}
use Rattle.dcm_head.proofs.MetaGroups.OneMeta.{one_meta}
use Rattle.dcm_head.proofs.HeadReading.State.{described}
use Rattle.dcm_head.proofs.HeadReading.Halts.{call_ends, call_refuses}
use Rattle.dcm_head.proofs.HeadReading.Answers.{told, going_exactly}
use Rattle.dcm_head.specs.declared.meta_read.MetaEnd.{MetaEnd}
use Rattle.dcm_head.proofs.laws.meta_steps.Goals as goal

pub returns-clause-said : goal.returns-clause-said
returns-clause-said c = λ file answer reads. let t = told _ file (described file) in subst (Says (meta_finished (fold meta_step at_start file))) (one_meta file t.answer answer t.reads reads) t.said

pub returns-clause-cuts : goal.returns-clause-cuts
returns-clause-cuts c = λ r piece more. fold-append meta_step r piece more

pub returns-clause-stays : goal.returns-clause-stays
returns-clause-stays c = λ r end piece h. stays r end piece h

pub returns-clause-kept : goal.returns-clause-kept
returns-clause-kept c = λ file h. kept_all at_start file h

pub returns-clause-going : goal.returns-clause-going
returns-clause-going c = λ file answer reads.
    let t = told _ file (described file) in
    going_exactly (is_undecided (length file) answer) (fold meta_step at_start file).end
    (subst (λ (a : MetaAnswer). ((is_undecided (length file) a ≡ true) × ((fold meta_step at_start file).end ≡ None)) ⊎ ((is_undecided (length file) a ≡ false) × (end : MetaEnd) × ((fold meta_step at_start file).end ≡ Some end)))
    (one_meta file t.answer answer t.reads reads) t.going)

pub returns-clause-halts : goal.returns-clause-halts
returns-clause-halts c = call_ends

pub returns-clause-fault : goal.returns-clause-fault
returns-clause-fault c = call_refuses
