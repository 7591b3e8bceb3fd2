use Rattle.std.proofs.Common.{sym, rules}
use Rattle.std.proofs.lemmas.List.Sorted.{answers_always}
use Rattle.dcm_base.proofs.Dictionaries.Entries.{found, missed}
use Rattle.dcm_base.proofs.dictionary.searched.Goals as goal

-- the entry at the place is the first with the number
pub returns-in-Ok : goal.returns-in-Ok
returns-in-Ok c =
    let position = c.in-Ok.ensures.position (λ e. e.0) (answers_always _ _ _ (λ f a r g called. search rules)) in
    sym (found c.args.number c.args.entries.now c.requires c.in-Ok.at _ c.in-Ok.ensures.bound position)

-- no entry has the number
pub returns-in-Err : goal.returns-in-Err
returns-in-Err c =
    let position = c.in-Err.ensures.position (λ e. e.0) (answers_always _ _ _ (λ f a r g called. search rules)) in
    sym (missed c.args.number c.args.entries.now c.requires _ position)
