use Rattle.std.proofs.Common.{sym, rules, []}
use Rattle.std.proofs.lemmas.List.Sorted.{answers_always}
use Rattle.dcm_base.proofs.Dictionaries.Search.{found, missed}
use Rattle.dcm_deid.specs.declared.fate.Fate.TheVariants.{Keep}
use Rattle.dcm_deid.proofs.fate.row_of.Goals as goal

-- the row at the place is the first with the number
pub returns-in-Ok : goal.returns-in-Ok
returns-in-Ok c =
    let position = c.in-Ok.ensures.position (λ a. a.0) (answers_always _ _ _ (λ f a r g called. search rules)) in
    sym (found (λ a. a.0) c.args.number c.args.actions.now c.requires.ascending c.in-Ok.at _ c.in-Ok.ensures.bound position)

-- no row has the number
pub returns-in-Err : goal.returns-in-Err
returns-in-Err c =
    let position = c.in-Err.ensures.position (λ a. a.0) (answers_always _ _ _ (λ f a r g called. search rules)) in
    sym (missed (λ a. a.0) c.args.number c.args.actions.now c.requires.ascending (0, Keep, record { ref_ptr = (0, 0); now = [] }) _ position)
