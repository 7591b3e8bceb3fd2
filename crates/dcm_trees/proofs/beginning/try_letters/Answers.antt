use Rattle.std.proofs.Common.{refl, sym, subst, Bool, true, false, List, ℕ, Ok, Err}
use Rattle.dcm_trees.specs.Beginning as spec
use Rattle.dcm_trees.specs.Letters.{IsOneName}
use Rattle.dcm_trees.proofs.beginning.try_letters.Goals as goal

pub returns-in_default : goal.returns-in_default
returns-in_default g c = spec.too_long (sym c.in_default.ensures) refl refl

pub returns-in-Ok-true : goal.returns-in-Ok-true
returns-in-Ok-true g c = spec.alike c.in-Some.capitals.items (sym c.in-Some.ensures)
    (subst (λ (capitals : List ℕ). IsOneName g.S.System.may_do g.S.Folders.folders_do c.args.path.now capitals c.args.system.now (Ok true) c.is_one_name.new.system) c.as_slice.ensures.value
    (subst (λ (b : Bool). IsOneName g.S.System.may_do g.S.Folders.folders_do c.args.path.now c.as_slice.result.now c.args.system.now (Ok b) c.is_one_name.new.system) c.in-Ok-true.field-0-test c.in-Ok-true.ensures)) refl

pub returns-in-Ok-false : goal.returns-in-Ok-false
returns-in-Ok-false g c = spec.told_apart c.in-Some.capitals.items (sym c.in-Some.ensures)
    (subst (λ (capitals : List ℕ). IsOneName g.S.System.may_do g.S.Folders.folders_do c.args.path.now capitals c.args.system.now (Ok false) c.is_one_name.new.system) c.as_slice.ensures.value
    (subst (λ (b : Bool). IsOneName g.S.System.may_do g.S.Folders.folders_do c.args.path.now c.as_slice.result.now c.args.system.now (Ok b) c.is_one_name.new.system) c.in-Ok-false.field-0-test c.in-Ok-false.ensures)) refl

pub returns-in-Err : goal.returns-in-Err
returns-in-Err g c = spec.not_tried c.in-Some.capitals.items c.in-Err.refusal (sym c.in-Some.ensures)
    (subst (λ (capitals : List ℕ). IsOneName g.S.System.may_do g.S.Folders.folders_do c.args.path.now capitals c.args.system.now (Err c.in-Err.refusal) c.is_one_name.new.system) c.as_slice.ensures.value c.in-Err.ensures) refl
