use Rattle.std.proofs.Common.{refl, sym, ◌∙◌, subst, arith, List, ℕ, Some, None}
use Rattle.dcm_walk.specs.List.{IsSlash, Sees, none_yet, and_folder, with_none, with_one}
use Rattle.dcm_walk.proofs.list.wrong_on_the_way.Goals as goal

pub loop-length-init : goal.loop-length-init
loop-length-init g c = record { others = none_yet refl refl; within = omega arith }

pub returns-in_default : goal.returns-in_default
returns-in_default g c =
    with_none c.loop-length.at c.loop-length.invariant.others
    (subst (λ (rest : List ℕ). IsSlash rest None) c.split_at.ensures.back c.in_default.ensures) refl

pub returns-in-Some-wrong_with : goal.returns-in-Some-wrong_with
returns-in-Some-wrong_with g c =
    with_one c.loop-length.at c.in-Some.length c.seen-found.result c.in-Some-wrong_with.what c.loop-length.system c.loop-length.invariant.others
    (subst (λ (rest : List ℕ). IsSlash rest (Some c.in-Some.length)) c.split_at.ensures.back c.in-Some.ensures)
    (subst (λ (folder : List ℕ). Sees g.S.Folders.folders_do folder c.loop-length.system c.seen-found.result c.seen-found.new.system) c.split_at-in-loop-length.ensures.front c.seen-found.ensures)
    (sym c.wrong_with.ensures ∙ c.in-Some-wrong_with.is) refl

pub loop-length-preserved : goal.loop-length-preserved
loop-length-preserved g c =
    let rest : List ℕ = c.split_at.result.1.now in
    let inside = c.in-Some.ensures.0 in
    record {
      others = and_folder c.loop-length.at c.in-Some.length c.seen-found.result c.loop-length.system c.loop-length.invariant.others
          (subst (λ (rest : List ℕ). IsSlash rest (Some c.in-Some.length)) c.split_at.ensures.back c.in-Some.ensures)
          (subst (λ (folder : List ℕ). Sees g.S.Folders.folders_do folder c.loop-length.system c.seen-found.result c.seen-found.new.system) c.split_at-in-loop-length.ensures.front c.seen-found.ensures)
          (sym c.wrong_with.ensures ∙ c.in_default-wrong_with.is) refl;
      within = omega (arith, inside, c.split_at.ensures.back_len, c.loop-length.invariant.within);
    }
