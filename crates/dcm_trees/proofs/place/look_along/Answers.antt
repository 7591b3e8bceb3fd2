use Rattle.std.proofs.Common.{refl, sym, ◌∙◌, subst, arith, rules, List, ℕ, Some, None}
use Rattle.dcm_walk.specs.List.{IsSlash}
use Rattle.dcm_trees.specs.Place.{Looks, none_yet, and_folder, to_its_end, ended}
use Rattle.dcm_trees.proofs.place.look_along.Goals as goal

pub loop-length-init : goal.loop-length-init
loop-length-init g c = record { folders = none_yet refl refl; within = search rules }

pub returns-in_default : goal.returns-in_default
returns-in_default g c =
    to_its_end c.loop-length.at c.loop-length.invariant.folders
    (subst (λ (rest : List ℕ). IsSlash rest None) c.split_at.ensures.back c.in_default.ensures) refl

pub returns-in-Some-end_of_way : goal.returns-in-Some-end_of_way
returns-in-Some-end_of_way g c =
    ended c.loop-length.at c.in-Some.length c.look-seen.result c.in-Some-end_of_way.end c.loop-length.system c.loop-length.invariant.folders
    (subst (λ (rest : List ℕ). IsSlash rest (Some c.in-Some.length)) c.split_at.ensures.back c.in-Some.ensures)
    (subst (λ (folder : List ℕ). Looks g.S.Folders.folders_do folder c.loop-length.system c.look-seen.result c.look-seen.new.system) c.split_at-in-loop-length.ensures.front c.look-seen.ensures)
    (sym c.end_of_way.ensures ∙ c.in-Some-end_of_way.is) refl

pub loop-length-preserved : goal.loop-length-preserved
loop-length-preserved g c =
    let rest : List ℕ = c.split_at.result.1.now in
    let inside = c.in-Some.ensures.0 in
    record {
      folders = and_folder c.loop-length.at c.in-Some.length c.look-seen.result c.loop-length.system c.loop-length.invariant.folders
          (subst (λ (rest : List ℕ). IsSlash rest (Some c.in-Some.length)) c.split_at.ensures.back c.in-Some.ensures)
          (subst (λ (folder : List ℕ). Looks g.S.Folders.folders_do folder c.loop-length.system c.look-seen.result c.look-seen.new.system) c.split_at-in-loop-length.ensures.front c.look-seen.ensures)
          (sym c.end_of_way.ensures ∙ c.in_default-end_of_way.is) refl;
      within = omega (arith, inside, c.split_at.ensures.back_len, c.loop-length.invariant.within);
    }
