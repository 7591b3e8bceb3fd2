use Rattle.std.proofs.Common.{refl, subst, arith, rules, List, ℕ, Some, None, Ok, Err}
use Rattle.dcm_walk.specs.List.{IsSlash}
use Rattle.dcm_trees.specs.Modes.{modes_as}
use Rattle.dcm_trees.specs.Place.{HasFolder, none_made, and_made, all_made, not_all}
use Rattle.dcm_trees.proofs.place.make_way.Goals as goal

pub loop-length-init : goal.loop-length-init
loop-length-init g c = record { made = none_made refl refl; beyond = search rules; within = search rules }

pub returns-in_default : goal.returns-in_default
returns-in_default g c =
    all_made c.loop-length.at c.loop-length.invariant.made
    (subst (λ (rest : List ℕ). IsSlash rest None) c.split_at.ensures.back c.in_default.ensures) refl

pub returns-in_err-have_folder : goal.returns-in_err-have_folder
returns-in_err-have_folder g c =
    not_all c.loop-length.at c.in-Some.length _ c.loop-length.system c.loop-length.invariant.made
    (subst (λ (rest : List ℕ). IsSlash rest (Some c.in-Some.length)) c.split_at.ensures.back c.in-Some.ensures)
    (subst (λ (folder : List ℕ). HasFolder g.S.Folders.folders_do (modes_as c.args.modes) folder c.args.base c.loop-length.system (Err _) c.have_folder.new.system) c.split_at-in-loop-length.ensures.front c.in_err-have_folder.ensures)
    (search rules)

pub loop-length-preserved : goal.loop-length-preserved
loop-length-preserved g c =
    let rest : List ℕ = c.split_at.result.1.now in
    let inside = c.in-Some.ensures.0 in
    record {
      made = and_made c.loop-length.at c.in-Some.length c.loop-length.system c.loop-length.invariant.made
          (subst (λ (rest : List ℕ). IsSlash rest (Some c.in-Some.length)) c.split_at.ensures.back c.in-Some.ensures)
          (subst (λ (folder : List ℕ). HasFolder g.S.Folders.folders_do (modes_as c.args.modes) folder c.args.base c.loop-length.system (Ok _) c.have_folder.new.system) c.split_at-in-loop-length.ensures.front c.in_ok-have_folder.ensures)
          refl;
      beyond = omega (arith, c.loop-length.invariant.beyond);
      within = omega (arith, inside, c.split_at.ensures.back_len, c.loop-length.invariant.within);
    }

pub have_folder-requires : goal.have_folder-requires
have_folder-requires g c = omega (arith, c.loop-length.invariant.beyond, c.loop-length.invariant.within)
