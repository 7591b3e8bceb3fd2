-- At the end of a run at the part is what was there at its beginning, where no removing failed.
use Rattle.std.proofs.Common.{◌≡◌, ◌∙◌, refl, sym, ap, subst, ℕ, List, None, Result, Ok, Err}
use Rattle.dcm_devices.specs.Writing.{Writer}
use Rattle.dcm_cli.specs.Calls.{Reader}
use Rattle.dcm_walk.specs.Visits.{Named}
use Rattle.dcm_walk.specs.declared.visitor.Stopped.{Stopped}
use Rattle.dcm_walk.specs.declared.visitor.What.{What}
use Rattle.dcm_trees.specs.declared.progress.Shared.{Shared}
use Rattle.dcm_trees.specs.declared.progress.Work.{Work}
use Rattle.dcm_trees.specs.Manner.{Manner, manner_of}
use Rattle.dcm_trees.specs.Work as work
use Rattle.dcm_trees.specs.Work.{Progress, VisitsName, visits_of}
use Rattle.dcm_tree_laws.specs.FileSystem.{FileSystem, Host, folders_do}
use Rattle.dcm_tree_laws.specs.Laws.{IsOutput, over, part_path}
use Rattle.dcm_tree_laws.specs.Part.{LeavesPart, NoPartLeft, NoPartLeftByList}
use Rattle.dcm_tree_laws.proofs.Near.{IsNear}
use Rattle.dcm_tree_laws.proofs.ClearedBy.{still_leaves, then_leaves, name_leaves}
use Rattle.dcm_tree_laws.proofs.Lists.{lines_do}
use Rattle.dcm_tree_laws.proofs.OutputsBy.{Leaves, leaves, part_of_output}
use Rattle.dcm_tree_laws.proofs.Quiet.{are_quiet, only_quiet, IsClosed, IsSame}
use Rattle.dcm_tree_laws.proofs.Runs.{visit_name}
use Rattle.dcm_tree_laws.proofs.Steps.{no_step}
use Rattle.dcm_tree_laws.proofs.Walks.{VisitsDo, walks_do}

pub visit_leaves : {I O F W E : Type 0} (h : Host I O) (r : Reader I) (w : Writer O) (e : Writer E) (rows : Writer W) (shared : Shared) (from : Progress W) (told_before : E) (before : FileSystem) (n : Named) (what : What) (result : Result (Unit {0}) Stopped)
    (to : Progress W) (told : E) (after : FileSystem) → before.written ≡ None → IsNear (manner_of shared.manner).output (manner_of shared.manner).part
    → VisitsName (over {F = F} h r w e) rows shared from told_before before n what result to told after → LeavesPart h (manner_of shared.manner).part before after
visit_leaves h r w e rows shared from told_before before n what result to told after none of_output (work.of_another share t told_is same is) = still_leaves h (manner_of shared.manner).part before after same
visit_leaves {I} {O} {F} h r w e rows shared from told_before before n what result to told after none of_output (work.was_done done mid share does ends) =
    name_leaves {F = F} h r w e (manner_of shared.manner) n what told_before before before (Ok done) mid after (record { none = none; of_output = of_output; steps = no_step refl refl }) does
visit_leaves {I} {O} {F} h r w e rows shared from told_before before n what result to told after none of_output (work.ends_run p s share does t is) =
    name_leaves {F = F} h r w e (manner_of shared.manner) n what told_before before before (Err p) told after (record { none = none; of_output = of_output; steps = no_step refl refl }) does

-- what is kept from one name to the next
record Kept {I O W E : Type 0} (h : Host I O) (shared : Shared) (x : Work W × E) (before after : FileSystem) : Type 0 where
  same : x.0.shared ≡ shared
  none : after.written ≡ None
  leaves : LeavesPart h (manner_of shared.manner).part before after

abbrev Keeping : {I O W E : Type 0} → Host I O → Shared → (Work W × E) → FileSystem → (Work W × E) → FileSystem → Type 0
Keeping h shared from before to after = from.0.shared ≡ shared → before.written ≡ None → Kept h shared to before after

closed : {I O W E : Type 0} (h : Host I O) (shared : Shared) → IsClosed IsSame (Keeping {W = W} {E = E} h shared)
closed h shared = record {
  none = λ v s t same is none. record { same = is; none = ap (λ (x : FileSystem). x.written) same ∙ none; leaves = still_leaves h (manner_of shared.manner).part s t same };
  still = λ v s t same is none. record { same = is; none = ap (λ (x : FileSystem). x.written) same ∙ none; leaves = still_leaves h (manner_of shared.manner).part s t same };
  then = λ a b c s t u first second is none.
      let x = first is none in
      let y = second x.same x.none in
      record { same = y.same; none = y.none; leaves = then_leaves h (manner_of shared.manner).part s t u x.leaves y.leaves };
}

visits_kept : {I O F W E : Type 0} (h : Host I O) (r : Reader I) (w : Writer O) (e : Writer E) (rows : Writer W) (shared : Shared) → IsNear (manner_of shared.manner).output (manner_of shared.manner).part
    → VisitsDo (Keeping h shared) (visits_of (over {F = F} h r w e) rows)
visits_kept {I} {O} {F} {W} {E} h r w e rows shared of_output from before n what result to after v is none =
    let here : Shared = from.0.shared in
    let of_here : IsNear (manner_of here.manner).output (manner_of here.manner).part = subst (λ (s : Shared). IsNear (manner_of s.manner).output (manner_of s.manner).part) (sym is) of_output in
    let left : Leaves h (manner_of here.manner).part (manner_of here.manner).output before after = leaves h (IsOutput h r w) (manner_of here.manner).part (manner_of here.manner).output before after none of_here
    (visit_name {F = F} h r w e rows here _ from.1 before n what result _ to.1 after v.0) in
    record {
      same = v.1 ∙ is;
      none = left.none;
      leaves = subst (λ (s : Shared). LeavesPart h (manner_of s.manner).part before after) is (visit_leaves {F = F} h r w e rows here _ from.1 before n what result _ to.1 after none of_here v.0);
    }

at_path_of : {I O : Type 0} (h : Host I O) (before after : FileSystem) (part other : List ℕ) → part ≡ other → LeavesPart h part before after → LeavesPart h other before after
at_path_of h before after part other is leaves = subst (λ (p : List ℕ). LeavesPart h p before after) is leaves

pub no_part_left : {I O F W E : Type 0} (r : Reader I) (w : Writer O) (rows : Writer W) (e : Writer E) → NoPartLeft F r w rows e
no_part_left {I} {O} {F} {W} {E} r w rows e h run path begun opened headed from before status left to after none part v =
    let shared : Shared = v.start.shared in
    let of_output : IsNear (manner_of shared.manner).output (manner_of shared.manner).part = subst (λ (k : Manner). IsNear k.output k.part) (sym v.begins.shares.manner) (part_of_output run begun.part.items part) in
    let kept : Kept h shared (v.last, v.told) before after =
    walks_do (folders_do {F = F} h) (only_quiet (folders_do {F = F} h) (are_quiet h)) (Keeping h shared) (closed h shared) (visits_of (over {F = F} h r w e) rows)
    (visits_kept {F = F} h r w e rows shared of_output) path begun.number opened (v.start, from) before v.walked (v.last, v.told) after v.walks refl none in
    at_path_of h before after begun.part.items (part_path run) part (subst (λ (k : Manner). LeavesPart h k.part before after) v.begins.shares.manner kept.leaves)

pub no_part_left_by_list : {I O F W E : Type 0} (r : Reader I) (w : Writer O) (rows : Writer W) (e : Writer E) → NoPartLeftByList F r w rows e
no_part_left_by_list {I} {O} {F} {W} {E} r w rows e h run list begun input headed from before status left to after read none part v =
    let shared : Shared = v.start.shared in
    let of_output : IsNear (manner_of shared.manner).output (manner_of shared.manner).part = subst (λ (k : Manner). IsNear k.output k.part) (sym v.begins.shares.manner) (part_of_output run begun.part.items part) in
    let kept : Kept h shared (v.last, v.told) before after =
    lines_do (folders_do {F = F} h) (only_quiet (folders_do {F = F} h) (are_quiet h)) (Keeping h shared) (closed h shared) (visits_of (over {F = F} h r w e) rows)
    (visits_kept {F = F} h r w e rows shared of_output) r.gets begun.number (v.start, from) before input v.walked (v.last, v.told) after read v.walks refl none in
    at_path_of h before after begun.part.items (part_path run) part (subst (λ (k : Manner). LeavesPart h k.part before after) v.begins.shares.manner kept.leaves)
