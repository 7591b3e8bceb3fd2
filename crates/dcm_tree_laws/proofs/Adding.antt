-- The steps of a run add to the trees that it had.
use Rattle.std.proofs.Common.{◌≡◌, refl, ℕ, List, [], None}
use Rattle.dcm_tree_laws.specs.FileSystem.{FileSystem, Tree, Host}
use Rattle.dcm_tree_laws.proofs.Both.{Both, each}
use Rattle.dcm_tree_laws.proofs.Forgets.{after_any, with_past, step_past}
use Rattle.dcm_tree_laws.proofs.Near.{IsNear}
use Rattle.dcm_tree_laws.proofs.SoFar.{trees_of, Adds, each_adds}
use Rattle.dcm_tree_laws.proofs.Steps.{Phase, idle, whole, Step, Steps, no_step, all_keep}
use Rattle.dcm_tree_laws.proofs.WholeBy.{no_folder}
use Rattle.dcm_tree_laws.proofs.WholePart.{IsReady}

-- what is known of a state, whatever was noted before, and the trees that it adds to
record Added {I O : Type 0} (h : Host I O) (IsWhole : ℕ → List ℕ → Type 0) (part output : List ℕ) (start : Tree) (trees : List Tree) (at : Phase) (s : FileSystem) : Type 0 where
  past : List Tree
  both : Both h IsWhole part output start at (with_past past s)
  adds : Adds trees s

each_added : {I O : Type 0} (h : Host I O) (IsWhole : ℕ → List ℕ → Type 0) (part output : List ℕ) (start : Tree) (trees : List Tree) → IsNear output part → (at : Phase) (before : FileSystem) (then : Phase) (after : FileSystem) → Step h IsWhole part output at before then after
    → Added h IsWhole part output start trees at before → Added h IsWhole part output start trees then after
each_added h IsWhole part output start trees of_output at before then after step x =
    let y : (more : List Tree) × Step h IsWhole part output at (with_past x.past before) then (with_past more after) = step_past x.past step in
    record {
      past = y.0;
      both = each h IsWhole part (IsNear output) start of_output at (with_past x.past before) then (with_past y.0 after) y.1 x.both;
      adds = each_adds h IsWhole part (IsNear output) trees at before then after (λ rest other. no_folder h IsWhole part start at (with_past x.past before) x.both.holds rest other) step x.adds;
    }

all_added : {I O : Type 0} (h : Host I O) (IsWhole : ℕ → List ℕ → Type 0) (part output : List ℕ) (start : Tree) (at : Phase) (s : FileSystem) → IsNear output part → (past : List Tree) × Both h IsWhole part output start at (with_past past s) → (then : Phase) (after : FileSystem)
    → Steps h IsWhole part output at s then after → Adds (trees_of s) after
all_added h IsWhole part output start at s of_output x then after steps =
    (all_keep (Added h IsWhole part output start (trees_of s)) (each_added h IsWhole part output start (trees_of s) of_output) at s then after steps (record { past = x.0; both = x.1; adds = record { later = []; are = refl } })).adds

-- from a state in which nothing is being written
pub since_idle : {I O : Type 0} (h : Host I O) (IsWhole : ℕ → List ℕ → Type 0) (part output : List ℕ) (before : FileSystem) → before.written ≡ None → IsNear output part → (then : Phase) (after : FileSystem) → Steps h IsWhole part output idle before then after
    → Adds (trees_of before) after
since_idle h IsWhole part output before none of_output then after steps =
    all_added h IsWhole part output before.now idle before of_output (after_any h IsWhole part output before none of_output idle before (no_step refl refl)) then after steps

-- and from one in which the part is whole
pub since_ready : {I O : Type 0} {h : Host I O} {IsWhole : ℕ → List ℕ → Type 0} {part output bytes : List ℕ} {start s : FileSystem} (then : Phase) (after : FileSystem) → IsReady h IsWhole part output bytes start s → Steps h IsWhole part output (whole bytes) s then after
    → Adds (trees_of s) after
since_ready {I} {O} {h} {IsWhole} {part} {output} {bytes} {start} {s} then after r steps =
    all_added h IsWhole part output start.now (whole bytes) s r.of_output (after_any h IsWhole part output start r.none r.of_output (whole bytes) s r.steps) then after steps
