-- The laws of a run over a tree.
use Rattle.std.proofs.Common.{◌≡◌, refl, inl, inr, ◌⊎◌, ℕ, List, [], ◌∷◌}
use Rattle.dcm_devices.specs.Writing.{Writer}
use Rattle.dcm_cli.specs.Calls.{Reader}
use Rattle.dcm_trees.specs.declared.run.TreeRun.{TreeRun}
use Rattle.dcm_trees.specs.Task.{task_of}
use Rattle.dcm_trees.specs.Tree.{DoesTree}
use Rattle.dcm_tree_words.specs.Trees.{Source}
use Rattle.dcm_tree_laws.specs.FileSystem.{FileSystem, Host, Tree, begins}
use Rattle.dcm_tree_laws.specs.Laws.{IsOutput, OthersStay, over, part_path}
use Rattle.dcm_tree_laws.specs.Stays.{IsOfOutput, LeadsThere, Stays, OfEach, Always}
use Rattle.dcm_tree_laws.proofs.Below.{part_is_within}
use Rattle.dcm_tree_laws.proofs.Both.{BothIn}
use Rattle.dcm_tree_laws.proofs.Near.{LeadsIn, StaysIn}
use Rattle.dcm_tree_laws.proofs.Runs.{RunCame, RightOf, does_tree, output_grows, always_right}
use Rattle.dcm_tree_laws.proofs.SoFar.{Grows, at_first}
use Rattle.dcm_tree_laws.proofs.Steps.{idle}

-- ---- what stays

there_or : {I O : Type 0} (h : Host I O) (output place : List ℕ) (A : Type 0) → A ⊎ LeadsIn h (IsOfOutput output) place → A ⊎ LeadsThere h output place
there_or h output place A (inl was) = inl was
there_or h output place A (inr l) = inr (record { path = l.path; of_output = l.of_output; leads = l.leads })

pub stays_so : {I O : Type 0} (h : Host I O) (part output : List ℕ) (start now : Tree) → StaysIn h part (IsOfOutput output) start now → Stays h part output start now
stays_so h part output start now s = record { there = s.there; bytes = s.bytes; new = λ place. there_or h output place (now.at place ≡ start.at place) (s.new place) }

each_so : {I O : Type 0} (h : Host I O) (part output : List ℕ) (start : Tree) (earlier : List Tree) → OfEach (StaysIn h part (IsOfOutput output) start) earlier → OfEach (Stays h part output start) earlier
each_so h part output start [] all = tt
each_so h part output start (t ∷ earlier) all = (stays_so h part output start t all.0, each_so h part output start earlier all.1)

pub always_so : {I O : Type 0} (h : Host I O) (IsWhole : ℕ → List ℕ → Type 0) (part output : List ℕ) (start : Tree) (s : FileSystem) → BothIn h IsWhole part (IsOfOutput output) start idle s → Always (Stays h part output start) s
always_so h IsWhole part output start s both = (stays_so h part output start s.now both.keeps.stays, each_so h part output start s.earlier both.keeps.earlier)

-- ---- a run

-- what holds after it, where its files give such outputs
pub after_run : {I O F W E : Type 0} (h : Host I O) (IsWhole : List Tree → ℕ → List ℕ → Type 0) → Grows IsWhole → (r : Reader I) (w : Writer O) (e : Writer E) (rows : Writer W) (run : TreeRun) (source : Source) (start : Tree) (manifest : W) (from : E) (status : ℕ) (left : W) (to : E) (after : FileSystem)
    → RightOf h source IsWhole r w (task_of run.task) (part_path run) run.output.now start → DoesTree (over {F = F} h r w e) rows run source manifest from (begins start) status left to after
    → RunCame h IsWhole (part_path run) run.output.now start after
after_run {I} {O} {F} h IsWhole grows r w e rows run source start manifest from status left to after right does =
    does_tree {F = F} h IsWhole grows r w e rows start run source manifest from (begins start) status left to after does right
    (at_first h IsWhole grows (part_path run) (IsOfOutput run.output.now) start (part_is_within run.output.now (part_path run) run.options.part.number refl))

pub others_stay : {I O F W E : Type 0} (r : Reader I) (w : Writer O) (rows : Writer W) (e : Writer E) → OthersStay F r w rows e
others_stay {I} {O} {F} r w rows e h run source start manifest from status left to after does =
    always_so h (IsOutput h r w) (part_path run) run.output.now start after
    (after_run {F = F} h (λ trees. IsOutput h r w) (output_grows h r w) r w e rows run source start manifest from status left to after (always_right h r w source (task_of run.task) (part_path run) run.output.now start) does).both
