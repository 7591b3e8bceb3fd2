-- A name that was written has its output.
use Rattle.std.specs.Prelude.{[]}
use Rattle.std.proofs.Common.{◌≡◌, ◌∙◌, refl, sym, ap, subst, ℕ, ◌+◌, List, length, Bool, true, false, Some, None, Result, Ok, Err}
use Rattle.dcm_lemmas.proofs.Truth.{true_false}
use Rattle.dcm_devices.specs.Writing.{Writer}
use Rattle.dcm_walk.specs.Names.{below}
use Rattle.dcm_walk.specs.Visits.{Named}
use Rattle.dcm_walk.specs.declared.visitor.What.{What}
use Rattle.dcm_walk.specs.declared.visitor.What.TheVariants as whats
use Rattle.dcm_words.specs.Words.{Job}
use Rattle.dcm_cli.specs.Calls.{Reader}
use Rattle.dcm_trees.specs.declared.fate.Fate.{Fate}
use Rattle.dcm_trees.specs.declared.fate.Fate.TheVariants as fates
use Rattle.dcm_trees.specs.declared.part.NoPart.{NoPart}
use Rattle.dcm_trees.specs.declared.progress.Stop.{Stop as RunStop}
use Rattle.dcm_trees.specs.declared.place.Place.{Place}
use Rattle.dcm_trees.specs.declared.place.Place.TheVariants as places
use Rattle.dcm_trees.specs.declared.task.NoDays.{NoDays}
use Rattle.dcm_trees.specs.declared.task.NoDays.TheVariants as no_days
use Rattle.dcm_trees.specs.Fate.{is_written, fate_of}
use Rattle.dcm_trees.specs.File as spec
use Rattle.dcm_trees.specs.File.{DoesReady, DoesFree, DoesPlaced, DoesNamed, DoesFile, DoesName, under_its_name}
use Rattle.dcm_trees.specs.Instance.{no_instance_fate}
use Rattle.dcm_instance.specs.declared.names.NoInstance.{NoInstance}
use Rattle.dcm_instance.specs.declared.names.NoInstance.TheVariants as no_instances
use Rattle.dcm_trees.specs.Lines.{ending_fate, no_days_fate, place_fate}
use Rattle.dcm_trees.specs.Manner.{Manner}
use Rattle.dcm_trees.specs.Part as part_spec
use Rattle.dcm_trees.specs.Part.{NamesOutput, FillsAndNames, TellsNoPart}
use Rattle.dcm_tree_laws.specs.FileSystem.{FileSystem, Host, may_do, folders_do}
use Rattle.dcm_tree_laws.specs.Laws.{over}
use Rattle.dcm_tree_laws.proofs.Near.{IsNear}
use Rattle.dcm_tree_laws.proofs.Files.{path_is}
use Rattle.dcm_tree_laws.proofs.Closing.{finished_of}
use Rattle.dcm_tree_laws.proofs.Filling.{opens_file, part_is_made, part_is_new, is_filled_as}
pub use Rattle.dcm_tree_laws.proofs.Gives.{GivesOutput, OpenGives, FileGives}
use Rattle.dcm_tree_laws.proofs.Given.{IsReady, NewOutput, name_given, cleared_new, written_named}
use Rattle.dcm_tree_laws.proofs.Jobs.{finds_job}
use Rattle.dcm_tree_laws.proofs.Looking.{finds, same_ok}
use Rattle.dcm_tree_laws.proofs.Quiet.{are_quiet}
use Rattle.dcm_tree_laws.proofs.Steps.{Phase, idle, writing, whole, Steps, goes_on, quiet}

-- ---- fates that are no outputs

pub not_ok : (r : Result Fate RunStop) (p : RunStop) (fate : Fate) → r ≡ Err p → r ≡ Ok fate → ⊥
not_ok r p fate a b = absurd (cc)

pub not_written : {A : Type 0} (fate other : Fate) → fate ≡ other → is_written other ≡ false → is_written fate ≡ true → A
not_written {A} fate other is not written = absurd (true_false (is_written fate) written (ap is_written is ∙ not))

place_not : (place : Place) (continues : Bool) → is_written (place_fate place continues) ≡ false
place_not places.There true = refl
place_not places.There false = refl
place_not places.Barred continues = refl
place_not places.Free continues = refl

pub days_not : (cause : NoDays) → is_written (no_days_fate cause) ≡ false
days_not (no_days.Refused stop) = refl
days_not (no_days.Unread count) = refl
days_not no_days.Unopened = refl

pub instance_not : (cause : NoInstance) → is_written (no_instance_fate cause) ≡ false
instance_not no_instances.Unread = refl
instance_not (no_instances.Unfit uid) = refl

pub what_not : (what : What) → is_written (fate_of what) ≡ false
what_not whats.Unfit = refl
what_not whats.NoText = refl
what_not whats.PartFile = refl
what_not whats.OfOutput = refl
what_not whats.Unseen = refl
what_not whats.TooDeep = refl
what_not whats.Unlisted = refl
what_not whats.NoFile = refl
what_not (whats.File mode) = refl

-- ---- a file whose output has its name

-- a state in which nothing is written, from which a run goes on
pub record IsIdle {I O : Type 0} (h : Host I O) (IsWhole : ℕ → List ℕ → Type 0) (part output : List ℕ) (at : Phase) (start s : FileSystem) : Type 0 where
  pub none : start.written ≡ None
  pub of_output : IsNear output part
  pub steps : Steps h IsWhole part output idle start at s

pub more : {I O : Type 0} {h : Host I O} {IsWhole : ℕ → List ℕ → Type 0} {part output : List ℕ} {at then : Phase} {start s t : FileSystem} → IsIdle h IsWhole part output at start s → Steps h IsWhole part output at s then t → IsIdle h IsWhole part output then start t
more i steps = record { none = i.none; of_output = i.of_output; steps = goes_on i.steps steps }

pub is_ready : {I O : Type 0} {h : Host I O} {IsWhole : ℕ → List ℕ → Type 0} {part output : List ℕ} {start s : FileSystem} (bytes : List ℕ) → IsIdle h IsWhole part output (whole bytes) start s → IsReady h IsWhole part output bytes start s
is_ready bytes i = record { none = i.none; of_output = i.of_output; steps = i.steps }

output_named : {I O F E : Type 0} (h : Host I O) (IsWhole : ℕ → List ℕ → Type 0) (r : Reader I) (w : Writer O) (e : Writer E) (m : Manner) (name path relative bytes : List ℕ) → path ≡ below m.output relative → (fate : Fate) (from : E) (start before : FileSystem) (became : Fate) (to : E)
    (after : FileSystem) → IsReady h IsWhole m.part m.output bytes start before → NamesOutput (may_do {I = I} h) (folders_do {F = F} h) e m name path fate from before became to after → is_written became ≡ true
    → NewOutput h IsWhole m.part m.output path start.now after.now
output_named {I} {O} {F} h IsWhole r w e m name path relative bytes is fate from start before became to after ready n written =
    cleared_new {I = I} h IsWhole m.part m.output path n.naming start.now n.named after n.clears
    (name_given {I = I} {F = F} path relative is ready n.naming n.gives (written_named n.naming fate m.continues (sym (ap is_written n.becomes) ∙ written)))

filled_named : {I O F E : Type 0} (h : Host I O) (IsWhole : ℕ → List ℕ → Type 0) (r : Reader I) (w : Writer O) (e : Writer E) (job : Job) (m : Manner) (name path relative : List ℕ) → path ≡ below m.output relative → (mode : ℕ) (input : I) (output : O) → GivesOutput h IsWhole r w job input mode → h.took output ≡ [] → (from : E) (start before : FileSystem) (fate : Fate) (to : E)
    (after : FileSystem) → IsIdle h IsWhole m.part m.output (writing (h.masked mode)) start before → FillsAndNames (over {F = F} h r w e) job m name path input output from before fate to after → is_written fate ≡ true
    → NewOutput h IsWhole m.part m.output path start.now after.now
filled_named h IsWhole r w e job m name path relative is mode input output gives new from start before fate to after i (part_spec.not_done ending was_filled fills done told removes f) written = not_written fate (ending_fate ending) f done written
filled_named {I} {O} {F} h IsWhole r w e job m name path relative is mode input output gives new from start before fate to after i (part_spec.has_done ending was_filled told fills done reports names) written =
    output_named {I = I} {F = F} h IsWhole r w e m name path relative (h.took fills.written) is (ending_fate ending) told start was_filled fate to after
    (is_ready (h.took fills.written) (more i (is_filled_as h IsWhole r w m.part m.output (h.masked mode) job input output before ending was_filled fills done (gives fills.left output fills.written ending new (finished_of fills done) done)))) names written

pub tells_not : {E : Type 0} (e : Writer E) (name : List ℕ) (cause : NoPart) (from : E) (r : Result Fate RunStop) (to : E) (fate : Fate) → TellsNoPart e name cause from r to → r ≡ Ok fate → is_written fate ≡ false
tells_not e name cause from r to fate (part_spec.ends_run p c t is) ok = absurd (not_ok r p fate is ok)
tells_not e name cause from r to fate (part_spec.told c t is) ok = ap is_written (same_ok r fates.Unwritten fate is ok)

pub true_not : {A : Type 0} (fate : Fate) → is_written fate ≡ false → is_written fate ≡ true → A
true_not {A} fate not written = not_written fate fate refl not written

ready_named : {I O F E : Type 0} (h : Host I O) (IsWhole : ℕ → List ℕ → Type 0) (r : Reader I) (w : Writer O) (e : Writer E) (job : Job) (m : Manner) (n : Named) (mode : ℕ) (path relative : List ℕ) → path ≡ below m.output relative
    → (from : E) (start before : FileSystem) (result : Result Fate RunStop) (to : E) (after : FileSystem) (fate : Fate) → OpenGives h IsWhole r w job n.path mode before → IsIdle h IsWhole m.part m.output idle start before → DoesReady (over {F = F} h r w e) job m n mode path from before result to after
    → result ≡ Ok fate → is_written fate ≡ true → NewOutput h IsWhole m.part m.output path start.now after.now
ready_named h IsWhole r w e job m n mode path relative is from start before result to after fate gives i (spec.not_opened opens told f) ok written = not_written fate fates.Unread (same_ok result fates.Unread fate f ok) refl written
ready_named h IsWhole r w e job m n mode path relative is from start before result to after fate gives i (spec.no_part input cause opened tried opens makes back tells) ok written =
    true_not fate (tells_not e n.name cause from result to fate tells ok) written
ready_named {I} {O} {F} h IsWhole r w e job m n mode path relative is from start before result to after fate gives i (spec.filled input output became opened made opens makes fills f) ok written =
    filled_named {F = F} h IsWhole r w e job m n.name path relative is mode input output (gives input opened opens) (part_is_new {F = F} h m.part mode opened output made makes) from start made became to after
    (more (more i (quiet (opens_file {I = I} h n.path before (Some input) opened opens))) (part_is_made {F = F} h IsWhole m.part m.output mode opened output made makes)) fills
    (ap is_written (sym (same_ok result became fate f ok)) ∙ written)

free_named : {I O F E : Type 0} (h : Host I O) (IsWhole : ℕ → List ℕ → Type 0) (r : Reader I) (w : Writer O) (e : Writer E) (m : Manner) (n : Named) (mode : ℕ) (path relative : List ℕ) → path ≡ below m.output relative
    → (from : E) (start before : FileSystem) (result : Result Fate RunStop) (to : E) (after : FileSystem) (fate : Fate) → FileGives h IsWhole r w m.task n.path mode before → IsIdle h IsWhole m.part m.output idle start before → DoesFree (over {F = F} h r w e) m n mode path from before result to after
    → result ≡ Ok fate → is_written fate ≡ true → NewOutput h IsWhole m.part m.output path start.now after.now
free_named h IsWhole r w e m n mode path relative is from start before result to after fate gives i (spec.no_days cause f told c) ok written = not_written fate (no_days_fate cause) (same_ok result (no_days_fate cause) fate c ok) (days_not cause) written
free_named {I} {O} {F} h IsWhole r w e m n mode path relative is from start before result to after fate gives i (spec.has_job job mid f does) ok written =
    ready_named {F = F} h IsWhole r w e job m n mode path relative is from start mid result to after fate (gives job mid f) (more i (quiet (finds_job h r m.task n.path before (Ok job) mid f))) does ok written

placed_named : {I O F E : Type 0} (h : Host I O) (IsWhole : ℕ → List ℕ → Type 0) (r : Reader I) (w : Writer O) (e : Writer E) (m : Manner) (n : Named) (mode : ℕ) (path relative : List ℕ) → path ≡ below m.output relative
    → (from : E) (start before : FileSystem) (result : Result Fate RunStop) (to : E) (after : FileSystem) (fate : Fate) → FileGives h IsWhole r w m.task n.path mode before → IsIdle h IsWhole m.part m.output idle start before → DoesPlaced (over {F = F} h r w e) m n mode path from before result to after
    → result ≡ Ok fate → is_written fate ≡ true → NewOutput h IsWhole m.part m.output path start.now after.now
placed_named h IsWhole r w e m n mode path relative is from start before result to after fate gives i (spec.not_free place f nf told c) ok written =
    not_written fate (place_fate place m.continues) (same_ok result (place_fate place m.continues) fate c ok) (place_not place m.continues) written
placed_named {I} {O} {F} h IsWhole r w e m n mode path relative is from start before result to after fate gives i (spec.free place looked f nf does) ok written =
    free_named {F = F} h IsWhole r w e m n mode path relative is from start looked result to after fate
    (subst (FileGives h IsWhole r w m.task n.path mode) (sym (finds (folders_do {F = F} h) (are_quiet h) path (length m.output + 1) before place looked f)) gives) (more i (quiet (finds (folders_do {F = F} h) (are_quiet h) path (length m.output + 1) before place looked f))) does ok written

-- at the path of a relative name
pub at_name : {I O : Type 0} (h : Host I O) (IsWhole : ℕ → List ℕ → Type 0) (part output path other : List ℕ) (start s : FileSystem) → path ≡ other → NewOutput h IsWhole part output path start.now s.now → NewOutput h IsWhole part output other start.now s.now
at_name h IsWhole part output path other start s is out = subst (λ (p : List ℕ). NewOutput h IsWhole part output p start.now s.now) is out

pub named_named : {I O F E : Type 0} (h : Host I O) (IsWhole : ℕ → List ℕ → Type 0) (r : Reader I) (w : Writer O) (e : Writer E) (m : Manner) (n : Named) (mode : ℕ) (from : E) (start before : FileSystem) (result : Result Fate RunStop) (to : E) (after : FileSystem) (fate : Fate)
    → FileGives h IsWhole r w m.task n.path mode before → IsIdle h IsWhole m.part m.output idle start before → DoesNamed (over {F = F} h r w e) m n mode from before result to after → result ≡ Ok fate → is_written fate ≡ true
    → NewOutput h IsWhole m.part m.output (below m.output n.relative) start.now after.now
named_named h IsWhole r w e m n mode from start before result to after fate gives i (spec.too_long none told f same) ok written = not_written fate fates.Unwritten (same_ok result fates.Unwritten fate f ok) refl written
named_named {I} {O} {F} h IsWhole r w e m n mode from start before result to after fate gives i (spec.placed path is does) ok written =
    at_name h IsWhole m.part m.output path (below m.output n.relative) start after (path_is m.output n.relative path is)
    (placed_named {F = F} h IsWhole r w e m n mode path n.relative (path_is m.output n.relative path is) from start before result to after fate gives i does ok written)
