-- A name that was written by its instance has its output; and so has each name that was written.
use Rattle.std.specs.Prelude.{[]}
use Rattle.std.proofs.Common.{◌≡◌, ◌∙◌, refl, sym, ap, subst, ℕ, List, true, false, Some, Result, Ok, Err}
use Rattle.dcm_devices.specs.Writing.{Writer}
use Rattle.dcm_instance.specs.declared.names.Instance.{Instance}
use Rattle.dcm_tree_laws.proofs.Touched.{no_done}
use Rattle.dcm_walk.specs.Names.{below}
use Rattle.dcm_walk.specs.Visits.{Named}
use Rattle.dcm_walk.specs.declared.visitor.What.{What}
use Rattle.dcm_walk.specs.declared.visitor.What.TheVariants.{File}
use Rattle.dcm_words.specs.Words.{Job}
use Rattle.dcm_cli.specs.Calls.{Reader}
use Rattle.dcm_trees.specs.declared.fate.Fate.{Fate}
use Rattle.dcm_trees.specs.declared.fate.Fate.TheVariants as fates
use Rattle.dcm_trees.specs.declared.file.Done.{Done}
use Rattle.dcm_trees.specs.declared.part.NoPart.{NoPart}
use Rattle.dcm_trees.specs.declared.progress.Stop.{Stop as RunStop}
use Rattle.dcm_trees.specs.Fate.{is_written, fate_of}
use Rattle.dcm_trees.specs.File as spec
use Rattle.dcm_trees.specs.File.{DoesNamed, DoesFile, DoesName, under_its_name}
use Rattle.dcm_trees.specs.Instance as instance
use Rattle.dcm_trees.specs.Instance.{PlacesPart, NamesBy, NamesPart, FillsByInstance, EndsWithoutPart, DoesByInstance, DoesUnnamed, name_of_instance, no_instance_fate, without_name, unnamed}
use Rattle.dcm_trees.specs.Lines.{ending_fate, no_days_fate}
use Rattle.dcm_trees.specs.Manner.{Manner}
use Rattle.dcm_trees.specs.Work.{name_in}
use Rattle.dcm_tree_laws.specs.FileSystem.{FileSystem, Host}
use Rattle.dcm_tree_laws.specs.Laws.{over}
use Rattle.dcm_tree_laws.proofs.Files.{path_is}
use Rattle.dcm_tree_laws.proofs.Closing.{finished_of}
use Rattle.dcm_tree_laws.proofs.Filling.{opens_file, part_is_made, part_is_new, is_filled_as}
use Rattle.dcm_tree_laws.proofs.Given.{IsReady, NewOutput, then_steps, free_name_given, cleared_new, written_named}
use Rattle.dcm_tree_laws.proofs.Jobs.{finds_job, finds_instance, finds_copy}
use Rattle.dcm_tree_laws.proofs.Looking.{same_ok}
use Rattle.dcm_tree_laws.proofs.Steps.{idle, writing, quiet}
use Rattle.dcm_tree_laws.proofs.Written.{IsIdle, GivesOutput, OpenGives, FileGives, not_written, days_not, instance_not, what_not, more, is_ready, tells_not, true_not, at_name, named_named}

-- the output of what became of a name, where one was written
abbrev pub OutputOf : {I O : Type 0} → Host I O → (ℕ → List ℕ → Type 0) → Manner → (relative : List ℕ) → Done → (start s : FileSystem) → Type 0
OutputOf h IsWhole m relative done start s = NewOutput h IsWhole m.part m.output (below m.output (name_in relative done.instance)) start.now s.now

placed_out : {I O F E : Type 0} (h : Host I O) (IsWhole : ℕ → List ℕ → Type 0) (r : Reader I) (w : Writer O) (e : Writer E) (m : Manner) (name path relative bytes : List ℕ) → path ≡ below m.output relative → (fate : Fate) (from : E) (start before : FileSystem) (became : Fate) (to : E) (after : FileSystem)
    → IsReady h IsWhole m.part m.output bytes start before → PlacesPart (over {F = F} h r w e) m name path fate from before became to after → is_written became ≡ true → NewOutput h IsWhole m.part m.output path start.now after.now
placed_out {I} {O} {F} h IsWhole r w e m name path relative bytes is fate from start before became to after ready p written =
    cleared_new {I = I} h IsWhole m.part m.output path p.naming start.now p.compared after p.clears
    (subst (λ (s : FileSystem). NewOutput h IsWhole m.part m.output path start.now s.now) (sym (finds_copy h r p.naming m.part path p.named p.same p.compared p.copy))
    (free_name_given {I = I} {F = F} path relative is ready p.naming p.gives (written_named p.naming fate p.same (sym (ap is_written p.becomes) ∙ written))))

-- of a fate without a name
pub no_output : {A : Type 0} (done : Done) (fate : Fate) → done ≡ without_name fate → is_written fate ≡ false → is_written done.fate ≡ true → A
no_output {A} done fate is not written = not_written done.fate fate (ap (λ (d : Done). d.fate) is) not written

pub by_out : {I O F E : Type 0} (h : Host I O) (IsWhole : ℕ → List ℕ → Type 0) (r : Reader I) (w : Writer O) (e : Writer E) (m : Manner) (name relative bytes : List ℕ) (i : Instance) (fate : Fate) (from : E) (start before : FileSystem) (done : Done) (to : E) (after : FileSystem)
    → IsReady h IsWhole m.part m.output bytes start before → NamesBy (over {F = F} h r w e) m name i fate from before done to after → is_written done.fate ≡ true → OutputOf h IsWhole m relative done start after
by_out h IsWhole r w e m name relative bytes i fate from start before done to after ready (instance.too_long none removes told is) written = no_output done fates.Unwritten is refl written
by_out {I} {O} {F} h IsWhole r w e m name relative bytes i fate from start before done to after ready (instance.placed path became items is places rel d) written =
    subst (λ (x : Done). OutputOf h IsWhole m relative x start after) (sym d)
    (at_name h IsWhole m.part m.output path (below m.output items.items) start after (path_is m.output (name_of_instance i) path is ∙ ap (below m.output) (sym rel))
    (placed_out {F = F} h IsWhole r w e m name path (name_of_instance i) bytes (path_is m.output (name_of_instance i) path is) fate from start before became to after ready places (ap (λ (x : Done). is_written x.fate) (sym d) ∙ written)))

part_out : {I O F E : Type 0} (h : Host I O) (IsWhole : ℕ → List ℕ → Type 0) (r : Reader I) (w : Writer O) (e : Writer E) (m : Manner) (name relative bytes : List ℕ) (fate : Fate) (from : E) (start before : FileSystem) (done : Done) (to : E) (after : FileSystem)
    → IsReady h IsWhole m.part m.output bytes start before → NamesPart (over {F = F} h r w e) m name fate from before done to after → is_written done.fate ≡ true → OutputOf h IsWhole m relative done start after
part_out h IsWhole r w e m name relative bytes fate from start before done to after ready (instance.no_instance cause read f removes told is) written = no_output done (no_instance_fate cause) is (instance_not cause) written
part_out {I} {O} {F} h IsWhole r w e m name relative bytes fate from start before done to after ready (instance.has_instance i read f n) written =
    by_out {F = F} h IsWhole r w e m name relative bytes i fate from start read done to after (then_steps ready (quiet (finds_instance h r m.part before (Ok i) read f))) n written

filled_out : {I O F E : Type 0} (h : Host I O) (IsWhole : ℕ → List ℕ → Type 0) (r : Reader I) (w : Writer O) (e : Writer E) (job : Job) (m : Manner) (name relative : List ℕ) (mode : ℕ) (input : I) (output : O) → GivesOutput h IsWhole r w job input mode → h.took output ≡ [] → (from : E) (start before : FileSystem) (done : Done) (to : E) (after : FileSystem)
    → IsIdle h IsWhole m.part m.output (writing (h.masked mode)) start before → FillsByInstance (over {F = F} h r w e) job m name input output from before done to after → is_written done.fate ≡ true → OutputOf h IsWhole m relative done start after
filled_out h IsWhole r w e job m name relative mode input output gives new from start before done to after i (instance.not_done ending was_filled fills not told removes is) written = no_output done (ending_fate ending) is not written
filled_out {I} {O} {F} h IsWhole r w e job m name relative mode input output gives new from start before done to after i (instance.has_done ending was_filled told fills is reports names) written =
    part_out {F = F} h IsWhole r w e m name relative (h.took fills.written) (ending_fate ending) told start was_filled done to after
    (is_ready (h.took fills.written) (more i (is_filled_as h IsWhole r w m.part m.output (h.masked mode) job input output before ending was_filled fills is (gives fills.left output fills.written ending new (finished_of fills is) is)))) names written

not_unnamed : (became : Result Fate RunStop) (r : Result Done RunStop) (done : Done) → r ≡ unnamed became → r ≡ Ok done → ((fate : Fate) → became ≡ Ok fate → is_written fate ≡ false) → is_written done.fate ≡ false
not_unnamed (Ok fate) r done is ok not = ap (λ (d : Done). is_written d.fate) (same_ok r (without_name fate) done is ok) ∙ not fate refl
not_unnamed (Err p) r done is ok not = absurd (no_done r p done is ok)

pub ends_not : {E : Type 0} (e : Writer E) (name : List ℕ) (cause : NoPart) (from : E) (r : Result Done RunStop) (to : E) (done : Done) → EndsWithoutPart e name cause from r to → r ≡ Ok done → is_written done.fate ≡ false
ends_not e name cause from r to done (instance.ended became tells is) ok = not_unnamed became r done is ok (λ fate was. tells_not e name cause from became to fate tells was)

instance_out : {I O F E : Type 0} (h : Host I O) (IsWhole : ℕ → List ℕ → Type 0) (r : Reader I) (w : Writer O) (e : Writer E) (job : Job) (m : Manner) (n : Named) (mode : ℕ) (from : E) (start before : FileSystem) (result : Result Done RunStop) (to : E) (after : FileSystem) (done : Done)
    → OpenGives h IsWhole r w job n.path mode before → IsIdle h IsWhole m.part m.output idle start before → DoesByInstance (over {F = F} h r w e) job m n mode from before result to after → result ≡ Ok done → is_written done.fate ≡ true → OutputOf h IsWhole m n.relative done start after
instance_out h IsWhole r w e job m n mode from start before result to after done gives i (instance.not_opened opens told is) ok written = no_output done fates.Unread (same_ok result (without_name fates.Unread) done is ok) refl written
instance_out h IsWhole r w e job m n mode from start before result to after done gives i (instance.no_part input cause opened tried opens makes back ends) ok written =
    true_not done.fate (ends_not e n.name cause from result to done ends ok) written
instance_out {I} {O} {F} h IsWhole r w e job m n mode from start before result to after done gives i (instance.filled input output became opened made opens makes fills is) ok written =
    subst (λ (d : Done). OutputOf h IsWhole m n.relative d start after) (sym (same_ok result became done is ok))
    (filled_out {F = F} h IsWhole r w e job m n.name n.relative mode input output (gives input opened opens) (part_is_new {F = F} h m.part mode opened output made makes) from start made became to after
    (more (more i (quiet (opens_file {I = I} h n.path before (Some input) opened opens))) (part_is_made {F = F} h IsWhole m.part m.output mode opened output made makes)) fills
    (ap (λ (d : Done). is_written d.fate) (sym (same_ok result became done is ok)) ∙ written))

unnamed_out : {I O F E : Type 0} (h : Host I O) (IsWhole : ℕ → List ℕ → Type 0) (r : Reader I) (w : Writer O) (e : Writer E) (m : Manner) (n : Named) (mode : ℕ) (from : E) (start before : FileSystem) (result : Result Done RunStop) (to : E) (after : FileSystem) (done : Done)
    → FileGives h IsWhole r w m.task n.path mode before → IsIdle h IsWhole m.part m.output idle start before → DoesUnnamed (over {F = F} h r w e) m n mode from before result to after → result ≡ Ok done → is_written done.fate ≡ true → OutputOf h IsWhole m n.relative done start after
unnamed_out h IsWhole r w e m n mode from start before result to after done gives i (instance.no_days cause f told is) ok written =
    no_output done (no_days_fate cause) (same_ok result (without_name (no_days_fate cause)) done is ok) (days_not cause) written
unnamed_out {I} {O} {F} h IsWhole r w e m n mode from start before result to after done gives i (instance.has_job job mid f does) ok written =
    instance_out {F = F} h IsWhole r w e job m n mode from start mid result to after done (gives job mid f) (more i (quiet (finds_job h r m.task n.path before (Ok job) mid f))) does ok written

-- ---- each name

kept_out : {I O F E : Type 0} (h : Host I O) (IsWhole : ℕ → List ℕ → Type 0) (r : Reader I) (w : Writer O) (e : Writer E) (m : Manner) (n : Named) (mode : ℕ) (from : E) (start before : FileSystem) (became : Result Fate RunStop) (result : Result Done RunStop) (to : E) (after : FileSystem)
    (done : Done) → FileGives h IsWhole r w m.task n.path mode before → IsIdle h IsWhole m.part m.output idle start before → DoesNamed (over {F = F} h r w e) m n mode from before became to after → result ≡ under_its_name became → result ≡ Ok done → is_written done.fate ≡ true
    → OutputOf h IsWhole m n.relative done start after
kept_out {I} {O} {F} h IsWhole r w e m n mode from start before (Ok fate) result to after done gives i does is ok written =
    let same : done ≡ without_name fate = same_ok result (without_name fate) done is ok in
    subst (λ (d : Done). OutputOf h IsWhole m n.relative d start after) (sym same)
    (named_named {F = F} h IsWhole r w e m n mode from start before (Ok fate) to after fate gives i does refl (ap (λ (d : Done). is_written d.fate) (sym same) ∙ written))
kept_out h IsWhole r w e m n mode from start before (Err p) result to after done gives i does is ok written = absurd (no_done result p done is ok)

file_out : {I O F E : Type 0} (h : Host I O) (IsWhole : ℕ → List ℕ → Type 0) (r : Reader I) (w : Writer O) (e : Writer E) (m : Manner) (n : Named) (mode : ℕ) (from : E) (start before : FileSystem) (result : Result Done RunStop) (to : E) (after : FileSystem) (done : Done)
    → FileGives h IsWhole r w m.task n.path mode before → IsIdle h IsWhole m.part m.output idle start before → DoesFile (over {F = F} h r w e) m n mode from before result to after → result ≡ Ok done → is_written done.fate ≡ true → OutputOf h IsWhole m n.relative done start after
file_out h IsWhole r w e m n mode from start before result to after done gives i (spec.an_index index told is same) ok written = no_output done fates.MediaIndex (same_ok result (without_name fates.MediaIndex) done is ok) refl written
file_out {I} {O} {F} h IsWhole r w e m n mode from start before result to after done gives i (spec.keeps_name became index keeps does is) ok written =
    kept_out {F = F} h IsWhole r w e m n mode from start before became result to after done gives i does is ok written
file_out {I} {O} {F} h IsWhole r w e m n mode from start before result to after done gives i (spec.by_instance index keeps does) ok written = unnamed_out {F = F} h IsWhole r w e m n mode from start before result to after done gives i does ok written

pub name_out : {I O F E : Type 0} (h : Host I O) (IsWhole : ℕ → List ℕ → Type 0) (r : Reader I) (w : Writer O) (e : Writer E) (m : Manner) (n : Named) (what : What) (from : E) (start before : FileSystem) (result : Result Done RunStop) (to : E) (after : FileSystem) (done : Done)
    → ((mode : ℕ) → what ≡ File mode → FileGives h IsWhole r w m.task n.path mode before) → IsIdle h IsWhole m.part m.output idle start before → DoesName (over {F = F} h r w e) m n what from before result to after → result ≡ Ok done → is_written done.fate ≡ true → OutputOf h IsWhole m n.relative done start after
name_out {I} {O} {F} h IsWhole r w e m n what from start before result to after done gives i (spec.a_file mode is does) ok written = file_out {F = F} h IsWhole r w e m n mode from start before result to after done (gives mode is) i does ok written
name_out h IsWhole r w e m n what from start before result to after done gives i (spec.no_file other told is same) ok written = no_output done (fate_of what) (same_ok result (without_name (fate_of what)) done is ok) (what_not what) written
