-- After each name at the part is what was there before it, where no removing failed.
use Rattle.std.specs.Prelude.{[], false}
use Rattle.std.proofs.Common.{◌≡◌, ◌∙◌, sym, ap, subst, ℕ, ◌+◌, List, length, Some, None, Result, Ok, Err}
use Rattle.std.specs.Str.{IsUtf8}
use Rattle.dcm_devices.specs.Writing.{Writer}
use Rattle.dcm_instance.specs.declared.names.Instance.{Instance}
use Rattle.dcm_walk.specs.Names.{below}
use Rattle.dcm_walk.specs.Visits.{Named}
use Rattle.dcm_walk.specs.declared.visitor.What.{What}
use Rattle.dcm_words.specs.Words.{Job}
use Rattle.dcm_cli.specs.Calls.{Reader}
use Rattle.dcm_trees.specs.declared.fate.Fate.{Fate}
use Rattle.dcm_trees.specs.declared.file.Done.{Done}
use Rattle.dcm_trees.specs.declared.progress.Stop.{Stop as RunStop}
use Rattle.dcm_trees.specs.File as spec
use Rattle.dcm_trees.specs.File.{DoesReady, DoesFree, DoesPlaced, DoesNamed, DoesFile, DoesName}
use Rattle.dcm_trees.specs.Instance as instance
use Rattle.dcm_trees.specs.Instance.{PlacesPart, NamesBy, NamesPart, FillsByInstance, DoesByInstance, DoesUnnamed, name_of_instance}
use Rattle.dcm_trees.specs.Lines.{ending_fate}
use Rattle.dcm_trees.specs.Manner.{Manner}
use Rattle.dcm_trees.specs.Modes.{Modes}
use Rattle.dcm_trees.specs.Part as part_spec
use Rattle.dcm_trees.specs.Part.{MakesPart, NamesOutput, FillsAndNames}
use Rattle.dcm_tree_laws.specs.FileSystem.{FileSystem, Host, may_do, folders_do, at_path}
use Rattle.dcm_tree_laws.specs.Laws.{IsOutput, over}
use Rattle.dcm_tree_laws.specs.Part.{LeavesPart}
use Rattle.dcm_tree_laws.proofs.Cleared.{steps_mono, IsGone, ThenGone, removed_gone, name_gone, free_name_gone, cleared_gone}
use Rattle.dcm_tree_laws.proofs.Files.{path_is}
use Rattle.dcm_tree_laws.proofs.Filling.{opens_file, part_is_made, part_is_new, part_is_not_made, is_filled, is_not_filled}
use Rattle.dcm_tree_laws.proofs.Given.{IsReady, then_steps}
use Rattle.dcm_tree_laws.proofs.Jobs.{finds_job, finds_instance, finds_copy}
use Rattle.dcm_tree_laws.proofs.Looking.{finds}
use Rattle.dcm_tree_laws.proofs.Naming.{gives_name}
use Rattle.dcm_tree_laws.proofs.Quiet.{are_quiet}
use Rattle.dcm_tree_laws.proofs.Steps.{idle, writing, whole, Steps, quiet}
use Rattle.dcm_tree_laws.proofs.Written.{IsIdle, more, is_ready}

-- ---- one after another

then_gone : {I O : Type 0} (h : Host I O) (part : List ℕ) (a b c : FileSystem) → (b.unremoved ≡ false → a.unremoved ≡ false) → ThenGone h part b c → ThenGone h part a c
then_gone h part a b c mono gone none = let x = gone none in (mono x.0, x.1)

same_mono : (a b : FileSystem) → b ≡ a → b.unremoved ≡ false → a.unremoved ≡ false
same_mono a b same none = sym (ap (λ (s : FileSystem). s.unremoved) same) ∙ none

pub still_leaves : {I O : Type 0} (h : Host I O) (part : List ℕ) (before after : FileSystem) → after ≡ before → LeavesPart h part before after
still_leaves h part before after same none = (same_mono before after same none, ap (λ (s : FileSystem). at_path h s.now part) same)

pub then_leaves : {I O : Type 0} (h : Host I O) (part : List ℕ) (a b c : FileSystem) → LeavesPart h part a b → LeavesPart h part b c → LeavesPart h part a c
then_leaves h part a b c first second none = let y = second none in let x = first y.0 in (x.0, y.1 ∙ x.1)

-- the part was made where nothing was
gone_leaves : {I O : Type 0} (h : Host I O) (part : List ℕ) (before after : FileSystem) → at_path h before.now part ≡ None → ThenGone h part before after → LeavesPart h part before after
gone_leaves h part before after nothing gone none = let x = gone none in (x.0, x.1 ∙ sym nothing)

-- ---- a part that was made

-- it is text, and nothing was there
record MadePart {I O : Type 0} (h : Host I O) (part : List ℕ) (before after : FileSystem) : Type 0 where
  text : IsUtf8 part
  nothing : at_path h before.now part ≡ None
  mono : after.unremoved ≡ false → before.unremoved ≡ false

made_part : {I O F : Type 0} (h : Host I O) (part : List ℕ) (mode : ℕ) (before : FileSystem) (o : O) (after : FileSystem) → MakesPart (folders_do {F = F} h) part mode before (Ok o) after → MadePart h part before after
made_part h part mode before o after (part_spec.no_text t is same) = absurd (cc)
made_part h part mode before o after (part_spec.made opened t call is) = record { text = t; nothing = call.0.nothing; mono = λ none. sym call.0.notes.unremoved_is ∙ none }
made_part h part mode before o after (part_spec.is_there e t call k is) = absurd (cc)
made_part h part mode before o after (part_spec.no_memory e t call k is) = absurd (cc)
made_part h part mode before o after (part_spec.not_made e t call k m is) = absurd (cc)

-- ---- a file whose output has its name

output_gone : {I O F E : Type 0} (h : Host I O) (r : Reader I) (w : Writer O) (e : Writer E) (m : Manner) (name path relative bytes : List ℕ) → path ≡ below m.output relative → IsUtf8 m.part → (fate : Fate) (from : E) (start before : FileSystem) (became : Fate) (to : E)
    (after : FileSystem) → IsReady h (IsOutput h r w) m.part m.output bytes start before → NamesOutput (may_do {I = I} h) (folders_do {F = F} h) e m name path fate from before became to after → ThenGone h m.part before after
output_gone {I} {O} {F} h r w e m name path relative bytes is text fate from start before became to after ready n =
    then_gone h m.part before n.named after (steps_mono (gives_name {I = I} {F = F} h (IsOutput h r w) m.part m.output bytes path relative is before n.naming n.named n.gives))
    (cleared_gone {I = I} h m.part text n.naming n.named after (λ was. name_gone {I = I} {F = F} path relative is ready n.naming n.gives was) n.clears)

filled_gone : {I O F E : Type 0} (h : Host I O) (r : Reader I) (w : Writer O) (e : Writer E) (job : Job) (m : Manner) (name path relative : List ℕ) → path ≡ below m.output relative → IsUtf8 m.part → (bits : ℕ) (input : I) (output : O) → h.took output ≡ [] → (from : E) (start before : FileSystem) (fate : Fate)
    (to : E) (after : FileSystem) → IsIdle h (IsOutput h r w) m.part m.output (writing (h.masked bits)) start before → FillsAndNames (over {F = F} h r w e) job m name path input output from before fate to after → ThenGone h m.part before after
filled_gone {I} h r w e job m name path relative is text bits input output new from start before fate to after i (part_spec.not_done ending was_filled fills done told removes f) =
    then_gone h m.part before was_filled after (steps_mono (is_not_filled h r w m.part m.output (h.masked bits) job input output before ending was_filled fills)) (removed_gone {I = I} h m.part text was_filled after removes)
filled_gone {I} {O} {F} h r w e job m name path relative is text bits input output new from start before fate to after i (part_spec.has_done ending was_filled told fills done reports names) =
    let steps : Steps h (IsOutput h r w) m.part m.output (writing (h.masked bits)) before (whole (h.took fills.written)) was_filled = is_filled h r w m.part m.output bits job input output before ending was_filled new fills done in
    then_gone h m.part before was_filled after (steps_mono steps)
    (output_gone {I = I} {F = F} h r w e m name path relative (h.took fills.written) is text (ending_fate ending) told start was_filled fate to after (is_ready (h.took fills.written) (more i steps)) names)

ready_leaves : {I O F E : Type 0} (h : Host I O) (r : Reader I) (w : Writer O) (e : Writer E) (job : Job) (m : Manner) (n : Named) (mode : ℕ) (path relative : List ℕ) → path ≡ below m.output relative
    → (from : E) (start before : FileSystem) (result : Result Fate RunStop) (to : E) (after : FileSystem) → IsIdle h (IsOutput h r w) m.part m.output idle start before → DoesReady (over {F = F} h r w e) job m n mode path from before result to after
    → LeavesPart h m.part before after
ready_leaves {I} h r w e job m n mode path relative is from start before result to after i (spec.not_opened opens told f) = still_leaves h m.part before after (opens_file {I = I} h n.path before None after opens)
ready_leaves {I} {O} {F} h r w e job m n mode path relative is from start before result to after i (spec.no_part input cause opened tried opens makes back tells) =
    still_leaves h m.part before after (back ∙ part_is_not_made {F = F} h m.part mode opened cause tried makes ∙ opens_file {I = I} h n.path before (Some input) opened opens)
ready_leaves {I} {O} {F} h r w e job m n mode path relative is from start before result to after i (spec.filled input output became opened made opens makes fills f) =
    let same : opened ≡ before = opens_file {I = I} h n.path before (Some input) opened opens in
    let part : MadePart h m.part opened made = made_part {F = F} h m.part mode opened output made makes in
    then_leaves h m.part before opened after (still_leaves h m.part before opened same)
    (gone_leaves h m.part opened after part.nothing
    (then_gone h m.part opened made after part.mono
    (filled_gone {F = F} h r w e job m n.name path relative is part.text mode input output (part_is_new {F = F} h m.part mode opened output made makes) from start made became to after
    (more (more i (quiet same)) (part_is_made {F = F} h (IsOutput h r w) m.part m.output mode opened output made makes)) fills)))

free_leaves : {I O F E : Type 0} (h : Host I O) (r : Reader I) (w : Writer O) (e : Writer E) (m : Manner) (n : Named) (mode : ℕ) (path relative : List ℕ) → path ≡ below m.output relative
    → (from : E) (start before : FileSystem) (result : Result Fate RunStop) (to : E) (after : FileSystem) → IsIdle h (IsOutput h r w) m.part m.output idle start before → DoesFree (over {F = F} h r w e) m n mode path from before result to after
    → LeavesPart h m.part before after
free_leaves h r w e m n mode path relative is from start before result to after i (spec.no_days cause f told c) = still_leaves h m.part before after (finds_job h r m.task n.path before (Err cause) after f)
free_leaves {I} {O} {F} h r w e m n mode path relative is from start before result to after i (spec.has_job job mid f does) =
    let same : mid ≡ before = finds_job h r m.task n.path before (Ok job) mid f in
    then_leaves h m.part before mid after (still_leaves h m.part before mid same) (ready_leaves {F = F} h r w e job m n mode path relative is from start mid result to after (more i (quiet same)) does)

placed_leaves : {I O F E : Type 0} (h : Host I O) (r : Reader I) (w : Writer O) (e : Writer E) (m : Manner) (n : Named) (mode : ℕ) (path relative : List ℕ) → path ≡ below m.output relative
    → (from : E) (start before : FileSystem) (result : Result Fate RunStop) (to : E) (after : FileSystem) → IsIdle h (IsOutput h r w) m.part m.output idle start before → DoesPlaced (over {F = F} h r w e) m n mode path from before result to after
    → LeavesPart h m.part before after
placed_leaves {I} {O} {F} h r w e m n mode path relative is from start before result to after i (spec.not_free place f nf told c) =
    still_leaves h m.part before after (finds (folders_do {F = F} h) (are_quiet h) path (length m.output + 1) before place after f)
placed_leaves {I} {O} {F} h r w e m n mode path relative is from start before result to after i (spec.free place looked f nf does) =
    let same : looked ≡ before = finds (folders_do {F = F} h) (are_quiet h) path (length m.output + 1) before place looked f in
    then_leaves h m.part before looked after (still_leaves h m.part before looked same) (free_leaves {F = F} h r w e m n mode path relative is from start looked result to after (more i (quiet same)) does)

named_leaves : {I O F E : Type 0} (h : Host I O) (r : Reader I) (w : Writer O) (e : Writer E) (m : Manner) (n : Named) (mode : ℕ) (from : E) (start before : FileSystem) (result : Result Fate RunStop) (to : E) (after : FileSystem)
    → IsIdle h (IsOutput h r w) m.part m.output idle start before → DoesNamed (over {F = F} h r w e) m n mode from before result to after → LeavesPart h m.part before after
named_leaves h r w e m n mode from start before result to after i (spec.too_long none told f same) = still_leaves h m.part before after same
named_leaves {I} {O} {F} h r w e m n mode from start before result to after i (spec.placed path is does) =
    placed_leaves {F = F} h r w e m n mode path n.relative (path_is m.output n.relative path is) from start before result to after i does

-- ---- a file whose output is named by the instance in it

free_name_steps : {I O F : Type 0} {modes : Modes} (h : Host I O) (IsWhole : ℕ → List ℕ → Type 0) (part output bytes path relative : List ℕ) → path ≡ below output relative → (before : FileSystem) (naming : _) (after : FileSystem)
    → instance.GivesFreeName (may_do {I = I} h) (folders_do {F = F} h) modes part path (length output + 1) before naming after → after.unremoved ≡ false → before.unremoved ≡ false
free_name_steps {I} {O} {F} h IsWhole part output bytes path relative is before naming after (instance.not_free place f nf e) = same_mono before after (finds (folders_do {F = F} h) (are_quiet h) path (length output + 1) before place after f)
free_name_steps {I} {O} {F} h IsWhole part output bytes path relative is before naming after (instance.free place looked f nf g) = λ none.
    same_mono before looked (finds (folders_do {F = F} h) (are_quiet h) path (length output + 1) before place looked f)
    (steps_mono (gives_name {I = I} {F = F} h IsWhole part output bytes path relative is looked naming after g) none)

places_gone : {I O F E : Type 0} (h : Host I O) (r : Reader I) (w : Writer O) (e : Writer E) (m : Manner) (name path relative bytes : List ℕ) → path ≡ below m.output relative → IsUtf8 m.part → (fate : Fate) (from : E) (start before : FileSystem) (became : Fate) (to : E)
    (after : FileSystem) → IsReady h (IsOutput h r w) m.part m.output bytes start before → PlacesPart (over {F = F} h r w e) m name path fate from before became to after → ThenGone h m.part before after
places_gone {I} {O} {F} h r w e m name path relative bytes is text fate from start before became to after ready p =
    let same : p.compared ≡ p.named = finds_copy h r p.naming m.part path p.named p.same p.compared p.copy in
    then_gone h m.part before p.named after (free_name_steps {I = I} {F = F} h (IsOutput h r w) m.part m.output bytes path relative is before p.naming p.named p.gives)
    (then_gone h m.part p.named p.compared after (same_mono p.named p.compared same)
    (cleared_gone {I = I} h m.part text p.naming p.compared after (λ was. subst (IsGone h m.part) (sym same) (free_name_gone {I = I} {F = F} path relative is ready p.naming p.gives was)) p.clears))

by_gone : {I O F E : Type 0} (h : Host I O) (r : Reader I) (w : Writer O) (e : Writer E) (m : Manner) (name bytes : List ℕ) → IsUtf8 m.part → (i : Instance) (fate : Fate) (from : E) (start before : FileSystem) (done : Done) (to : E) (after : FileSystem)
    → IsReady h (IsOutput h r w) m.part m.output bytes start before → NamesBy (over {F = F} h r w e) m name i fate from before done to after → ThenGone h m.part before after
by_gone {I} h r w e m name bytes text i fate from start before done to after ready (instance.too_long none removes told is) = removed_gone {I = I} h m.part text before after removes
by_gone {I} {O} {F} h r w e m name bytes text i fate from start before done to after ready (instance.placed path became items is places rel d) =
    places_gone {F = F} h r w e m name path (name_of_instance i) bytes (path_is m.output (name_of_instance i) path is) text fate from start before became to after ready places

part_gone : {I O F E : Type 0} (h : Host I O) (r : Reader I) (w : Writer O) (e : Writer E) (m : Manner) (name bytes : List ℕ) → IsUtf8 m.part → (fate : Fate) (from : E) (start before : FileSystem) (done : Done) (to : E) (after : FileSystem)
    → IsReady h (IsOutput h r w) m.part m.output bytes start before → NamesPart (over {F = F} h r w e) m name fate from before done to after → ThenGone h m.part before after
part_gone {I} h r w e m name bytes text fate from start before done to after ready (instance.no_instance cause read f removes told is) =
    then_gone h m.part before read after (same_mono before read (finds_instance h r m.part before (Err cause) read f)) (removed_gone {I = I} h m.part text read after removes)
part_gone {I} {O} {F} h r w e m name bytes text fate from start before done to after ready (instance.has_instance i read f n) =
    let same : read ≡ before = finds_instance h r m.part before (Ok i) read f in
    then_gone h m.part before read after (same_mono before read same) (by_gone {F = F} h r w e m name bytes text i fate from start read done to after (then_steps ready (quiet same)) n)

by_instance_gone : {I O F E : Type 0} (h : Host I O) (r : Reader I) (w : Writer O) (e : Writer E) (job : Job) (m : Manner) (name : List ℕ) → IsUtf8 m.part → (bits : ℕ) (input : I) (output : O) → h.took output ≡ [] → (from : E) (start before : FileSystem) (done : Done) (to : E) (after : FileSystem)
    → IsIdle h (IsOutput h r w) m.part m.output (writing (h.masked bits)) start before → FillsByInstance (over {F = F} h r w e) job m name input output from before done to after → ThenGone h m.part before after
by_instance_gone {I} h r w e job m name text bits input output new from start before done to after i (instance.not_done ending was_filled fills not told removes is) =
    then_gone h m.part before was_filled after (steps_mono (is_not_filled h r w m.part m.output (h.masked bits) job input output before ending was_filled fills)) (removed_gone {I = I} h m.part text was_filled after removes)
by_instance_gone {I} {O} {F} h r w e job m name text bits input output new from start before done to after i (instance.has_done ending was_filled told fills is reports names) =
    let steps : Steps h (IsOutput h r w) m.part m.output (writing (h.masked bits)) before (whole (h.took fills.written)) was_filled = is_filled h r w m.part m.output bits job input output before ending was_filled new fills is in
    then_gone h m.part before was_filled after (steps_mono steps)
    (part_gone {F = F} h r w e m name (h.took fills.written) text (ending_fate ending) told start was_filled done to after (is_ready (h.took fills.written) (more i steps)) names)

instance_leaves : {I O F E : Type 0} (h : Host I O) (r : Reader I) (w : Writer O) (e : Writer E) (job : Job) (m : Manner) (n : Named) (mode : ℕ) (from : E) (start before : FileSystem) (result : Result Done RunStop) (to : E) (after : FileSystem)
    → IsIdle h (IsOutput h r w) m.part m.output idle start before → DoesByInstance (over {F = F} h r w e) job m n mode from before result to after → LeavesPart h m.part before after
instance_leaves {I} h r w e job m n mode from start before result to after i (instance.not_opened opens told is) = still_leaves h m.part before after (opens_file {I = I} h n.path before None after opens)
instance_leaves {I} {O} {F} h r w e job m n mode from start before result to after i (instance.no_part input cause opened tried opens makes back ends) =
    still_leaves h m.part before after (back ∙ part_is_not_made {F = F} h m.part mode opened cause tried makes ∙ opens_file {I = I} h n.path before (Some input) opened opens)
instance_leaves {I} {O} {F} h r w e job m n mode from start before result to after i (instance.filled input output became opened made opens makes fills is) =
    let same : opened ≡ before = opens_file {I = I} h n.path before (Some input) opened opens in
    let part : MadePart h m.part opened made = made_part {F = F} h m.part mode opened output made makes in
    then_leaves h m.part before opened after (still_leaves h m.part before opened same)
    (gone_leaves h m.part opened after part.nothing
    (then_gone h m.part opened made after part.mono
    (by_instance_gone {F = F} h r w e job m n.name part.text mode input output (part_is_new {F = F} h m.part mode opened output made makes) from start made became to after
    (more (more i (quiet same)) (part_is_made {F = F} h (IsOutput h r w) m.part m.output mode opened output made makes)) fills)))

unnamed_leaves : {I O F E : Type 0} (h : Host I O) (r : Reader I) (w : Writer O) (e : Writer E) (m : Manner) (n : Named) (mode : ℕ) (from : E) (start before : FileSystem) (result : Result Done RunStop) (to : E) (after : FileSystem)
    → IsIdle h (IsOutput h r w) m.part m.output idle start before → DoesUnnamed (over {F = F} h r w e) m n mode from before result to after → LeavesPart h m.part before after
unnamed_leaves h r w e m n mode from start before result to after i (instance.no_days cause f told is) = still_leaves h m.part before after (finds_job h r m.task n.path before (Err cause) after f)
unnamed_leaves {I} {O} {F} h r w e m n mode from start before result to after i (instance.has_job job mid f does) =
    let same : mid ≡ before = finds_job h r m.task n.path before (Ok job) mid f in
    then_leaves h m.part before mid after (still_leaves h m.part before mid same) (instance_leaves {F = F} h r w e job m n mode from start mid result to after (more i (quiet same)) does)

-- ---- each name

file_leaves : {I O F E : Type 0} (h : Host I O) (r : Reader I) (w : Writer O) (e : Writer E) (m : Manner) (n : Named) (mode : ℕ) (from : E) (start before : FileSystem) (result : Result Done RunStop) (to : E) (after : FileSystem)
    → IsIdle h (IsOutput h r w) m.part m.output idle start before → DoesFile (over {F = F} h r w e) m n mode from before result to after → LeavesPart h m.part before after
file_leaves h r w e m n mode from start before result to after i (spec.an_index index told is same) = still_leaves h m.part before after same
file_leaves {I} {O} {F} h r w e m n mode from start before result to after i (spec.keeps_name became index keeps does is) = named_leaves {F = F} h r w e m n mode from start before became to after i does
file_leaves {I} {O} {F} h r w e m n mode from start before result to after i (spec.by_instance index keeps does) = unnamed_leaves {F = F} h r w e m n mode from start before result to after i does

pub name_leaves : {I O F E : Type 0} (h : Host I O) (r : Reader I) (w : Writer O) (e : Writer E) (m : Manner) (n : Named) (what : What) (from : E) (start before : FileSystem) (result : Result Done RunStop) (to : E) (after : FileSystem)
    → IsIdle h (IsOutput h r w) m.part m.output idle start before → DoesName (over {F = F} h r w e) m n what from before result to after → LeavesPart h m.part before after
name_leaves {I} {O} {F} h r w e m n what from start before result to after i (spec.a_file mode is does) = file_leaves {F = F} h r w e m n mode from start before result to after i does
name_leaves h r w e m n what from start before result to after i (spec.no_file other told is same) = still_leaves h m.part before after same
