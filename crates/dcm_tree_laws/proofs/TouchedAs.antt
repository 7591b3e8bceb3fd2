-- What a name of a run touches whose output is named by the instance in it.
use Rattle.std.proofs.Common.{◌≡◌, ◌∙◌, sym, ap, subst, ℕ, ◌+◌, List, length, true, false, Some, None, Result, Ok, Err}
use Rattle.std.specs.Prelude.{[]}
use Rattle.arrayvec.specs.ArrayVec.{ArrayVec}
use Rattle.dcm_devices.specs.Writing.{Writer}
use Rattle.dcm_instance.specs.declared.names.Instance.{Instance}
use Rattle.dcm_walk.specs.Names.{below}
use Rattle.dcm_walk.specs.Visits.{Named}
use Rattle.dcm_walk.specs.declared.visitor.What.{What}
use Rattle.dcm_words.specs.Words.{Job}
use Rattle.dcm_cli.specs.Calls.{Reader}
use Rattle.dcm_trees.specs.declared.fate.Fate.{Fate}
use Rattle.dcm_trees.specs.declared.file.Done.{Done}
use Rattle.dcm_trees.specs.declared.fate.Fate.TheVariants as fates
use Rattle.dcm_trees.specs.declared.part.NoPart.{NoPart}
use Rattle.dcm_trees.specs.declared.progress.Stop.{Stop as RunStop}
use Rattle.dcm_trees.specs.Fate.{is_written, fate_of}
use Rattle.dcm_trees.specs.File as files
use Rattle.dcm_trees.specs.File.{DoesFile, DoesName}
use Rattle.dcm_trees.specs.Instance as instance
use Rattle.dcm_trees.specs.Instance.{GivesFreeName, PlacesPart, NamesBy, NamesPart, FillsByInstance, EndsWithoutPart, DoesByInstance, DoesUnnamed, name_of_instance, without_name, unnamed}
use Rattle.dcm_trees.specs.Lines.{ending_fate, no_days_fate}
use Rattle.dcm_trees.specs.Manner.{Manner}
use Rattle.dcm_trees.specs.declared.part.Naming.{Naming}
use Rattle.dcm_tree_laws.specs.FileSystem.{FileSystem, Host, may_do, folders_do}
use Rattle.dcm_tree_laws.specs.Laws.{IsOutput, over}
use Rattle.dcm_tree_laws.proofs.Files.{path_is}
use Rattle.dcm_tree_laws.proofs.Closing.{finished_of}
use Rattle.dcm_tree_laws.proofs.Filling.{opens_file, part_is_made, part_is_new, part_is_not_made, is_filled_as, is_output}
use Rattle.dcm_tree_laws.proofs.Given.{is_named}
use Rattle.dcm_tree_laws.proofs.Jobs.{finds_job, finds_instance, finds_copy}
use Rattle.dcm_tree_laws.proofs.Looking.{finds, same_ok}
use Rattle.dcm_tree_laws.proofs.Quiet.{are_quiet}
use Rattle.dcm_tree_laws.proofs.Steps.{idle, writing, quiet}
use Rattle.dcm_tree_laws.proofs.Touched.{Touches, then_touches, still, weaker, removes, clears, gives, filled, made_part, named_written, no_done}
use Rattle.dcm_tree_laws.proofs.WholePart.{IsReady, then_steps}
use Rattle.dcm_tree_laws.proofs.Written.{IsIdle, more, is_ready}

-- it touches the part alone; or its instance names what it touches
pub data TouchesAs {I O : Type 0} (h : Host I O) (m : Manner) (done : Done) (before after : FileSystem) : Type 0 where
  part_alone : done.instance ≡ None → ((relative : List ℕ) → Touches h m.part m.output relative ⊥ before.now after.now) → TouchesAs h m done before after
  at_instance : (relative : ArrayVec ℕ) → done.instance ≡ Some relative → Touches h m.part m.output relative.items (is_written done.fate ≡ true) before.now after.now → TouchesAs h m done before after

pub part_then : {I O : Type 0} (h : Host I O) (m : Manner) (done : Done) (before mid after : FileSystem) → ((relative : List ℕ) (IsNamed : Type 0) → Touches h m.part m.output relative IsNamed before.now mid.now) → TouchesAs h m done mid after → TouchesAs h m done before after
part_then h m done before mid after first (part_alone none second) = part_alone none (λ relative. then_touches h m.part m.output relative ⊥ before.now mid.now after.now (first relative ⊥) (second relative))
part_then h m done before mid after first (at_instance relative is second) =
    at_instance relative is (then_touches h m.part m.output relative.items (is_written done.fate ≡ true) before.now mid.now after.now (first relative.items (is_written done.fate ≡ true)) second)

unnamed_none : (became : Result Fate RunStop) (r : Result Done RunStop) (done : Done) → r ≡ unnamed became → r ≡ Ok done → done.instance ≡ None
unnamed_none (Ok fate) r done is ok = ap (λ (d : Done). d.instance) (same_ok r (without_name fate) done is ok)
unnamed_none (Err p) r done is ok = absurd (no_done r p done is ok)

no_name : {E : Type 0} (e : Writer E) (name : List ℕ) (cause : NoPart) (from : E) (r : Result Done RunStop) (to : E) (done : Done) → EndsWithoutPart e name cause from r to → r ≡ Ok done → done.instance ≡ None
no_name e name cause from r to done (instance.ended became tells is) ok = unnamed_none became r done is ok

module _ {I O F E : Type 0} (h : Host I O) (r : Reader I) (w : Writer O) (e : Writer E) (m : Manner) where
  gives_free : (path relative bytes : List ℕ) → path ≡ below m.output relative → (start before : FileSystem) (naming : Naming) (after : FileSystem) → IsReady h (IsOutput h r w) m.part m.output bytes start before
      → GivesFreeName (may_do {I = I} h) (folders_do {F = F} h) m.modes m.part path (length m.output + 1) before naming after → Touches h m.part m.output relative (is_named naming ≡ true) before.now after.now
  gives_free path relative bytes is start before naming after i (instance.not_free place f nf n) =
      still h m.part m.output relative (is_named naming ≡ true) before after (finds (folders_do {F = F} h) (are_quiet h) path (length m.output + 1) before place after f)
  gives_free path relative bytes is start before naming after i (instance.free place looked f nf g) =
      let same : looked ≡ before = finds (folders_do {F = F} h) (are_quiet h) path (length m.output + 1) before place looked f in
      then_touches h m.part m.output relative (is_named naming ≡ true) before.now looked.now after.now (still h m.part m.output relative (is_named naming ≡ true) before looked same)
      (gives {F = F} h (IsOutput h r w) m.part m.output relative path bytes is naming start looked after (then_steps i (quiet same)) g)

  places : (name path relative bytes : List ℕ) → path ≡ below m.output relative → (fate : Fate) (from : E) (start before : FileSystem) (became : Fate) (to : E) (after : FileSystem) → is_written fate ≡ true → IsReady h (IsOutput h r w) m.part m.output bytes start before
      → PlacesPart (over {F = F} h r w e) m name path fate from before became to after → Touches h m.part m.output relative (is_written became ≡ true) before.now after.now
  places name path relative bytes is fate from start before became to after done i p =
      weaker h m.part m.output relative (is_named p.naming ≡ true) (is_written became ≡ true) before.now after.now (λ named. ap is_written p.becomes ∙ named_written p.naming fate p.same done named)
      (then_touches h m.part m.output relative (is_named p.naming ≡ true) before.now p.named.now after.now (gives_free path relative bytes is start before p.naming p.named i p.gives)
      (then_touches h m.part m.output relative (is_named p.naming ≡ true) p.named.now p.compared.now after.now
      (still h m.part m.output relative (is_named p.naming ≡ true) p.named p.compared (finds_copy h r p.naming m.part path p.named p.same p.compared p.copy))
      (clears h m.part m.output relative (is_named p.naming ≡ true) p.naming p.compared after p.clears)))

  names_by : (name bytes : List ℕ) (i : Instance) (fate : Fate) (from : E) (start before : FileSystem) (done : Done) (to : E) (after : FileSystem) → is_written fate ≡ true → IsReady h (IsOutput h r w) m.part m.output bytes start before
      → NamesBy (over {F = F} h r w e) m name i fate from before done to after → TouchesAs h m done before after
  names_by name bytes i fate from start before done to after was ready (instance.too_long none gone told is) = part_alone (ap (λ (d : Done). d.instance) is) (λ relative. removes h m.part m.output relative ⊥ before after gone)
  names_by name bytes i fate from start before done to after was ready (instance.placed path became relative is p rel d) =
      at_instance relative (ap (λ (x : Done). x.instance) d)
      (subst (λ (f : Fate). Touches h m.part m.output relative.items (is_written f ≡ true) before.now after.now) (sym (ap (λ (x : Done). x.fate) d))
      (places name path relative.items bytes (path_is m.output (name_of_instance i) path is ∙ ap (below m.output) (sym rel)) fate from start before became to after was ready p))

  names_part : (name bytes : List ℕ) (fate : Fate) (from : E) (start before : FileSystem) (done : Done) (to : E) (after : FileSystem) → is_written fate ≡ true → IsReady h (IsOutput h r w) m.part m.output bytes start before
      → NamesPart (over {F = F} h r w e) m name fate from before done to after → TouchesAs h m done before after
  names_part name bytes fate from start before done to after was ready (instance.no_instance cause read f gone told is) =
      let same : read ≡ before = finds_instance h r m.part before (Err cause) read f in
      part_alone (ap (λ (d : Done). d.instance) is) (λ relative. then_touches h m.part m.output relative ⊥ before.now read.now after.now (still h m.part m.output relative ⊥ before read same) (removes h m.part m.output relative ⊥ read after gone))
  names_part name bytes fate from start before done to after was ready (instance.has_instance i read f n) =
      let same : read ≡ before = finds_instance h r m.part before (Ok i) read f in
      part_then h m done before read after (λ relative IsNamed. still h m.part m.output relative IsNamed before read same) (names_by name bytes i fate from start read done to after was (then_steps ready (quiet same)) n)

  fills : (job : Job) (name : List ℕ) (mode : ℕ) (input : I) (output : O) → h.took output ≡ [] → (from : E) (start before : FileSystem) (done : Done) (to : E) (after : FileSystem) → IsIdle h (IsOutput h r w) m.part m.output (writing (h.masked mode)) start before
      → FillsByInstance (over {F = F} h r w e) job m name input output from before done to after → TouchesAs h m done before after
  fills job name mode input output new from start before done to after i (instance.not_done ending was_filled f not told gone x) =
      part_then h m done before was_filled after (λ relative IsNamed. filled h r w m relative job input output before ending was_filled IsNamed f)
      (part_alone (ap (λ (d : Done). d.instance) x) (λ relative. removes h m.part m.output relative ⊥ was_filled after gone))
  fills job name mode input output new from start before done to after i (instance.has_done ending was_filled told f was reports names) =
      part_then h m done before was_filled after (λ relative IsNamed. filled h r w m relative job input output before ending was_filled IsNamed f)
      (names_part name (h.took f.written) (ending_fate ending) told start was_filled done to after was
      (is_ready (h.took f.written) (more i (is_filled_as h (IsOutput h r w) r w m.part m.output (h.masked mode) job input output before ending was_filled f was (is_output h r w mode job input f.left output f.written ending new (finished_of f was) was)))) names)

  by_instance : (job : Job) (n : Named) (mode : ℕ) (from : E) (before : FileSystem) (result : Result Done RunStop) (to : E) (after : FileSystem) (done : Done) → IsIdle h (IsOutput h r w) m.part m.output idle before before
      → DoesByInstance (over {F = F} h r w e) job m n mode from before result to after → result ≡ Ok done → TouchesAs h m done before after
  by_instance job n mode from before result to after done i (instance.not_opened opens told x) ok =
      part_alone (ap (λ (d : Done). d.instance) (same_ok result (without_name fates.Unread) done x ok)) (λ relative. still h m.part m.output relative ⊥ before after (opens_file {I = I} h n.path before None after opens))
  by_instance job n mode from before result to after done i (instance.no_part input cause opened tried opens makes back ends) ok =
      part_alone (no_name e n.name cause from result to done ends ok) (λ relative. still h m.part m.output relative ⊥ before after (back ∙ part_is_not_made {F = F} h m.part mode opened cause tried makes ∙ opens_file {I = I} h n.path before (Some input) opened opens))
  by_instance job n mode from before result to after done i (instance.filled input output became opened made opens makes f x) ok =
      let same : opened ≡ before = opens_file {I = I} h n.path before (Some input) opened opens in
      subst (λ (d : Done). TouchesAs h m d before after) (sym (same_ok result became done x ok))
      (part_then h m became before opened after (λ relative IsNamed. still h m.part m.output relative IsNamed before opened same)
      (part_then h m became opened made after (λ relative IsNamed. made_part {F = F} h m.part m.output relative IsNamed mode opened output made makes)
      (fills job n.name mode input output (part_is_new {F = F} h m.part mode opened output made makes) from before made became to after (more (more i (quiet same)) (part_is_made {F = F} h (IsOutput h r w) m.part m.output mode opened output made makes)) f)))

  unnamed_touches : (n : Named) (mode : ℕ) (from : E) (before : FileSystem) (result : Result Done RunStop) (to : E) (after : FileSystem) (done : Done) → IsIdle h (IsOutput h r w) m.part m.output idle before before
      → DoesUnnamed (over {F = F} h r w e) m n mode from before result to after → result ≡ Ok done → TouchesAs h m done before after
  unnamed_touches n mode from before result to after done i (instance.no_days cause f told x) ok =
      part_alone (ap (λ (d : Done). d.instance) (same_ok result (without_name (no_days_fate cause)) done x ok)) (λ relative. still h m.part m.output relative ⊥ before after (finds_job h r m.task n.path before (Err cause) after f))
  unnamed_touches n mode from before result to after done i (instance.has_job job mid f does) ok =
      let same : mid ≡ before = finds_job h r m.task n.path before (Ok job) mid f in
      part_then h m done before mid after (λ relative IsNamed. still h m.part m.output relative IsNamed before mid same)
      (by_instance job n mode from mid result to after done (subst (λ (s : FileSystem). IsIdle h (IsOutput h r w) m.part m.output idle s s) (sym same) i) does ok)

  file_as : (n : Named) (mode : ℕ) (from : E) (before : FileSystem) (result : Result Done RunStop) (to : E) (after : FileSystem) (done : Done) → m.keeps_names ≡ false → IsIdle h (IsOutput h r w) m.part m.output idle before before
      → DoesFile (over {F = F} h r w e) m n mode from before result to after → result ≡ Ok done → TouchesAs h m done before after
  file_as n mode from before result to after done not i (files.an_index index told x same) ok =
      part_alone (ap (λ (d : Done). d.instance) (same_ok result (without_name fates.MediaIndex) done x ok)) (λ relative. still h m.part m.output relative ⊥ before after same)
  file_as n mode from before result to after done not i (files.keeps_name became index kept does x) ok = absurd (cc)
  file_as n mode from before result to after done not i (files.by_instance index other does) ok = unnamed_touches n mode from before result to after done i does ok

  pub name_touches_as : (n : Named) (what : What) (from : E) (before : FileSystem) (result : Result Done RunStop) (to : E) (after : FileSystem) (done : Done) → m.keeps_names ≡ false → IsIdle h (IsOutput h r w) m.part m.output idle before before
      → DoesName (over {F = F} h r w e) m n what from before result to after → result ≡ Ok done → TouchesAs h m done before after
  name_touches_as n what from before result to after done not i (files.a_file mode is does) ok = file_as n mode from before result to after done not i does ok
  name_touches_as n what from before result to after done not i (files.no_file other told x same) ok =
      part_alone (ap (λ (d : Done). d.instance) (same_ok result (without_name (fate_of what)) done x ok)) (λ relative. still h m.part m.output relative ⊥ before after same)
