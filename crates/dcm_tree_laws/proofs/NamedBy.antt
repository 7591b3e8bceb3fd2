-- What an output is named by: its input, or the instance that was read in the part.
use Rattle.std.proofs.Common.{◌≡◌, ◌∙◌, refl, sym, ap, subst, ℕ, List, true, false, Some, None, Result, Ok, Err}
use Rattle.dcm_lemmas.proofs.Options.{one_value}
use Rattle.dcm_devices.specs.Writing.{Writer}
use Rattle.dcm_files.specs.declared.folders.Found.{Found}
use Rattle.dcm_instance.specs.declared.names.Instance.{Instance}
use Rattle.dcm_instance.specs.Uids.{uids_of}
use Rattle.dcm_tree_laws.proofs.Touched.{no_done}
use Rattle.dcm_walk.specs.Names.{below}
use Rattle.dcm_walk.specs.Visits.{Named}
use Rattle.dcm_walk.specs.declared.visitor.What.{What}
use Rattle.dcm_words.specs.Words.{Job}
use Rattle.dcm_cli.specs.Calls.{Reader}
use Rattle.dcm_trees.specs.declared.fate.Fate.{Fate}
use Rattle.dcm_trees.specs.declared.fate.Fate.TheVariants as fates
use Rattle.dcm_trees.specs.declared.file.Done.{Done}
use Rattle.dcm_trees.specs.declared.progress.Stop.{Stop as RunStop}
use Rattle.dcm_trees.specs.Fate.{is_written, fate_of}
use Rattle.dcm_trees.specs.File as spec
use Rattle.dcm_trees.specs.File.{DoesFile, DoesName, under_its_name}
use Rattle.dcm_trees.specs.Instance as instance
use Rattle.dcm_trees.specs.Instance.{NamesBy, NamesPart, FillsByInstance, DoesByInstance, DoesUnnamed, no_instance_fate, without_name}
use Rattle.dcm_trees.specs.Lines.{ending_fate, no_days_fate}
use Rattle.dcm_trees.specs.Manner.{Manner}
use Rattle.dcm_trees.specs.Part.{MakesPart}
use Rattle.dcm_trees.specs.Work.{name_in}
use Rattle.dcm_tree_laws.specs.FileSystem.{FileSystem, Host, number_of, at_path, folders_do}
use Rattle.dcm_tree_laws.specs.Laws.{over}
use Rattle.dcm_tree_laws.specs.Outputs.{IsNamedBy, IsReadInPart, IsNamedSo, by_its_input, by_its_instance}
use Rattle.dcm_tree_laws.proofs.Adding.{since_ready}
use Rattle.dcm_tree_laws.proofs.Files.{IsAny, are_any, names_part}
use Rattle.dcm_tree_laws.proofs.Filling.{opens_file, part_is_made, is_filled_as}
use Rattle.dcm_tree_laws.proofs.Jobs.{finds_job, finds_instance}
use Rattle.dcm_tree_laws.proofs.Looking.{same_ok}
use Rattle.dcm_tree_laws.proofs.Near.{IsNear}
use Rattle.dcm_tree_laws.proofs.SoFar.{trees_of, Adds}
use Rattle.dcm_tree_laws.proofs.Steps.{idle, no_step, quiet}
use Rattle.dcm_tree_laws.proofs.WholePart.{IsReady, Ready, ready, then_steps}
use Rattle.dcm_tree_laws.proofs.Written.{days_not, instance_not, what_not, more, is_ready, true_not}
use Rattle.dcm_tree_laws.proofs.WrittenBy.{OutputOf, no_output, ends_not, by_out}

-- a file that is at the path of what became of a name is named so
abbrev NamedAt : {I O : Type 0} → Host I O → Reader I → Manner → (relative : List ℕ) → Done → FileSystem → Type 0
NamedAt h r m relative done after =
    (file : Found) → at_path h after.now (below m.output (name_in relative done.instance)) ≡ Some file → IsNamedSo h r m.keeps_names m.part (trees_of after) (after.now.bytes (number_of file)) done

own_name : (became : Result Fate RunStop) (result : Result Done RunStop) (done : Done) → result ≡ under_its_name became → result ≡ Ok done → done.instance ≡ None
own_name (Ok fate) result done is ok = ap (λ (d : Done). d.instance) (same_ok result (without_name fate) done is ok)
own_name (Err p) result done is ok = absurd (no_done result p done is ok)

-- all bytes of a part are these
abbrev Of : (out : List ℕ) → ℕ → List ℕ → Type 0
Of out = λ mode held. held ≡ out

module _ {I O F E : Type 0} (h : Host I O) (r : Reader I) (w : Writer O) (e : Writer E) (m : Manner) (of_output : IsNear m.output m.part) where
  -- ---- by the instance in it

  by_name : (name relative out : List ℕ) (i : Instance) (fate : Fate) (from : E) (start before : FileSystem) (done : Done) (to : E) (after : FileSystem) → m.keeps_names ≡ false → IsReady h (Of out) m.part m.output out start before → IsReadInPart h r m.part (trees_of after) out i
      → (named : NamesBy (over {F = F} h r w e) m name i fate from before done to after) → IsNamedBy (uids_of i) done → is_written done.fate ≡ true → NamedAt h r m relative done after
  by_name name relative out i fate from start before done to after keeps i_ready read named by written = λ file at.
      let x : OutputOf h (Of out) m relative done start after = by_out {F = F} h (Of out) r w e m name relative out i fate from start before done to after i_ready named written in
      let same : after.now.bytes (number_of file) ≡ out =
      subst (λ (f : Found). after.now.bytes (number_of f) ≡ out) (one_value (at_path h after.now (below m.output (name_in relative done.instance))) x.name.out.file file x.name.out.is at) x.name.out.whole in
      by_its_instance i keeps (subst (λ (b : List ℕ). IsReadInPart h r m.part (trees_of after) b i) (sym same) read) by

  by_named : (name relative out : List ℕ) (i : Instance) (fate : Fate) (from : E) (start before : FileSystem) (done : Done) (to : E) (after : FileSystem) → m.keeps_names ≡ false → IsReady h (Of out) m.part m.output out start before → IsReadInPart h r m.part (trees_of after) out i
      → NamesBy (over {F = F} h r w e) m name i fate from before done to after → is_written done.fate ≡ true → NamedAt h r m relative done after
  by_named name relative out i fate from start before done to after keeps i_ready read (instance.too_long none removes told is) written = no_output done fates.Unwritten is refl written
  by_named name relative out i fate from start before done to after keeps i_ready read (instance.placed path became items is places rel d) written =
      by_name name relative out i fate from start before done to after keeps i_ready read (instance.placed path became items is places rel d)
      (record { relative = items; instance_is = ap (λ (x : Done). x.instance) d; relative_is = rel }) written

  part_named : (name relative out : List ℕ) (fate : Fate) (from : E) (start before : FileSystem) (done : Done) (to : E) (after : FileSystem) → m.keeps_names ≡ false → IsReady h (Of out) m.part m.output out start before → NamesPart (over {F = F} h r w e) m name fate from before done to after
      → is_written done.fate ≡ true → NamedAt h r m relative done after
  part_named name relative out fate from start before done to after keeps i_ready (instance.no_instance cause read f removes told is) written = no_output done (no_instance_fate cause) is (instance_not cause) written
  part_named name relative out fate from start before done to after keeps i_ready (instance.has_instance i read f n) written =
      let it : Ready h (Of out) m.part before.now = ready i_ready in
      let adds : Adds (trees_of before) after = since_ready idle after i_ready
      (names_part {F = F} h (Of out) r w e m (IsNear m.output) IsAny (are_any m.output) name out fate from before done to after (instance.has_instance i read f n)) in
      by_named name relative out i fate from start read done to after keeps (then_steps i_ready (quiet (finds_instance h r m.part before (Ok i) read f)))
      (record { state = before; was_state = record { later = adds.later; trees_are = adds.are }; file = it.file; is = it.is; kind = it.kind; bytes_are = it.done; after = read; finds = f }) n written

  filled_named : (job : Job) (name relative : List ℕ) (mode : ℕ) (input : I) (output : O) (from : E) (opened made : FileSystem) (done : Done) (to : E) (after : FileSystem) → m.keeps_names ≡ false → opened.written ≡ None → MakesPart (folders_do {F = F} h) m.part mode opened (Ok output) made
      → FillsByInstance (over {F = F} h r w e) job m name input output from made done to after → is_written done.fate ≡ true → NamedAt h r m relative done after
  filled_named job name relative mode input output from opened made done to after keeps none makes (instance.not_done ending was_filled fills not told removes is) written = no_output done (ending_fate ending) is not written
  filled_named job name relative mode input output from opened made done to after keeps none makes (instance.has_done ending was_filled told fills is reports names) written =
      let out : List ℕ = h.took fills.written in
      part_named name relative out (ending_fate ending) told opened was_filled done to after keeps
      (is_ready out (more (more (record { none = none; of_output = of_output; steps = no_step refl refl }) (part_is_made {F = F} h (Of out) m.part m.output mode opened output made makes))
      (is_filled_as h (Of out) r w m.part m.output (h.masked mode) job input output made ending was_filled fills is refl))) names written

  instance_named : (job : Job) (n : Named) (mode : ℕ) (from : E) (before : FileSystem) (result : Result Done RunStop) (to : E) (after : FileSystem) (done : Done) → m.keeps_names ≡ false → before.written ≡ None → DoesByInstance (over {F = F} h r w e) job m n mode from before result to after → result ≡ Ok done
      → is_written done.fate ≡ true → NamedAt h r m n.relative done after
  instance_named job n mode from before result to after done keeps none (instance.not_opened opens told is) ok written = no_output done fates.Unread (same_ok result (without_name fates.Unread) done is ok) refl written
  instance_named job n mode from before result to after done keeps none (instance.no_part input cause opened tried opens makes back ends) ok written = true_not done.fate (ends_not e n.name cause from result to done ends ok) written
  instance_named job n mode from before result to after done keeps none (instance.filled input output became opened made opens makes fills is) ok written =
      let same : done ≡ became = same_ok result became done is ok in
      subst (λ (d : Done). NamedAt h r m n.relative d after) (sym same)
      (filled_named job n.name n.relative mode input output from opened made became to after keeps (ap (λ (s : FileSystem). s.written) (opens_file {I = I} h n.path before (Some input) opened opens) ∙ none) makes fills
      (ap (λ (d : Done). is_written d.fate) (sym same) ∙ written))

  unnamed_named : (n : Named) (mode : ℕ) (from : E) (before : FileSystem) (result : Result Done RunStop) (to : E) (after : FileSystem) (done : Done) → m.keeps_names ≡ false → before.written ≡ None → DoesUnnamed (over {F = F} h r w e) m n mode from before result to after → result ≡ Ok done
      → is_written done.fate ≡ true → NamedAt h r m n.relative done after
  unnamed_named n mode from before result to after done keeps none (instance.no_days cause f told is) ok written = no_output done (no_days_fate cause) (same_ok result (without_name (no_days_fate cause)) done is ok) (days_not cause) written
  unnamed_named n mode from before result to after done keeps none (instance.has_job job mid f does) ok written =
      instance_named job n mode from mid result to after done keeps (ap (λ (s : FileSystem). s.written) (finds_job h r m.task n.path before (Ok job) mid f) ∙ none) does ok written

  -- ---- each name

  file_named : (n : Named) (mode : ℕ) (from : E) (before : FileSystem) (result : Result Done RunStop) (to : E) (after : FileSystem) (done : Done) → before.written ≡ None → DoesFile (over {F = F} h r w e) m n mode from before result to after → result ≡ Ok done → is_written done.fate ≡ true
      → NamedAt h r m n.relative done after
  file_named n mode from before result to after done none (spec.an_index index told is same) ok written = no_output done fates.MediaIndex (same_ok result (without_name fates.MediaIndex) done is ok) refl written
  file_named n mode from before result to after done none (spec.keeps_name became index keeps does is) ok written = λ file at. by_its_input keeps (own_name became result done is ok)
  file_named n mode from before result to after done none (spec.by_instance index keeps does) ok written = unnamed_named n mode from before result to after done keeps none does ok written

  pub name_named : (n : Named) (what : What) (from : E) (before : FileSystem) (result : Result Done RunStop) (to : E) (after : FileSystem) (done : Done) → before.written ≡ None → DoesName (over {F = F} h r w e) m n what from before result to after → result ≡ Ok done → is_written done.fate ≡ true
      → NamedAt h r m n.relative done after
  name_named n what from before result to after done none (spec.a_file mode is does) ok written = file_named n mode from before result to after done none does ok written
  name_named n what from before result to after done none (spec.no_file other told is same) ok written = no_output done (fate_of what) (same_ok result (without_name (fate_of what)) done is ok) (what_not what) written
