-- A file of a tree is done by such steps.
use Rattle.std.proofs.Common.{◌≡◌, ◌∙◌, refl, sym, subst, ℕ, ◌+◌, List, length, Bool, true, false, Some, None, Result, Ok, Err, arith}
use Rattle.std.specs.Prelude.{[], nat_le, if◌then◌else◌}
use Rattle.dcm_devices.specs.Writing.{Writer}
use Rattle.dcm_instance.specs.declared.names.Instance.{Instance}
use Rattle.dcm_instance.specs.ReadInstance.{FileNames}
use Rattle.dcm_instance.specs.Uids.{Uids, instance_name, uids_of}
use Rattle.dcm_walk.specs.Names.{below, leads_below, PATH_LIMIT}
use Rattle.dcm_walk.specs.Visits.{Named}
use Rattle.dcm_walk.specs.declared.visitor.What.{What}
use Rattle.dcm_walk.specs.declared.visitor.What.TheVariants.{File}
use Rattle.dcm_words.specs.Words.{Job}
use Rattle.dcm_cli.specs.Calls.{Reader}
use Rattle.dcm_trees.specs.declared.fate.Fate.{Fate}
use Rattle.dcm_trees.specs.declared.file.Done.{Done}
use Rattle.dcm_trees.specs.declared.progress.Stop.{Stop as RunStop}
use Rattle.dcm_trees.specs.File as spec
use Rattle.dcm_trees.specs.File.{DoesReady, DoesFree, DoesPlaced, DoesNamed, DoesFile, DoesName}
use Rattle.dcm_trees.specs.Instance as instance
use Rattle.dcm_trees.specs.Instance.{GivesFreeName, PlacesPart, NamesBy, NamesPart, FillsByInstance, DoesByInstance, DoesUnnamed, name_of_instance}
use Rattle.dcm_trees.specs.Lines.{ending_fate}
use Rattle.dcm_trees.specs.Manner.{Manner}
use Rattle.dcm_trees.specs.Modes.{Modes}
use Rattle.dcm_trees.specs.Place.{path_in}
use Rattle.dcm_trees.specs.declared.part.Naming.{Naming}
use Rattle.dcm_trees.specs.declared.part.Naming.TheVariants.{NotFree}
use Rattle.dcm_tree_laws.specs.FileSystem.{FileSystem, Host, may_do, folders_do}
use Rattle.dcm_tree_laws.specs.Laws.{IsOutput, over}
use Rattle.dcm_tree_laws.specs.Stays.{IsOfOutput, within}
use Rattle.dcm_tree_laws.proofs.Below.{found_names, file_leads, way_is_within}
use Rattle.dcm_tree_laws.proofs.Closing.{finished_of}
use Rattle.dcm_tree_laws.proofs.Filling.{opens_file, part_is_made_in, part_is_new, part_is_not_made, is_filled_in, is_not_filled_in, always_gives, fills_and_names}
use Rattle.dcm_tree_laws.proofs.Gives.{GivesOutput, OpenGives, FileGives}
use Rattle.dcm_tree_laws.proofs.Jobs.{finds_job, finds_instance, finds_copy}
use Rattle.dcm_tree_laws.proofs.Looking.{finds}
use Rattle.dcm_tree_laws.proofs.Making.{Leads, leads_near}
use Rattle.dcm_tree_laws.proofs.Naming.{phase_of, by_naming, gives_name, gives_name_in, clears_part, removes_part}
use Rattle.dcm_tree_laws.proofs.Near.{IsNear}
use Rattle.dcm_tree_laws.proofs.Quiet.{are_quiet}
use Rattle.dcm_tree_laws.proofs.Steps.{idle, writing, whole, Steps, StepsIn, goes_on, quiet}

-- ---- the path of an output

path_if : (b : Bool) (path other : List ℕ) → (if b then Some path else None) ≡ Some other → other ≡ path
path_if true path other e = cc
path_if false path other e = absurd (cc)

pub path_is : (output name path : List ℕ) → path_in output name ≡ Some path → path ≡ below output name
path_is output name path e = path_if (nat_le (length (below output name)) PATH_LIMIT) (below output name) path e

-- ---- the relative names that outputs may have

-- their paths are of the outputs, and the names of instances are such
pub record AreNames (output : List ℕ) (Of Fits : List ℕ → Type 0) : Type 0 where
  pub leads : (relative path : List ℕ) → path ≡ below output relative → Fits relative → Leads Of path (length output + 1)
  pub of_instance : (bytes : List ℕ) (u : Uids) → FileNames bytes (Ok u) → Fits (instance_name u)

-- any names
abbrev pub IsAny : List ℕ → Type 0
IsAny name = Unit {0}

pub are_any : (output : List ℕ) → AreNames output (IsNear output) IsAny
are_any output = record {
  leads = λ relative path is any. leads_near output relative path (length output + 1) is (omega arith);
  of_instance = λ bytes u names. tt;
}

-- those that lead to something below the folder of the outputs
abbrev pub LeadsBelow : List ℕ → Type 0
LeadsBelow name = leads_below name ≡ true

pub are_within : (output : List ℕ) → AreNames output (IsOfOutput output) LeadsBelow
are_within output = record {
  leads = λ relative path is leads. record {
    end = within relative leads is;
    way = λ from size far slash. way_is_within output relative path is leads from size far slash;
  };
  of_instance = λ bytes u names. file_leads bytes u names;
}

-- ---- a file whose output has its name

module _ {I O F E : Type 0} (h : Host I O) (IsWhole : ℕ → List ℕ → Type 0) (r : Reader I) (w : Writer O) (e : Writer E) (m : Manner) (Of Fits : List ℕ → Type 0) (names : AreNames m.output Of Fits) where
  ready : (job : Job) (n : Named) (mode : ℕ) (path : List ℕ) → Leads Of path (length m.output + 1) → (from : E) (before : FileSystem) (result : Result Fate RunStop) (to : E) (after : FileSystem)
      → OpenGives h IsWhole r w job n.path mode before → DoesReady (over {F = F} h r w e) job m n mode path from before result to after → StepsIn h IsWhole m.part Of idle before idle after
  ready job n mode path leads from before result to after gives (spec.not_opened opens told i) = quiet (opens_file {I = I} h n.path before None after opens)
  ready job n mode path leads from before result to after gives (spec.no_part input cause opened tried opens makes back tells) =
      quiet (back ∙ part_is_not_made {F = F} h m.part mode opened cause tried makes ∙ opens_file {I = I} h n.path before (Some input) opened opens)
  ready job n mode path leads from before result to after gives (spec.filled input output fate opened made opens makes fills i) =
      goes_on (quiet (opens_file {I = I} h n.path before (Some input) opened opens))
      (goes_on (part_is_made_in {F = F} h IsWhole m.part Of mode opened output made makes)
      (fills_and_names {F = F} h IsWhole r w e job m Of n.name path leads mode input output (gives input opened opens) (part_is_new {F = F} h m.part mode opened output made makes) from made fate to after fills))

  free : (n : Named) (mode : ℕ) (path : List ℕ) → Leads Of path (length m.output + 1) → (from : E) (before : FileSystem) (result : Result Fate RunStop) (to : E) (after : FileSystem)
      → FileGives h IsWhole r w m.task n.path mode before → DoesFree (over {F = F} h r w e) m n mode path from before result to after → StepsIn h IsWhole m.part Of idle before idle after
  free n mode path leads from before result to after gives (spec.no_days cause f told i) = quiet (finds_job h r m.task n.path before (Err cause) after f)
  free n mode path leads from before result to after gives (spec.has_job job mid f does) =
      goes_on (quiet (finds_job h r m.task n.path before (Ok job) mid f)) (ready job n mode path leads from mid result to after (gives job mid f) does)

  placed : (n : Named) (mode : ℕ) (path : List ℕ) → Leads Of path (length m.output + 1) → (from : E) (before : FileSystem) (result : Result Fate RunStop) (to : E) (after : FileSystem)
      → FileGives h IsWhole r w m.task n.path mode before → DoesPlaced (over {F = F} h r w e) m n mode path from before result to after → StepsIn h IsWhole m.part Of idle before idle after
  placed n mode path leads from before result to after gives (spec.not_free place f nf told i) = quiet (finds (folders_do {F = F} h) (are_quiet h) path (length m.output + 1) before place after f)
  placed n mode path leads from before result to after gives (spec.free place looked f nf does) =
      let same : looked ≡ before = finds (folders_do {F = F} h) (are_quiet h) path (length m.output + 1) before place looked f in
      goes_on (quiet same) (free n mode path leads from looked result to after (subst (FileGives h IsWhole r w m.task n.path mode) (sym same) gives) does)

  named : (n : Named) (mode : ℕ) (from : E) (before : FileSystem) (result : Result Fate RunStop) (to : E) (after : FileSystem) → Fits n.relative
      → FileGives h IsWhole r w m.task n.path mode before → DoesNamed (over {F = F} h r w e) m n mode from before result to after → StepsIn h IsWhole m.part Of idle before idle after
  named n mode from before result to after fits gives (spec.too_long none told i same) = quiet same
  named n mode from before result to after fits gives (spec.placed path is does) = placed n mode path (names.leads n.relative path (path_is m.output n.relative path is) fits) from before result to after gives does

  -- ---- a file whose output is named by the instance in it

  gives_free_in : (bytes path : List ℕ) → Leads Of path (length m.output + 1) → (before : FileSystem) (naming : Naming) (after : FileSystem)
      → GivesFreeName (may_do {I = I} h) (folders_do {F = F} h) m.modes m.part path (length m.output + 1) before naming after → StepsIn h IsWhole m.part Of (whole bytes) before (phase_of bytes naming) after
  gives_free_in bytes path leads before naming after (instance.not_free place f nf i) =
      by_naming bytes naming (NotFree place) i (quiet (finds (folders_do {F = F} h) (are_quiet h) path (length m.output + 1) before place after f))
  gives_free_in bytes path leads before naming after (instance.free place looked f nf g) =
      goes_on (quiet (finds (folders_do {F = F} h) (are_quiet h) path (length m.output + 1) before place looked f))
      (gives_name_in {I = I} {F = F} h IsWhole m.part Of bytes path (length m.output + 1) (omega arith) leads looked naming after g)

  places_part : (name path bytes : List ℕ) → Leads Of path (length m.output + 1) → (fate : Fate) (from : E) (before : FileSystem) (became : Fate) (to : E) (after : FileSystem)
      → PlacesPart (over {F = F} h r w e) m name path fate from before became to after → StepsIn h IsWhole m.part Of (whole bytes) before idle after
  places_part name path bytes leads fate from before became to after p =
      goes_on (gives_free_in bytes path leads before p.naming p.named p.gives)
      (goes_on (quiet (finds_copy h r p.naming m.part path p.named p.same p.compared p.copy)) (clears_part {I = I} h IsWhole m.part Of bytes p.naming p.compared after p.clears))

  names_by : (name bytes held : List ℕ) (i : Instance) → FileNames held (Ok (uids_of i)) → (fate : Fate) (from : E) (before : FileSystem) (done : Done) (to : E) (after : FileSystem)
      → NamesBy (over {F = F} h r w e) m name i fate from before done to after → StepsIn h IsWhole m.part Of (whole bytes) before idle after
  names_by name bytes held i it fate from before done to after (instance.too_long none removes told is) = removes_part {I = I} h IsWhole m.part Of (whole bytes) refl before after removes
  names_by name bytes held i it fate from before done to after (instance.placed path became relative is places rel d) =
      places_part name path bytes (names.leads (name_of_instance i) path (path_is m.output (name_of_instance i) path is) (names.of_instance held (uids_of i) it)) fate from before became to after places

  pub names_part : (name bytes : List ℕ) (fate : Fate) (from : E) (before : FileSystem) (done : Done) (to : E) (after : FileSystem)
      → NamesPart (over {F = F} h r w e) m name fate from before done to after → StepsIn h IsWhole m.part Of (whole bytes) before idle after
  names_part name bytes fate from before done to after (instance.no_instance cause read f removes told is) =
      goes_on (quiet (finds_instance h r m.part before (Err cause) read f)) (removes_part {I = I} h IsWhole m.part Of (whole bytes) refl read after removes)
  names_part name bytes fate from before done to after (instance.has_instance i read f n) =
      let it : (held : List ℕ) × FileNames held (Ok (uids_of i)) = found_names (may_do h) r m.part before i read f in
      goes_on (quiet (finds_instance h r m.part before (Ok i) read f)) (names_by name bytes it.0 i it.1 fate from read done to after n)

  fills_by_instance : (job : Job) (name : List ℕ) (bits : ℕ) (input : I) (output : O) → GivesOutput h IsWhole r w job input bits → h.took output ≡ [] → (from : E) (before : FileSystem) (done : Done) (to : E) (after : FileSystem)
      → FillsByInstance (over {F = F} h r w e) job m name input output from before done to after → StepsIn h IsWhole m.part Of (writing (h.masked bits)) before idle after
  fills_by_instance job name bits input output gives new from before done to after (instance.not_done ending was_filled fills not told removes is) =
      goes_on (is_not_filled_in h IsWhole r w m.part Of (h.masked bits) job input output before ending was_filled fills) (removes_part {I = I} h IsWhole m.part Of idle refl was_filled after removes)
  fills_by_instance job name bits input output gives new from before done to after (instance.has_done ending was_filled told fills is reports parts) =
      goes_on (is_filled_in h IsWhole r w m.part Of (h.masked bits) job input output before ending was_filled fills is (gives fills.left output fills.written ending new (finished_of fills is) is))
      (names_part name (h.took fills.written) (ending_fate ending) told was_filled done to after parts)

  by_instance : (job : Job) (n : Named) (mode : ℕ) (from : E) (before : FileSystem) (result : Result Done RunStop) (to : E) (after : FileSystem)
      → OpenGives h IsWhole r w job n.path mode before → DoesByInstance (over {F = F} h r w e) job m n mode from before result to after → StepsIn h IsWhole m.part Of idle before idle after
  by_instance job n mode from before result to after gives (instance.not_opened opens told i) = quiet (opens_file {I = I} h n.path before None after opens)
  by_instance job n mode from before result to after gives (instance.no_part input cause opened tried opens makes back ends) =
      quiet (back ∙ part_is_not_made {F = F} h m.part mode opened cause tried makes ∙ opens_file {I = I} h n.path before (Some input) opened opens)
  by_instance job n mode from before result to after gives (instance.filled input output done opened made opens makes fills i) =
      goes_on (quiet (opens_file {I = I} h n.path before (Some input) opened opens))
      (goes_on (part_is_made_in {F = F} h IsWhole m.part Of mode opened output made makes)
      (fills_by_instance job n.name mode input output (gives input opened opens) (part_is_new {F = F} h m.part mode opened output made makes) from made done to after fills))

  unnamed : (n : Named) (mode : ℕ) (from : E) (before : FileSystem) (result : Result Done RunStop) (to : E) (after : FileSystem)
      → FileGives h IsWhole r w m.task n.path mode before → DoesUnnamed (over {F = F} h r w e) m n mode from before result to after → StepsIn h IsWhole m.part Of idle before idle after
  unnamed n mode from before result to after gives (instance.no_days cause f told i) = quiet (finds_job h r m.task n.path before (Err cause) after f)
  unnamed n mode from before result to after gives (instance.has_job job mid f does) =
      goes_on (quiet (finds_job h r m.task n.path before (Ok job) mid f)) (by_instance job n mode from mid result to after (gives job mid f) does)

  -- ---- a name

  file : (n : Named) (mode : ℕ) (from : E) (before : FileSystem) (result : Result Done RunStop) (to : E) (after : FileSystem) → Fits n.relative
      → FileGives h IsWhole r w m.task n.path mode before → DoesFile (over {F = F} h r w e) m n mode from before result to after → StepsIn h IsWhole m.part Of idle before idle after
  file n mode from before result to after fits gives (spec.an_index is told i same) = quiet same
  file n mode from before result to after fits gives (spec.keeps_name became is keeps does i) = named n mode from before became to after fits gives does
  file n mode from before result to after fits gives (spec.by_instance is keeps does) = unnamed n mode from before result to after gives does

  pub does_name_in : (n : Named) (what : What) (from : E) (before : FileSystem) (result : Result Done RunStop) (to : E) (after : FileSystem) → ((mode : ℕ) → what ≡ File mode → Fits n.relative)
      → ((mode : ℕ) → what ≡ File mode → FileGives h IsWhole r w m.task n.path mode before) → DoesName (over {F = F} h r w e) m n what from before result to after → StepsIn h IsWhole m.part Of idle before idle after
  does_name_in n what from before result to after fits gives (spec.a_file mode is does) = file n mode from before result to after (fits mode is) (gives mode is) does
  does_name_in n what from before result to after fits gives (spec.no_file other told i same) = quiet same

-- ---- any name, and any output of a job that was done

pub gives_free : {I O F : Type 0} {modes : Modes} (h : Host I O) (IsWhole : ℕ → List ℕ → Type 0) (part output bytes path relative : List ℕ) → path ≡ below output relative → (before : FileSystem) (naming : Naming) (after : FileSystem)
    → GivesFreeName (may_do {I = I} h) (folders_do {F = F} h) modes part path (length output + 1) before naming after → Steps h IsWhole part output (whole bytes) before (phase_of bytes naming) after
gives_free {I} {O} {F} h IsWhole part output bytes path relative is before naming after (instance.not_free place f nf i) =
    by_naming bytes naming (NotFree place) i (quiet (finds (folders_do {F = F} h) (are_quiet h) path (length output + 1) before place after f))
gives_free {I} {O} {F} h IsWhole part output bytes path relative is before naming after (instance.free place looked f nf g) =
    goes_on (quiet (finds (folders_do {F = F} h) (are_quiet h) path (length output + 1) before place looked f)) (gives_name {I = I} {F = F} h IsWhole part output bytes path relative is looked naming after g)

pub does_name : {I O F E : Type 0} (h : Host I O) (r : Reader I) (w : Writer O) (e : Writer E) (m : Manner) (n : Named) (what : What) (from : E) (before : FileSystem) (result : Result Done RunStop) (to : E) (after : FileSystem)
    → DoesName (over {F = F} h r w e) m n what from before result to after → Steps h (IsOutput h r w) m.part m.output idle before idle after
does_name {I} {O} {F} h r w e m n what from before result to after =
    does_name_in {F = F} h (IsOutput h r w) r w e m (IsNear m.output) IsAny (are_any m.output) n what from before result to after (λ mode is. tt) (λ mode is. always_gives h r w m.task n.path mode before)
