-- What a system does another one may do that may do more.
use Rattle.std.proofs.Common.{ℕ, ℤ, List, Bool, Option, Some, None, Result, Ok, Err}
use Rattle.std.specs.declared.io.Error.{Error}
use Rattle.dcm_devices.specs.Writing.{Writer}
use Rattle.dcm_files.specs.declared.opened.Opened.{Opened}
use Rattle.dcm_files.specs.Devices.{MayDo}
use Rattle.dcm_files.specs.Folders.{FoldersDo}
use Rattle.dcm_instance.specs.declared.names.Instance.{Instance}
use Rattle.dcm_instance.specs.declared.names.NoInstance.{NoInstance}
use Rattle.dcm_walk.specs.Visits.{Named}
use Rattle.dcm_walk.specs.declared.visitor.Stopped.{Stopped}
use Rattle.dcm_walk.specs.declared.visitor.What.{What}
use Rattle.dcm_words.specs.Words.{Job}
use Rattle.dcm_cli.specs.Calls.{Reader}
use Rattle.dcm_cli.specs.declared.ending.Ending.{Ending}
use Rattle.dcm_trees.specs.declared.fate.Fate.{Fate}
use Rattle.dcm_trees.specs.declared.file.Done.{Done}
use Rattle.dcm_trees.specs.declared.part.Naming.{Naming}
use Rattle.dcm_trees.specs.declared.progress.Stop.{Stop as RunStop}
use Rattle.dcm_trees.specs.declared.progress.Shared.{Shared}
use Rattle.dcm_trees.specs.declared.task.NoDays.{NoDays}
use Rattle.dcm_trees.specs.File as files
use Rattle.dcm_trees.specs.File.{DoesReady, DoesFree, DoesPlaced, DoesNamed, DoesFile, DoesName}
use Rattle.dcm_trees.specs.Instance as instance
use Rattle.dcm_trees.specs.Instance.{FindsInstance, Compares, ComparesFiles, FindsCopy, GivesFreeName, PlacesPart, NamesBy, NamesPart, FillsByInstance, DoesByInstance, DoesUnnamed}
use Rattle.dcm_trees.specs.Manner.{Manner, manner_of}
use Rattle.dcm_trees.specs.Modes.{Modes}
use Rattle.dcm_trees.specs.Opening as opening
use Rattle.dcm_trees.specs.Opening.{OpensFile}
use Rattle.dcm_trees.specs.Part as parts
use Rattle.dcm_trees.specs.Part.{RemovesPart, Fills, MovesPart, MovesIfFree, GivesSecondName, GivesName, ClearsPart, NamesOutput, FillsAndNames}
use Rattle.dcm_trees.specs.Task as tasks
use Rattle.dcm_trees.specs.Task.{Task, TakesDays, FindsJob}
use Rattle.dcm_trees.specs.Work as work
use Rattle.dcm_trees.specs.Work.{Progress, VisitsName}
use Rattle.dcm_trees.specs.World.{World}
use Rattle.dcm_tree_laws.proofs.Sure.{Implies, finds, makes_way, makes_part}

-- what the calls of one system answer, those of another one may
pub record Allows {S I O : Type 0} (may more : MayDo S I O) : Type 0 where
  pub opens : (before : S) (path : List ℕ) (r : Result (Opened I) Error) (after : S) → may.opens before path r after → more.opens before path r after
  pub releases : (before : S) (input : I) (after : S) → may.releases before input after → more.releases before input after
  pub moves : (before : S) (from to : List ℕ) (r : Result (Unit {0}) Error) (after : S) → may.moves before from to r after → more.moves before from to r after
  pub removes : (before : S) (path : List ℕ) (r : Result (Unit {0}) Error) (after : S) → may.removes before path r after → more.removes before path r after
  pub closes : (before : S) (output : O) (r : Result (Unit {0}) Error) (after : S) → may.closes before output r after → more.closes before output r after

-- its own, among them
pub allows_same : {S I O : Type 0} (may : MayDo S I O) → Allows may may
allows_same may = record {
  opens = λ before path r after call. call;
  releases = λ before input after call. call;
  moves = λ before from to r after call. call;
  removes = λ before path r after call. call;
  closes = λ before output r after call. call;
}

-- ---- devices

module _ {S I O : Type 0} (may more : MayDo S I O) (also : Allows may more) where
  pub opens_file : (path : List ℕ) (before : S) (input : Option I) (after : S) → OpensFile may path before input after → OpensFile more path before input after
  opens_file path before input after (opening.no_text t is same) = opening.no_text t is same
  opens_file path before input after (opening.not_opened e t call is) = opening.not_opened e t (also.opens before path (Err e) after call) is
  opens_file path before input after (opening.a_folder o has t call kind back is) = opening.a_folder o has t (also.opens before path (Ok o) has call) kind (also.releases has o.device after back) is
  opens_file path before input after (opening.opened o t call kind is) = opening.opened o t (also.opens before path (Ok o) after call) kind is

  takes_days : (r : Reader I) (key path : List ℕ) (before : S) (result : Result ℤ NoDays) (after : S) → TakesDays may r key path before result after → TakesDays more r key path before result after
  takes_days r key path before result after (tasks.not_opened opens is) = tasks.not_opened (opens_file path before None after opens) is
  takes_days r key path before result after (tasks.was_read input left opened end opens reads back is) =
      tasks.was_read input left opened end (opens_file path before (Some input) opened opens) reads (also.releases opened left after back) is

  pub finds_job : (r : Reader I) (task : Task) (path : List ℕ) (before : S) (result : Result Job NoDays) (after : S) → FindsJob may r task path before result after → FindsJob more r task path before result after
  finds_job r task path before result after (tasks.of_all job t is same) = tasks.of_all job t is same
  finds_job r task path before result after (tasks.of_days options reports key days t takes is) = tasks.of_days options reports key days t (takes_days r key path before (Ok days) after takes) is
  finds_job r task path before result after (tasks.no_days options reports key cause t takes is) = tasks.no_days options reports key cause t (takes_days r key path before (Err cause) after takes) is

  pub removes_part : (part : List ℕ) (before after : S) → RemovesPart may part before after → RemovesPart more part before after
  removes_part part before after (parts.no_text t is) = parts.no_text t is
  removes_part part before after (parts.removed r t call) = parts.removed r t (also.removes before part r after call)

  abbrev pub fills : (r : Reader I) (w : Writer O) (job : Job) (input : I) (output : O) (before : S) (ending : Ending) (after : S) → Fills may r w job input output before ending after → Fills more r w job input output before ending after
  fills r w job input output before ending after f = record {
    left = f.left;
    written = f.written;
    closed = f.closed;
    ended = f.ended;
    closing = f.closing;
    finished = f.finished;
    remarks = f.remarks;
    remarked = f.remarked;
    closes = also.closes before f.written f.closing f.closed f.closes;
    releases = also.releases f.closed f.left after f.releases;
    ending_is = f.ending_is;
  }

  moves_part : (part path : List ℕ) (before : S) (naming : Naming) (after : S) → MovesPart may part path before naming after → MovesPart more part path before naming after
  moves_part part path before naming after (parts.moved call is) = parts.moved (also.moves before part path (Ok _) after call) is
  moves_part part path before naming after (parts.not_moved e call is) = parts.not_moved e (also.moves before part path (Err e) after call) is

  pub clears_part : (naming : Naming) (part : List ℕ) (before after : S) → ClearsPart may naming part before after → ClearsPart more naming part before after
  clears_part naming part before after (parts.moved is same) = parts.moved is same
  clears_part naming part before after (parts.removed is removes) = parts.removed is (removes_part part before after removes)

  pub finds_instance : (r : Reader I) (part : List ℕ) (before : S) (result : Result Instance NoInstance) (after : S) → FindsInstance may r part before result after → FindsInstance more r part before result after
  finds_instance r part before result after (instance.not_opened opens is) = instance.not_opened (opens_file part before None after opens) is
  finds_instance r part before result after (instance.was_read input left opened opens reads back) =
      instance.was_read input left opened (opens_file part before (Some input) opened opens) reads (also.releases opened left after back)

  compares : (r : Reader I) (first second : I) (before : S) (same : Bool) (after : S) → Compares may r first second before same after → Compares more r first second before same after
  compares r first second before same after c = record {
    first_left = c.first_left;
    second_left = c.second_left;
    mid = c.mid;
    compared = c.compared;
    second_back = also.releases before c.second_left c.mid c.second_back;
    first_back = also.releases c.mid c.first_left after c.first_back;
  }

  compares_files : (r : Reader I) (first second : List ℕ) (before : S) (same : Bool) (after : S) → ComparesFiles may r first second before same after → ComparesFiles more r first second before same after
  compares_files r first second before same after (instance.no_first opens is) = instance.no_first (opens_file first before None after opens) is
  compares_files r first second before same after (instance.no_second one mid tried opens fails back is) =
      instance.no_second one mid tried (opens_file first before (Some one) mid opens) (opens_file second mid None tried fails) (also.releases tried one after back) is
  compares_files r first second before same after (instance.both one other mid opened opens too c) =
      instance.both one other mid opened (opens_file first before (Some one) mid opens) (opens_file second mid (Some other) opened too) (compares r one other opened same after c)

  pub finds_copy : (r : Reader I) (naming : Naming) (part path : List ℕ) (before : S) (same : Bool) (after : S) → FindsCopy may r naming part path before same after → FindsCopy more r naming part path before same after
  finds_copy r naming part path before same after (instance.not_there n is stays) = instance.not_there n is stays
  finds_copy r naming part path before same after (instance.compared n c) = instance.compared n (compares_files r part path before same after c)

-- ---- names

module _ {S I O F : Type 0} (may more : MayDo S I O) (also : Allows may more) (d e : FoldersDo S O F) (can : Implies d e) where
  moves_if_free : (part path : List ℕ) (base : ℕ) (before : S) (naming : Naming) (after : S) → MovesIfFree may d part path base before naming after → MovesIfFree more e part path base before naming after
  moves_if_free part path base before naming after (parts.not_free place f nf is) = parts.not_free place (finds d e can.sees path base before place after f) nf is
  moves_if_free part path base before naming after (parts.free place looked f nf m) = parts.free place looked (finds d e can.sees path base before place looked f) nf (moves_part may more also part path looked naming after m)

  gives_second : (part path : List ℕ) (base : ℕ) (before : S) (naming : Naming) (after : S) → GivesSecondName may d part path base before naming after → GivesSecondName more e part path base before naming after
  gives_second part path base before naming after (parts.no_part_text t is same) = parts.no_part_text t is same
  gives_second part path base before naming after (parts.no_text t u is same) = parts.no_text t u is same
  gives_second part path base before naming after (parts.linked t u call is) = parts.linked t u (can.link before part path _ after call) is
  gives_second part path base before naming after (parts.was_there x tried t u call k (parts.found place f is)) = parts.was_there x tried t u (can.link before part path _ tried call) k (parts.found place (finds d e can.sees path base tried place after f) is)
  gives_second part path base before naming after (parts.not_linked x tried t u call k m) = parts.not_linked x tried t u (can.link before part path _ tried call) k (moves_if_free part path base tried naming after m)

  pub gives_name : {modes : Modes} (part path : List ℕ) (base : ℕ) (before : S) (naming : Naming) (after : S) → GivesName may d modes part path base before naming after → GivesName more e modes part path base before naming after
  gives_name part path base before naming after (parts.no_way x m n) = parts.no_way x (makes_way d e can path base before (Err x) after m) n
  gives_name part path base before naming after (parts.on_its_way has_way m g) = parts.on_its_way has_way (makes_way d e can path base before (Ok _) has_way m) (gives_second part path base has_way naming after g)

  pub gives_free : {modes : Modes} (part path : List ℕ) (base : ℕ) (before : S) (naming : Naming) (after : S) → GivesFreeName may d modes part path base before naming after → GivesFreeName more e modes part path base before naming after
  gives_free part path base before naming after (instance.not_free place f nf is) = instance.not_free place (finds d e can.sees path base before place after f) nf is
  gives_free part path base before naming after (instance.free place looked f nf g) = instance.free place looked (finds d e can.sees path base before place looked f) nf (gives_name part path base looked naming after g)

-- ---- a file

abbrev pub with_calls : {S I O F E : Type 0} → World S I O F E → MayDo S I O → FoldersDo S O F → World S I O F E
with_calls w more e = record w { may = more; folders = e }

module _ {S I O F E : Type 0} (w : World S I O F E) (more : MayDo S I O) (also : Allows w.may more) (e : FoldersDo S O F) (can : Implies w.folders e) where
  names_output : (m : Manner) (name path : List ℕ) (fate : Fate) (from : E) (before : S) (became : Fate) (to : E) (after : S) → NamesOutput w.may w.folders w.errors m name path fate from before became to after
      → NamesOutput more e w.errors m name path fate from before became to after
  names_output m name path fate from before became to after n = record {
    naming = n.naming;
    named = n.named;
    gives = gives_name w.may more also w.folders e can m.part path _ before n.naming n.named n.gives;
    clears = clears_part w.may more also n.naming m.part n.named after n.clears;
    told = n.told;
    becomes = n.becomes;
  }

  fills_and_names : (job : Job) (m : Manner) (name path : List ℕ) (input : I) (output : O) (from : E) (before : S) (fate : Fate) (to : E) (after : S) → FillsAndNames w job m name path input output from before fate to after
      → FillsAndNames (with_calls w more e) job m name path input output from before fate to after
  fills_and_names job m name path input output from before fate to after (parts.not_done ending filled f done told removes is) =
      parts.not_done ending filled (fills w.may more also w.reader w.output job input output before ending filled f) done told (removes_part w.may more also m.part filled after removes) is
  fills_and_names job m name path input output from before fate to after (parts.has_done ending filled told f done reports names) =
      parts.has_done ending filled told (fills w.may more also w.reader w.output job input output before ending filled f) done reports (names_output m name path _ told filled fate to after names)

  ready : (job : Job) (m : Manner) (n : Named) (mode : ℕ) (path : List ℕ) (from : E) (before : S) (r : Result Fate RunStop) (to : E) (after : S) → DoesReady w job m n mode path from before r to after
      → DoesReady (with_calls w more e) job m n mode path from before r to after
  ready job m n mode path from before r to after (files.not_opened opens told is) = files.not_opened (opens_file w.may more also n.path before None after opens) told is
  ready job m n mode path from before r to after (files.no_part input cause opened tried opens makes back tells) =
      files.no_part input cause opened tried (opens_file w.may more also n.path before (Some input) opened opens) (makes_part w.folders e can m.part mode opened (Err cause) tried makes) (also.releases tried input after back) tells
  ready job m n mode path from before r to after (files.filled input output fate opened made opens makes fill is) =
      files.filled input output fate opened made (opens_file w.may more also n.path before (Some input) opened opens) (makes_part w.folders e can m.part mode opened (Ok output) made makes)
      (fills_and_names job m n.name path input output from made fate to after fill) is

  free : (m : Manner) (n : Named) (mode : ℕ) (path : List ℕ) (from : E) (before : S) (r : Result Fate RunStop) (to : E) (after : S) → DoesFree w m n mode path from before r to after
      → DoesFree (with_calls w more e) m n mode path from before r to after
  free m n mode path from before r to after (files.no_days cause f told is) = files.no_days cause (finds_job w.may more also w.reader m.task n.path before (Err cause) after f) told is
  free m n mode path from before r to after (files.has_job job mid f does) = files.has_job job mid (finds_job w.may more also w.reader m.task n.path before (Ok job) mid f) (ready job m n mode path from mid r to after does)

  placed : (m : Manner) (n : Named) (mode : ℕ) (path : List ℕ) (from : E) (before : S) (r : Result Fate RunStop) (to : E) (after : S) → DoesPlaced w m n mode path from before r to after
      → DoesPlaced (with_calls w more e) m n mode path from before r to after
  placed m n mode path from before r to after (files.not_free place f nf told is) = files.not_free place (finds w.folders e can.sees path _ before place after f) nf told is
  placed m n mode path from before r to after (files.free place looked f nf does) = files.free place looked (finds w.folders e can.sees path _ before place looked f) nf (free m n mode path from looked r to after does)

  named : (m : Manner) (n : Named) (mode : ℕ) (from : E) (before : S) (r : Result Fate RunStop) (to : E) (after : S) → DoesNamed w m n mode from before r to after → DoesNamed (with_calls w more e) m n mode from before r to after
  named m n mode from before r to after (files.too_long none told is same) = files.too_long none told is same
  named m n mode from before r to after (files.placed path is does) = files.placed path is (placed m n mode path from before r to after does)

  places_part : (m : Manner) (name path : List ℕ) (fate : Fate) (from : E) (before : S) (became : Fate) (to : E) (after : S) → PlacesPart w m name path fate from before became to after
      → PlacesPart (with_calls w more e) m name path fate from before became to after
  places_part m name path fate from before became to after p = record {
    naming = p.naming;
    same = p.same;
    named = p.named;
    compared = p.compared;
    gives = gives_free w.may more also w.folders e can m.part path _ before p.naming p.named p.gives;
    copy = finds_copy w.may more also w.reader p.naming m.part path p.named p.same p.compared p.copy;
    clears = clears_part w.may more also p.naming m.part p.compared after p.clears;
    told = p.told;
    becomes = p.becomes;
  }

  names_by : (m : Manner) (name : List ℕ) (i : Instance) (fate : Fate) (from : E) (before : S) (done : Done) (to : E) (after : S) → NamesBy w m name i fate from before done to after
      → NamesBy (with_calls w more e) m name i fate from before done to after
  names_by m name i fate from before done to after (instance.too_long none removes told is) = instance.too_long none (removes_part w.may more also m.part before after removes) told is
  names_by m name i fate from before done to after (instance.placed path became relative is places rel d) =
      instance.placed path became relative is (places_part m name path fate from before became to after places) rel d

  names_part : (m : Manner) (name : List ℕ) (fate : Fate) (from : E) (before : S) (done : Done) (to : E) (after : S) → NamesPart w m name fate from before done to after → NamesPart (with_calls w more e) m name fate from before done to after
  names_part m name fate from before done to after (instance.no_instance cause read f removes told is) =
      instance.no_instance cause read (finds_instance w.may more also w.reader m.part before (Err cause) read f) (removes_part w.may more also m.part read after removes) told is
  names_part m name fate from before done to after (instance.has_instance i read f n) =
      instance.has_instance i read (finds_instance w.may more also w.reader m.part before (Ok i) read f) (names_by m name i fate from read done to after n)

  fills_by_instance : (job : Job) (m : Manner) (name : List ℕ) (input : I) (output : O) (from : E) (before : S) (done : Done) (to : E) (after : S) → FillsByInstance w job m name input output from before done to after
      → FillsByInstance (with_calls w more e) job m name input output from before done to after
  fills_by_instance job m name input output from before done to after (instance.not_done ending filled f not told removes is) =
      instance.not_done ending filled (fills w.may more also w.reader w.output job input output before ending filled f) not told (removes_part w.may more also m.part filled after removes) is
  fills_by_instance job m name input output from before done to after (instance.has_done ending filled told f is reports names) =
      instance.has_done ending filled told (fills w.may more also w.reader w.output job input output before ending filled f) is reports (names_part m name _ told filled done to after names)

  by_instance : (job : Job) (m : Manner) (n : Named) (mode : ℕ) (from : E) (before : S) (r : Result Done RunStop) (to : E) (after : S) → DoesByInstance w job m n mode from before r to after
      → DoesByInstance (with_calls w more e) job m n mode from before r to after
  by_instance job m n mode from before r to after (instance.not_opened opens told is) = instance.not_opened (opens_file w.may more also n.path before None after opens) told is
  by_instance job m n mode from before r to after (instance.no_part input cause opened tried opens makes back ends) =
      instance.no_part input cause opened tried (opens_file w.may more also n.path before (Some input) opened opens) (makes_part w.folders e can m.part mode opened (Err cause) tried makes) (also.releases tried input after back) ends
  by_instance job m n mode from before r to after (instance.filled input output done opened made opens makes fill is) =
      instance.filled input output done opened made (opens_file w.may more also n.path before (Some input) opened opens) (makes_part w.folders e can m.part mode opened (Ok output) made makes)
      (fills_by_instance job m n.name input output from made done to after fill) is

  unnamed : (m : Manner) (n : Named) (mode : ℕ) (from : E) (before : S) (r : Result Done RunStop) (to : E) (after : S) → DoesUnnamed w m n mode from before r to after → DoesUnnamed (with_calls w more e) m n mode from before r to after
  unnamed m n mode from before r to after (instance.no_days cause f told is) = instance.no_days cause (finds_job w.may more also w.reader m.task n.path before (Err cause) after f) told is
  unnamed m n mode from before r to after (instance.has_job job mid f does) =
      instance.has_job job mid (finds_job w.may more also w.reader m.task n.path before (Ok job) mid f) (by_instance job m n mode from mid r to after does)

  file : (m : Manner) (n : Named) (mode : ℕ) (from : E) (before : S) (r : Result Done RunStop) (to : E) (after : S) → DoesFile w m n mode from before r to after → DoesFile (with_calls w more e) m n mode from before r to after
  file m n mode from before r to after (files.an_index index told is same) = files.an_index index told is same
  file m n mode from before r to after (files.keeps_name became index kept does is) = files.keeps_name became index kept (named m n mode from before became to after does) is
  file m n mode from before r to after (files.by_instance index not does) = files.by_instance index not (unnamed m n mode from before r to after does)

  pub does_name : (m : Manner) (n : Named) (what : What) (from : E) (before : S) (r : Result Done RunStop) (to : E) (after : S) → DoesName w m n what from before r to after → DoesName (with_calls w more e) m n what from before r to after
  does_name m n what from before r to after (files.a_file mode is does) = files.a_file mode is (file m n mode from before r to after does)
  does_name m n what from before r to after (files.no_file other told is same) = files.no_file other told is same

  pub visits_name : {W : Type 0} (rows : Writer W) (shared : Shared) (from : Progress W) (told_before : E) (before : S) (n : Named) (what : What) (r : Result (Unit {0}) Stopped) (to : Progress W) (told : E) (after : S)
      → VisitsName w rows shared from told_before before n what r to told after → VisitsName (with_calls w more e) rows shared from told_before before n what r to told after
  visits_name rows shared from told_before before n what r to told after (work.of_another share is t same ok) = work.of_another share is t same ok
  visits_name rows shared from told_before before n what r to told after (work.was_done done mid share does ends) =
      work.was_done done mid share (does_name (manner_of shared.manner) n what told_before before (Ok done) mid after does) ends
  visits_name rows shared from told_before before n what r to told after (work.ends_run p s share does is ok) =
      work.ends_run p s share (does_name (manner_of shared.manner) n what told_before before (Err p) told after does) is ok
