-- A run that names outputs by the instances in them leaves the copies that are there, and all as it was where all are.
use Rattle.std.proofs.Common.{◌≡◌, ◌∙◌, refl, sym, ap, subst, ℕ, ◌≤◌, List, length, [], ◌∷◌, ◌++◌, true, false, Option, Some, None, Result, Ok, Err}
use Rattle.std.specs.Prelude.{◌≢◌, if◌then◌else◌}
use Rattle.dcm_lemmas.proofs.Options.{none_or_some}
use Rattle.dcm_lemmas.proofs.Truth.{true_false}
use Rattle.dcm_base.specs.Reading.Reads.{INPUT_LIMIT}
use Rattle.std.specs.Str.{IsUtf8}
use Rattle.dcm_devices.specs.Writing.{Writer}
use Rattle.dcm_files.specs.declared.folders.Found.{Found}
use Rattle.dcm_files.specs.declared.folders.Links.TheVariants.{Followed}
use Rattle.dcm_instance.specs.Uids.{Uids, instance_name}
use Rattle.dcm_walk.specs.Names.{below}
use Rattle.dcm_walk.specs.Visits.{Named}
use Rattle.dcm_walk.specs.declared.visitor.Stopped.{Stopped}
use Rattle.dcm_walk.specs.declared.visitor.What.{What}
use Rattle.dcm_walk.specs.declared.visitor.What.TheVariants.{File}
use Rattle.dcm_cli.specs.Calls.{Reader}
use Rattle.dcm_trees.specs.declared.fate.Fate.{Fate}
use Rattle.dcm_trees.specs.declared.fate.Fate.TheVariants as fates
use Rattle.dcm_trees.specs.declared.file.Done.{Done}
use Rattle.dcm_trees.specs.declared.progress.Stop.{Stop as RunStop}
use Rattle.dcm_trees.specs.declared.progress.Shared.{Shared}
use Rattle.dcm_trees.specs.declared.progress.Stop.{Stop}
use Rattle.dcm_trees.specs.declared.progress.Work.{Work}
use Rattle.dcm_trees.specs.declared.run.TreeRun.{TreeRun}
use Rattle.dcm_trees.specs.Fate.{is_written, fate_of, word, has_output}
use Rattle.dcm_trees.specs.File as files
use Rattle.dcm_trees.specs.File.{DoesFile, DoesName, is_media_index}
use Rattle.dcm_trees.specs.Instance.{without_name}
use Rattle.dcm_trees.specs.Manner.{Manner, manner_of}
use Rattle.dcm_trees.specs.Run.{Shares}
use Rattle.dcm_trees.specs.Task.{Task, task_of}
use Rattle.dcm_trees.specs.Work as spec
use Rattle.dcm_trees.specs.Work.{Progress, VisitsName, progress, output_of, name_in, visits_of}
use Rattle.dcm_tree_laws.specs.Again.{sure, OfAll}
use Rattle.dcm_tree_laws.specs.Copies.{HasCopy, IsAsItWas, IsNamedBy, IsThereAs, IsDoneAgain, EndsUnnamed, IsUnnamedAgain, Stands, of_copy, unnamed, an_index, no_file, fate_again, again, SameRow, WasDoneAgain, StandsThere, AgainIsAsItWas, AgainIsAsItWasOfList, HasOther, of_other}
use Rattle.dcm_tree_laws.specs.Determined.{FileAt, FollowsLinks, FilesFit, ComesTo, as_whole, working, working_folders}
use Rattle.dcm_tree_laws.specs.FileSystem.{FileSystem, Tree, Host, place_of, at_path, may_do, folders_do, number_of}
use Rattle.dcm_tree_laws.specs.Laws.{IsOutput, over, part_path}
use Rattle.dcm_tree_laws.specs.Part.{LeavesPart}
use Rattle.dcm_tree_laws.specs.Rows.{Visit, noted}
use Rattle.dcm_tree_laws.specs.Single.{TellsAll}
use Rattle.dcm_tree_laws.proofs.Near.{IsNear}
use Rattle.dcm_tree_laws.proofs.CopyLeft.{leads_by, copy_again, none_other, no_link, other_again as other_met, IsMetAgain, IsMetAs}
use Rattle.dcm_tree_laws.proofs.CopyMade.{by_name}
use Rattle.dcm_tree_laws.proofs.Left.{sure_quiet}
use Rattle.dcm_tree_laws.proofs.Lists.{lines_do}
use Rattle.dcm_tree_laws.proofs.Looking.{same_ok}
use Rattle.dcm_tree_laws.proofs.Noted.{walk_noted, list_noted}
use Rattle.dcm_tree_laws.proofs.OutputsBy.{Leaves, leaves, Still, then_stays, part_of_output}
use Rattle.dcm_tree_laws.proofs.PartsBy.{visit_leaves}
use Rattle.dcm_tree_laws.proofs.Quiet.{Quiet, only_quiet, IsClosed, IsSame}
use Rattle.dcm_tree_laws.proofs.RowsBy.{HasRows, visit_of, visit_rows, no_rows, same_manifest}
use Rattle.dcm_tree_laws.proofs.Runs.{visit_name}
use Rattle.dcm_tree_laws.proofs.StillBy.{there_stays, before_all, last_of_all}
use Rattle.dcm_tree_laws.proofs.UnnamedLeft.{file_unnamed}
use Rattle.dcm_tree_laws.proofs.Walks.{VisitsDo, walks_do}
use Rattle.dcm_tree_laws.proofs.Written.{what_not}
use Rattle.dcm_tree_laws.proofs.Working.{working_also, working_can, whole_gives}
use Rattle.dcm_tree_laws.proofs.Works as works

-- ---- what only looks

pub working_quiet : {I O F : Type 0} (h : Host I O) → Quiet (working_folders h (sure (folders_do {F = F} h)))
working_quiet {I} {O} {F} h = record {
  finds = λ before path links r after call. (sure_quiet {F = F} h).finds before path links r after call;
  modes = λ before folder name r after call. (sure_quiet {F = F} h).modes before folder name r after call;
  opens = λ before path r after call. (sure_quiet {F = F} h).opens before path r after call;
  names = λ before folder r left after call. (sure_quiet {F = F} h).names before folder r left after call;
  closes = λ before folder after call. (sure_quiet {F = F} h).closes before folder after call;
}

-- any system may do it
pub over_visit : {I O F W E : Type 0} (h : Host I O) (r : Reader I) (w : Writer O) (e : Writer E) (m : Writer W) (shared : Shared) (from : Progress W) (told_before : E) (before : FileSystem) (n : Named) (what : What) (result : Result (Unit {0}) Stopped) (to : Progress W) (told : E) (after : FileSystem)
    → VisitsName (working {F = F} h r w e) m shared from told_before before n what result to told after → VisitsName (over {F = F} h (as_whole h r) w e) m shared from told_before before n what result to told after
over_visit {I} {O} {F} h r w e m shared from told_before before n what result to told after v =
    works.visits_name (working {F = F} h r w e) (may_do h) (working_also h r w) (folders_do {F = F} h) (working_can {F = F} h) m shared from told_before before n what result to told after v

-- ---- a copy stays

pub as_always : (t : Tree) → IsAsItWas t t
as_always t = record { names = λ place. refl; bytes = λ place f is. refl }

pub then_as : (t u v : Tree) → IsAsItWas t u → IsAsItWas u v → IsAsItWas t v
then_as t u v first second = record {
  names = λ place. second.names place ∙ first.names place;
  bytes = λ place f is. second.bytes place f (first.names place ∙ is) ∙ first.bytes place f is;
}

pub apart_by : (t : Tree) (place part : List ℕ) (f : Found) → t.at part ≡ None → t.at place ≡ Some f → place ≡ part → ⊥
apart_by t place part f none is same = none_or_some (t.at part) f none (ap t.at (sym same) ∙ is)

abbrev copy_stays : {I O : Type 0} (h : Host I O) (task : Task) (part output path : List ℕ) (uids : Uids) (start now : Tree) → at_path h start part ≡ None → Still h part start now → HasCopy h task output start path uids → HasCopy h task output now path uids
copy_stays h task part output path uids start now none still c = record {
  text = c.text;
  input = record {
    file = c.input.file;
    is = still.there (h.leads Followed path) c.input.file (apart_by start (h.leads Followed path) (place_of h part) c.input.file none c.input.is) c.input.is;
    kind = c.input.kind;
  };
  made = c.made;
  verdict = c.verdict;
  comes = subst (λ (b : List ℕ). ComesTo task b c.made c.verdict) (sym (still.bytes (h.leads Followed path) c.input.file (apart_by start (h.leads Followed path) (place_of h part) c.input.file none c.input.is) c.input.is)) c.comes;
  done = c.done;
  names = c.names;
  there = there_stays h part output (instance_name uids) start now none still c.there;
  same = still.bytes (place_of h (below output (instance_name uids))) c.there.file.found
      (apart_by start (place_of h (below output (instance_name uids))) (place_of h part) c.there.file.found none c.there.file.is) c.there.file.is ∙ c.same;
}

abbrev other_stays : {I O : Type 0} (h : Host I O) (task : Task) (part output path : List ℕ) (uids : Uids) (start now : Tree) → at_path h start part ≡ None → Still h part start now → HasOther h task output start path uids → HasOther h task output now path uids
other_stays h task part output path uids start now none still c = record {
  text = c.text;
  input = record {
    file = c.input.file;
    is = still.there (h.leads Followed path) c.input.file (apart_by start (h.leads Followed path) (place_of h part) c.input.file none c.input.is) c.input.is;
    kind = c.input.kind;
  };
  made = c.made;
  verdict = c.verdict;
  comes = subst (λ (b : List ℕ). ComesTo task b c.made c.verdict) (sym (still.bytes (h.leads Followed path) c.input.file (apart_by start (h.leads Followed path) (place_of h part) c.input.file none c.input.is) c.input.is)) c.comes;
  is_done = c.is_done;
  names = c.names;
  there = there_stays h part output (instance_name uids) start now none still c.there;
  other = λ fits. subst (λ (b : List ℕ). b ≢ c.made) (sym (still.bytes (place_of h (below output (instance_name uids))) c.there.file.found
      (apart_by start (place_of h (below output (instance_name uids))) (place_of h part) c.there.file.found none c.there.file.is) c.there.file.is)) (c.other fits);
}

-- ---- a name

-- what is known of it by its state
record Known {I O : Type 0} (h : Host I O) (w : Writer O) (k : Manner) (start s : Tree) : Type 0 where
  tells : TellsAll h w
  by : k.keeps_names ≡ false
  text : IsUtf8 k.part
  none : at_path h start k.part ≡ None
  follows : FollowsLinks h start
  fits : FilesFit start
  still : Still h k.part start s

done_again : {I O F E : Type 0} (h : Host I O) (r : Reader I) (w : Writer O) (e : Writer E) (k : Manner) (n : Named) (mode : ℕ) (uids : Uids) (start : Tree) (from : E) (before : FileSystem) (result : Result Done RunStop) (to : E) (after : FileSystem) → (x : Known h w k start before.now)
    → at_path h before.now k.part ≡ None → is_media_index n.relative ≡ false → (c : HasCopy h k.task k.output start n.path uids) → DoesName (working {F = F} h r w e) k n (File mode) from before result to after → after.unremoved ≡ false
    → IsDoneAgain e n uids k.task (before.now.bytes (number_of (copy_stays h k.task k.part k.output n.path uids start before.now x.none x.still c).input.file)) c.verdict from before result to after
done_again {I} {O} {F} h r w e k n mode uids start from before result to after x none no_index c does gone =
    copy_again {F = F} h r w e k n mode uids from before result to after x.tells x.by no_index none (copy_stays h k.task k.part k.output n.path uids start before.now x.none x.still c)
    (leads_by h k.part k.output start uids c.made x.follows x.fits x.text x.none c.there c.same) does gone

-- another file has not more bytes than an input may have, so that what is written is not the same
others_are : {I O : Type 0} (h : Host I O) (task : Task) (output path : List ℕ) (uids : Uids) (t : Tree) → FilesFit t → (c : HasOther h task output t path uids) → t.bytes (number_of c.there.file.found) ≢ c.made
others_are h task output path uids t fits c = λ equal. c.other (subst (λ (b : List ℕ). length b ≤ INPUT_LIMIT) equal (fits (place_of h (below output (instance_name uids))) c.there.file.found c.there.file.is)) equal

other_done : {I O F E : Type 0} (h : Host I O) (r : Reader I) (w : Writer O) (e : Writer E) (k : Manner) (n : Named) (mode : ℕ) (uids : Uids) (start : Tree) (from : E) (before : FileSystem) (result : Result Done RunStop) (to : E) (after : FileSystem) → (x : Known h w k start before.now)
    → at_path h before.now k.part ≡ None → is_media_index n.relative ≡ false → (c : HasOther h k.task k.output start n.path uids) → DoesName (working {F = F} h r w e) k n (File mode) from before result to after → after.unremoved ≡ false
    → IsMetAgain e false n uids k.task (before.now.bytes (number_of (other_stays h k.task k.part k.output n.path uids start before.now x.none x.still c).input.file)) c.verdict from before result to after
other_done {I} {O} {F} h r w e k n mode uids start from before result to after x none no_index c does gone =
    other_met {F = F} h r w e k n mode uids from before result to after x.tells x.by no_index x.text none (x.follows k.part (none_other h start k.part x.none))
    (other_stays h k.task k.part k.output n.path uids start before.now x.none x.still c)
    (x.follows (below k.output (instance_name uids)) (λ f at. no_link (at_path h start (below k.output (instance_name uids))) c.there.file.found f c.there.file.is c.there.file.kind_is at))
    (subst (λ (b : List ℕ). b ≢ c.made) (sym (x.still.bytes (place_of h (below k.output (instance_name uids))) c.there.file.found
    (apart_by start (place_of h (below k.output (instance_name uids))) (place_of h k.part) c.there.file.found x.none c.there.file.is) c.there.file.is)) (others_are h k.task k.output n.path uids start x.fits c))
    does gone

-- ---- its row

pub written_again : (fate : Fate) → is_written fate ≡ true → fate_again fate ≡ fates.There
written_again fates.Written e = refl
written_again fates.Unplaced e = refl
written_again fates.There e = absurd (cc)
written_again fates.Taken e = absurd (cc)
written_again fates.LeftOut e = absurd (cc)
written_again fates.MediaIndex e = absurd (cc)
written_again fates.Unread e = absurd (cc)
written_again fates.Unwritten e = absurd (cc)
written_again fates.Refused e = absurd (cc)
written_again fates.Pixels e = absurd (cc)
written_again fates.Unnamed e = absurd (cc)

other_again : (fate : Fate) → is_written fate ≡ false → fate_again fate ≡ fate
other_again fates.Written e = absurd (cc)
other_again fates.Unplaced e = absurd (cc)
other_again fates.There e = refl
other_again fates.Taken e = refl
other_again fates.LeftOut e = refl
other_again fates.MediaIndex e = refl
other_again fates.Unread e = refl
other_again fates.Unwritten e = refl
other_again fates.Refused e = refl
other_again fates.Pixels e = refl
other_again fates.Unnamed e = refl

-- of a file that is there
cell_there : (n : Named) (done : Done) (uids : Uids) → done.fate ≡ fates.There → IsNamedBy uids done → output_of n done ≡ Some (instance_name uids)
cell_there n done uids is named =
    ap (λ (f : Fate). if has_output f then Some (name_in n.relative done.instance) else None) is
    ∙ ap Some (by_name n.relative done.instance named.relative (instance_name uids) named.instance_is named.relative_is)

copy_row : (n : Named) (done first : Done) (uids : Uids) → IsThereAs uids done → IsNamedBy uids first → fate_again first.fate ≡ fates.There → SameRow n done (again first)
copy_row n done first uids there named its =
    record {
      output_is = cell_there n done uids there.fate_is there.named ∙ sym (cell_there n (again first) uids its (record { relative = named.relative; instance_is = named.instance_is; relative_is = named.relative_is }));
      word_is = ap word there.fate_is ∙ sym (ap word its);
    }

-- of another file that is there
cell_met : (n : Named) (done : Done) (uids : Uids) → done.fate ≡ fates.Taken → IsNamedBy uids done → output_of n done ≡ Some (instance_name uids)
cell_met n done uids is named =
    ap (λ (f : Fate). if has_output f then Some (name_in n.relative done.instance) else None) is
    ∙ ap Some (by_name n.relative done.instance named.relative (instance_name uids) named.instance_is named.relative_is)

other_row : (n : Named) (done first : Done) (uids : Uids) → IsMetAs false uids done → IsNamedBy uids first → first.fate ≡ fates.Taken → SameRow n done (again first)
other_row n done first uids met named its =
    let same : fate_again first.fate ≡ fates.Taken = ap fate_again its in
    record {
      output_is = cell_met n done uids met.fate_is met.named ∙ sym (cell_met n (again first) uids same (record { relative = named.relative; instance_is = named.instance_is; relative_is = named.relative_is }));
      word_is = ap word met.fate_is ∙ sym (ap word same);
    }

-- of a name without an output
nameless_row : (n : Named) (done first : Done) (fate : Fate) → done ≡ without_name fate → first ≡ without_name fate → is_written fate ≡ false → SameRow n done (again first)
nameless_row n done first fate is was not =
    let same : done ≡ again first = is ∙ ap without_name (sym (other_again fate not)) ∙ ap again (sym was) in
    record { output_is = ap (output_of n) same; word_is = ap (λ (d : Done). word d.fate) same }

-- what becomes of a name of which something stands
pub record StandsAgain (n : Named) (first : Done) (before : FileSystem) (result : Result Done RunStop) (after : FileSystem) : Type 0 where
  pub same : IsAsItWas before.now after.now
  pub row : (done : Done) → result ≡ Ok done → SameRow n done (again first)

pub same_now : (before after : FileSystem) → after ≡ before → IsAsItWas before.now after.now
same_now before after is = subst (λ (s : FileSystem). IsAsItWas before.now s.now) (sym is) (as_always before.now)

pub nameless_again : (n : Named) (first : Done) (fate : Fate) (before : FileSystem) (result : Result Done RunStop) (after : FileSystem) → IsAsItWas before.now after.now → result ≡ Ok (without_name fate) → first ≡ without_name fate → is_written fate ≡ false → StandsAgain n first before result after
nameless_again n first fate before result after same is was not = record { same = same; row = λ done ok. nameless_row n done first fate (same_ok result (without_name fate) done is ok) was not }

-- a file as it was at the start
abbrev pub file_still : {I O : Type 0} (h : Host I O) (part path : List ℕ) (start now : Tree) → at_path h start part ≡ None → Still h part start now → FileAt h Followed start path → FileAt h Followed now path
file_still h part path start now none still f = record {
  file = f.file;
  is = still.there (h.leads Followed path) f.file (apart_by start (h.leads Followed path) (place_of h part) f.file none f.is) f.is;
  kind = f.kind;
}

file_again : {I O F E : Type 0} (h : Host I O) (r : Reader I) (w : Writer O) (e : Writer E) (k : Manner) (n : Named) (what : What) (first : Done) (start : Tree) (mode : ℕ) (from : E) (before : FileSystem) (result : Result Done RunStop) (to : E) (after : FileSystem) → Known h w k start before.now
    → at_path h before.now k.part ≡ None → Stands h k.task k.output start (visit_of n what) first → what ≡ File mode → DoesFile (working {F = F} h r w e) k n mode from before result to after → after.unremoved ≡ false → StandsAgain n first before result after
file_again {I} {O} {F} h r w e k n what first start mode from before result to after x none (of_copy other is index written c) file does gone =
    let again = done_again {F = F} h r w e k n mode c.uids start from before result to after x none index c.copy (files.a_file mode refl does) gone in
    record { same = again.same; row = λ done ok. copy_row n done first c.uids (subst (IsThereAs c.uids) (same_ok result done again.done ok again.row) again.there) c.named written }
file_again {I} {O} {F} h r w e k n what first start mode from before result to after x none (of_other other is index taken c) file does gone =
    let again = other_done {F = F} h r w e k n mode c.uids start from before result to after x none index c.met (files.a_file mode refl does) gone in
    record { same = again.same; row = λ done ok. other_row n done first c.uids (subst (IsMetAs false c.uids) (same_ok result done again.done ok again.row) again.there) c.named taken }
file_again {I} {O} {F} h r w e k n what first start mode from before result to after x none (unnamed other is index f ends not nameless) file does gone =
    let now : FileAt h Followed before.now n.path = file_still h k.part n.path start before.now x.none x.still f.file in
    let u : IsUnnamedAgain first.fate before result after =
    file_unnamed F h r w e (whole_gives h r w x.tells) k x.text (x.follows k.part (none_other h start k.part x.none)) n mode first.fate from before result to after x.by index none f.text now
    (subst (λ (b : List ℕ). EndsUnnamed k.task b first.fate) (sym (x.still.bytes (h.leads Followed n.path) f.file.file (apart_by start (h.leads Followed n.path) (place_of h k.part) f.file.file x.none f.file.is) f.file.is)) ends) gone does in
    nameless_again n first first.fate before result after u.same u.row nameless not
file_again h r w e k n what first start mode from before result to after x none (an_index other is index d) file (files.an_index was told ok same) gone = nameless_again n first fates.MediaIndex before result after (same_now before after same) ok d refl
file_again h r w e k n what first start mode from before result to after x none (an_index other is index d) file (files.keeps_name became no_index kept does ok) gone = true_false (is_media_index n.relative) index no_index
file_again h r w e k n what first start mode from before result to after x none (an_index other is index d) file (files.by_instance no_index not does) gone = true_false (is_media_index n.relative) index no_index
file_again h r w e k n what first start mode from before result to after x none (no_file other d) file does gone = absurd (other mode file)

-- what is no file has no output
no_file_first : {I O : Type 0} (h : Host I O) (task : Task) (output : List ℕ) (t : Tree) (n : Named) (what : What) (first : Done) → ((mode : ℕ) → what ≢ File mode) → Stands h task output t (visit_of n what) first → first ≡ without_name (fate_of what)
no_file_first h task output t n what first other (of_copy mode is index written c) = absurd (other mode is)
no_file_first h task output t n what first other (of_other mode is index taken c) = absurd (other mode is)
no_file_first h task output t n what first other (unnamed mode is index f ends not nameless) = absurd (other mode is)
no_file_first h task output t n what first other (an_index mode is index d) = absurd (other mode is)
no_file_first h task output t n what first other (no_file others d) = d

pub no_file_again : (n : Named) (what : What) (first : Done) (before : FileSystem) (result : Result Done RunStop) (after : FileSystem) → ((mode : ℕ) → what ≢ File mode) → after ≡ before → result ≡ Ok (without_name (fate_of what)) → first ≡ without_name (fate_of what) → StandsAgain n first before result after
no_file_again n what first before result after other same ok was = nameless_again n first (fate_of what) before result after (same_now before after same) ok was (what_not what)

name_again : {I O F E : Type 0} (h : Host I O) (r : Reader I) (w : Writer O) (e : Writer E) (k : Manner) (n : Named) (what : What) (first : Done) (start : Tree) (from : E) (before : FileSystem) (result : Result Done RunStop) (to : E) (after : FileSystem) → Known h w k start before.now → at_path h before.now k.part ≡ None
    → Stands h k.task k.output start (visit_of n what) first → DoesName (working {F = F} h r w e) k n what from before result to after → after.unremoved ≡ false → StandsAgain n first before result after
name_again {I} {O} {F} h r w e k n what first start from before result to after x none stands (files.a_file mode is does) gone = file_again {F = F} h r w e k n what first start mode from before result to after x none stands is does gone
name_again h r w e k n what first start from before result to after x none stands (files.no_file other told ok same) gone = no_file_again n what first before result after other same ok (no_file_first h k.task k.output start n what first other stands)

visit_same : {I O F W E : Type 0} (h : Host I O) (r : Reader I) (w : Writer O) (e : Writer E) (m : Writer W) (shared : Shared) (start : Tree) (from : Progress W) (told_before : E) (before : FileSystem) (n : Named) (what : What) (result : Result (Unit {0}) Stopped) (to : Progress W) (told : E)
    (after : FileSystem) → Known h w (manner_of shared.manner) start before.now → at_path h before.now (manner_of shared.manner).part ≡ None → StandsThere h (manner_of shared.manner).task (manner_of shared.manner).output start shared (visit_of n what)
    → VisitsName (working {F = F} h r w e) m shared from told_before before n what result to told after → after.unremoved ≡ false → IsAsItWas before.now after.now
visit_same h r w e m shared start from told_before before n what result to told after x none stands (spec.of_another not is t same ok) gone = same_now before after same
visit_same {I} {O} {F} h r w e m shared start from told_before before n what result to told after x none stands (spec.was_done done mid share does ends) gone =
    (name_again {F = F} h r w e (manner_of shared.manner) n what (stands share).0 start told_before before (Ok done) mid after x none (stands share).1 does gone).same
visit_same {I} {O} {F} h r w e m shared start from told_before before n what result to told after x none stands (spec.ends_run p s share does is ok) gone =
    (name_again {F = F} h r w e (manner_of shared.manner) n what (stands share).0 start told_before before (Err p) told after x none (stands share).1 does gone).same

-- ---- all names

-- how they are done
record Goes {I O : Type 0} (h : Host I O) (w : Writer O) (start : Tree) (k : Manner) : Type 0 where
  of_output : IsNear k.output k.part
  tells : TellsAll h w
  by : k.keeps_names ≡ false
  text : IsUtf8 k.part
  none : at_path h start k.part ≡ None
  follows : FollowsLinks h start
  fits : FilesFit start

-- what is so after each of them, by how they are done
record Kept {I O W : Type 0} (h : Host I O) (w : Writer O) (start : Tree) (m : Writer W) (headed : W) (visits : List Visit) (stop : Option Stop) (manifest : W) (s : FileSystem) (shared : Shared) : Type 0 where
  goes : Goes h w start (manner_of shared.manner)
  still : Still h (manner_of shared.manner).part start s.now
  nothing : s.unremoved ≡ false → at_path h s.now (manner_of shared.manner).part ≡ None
  rows : s.unremoved ≡ false → stop ≡ None → HasRows m (WasDoneAgain h (manner_of shared.manner).task (manner_of shared.manner).output start) shared headed visits manifest
  same : s.unremoved ≡ false → OfAll (StandsThere h (manner_of shared.manner).task (manner_of shared.manner).output start shared) visits → IsAsItWas start s.now

record Good {I O W E : Type 0} (h : Host I O) (w : Writer O) (start : Tree) (m : Writer W) (shared : Shared) (headed : W) (x : (Work W × E) × List Visit) (s : FileSystem) : Type 0 where
  shares : x.0.0.shared ≡ shared
  quiet : s.written ≡ None
  kept : Kept h w start m headed x.1 x.0.0.stop x.0.0.manifest s shared

abbrev StaysGood : {I O W E : Type 0} → Host I O → Writer O → Tree → Writer W → Shared → W → ((Work W × E) × List Visit) → FileSystem → ((Work W × E) × List Visit) → FileSystem → Type 0
StaysGood h w start m shared headed a s b t = Good h w start m shared headed a s → Good h w start m shared headed b t

closed : {I O W E : Type 0} (h : Host I O) (w : Writer O) (start : Tree) (m : Writer W) (shared : Shared) (headed : W) → IsClosed IsSame (StaysGood {E = E} h w start m shared headed)
closed h w start m shared headed = record {
  none = λ v s t e good. subst (Good h w start m shared headed v) (sym e) good;
  still = λ v s t e good. subst (Good h w start m shared headed v) (sym e) good;
  then = λ a b c s t u first second good. second (first good);
}

visits_good : {I O F W E : Type 0} (h : Host I O) (start : Tree) (r : Reader I) (w : Writer O) (e : Writer E) (m : Writer W) (shared : Shared) (headed : W) → VisitsDo (StaysGood h w start m shared headed) (noted (visits_of (working {F = F} h r w e) m))
visits_good {I} {O} {F} {W} {E} h start r w e m shared headed from before n what result to after v good =
    let here : Shared = from.0.0.shared in
    let k : Manner = manner_of here.manner in
    let kept : Kept h w start m headed from.1 from.0.0.stop from.0.0.manifest before here = subst (Kept h w start m headed from.1 from.0.0.stop from.0.0.manifest before) (sym good.shares) good.kept in
    let over_it : VisitsName (over {F = F} h (as_whole h r) w e) m here (progress from.0.0) from.0.1 before n what result (progress to.0.0) to.0.1 after = over_visit {F = F} h r w e m here _ from.0.1 before n what result _ to.0.1 after v.0.0 in
    let left : Leaves h k.part k.output before after = leaves h (IsOutput h (as_whole h r) w) k.part k.output before after good.quiet kept.goes.of_output (visit_name {F = F} h (as_whole h r) w e m here _ from.0.1 before n what result _ to.0.1 after over_it) in
    let part : LeavesPart h k.part before after = visit_leaves {F = F} h (as_whole h r) w e m here _ from.0.1 before n what result _ to.0.1 after good.quiet kept.goes.of_output over_it in
    let known : Known h w k start before.now = record {
      tells = kept.goes.tells;
      by = kept.goes.by;
      text = kept.goes.text;
      none = kept.goes.none;
      follows = kept.goes.follows;
      fits = kept.goes.fits;
      still = kept.still;
    } in
    let next : Kept h w start m headed to.1 to.0.0.stop to.0.0.manifest after here = record {
      goes = kept.goes;
      still = then_stays h k.part k.output start before.now after.now kept.still left.stays;
      nothing = λ gone. (part gone).1 ∙ kept.nothing (part gone).0;
      rows = λ gone stop. visit_rows (working {F = F} h r w e) m here headed (WasDoneAgain h k.task k.output start) (WasDoneAgain h k.task k.output start) (λ x done so. so) _ from.0.1 before n what result _ to.0.1 after
          (λ done mid does first stands. (name_again {F = F} h r w e k n what first start from.0.1 before (Ok done) mid after known (kept.nothing (part gone).0) stands does gone).row done refl) from.1 to.1 v.1 v.0.0 stop
          (λ none. kept.rows (part gone).0 none);
      same = λ gone all.
          let each : OfAll (StandsThere h k.task k.output start here) (from.1 ++ visit_of n what ∷ []) = subst (OfAll (StandsThere h k.task k.output start here)) v.1 all in
          then_as start before.now after.now (kept.same (part gone).0 (before_all (StandsThere h k.task k.output start here) from.1 (visit_of n what) each))
          (visit_same {F = F} h r w e m here start _ from.0.1 before n what result _ to.0.1 after known (kept.nothing (part gone).0)
          (last_of_all (StandsThere h k.task k.output start here) from.1 (visit_of n what) each) v.0.0 gone);
    } in
    record { shares = v.0.1 ∙ good.shares; quiet = left.none; kept = subst (Kept h w start m headed to.1 to.0.0.stop to.0.0.manifest after) good.shares next }

-- what a run shares
goes_on : {I O : Type 0} (h : Host I O) (w : Writer O) (start : Tree) (run : TreeRun) (part : List ℕ) (shared : Shared) → Shares run part shared → part ≡ part_path run → TellsAll h w → run.options.keeps_names ≡ false → IsUtf8 (part_path run) → at_path h start (part_path run) ≡ None
    → FollowsLinks h start → FilesFit start → Goes h w start (manner_of shared.manner)
goes_on h w start run part shared shares is tells by text none follows fits = subst (Goes h w start) (sym shares.manner) (record {
  of_output = part_of_output run part is;
  tells = tells;
  by = by;
  text = subst IsUtf8 (sym is) text;
  none = subst (λ (p : List ℕ). at_path h start p ≡ None) (sym is) none;
  follows = follows;
  fits = fits;
})

first : {I O W E : Type 0} (h : Host I O) (w : Writer O) (m : Writer W) (headed : W) (start : Work W) (from : E) (before : FileSystem) → before.written ≡ None → start.manifest ≡ headed → Goes h w before.now (manner_of start.shared.manner) → Good h w before.now m start.shared headed ((start, from), []) before
first h w m headed start from before quiet is goes = record {
  shares = refl;
  quiet = quiet;
  kept = record {
    goes = goes;
    still = record { there = λ place f apart x. x; bytes = λ place f apart x. refl };
    nothing = λ gone. goes.none;
    rows = λ gone stop. no_rows m (WasDoneAgain h (manner_of start.shared.manner).task (manner_of start.shared.manner).output before.now) start.shared headed start.manifest is;
    same = λ gone all. as_always before.now;
  };
}

pub again_as_it_was : {I O F W E : Type 0} (r : Reader I) (w : Writer O) (m : Writer W) (e : Writer E) → AgainIsAsItWas F r w m e
again_as_it_was {I} {O} {F} {W} {E} r w m e h run path begun opened headed from before status left to after tells by quiet part text none follows fits v stop gone =
    let shared : Shared = v.start.shared in
    let d = working_folders h (sure (folders_do {F = F} h)) in
    let walk = walk_noted d (visits_of (working {F = F} h r w e) m) path begun.number opened (v.start, from) before v.walked (v.last, v.told) after v.walks [] in
    let good : Good h w before.now m shared headed ((v.last, v.told), walk.0) after =
    walks_do d (only_quiet d (working_quiet h)) (StaysGood h w before.now m shared headed) (closed h w before.now m shared headed) (noted (visits_of (working {F = F} h r w e) m))
    (visits_good {F = F} h before.now r w e m shared headed) path begun.number opened ((v.start, from), []) before v.walked ((v.last, v.told), walk.0) after walk.1
    (first h w m headed v.start from before quiet (ap (λ p. p.manifest) v.begins.nothing) (goes_on h w before.now run begun.part.items shared v.begins.shares part tells by text none follows fits)) in
    let rows : HasRows m (WasDoneAgain h (task_of run.task) run.output.now before.now) shared headed walk.0 v.last.manifest =
    subst (λ (k : Manner). HasRows m (WasDoneAgain h k.task k.output before.now) shared headed walk.0 v.last.manifest) v.begins.shares.manner (good.kept.rows gone stop) in
    record {
      visits = walk.0;
      text = rows.text;
      walks = walk.1;
      rows = rows.rows;
      manifest = same_manifest m left v.last.manifest headed rows.text v.left_is rows.manifest_is;
      same = subst (λ (k : Manner). OfAll (StandsThere h k.task k.output before.now shared) walk.0 → IsAsItWas before.now after.now) v.begins.shares.manner (good.kept.same gone);
    }

pub again_by_list : {I O F W E : Type 0} (r : Reader I) (w : Writer O) (m : Writer W) (e : Writer E) → AgainIsAsItWasOfList F r w m e
again_by_list {I} {O} {F} {W} {E} r w m e h run list begun input headed from before status left to after read tells by quiet part text none follows fits v stop gone =
    let shared : Shared = v.start.shared in
    let d = working_folders h (sure (folders_do {F = F} h)) in
    let walk = list_noted d (visits_of (working {F = F} h r w e) m) (as_whole h r).gets begun.number (v.start, from) before input v.walked (v.last, v.told) after read v.walks [] in
    let good : Good h w before.now m shared headed ((v.last, v.told), walk.0) after =
    lines_do d (only_quiet d (working_quiet h)) (StaysGood h w before.now m shared headed) (closed h w before.now m shared headed) (noted (visits_of (working {F = F} h r w e) m))
    (visits_good {F = F} h before.now r w e m shared headed) (as_whole h r).gets begun.number ((v.start, from), []) before input v.walked ((v.last, v.told), walk.0) after read walk.1
    (first h w m headed v.start from before quiet (ap (λ p. p.manifest) v.begins.nothing) (goes_on h w before.now run begun.part.items shared v.begins.shares part tells by text none follows fits)) in
    let rows : HasRows m (WasDoneAgain h (task_of run.task) run.output.now before.now) shared headed walk.0 v.last.manifest =
    subst (λ (k : Manner). HasRows m (WasDoneAgain h k.task k.output before.now) shared headed walk.0 v.last.manifest) v.begins.shares.manner (good.kept.rows gone stop) in
    record {
      visits = walk.0;
      text = rows.text;
      walks = walk.1;
      rows = rows.rows;
      manifest = same_manifest m left v.last.manifest headed rows.text v.left_is rows.manifest_is;
      same = subst (λ (k : Manner). OfAll (StandsThere h k.task k.output before.now shared) walk.0 → IsAsItWas before.now after.now) v.begins.shares.manner (good.kept.same gone);
    }
