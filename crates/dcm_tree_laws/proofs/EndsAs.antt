-- What becomes of a file whose output is named by the instance in it is told by its bytes, and by what is there.
use Rattle.std.proofs.Common.{◌≡◌, ◌∙◌, refl, sym, ap, subst, ℕ, ◌+◌, ◌≤◌, List, length, Bool, true, false, None, Result, Ok, Err}
use Rattle.std.specs.Prelude.{◌≢◌, nat_le}
use Rattle.std.specs.Str.{IsUtf8}
use Rattle.dcm_lemmas.proofs.Truth.{is_false, true_false}
use Rattle.dcm_base.specs.Reading.Reads.{INPUT_LIMIT}
use Rattle.dcm_devices.specs.Writing.{Writer}
use Rattle.dcm_files.specs.declared.folders.Links.TheVariants.{Followed}
use Rattle.dcm_instance.specs.declared.names.Instance.{Instance}
use Rattle.dcm_instance.specs.ReadInstance.{FileNames}
use Rattle.dcm_instance.specs.Uids.{Uids, instance_name, uids_of}
use Rattle.dcm_walk.specs.Names.{below, PATH_LIMIT}
use Rattle.dcm_walk.specs.Visits.{Named}
use Rattle.dcm_walk.specs.declared.visitor.What.TheVariants.{File}
use Rattle.dcm_words.specs.Words.{Job}
use Rattle.dcm_cli.specs.Calls.{Reader}
use Rattle.dcm_cli.specs.declared.ending.Verdict.{Verdict}
use Rattle.dcm_trees.specs.declared.fate.Fate.{Fate}
use Rattle.dcm_trees.specs.declared.fate.Fate.TheVariants as fates
use Rattle.dcm_trees.specs.declared.file.Done.{Done}
use Rattle.dcm_trees.specs.declared.part.Naming.{Naming}
use Rattle.dcm_trees.specs.declared.part.Naming.TheVariants.{NotFree}
use Rattle.dcm_trees.specs.declared.progress.Stop.{Stop as RunStop}
use Rattle.dcm_trees.specs.declared.place.Place.TheVariants as places
use Rattle.dcm_trees.specs.declared.task.NoDays.TheVariants as days
use Rattle.dcm_trees.specs.Fate.{is_written}
use Rattle.dcm_trees.specs.File as files
use Rattle.dcm_trees.specs.File.{DoesFile, DoesName, is_media_index}
use Rattle.dcm_trees.specs.Instance as instance
use Rattle.dcm_trees.specs.Instance.{GivesFreeName, FindsCopy, ComparesFiles, PlacesPart, NamesBy, NamesPart, FillsByInstance, DoesByInstance, DoesUnnamed, is_there, name_of_instance, without_name, no_instance_fate}
use Rattle.dcm_trees.specs.Lines.{ending_fate, verdict_fate, no_days_fate}
use Rattle.dcm_trees.specs.Manner.{Manner}
use Rattle.dcm_trees.specs.Part.{MakesPart, naming_fate}
use Rattle.dcm_trees.specs.Place.{path_in}
use Rattle.dcm_trees.specs.Task.{Task}
use Rattle.dcm_tree_laws.specs.Again.{IsThere, sure}
use Rattle.dcm_tree_laws.specs.Copies.{IsNamedBy, EndsUnnamed, no_days, not_done, no_instance}
use Rattle.dcm_tree_laws.specs.Determined.{FileAt, ComesTo, as_whole, working, working_may, working_folders}
use Rattle.dcm_tree_laws.specs.FileSystem.{FileSystem, Tree, Host, number_of, place_of, at_path, may_do, folders_do, ClosesOutput}
use Rattle.dcm_tree_laws.specs.Single.{IsJobOf}
use Rattle.dcm_tree_laws.proofs.Near.{IsNear}
use Rattle.dcm_tree_laws.specs.Together.{IsFree, NamesInstance}
use Rattle.dcm_tree_laws.specs.ToldAs.{HasFileAt}
use Rattle.dcm_tree_laws.proofs.CopyLeft.{WholeAt, whole_at, still_whole, followed}
use Rattle.dcm_tree_laws.proofs.CopyMade.{NewPart, new_part}
use Rattle.dcm_tree_laws.proofs.Ends.{comes_once}
use Rattle.dcm_tree_laws.proofs.Fates.{Works, Frees, IsHere, as_any, then_free}
use Rattle.dcm_tree_laws.proofs.FatesAs.{links, no_part_as, names_once}
use Rattle.dcm_tree_laws.proofs.Files.{path_is}
use Rattle.dcm_tree_laws.proofs.Filling.{part_is_made, is_filled_as}
use Rattle.dcm_tree_laws.proofs.Held.{GivesAll}
use Rattle.dcm_tree_laws.proofs.Jobs as jobs
use Rattle.dcm_tree_laws.proofs.Left.{sure_quiet, finds_there, no_free, too_long}
use Rattle.dcm_tree_laws.proofs.Looking as looking
use Rattle.dcm_tree_laws.proofs.StillBy.{there_stays}
use Rattle.dcm_tree_laws.proofs.Steps.{no_step}
use Rattle.dcm_tree_laws.proofs.Sure as sures
use Rattle.dcm_tree_laws.proofs.Touched.{made_part, filled}
use Rattle.dcm_tree_laws.proofs.UnnamedLeft.{no_job_fate, not_done_fate, nameless_fate, no_name}
use Rattle.dcm_tree_laws.proofs.UnnamedMade.{no_job_ends}
use Rattle.dcm_tree_laws.proofs.WholePart.{IsReady}
use Rattle.dcm_tree_laws.proofs.Working.{working_also, working_sure, working_can, not_unopened, IsOpened, is_opened, JobIs, job_found, HasDone, job_done, instance_found, compared_same, compared_bytes}
use Rattle.dcm_tree_laws.proofs.Works as works
use Rattle.dcm_tree_laws.proofs.Written.{is_ready, more}

-- ---- what becomes of it

-- its output is named by this instance, where a run comes to this: by what was there before
pub record PlacedAs {I O : Type 0} (h : Host I O) (k : Manner) (out : List ℕ) (uids : Uids) (verdict : Verdict) (before : Tree) (done : Done) : Type 0 where
  pub named : IsNamedBy uids done
  pub free : IsFree h k.output (instance_name uids) before → Frees h k (instance_name uids) → done.fate ≡ verdict_fate verdict
  pub there : HasFileAt h k.output (instance_name uids) before out → length out ≤ INPUT_LIMIT → done.fate ≡ fates.There
  pub other : (its : List ℕ) → HasFileAt h k.output (instance_name uids) before its → its ≢ out → done.fate ≡ fates.Taken

-- it ends without a name; or its name is too long; or it is placed
pub data EndsTold {I O : Type 0} (h : Host I O) (k : Manner) (bytes : List ℕ) (before : Tree) (done : Done) : Type 0 where
  ends_unnamed : (fate : Fate) → EndsUnnamed k.task bytes fate → done ≡ without_name fate → EndsTold h k bytes before done
  no_room : (out : List ℕ) (uids : Uids) → NamesInstance k.task bytes out uids → path_in k.output (instance_name uids) ≡ None → EndsTold h k bytes before done
  placed_as : (out : List ℕ) (uids : Uids) (its : NamesInstance k.task bytes out uids) → PlacedAs h k out uids its.verdict before done → EndsTold h k bytes before done

-- since a state before
earlier : {I O : Type 0} (h : Host I O) (k : Manner) (bytes : List ℕ) (t u : FileSystem) (done : Done) → u ≡ t → EndsTold h k bytes u.now done → EndsTold h k bytes t.now done
earlier h k bytes t u done same ends = subst (λ (s : FileSystem). EndsTold h k bytes s.now done) same ends

-- ---- each is one

unnamed_once : (task : Task) (bytes : List ℕ) (a b : Fate) → EndsUnnamed task bytes a → EndsUnnamed task bytes b → a ≡ b
unnamed_once task bytes a b (no_days stop none is) other = is ∙ no_job_fate task bytes b (days.Refused stop) other none
unnamed_once task bytes a b (not_done output verdict comes not is) other = is ∙ not_done_fate task bytes output verdict b other comes not
unnamed_once task bytes a b (no_instance output verdict cause comes done names is) other = is ∙ nameless_fate task bytes output verdict b cause other comes done names

module _ {I O : Type 0} (h : Host I O) (k : Manner) (bytes : List ℕ) (before : Tree) (done : Done) where
  -- a file that ends without a name has that fate
  pub is_unnamed : (fate : Fate) → EndsUnnamed k.task bytes fate → EndsTold h k bytes before done → done ≡ without_name fate
  is_unnamed fate ends (ends_unnamed other it is) = is ∙ ap without_name (unnamed_once k.task bytes other fate it ends)
  is_unnamed fate ends (no_room out uids its none) = no_name k.task bytes out its.verdict fate uids ends its.comes its.written its.names
  is_unnamed fate ends (placed_as out uids its p) = no_name k.task bytes out its.verdict fate uids ends its.comes its.written its.names

  -- one that names an instance, whose path is short enough, is placed
  pub is_placed : (out : List ℕ) (uids : Uids) (its : NamesInstance k.task bytes out uids) → nat_le (length (below k.output (instance_name uids))) PATH_LIMIT ≡ true → EndsTold h k bytes before done → PlacedAs h k out uids its.verdict before done
  is_placed out uids its fits (ends_unnamed fate it is) = no_name k.task bytes out its.verdict fate uids it its.comes its.written its.names
  is_placed out uids its fits (no_room other who it none) =
      absurd (too_long k.output (instance_name who) (subst (λ (u : Uids). nat_le (length (below k.output (instance_name u))) PATH_LIMIT ≡ true) (names_once k.task bytes out other uids who its it).1 fits) none)
  is_placed out uids its fits (placed_as other who it p) =
      let same : (other ≡ out) × (who ≡ uids) = names_once k.task bytes other out who uids it its in
      subst (λ (v : Verdict). PlacedAs h k out uids v before done) (comes_once k.task bytes other out it.verdict its.verdict it.comes its.comes).1
      (subst (λ (u : Uids). PlacedAs h k out u it.verdict before done) same.1 (subst (λ (o : List ℕ). PlacedAs h k o who it.verdict before done) same.0 p))

-- ---- the part gets its name, or not

place_there : (naming : Naming) (fate : Fate) (same : Bool) → naming ≡ NotFree places.There → same ≡ true → naming_fate naming fate same ≡ fates.There
place_there naming fate same is alike = ap (λ (x : Naming). naming_fate x fate same) is ∙ ap (λ (b : Bool). naming_fate (NotFree places.There) fate b) alike

place_other : (naming : Naming) (fate : Fate) (same : Bool) → naming ≡ NotFree places.There → same ≡ false → naming_fate naming fate same ≡ fates.Taken
place_other naming fate same is alike = ap (λ (x : Naming). naming_fate x fate same) is ∙ ap (λ (b : Bool). naming_fate (NotFree places.There) fate b) alike

module _ {I O E : Type 0} (F : Type 0) (h : Host I O) (r : Reader I) (w : Writer O) (e : Writer E) (all : GivesAll h (as_whole h r) w) (k : Manner) (part_text : IsUtf8 k.part) (of_output : IsNear k.output k.part) (leads : h.leads Followed k.part ≡ place_of h k.part) where
  -- the part is whole, and a file is at the name
  record AtOutput (relative held its : List ℕ) (s : FileSystem) : Type 0 where
    part : FileAt h Followed s.now k.part
    part_is : s.now.bytes (number_of part.file) ≡ held
    there : IsThere h k.output relative s.now
    path_leads : h.leads Followed (below k.output relative) ≡ place_of h (below k.output relative)
    its_are : s.now.bytes (number_of there.file.found) ≡ its

  met : (relative held its : List ℕ) (s : FileSystem) (naming : Naming) (named : FileSystem) → AtOutput relative held its s → GivesFreeName (working_may h r w (may_do h)) (working_folders h (sure (folders_do {F = F} h))) k.modes k.part (below k.output relative) (length k.output + 1) s naming named
      → (naming ≡ NotFree places.There) × (named ≡ s)
  met relative held its s naming named x (instance.not_free p f nf is) =
      let path : List ℕ = below k.output relative in
      let seen = sures.finds (working_folders h (sure (folders_do {F = F} h))) (sure (folders_do {F = F} h)) (working_sure {F = F} h).sees path (length k.output + 1) s p named f in
      (is ∙ ap NotFree (finds_there {F = F} h k.output relative path s p named refl x.there seen), looking.finds (sure (folders_do {F = F} h)) (sure_quiet h) path (length k.output + 1) s p named seen)
  met relative held its s naming named x (instance.free p looked f nf g) =
      let path : List ℕ = below k.output relative in
      no_free p (finds_there {F = F} h k.output relative path s p looked refl x.there (sures.finds (working_folders h (sure (folders_do {F = F} h))) (sure (folders_do {F = F} h)) (working_sure {F = F} h).sees path (length k.output + 1) s p looked f)) nf

  -- it is compared with that
  abbrev its_file : (relative held its : List ℕ) (s : FileSystem) → AtOutput relative held its s → FileAt h Followed s.now (below k.output relative)
  its_file relative held its s x = followed h s.now (below k.output relative) x.there.file.found x.path_leads x.there.file.is x.there.file.kind_is

  is_same : (relative held its : List ℕ) (s : FileSystem) (naming : Naming) (same : Bool) (after : FileSystem) → AtOutput relative held its s → its ≡ held → length held ≤ INPUT_LIMIT → naming ≡ NotFree places.There
      → FindsCopy (working_may h r w (may_do h)) (as_whole h r) naming k.part (below k.output relative) s same after → same ≡ true
  is_same relative held its s naming same after x alike fits is (instance.not_there none no_copy stays) = true_false (is_there naming) (ap is_there is) none
  is_same relative held its s naming same after x alike fits is (instance.compared there c) =
      compared_same h r w all k.part (below k.output relative) s same after held part_text x.there.file.text x.part (its_file relative held its s x) x.part_is (x.its_are ∙ alike) fits c

  is_other : (relative held its : List ℕ) (s : FileSystem) (naming : Naming) (same : Bool) (after : FileSystem) → AtOutput relative held its s → its ≢ held → FindsCopy (working_may h r w (may_do h)) (as_whole h r) naming k.part (below k.output relative) s same after → same ≡ false
  is_other relative held its s naming same after x differ (instance.not_there none no_copy stays) = no_copy
  is_other relative held its s naming same after x differ (instance.compared there c) =
      is_false same (λ is. differ (sym x.its_are ∙ sym (compared_bytes h r w all k.part (below k.output relative) s after part_text x.there.file.text x.part (its_file relative held its s x)
      (subst (λ (b : Bool). ComparesFiles (working_may h r w (may_do h)) (as_whole h r) k.part (below k.output relative) s b after) is c)) ∙ x.part_is))

  module _ (name relative held : List ℕ) (fate : Fate) (from : E) (s : FileSystem) (became : Fate) (to : E) (after : FileSystem) (p : PlacesPart (working {F = F} h r w e) k name (below k.output relative) fate from s became to after) where
    copy_at : (its : List ℕ) (x : AtOutput relative held its s) → FindsCopy (working_may h r w (may_do h)) (as_whole h r) p.naming k.part (below k.output relative) s p.same p.compared
    copy_at its x = subst (λ (t : FileSystem). FindsCopy (working_may h r w (may_do h)) (as_whole h r) p.naming k.part (below k.output relative) t p.same p.compared) (met relative held its s p.naming p.named x p.gives).1 p.copy

    becomes_free : (start : FileSystem) → IsReady h (λ mode bytes. bytes ≡ held) k.part k.output held start s → IsFree h k.output relative s.now → Frees h k relative → became ≡ fate
    becomes_free start ready_now free clear = p.becomes ∙ ap (λ (x : Naming). naming_fate x fate p.same) (links {F = F} h r w k part_text (λ mode bytes. bytes ≡ held) (below k.output relative) relative held refl clear start s p.naming p.named ready_now free p.gives)

    becomes_there : AtOutput relative held held s → length held ≤ INPUT_LIMIT → became ≡ fates.There
    becomes_there x fits =
        let is : p.naming ≡ NotFree places.There = (met relative held held s p.naming p.named x p.gives).0 in
        p.becomes ∙ place_there p.naming fate p.same is (is_same relative held held s p.naming p.same p.compared x refl fits is (copy_at held x))

    becomes_other : (its : List ℕ) → AtOutput relative held its s → its ≢ held → became ≡ fates.Taken
    becomes_other its x differ = p.becomes ∙ place_other p.naming fate p.same (met relative held its s p.naming p.named x p.gives).0 (is_other relative held its s p.naming p.same p.compared x differ (copy_at its x))

  -- ---- a file

  -- the part is whole, since it was made
  record IsWhole (held : List ℕ) (opened s : FileSystem) : Type 0 where
    none : at_path h opened.now k.part ≡ None
    whole : WholeAt h k.part held opened.now s.now
    ready_now : IsReady h (λ mode bytes. bytes ≡ held) k.part k.output held opened s
    frees : (relative : List ℕ) → IsFree h k.output relative opened.now → Frees h k relative → IsFree h k.output relative s.now

  abbrev part_file : (held : List ℕ) (opened s : FileSystem) → IsWhole held opened s → FileAt h Followed s.now k.part
  part_file held opened s x = followed h s.now k.part x.whole.file leads x.whole.at x.whole.kind

  at_output : (held its relative : List ℕ) (opened s : FileSystem) → IsWhole held opened s → HasFileAt h k.output relative opened.now its → AtOutput relative held its s
  at_output held its relative opened s x f = record {
    part = part_file held opened s x;
    part_is = x.whole.bytes;
    there = there_stays h k.part k.output relative opened.now s.now x.none (still_whole h k.part held opened.now s.now x.whole) f.there;
    path_leads = f.leads;
    its_are = x.whole.others (place_of h (below k.output relative)) f.there.file.found f.there.file.is ∙ f.its_are;
  }

  name_told : (name bytes out : List ℕ) (i : Instance) (fate : Fate) (from : E) (opened s : FileSystem) (done : Done) (to : E) (after : FileSystem) → IsWhole out opened s → (its : NamesInstance k.task bytes out (uids_of i)) → fate ≡ verdict_fate its.verdict
      → NamesBy (working {F = F} h r w e) k name i fate from s done to after → EndsTold h k bytes opened.now done
  name_told name bytes out i fate from opened s done to after x its fate_is (instance.too_long none gone told d) = no_room out (uids_of i) its none
  name_told name bytes out i fate from opened s done to after x its fate_is (instance.placed path became relative at p rel d) =
      let here : PlacesPart (working {F = F} h r w e) k name (below k.output (name_of_instance i)) fate from s became to after =
      subst (λ (q : List ℕ). PlacesPart (working {F = F} h r w e) k name q fate from s became to after) (path_is k.output (name_of_instance i) path at) p in
      let is : done.fate ≡ became = ap (λ (y : Done). y.fate) d in
      placed_as out (uids_of i) its (record {
        named = record { relative = relative; instance_is = ap (λ (y : Done). y.instance) d; relative_is = rel };
        free = λ free clear. is ∙ becomes_free name (name_of_instance i) out fate from s became to after here opened x.ready_now (x.frees (name_of_instance i) free clear) clear ∙ fate_is;
        there = λ f fits. is ∙ becomes_there name (name_of_instance i) out fate from s became to after here (at_output out out (name_of_instance i) opened s x f) fits;
        other = λ other f differ. is ∙ becomes_other name (name_of_instance i) out fate from s became to after here other (at_output out other (name_of_instance i) opened s x f) differ;
      })

  part_told : (name bytes out : List ℕ) (fate : Fate) (verdict : Verdict) (from : E) (opened s : FileSystem) (done : Done) (to : E) (after : FileSystem) → IsWhole out opened s → ComesTo k.task bytes out verdict → is_written (verdict_fate verdict) ≡ true → fate ≡ verdict_fate verdict
      → NamesPart (working {F = F} h r w e) k name fate from s done to after → EndsTold h k bytes opened.now done
  part_told name bytes out fate verdict from opened s done to after x comes written fate_is (instance.no_instance cause read finds gone told d) =
      ends_unnamed (no_instance_fate cause) (no_instance out verdict cause comes written
      (subst (λ (b : List ℕ). FileNames b (Err cause)) x.whole.bytes (instance_found h r w all k.part s (Err cause) read part_text (part_file out opened s x) finds)) refl) d
  part_told name bytes out fate verdict from opened s done to after x comes written fate_is (instance.has_instance i read finds n) =
      let names : FileNames out (Ok (uids_of i)) = subst (λ (b : List ℕ). FileNames b (Ok (uids_of i))) x.whole.bytes (instance_found h r w all k.part s (Ok i) read part_text (part_file out opened s x) finds) in
      let same : read ≡ s = jobs.finds_instance h (as_whole h r) k.part s (Ok i) read (works.finds_instance (working_may h r w (may_do h)) (may_do h) (working_also h r w) (as_whole h r) k.part s (Ok i) read finds) in
      name_told name bytes out i fate from opened s done to after x (record { verdict = verdict; comes = comes; written = written; names = names }) fate_is (subst (λ (t : FileSystem). NamesBy (working {F = F} h r w e) k name i fate from t done to after) same n)

  filled_told : (job : Job) (name bytes : List ℕ) (mode : ℕ) (input : I) (output : O) → r.has_failed input ≡ false → h.holds input ≡ bytes → IsJobOf k.task bytes job → (from : E) (opened made : FileSystem) (done : Done) (to : E) (after : FileSystem) → opened.written ≡ None → NewPart h k.part mode opened output made
      → MakesPart (folders_do {F = F} h) k.part mode opened (Ok output) made → FillsByInstance (working {F = F} h r w e) job k name input output from made done to after → EndsTold h k bytes opened.now done
  filled_told job name bytes mode input output sound holds is_job from opened made done to after none part makes (instance.not_done ending was_filled f not told gone d) =
      let x : HasDone job bytes (h.took f.written) ending = subst (λ (b : List ℕ). HasDone job b (h.took f.written) ending) holds (job_done h r w all job input output made ending was_filled sound part.new f) in
      let its : ending_fate ending ≡ verdict_fate x.verdict = ap ending_fate x.is in
      ends_unnamed (verdict_fate x.verdict) (not_done (h.took f.written) x.verdict (record { job = job; is_job = is_job; answered = x.answered }) (sym (ap is_written its) ∙ not) refl) (d ∙ ap without_name its)
  filled_told job name bytes mode input output sound holds is_job from opened made done to after none part makes (instance.has_done ending was_filled told f was reports names) =
      let x : HasDone job bytes (h.took f.written) ending = subst (λ (b : List ℕ). HasDone job b (h.took f.written) ending) holds (job_done h r w all job input output made ending was_filled sound part.new f) in
      let its : ending_fate ending ≡ verdict_fate x.verdict = ap ending_fate x.is in
      let over = as_any h r w job input output made ending was_filled f in
      let closes : ClosesOutput made.written (h.took f.written) (h.took f.written) made was_filled = subst (λ (s : FileSystem). ClosesOutput made.written (h.took f.written) (h.took f.written) made s) (sym f.releases) f.closes.0 in
      part_told name bytes (h.took f.written) (ending_fate ending) x.verdict told opened was_filled done to after
      (record {
        none = part.makes.nothing;
        whole = whole_at h k.part mode (h.took f.written) opened made was_filled part.makes closes;
        ready_now = is_ready (h.took f.written) (more (more (record { none = none; of_output = of_output; steps = no_step refl refl }) (part_is_made {F = F} h (λ mode held. held ≡ h.took f.written) k.part k.output mode opened output made makes))
            (is_filled_as h (λ mode held. held ≡ h.took f.written) (as_whole h r) w k.part k.output (h.masked mode) job input output made ending was_filled over was refl));
        frees = λ relative free clear. then_free h k relative clear made.now was_filled.now (filled h (as_whole h r) w k relative job input output made ending was_filled ⊥ over)
            (then_free h k relative clear opened.now made.now (made_part {F = F} h k.part k.output relative ⊥ mode opened output made makes) free);
      }) (record { job = job; is_job = is_job; answered = x.answered }) (sym (ap is_written its) ∙ was) its names

  made_told : (job : Job) (n : Named) (bytes : List ℕ) (mode : ℕ) (from : E) (before : FileSystem) (result : Result Done RunStop) (to : E) (after : FileSystem) (done : Done) → before.written ≡ None → IsUtf8 n.path → IsHere h n.path bytes before.now → IsJobOf k.task bytes job
      → DoesByInstance (working {F = F} h r w e) job k n mode from before result to after → result ≡ Ok done → EndsTold h k bytes before.now done
  made_told job n bytes mode from before result to after done none text here is_job (instance.not_opened opens told x) ok = not_unopened h r w n.path before after text here.file opens
  made_told job n bytes mode from before result to after done none text here is_job (instance.no_part input cause opened tried opens makes back ends) ok =
      no_part_as {F = F} h r w e all k part_text of_output leads n.name mode opened cause tried from result to done makes ends ok
  made_told job n bytes mode from before result to after done none text here is_job (instance.filled input output became opened made opens makes f x) ok =
      let o : IsOpened h r (before.now.bytes (number_of here.file.file)) input before opened = is_opened h r w n.path before input opened text here.file opens in
      subst (EndsTold h k bytes before.now) (sym (looking.same_ok result became done x ok))
      (earlier h k bytes before opened became o.same
      (filled_told job n.name bytes mode input output o.sound (o.holds ∙ here.bytes_are) is_job from opened made became to after (subst (λ (s : FileSystem). s.written ≡ None) (sym o.same) none) (new_part {F = F} h k.part mode opened output made makes)
      (sures.makes_part (Works {F = F} h) (folders_do {F = F} h) (working_can h) k.part mode opened (Ok output) made makes) f))

  unnamed_told : (n : Named) (bytes : List ℕ) (mode : ℕ) (from : E) (before : FileSystem) (result : Result Done RunStop) (to : E) (after : FileSystem) (done : Done) → before.written ≡ None → IsUtf8 n.path → IsHere h n.path bytes before.now
      → DoesUnnamed (working {F = F} h r w e) k n mode from before result to after → result ≡ Ok done → EndsTold h k bytes before.now done
  unnamed_told n bytes mode from before result to after done none text here (instance.no_days cause f told x) ok =
      ends_unnamed (no_days_fate cause) (no_job_ends k.task bytes cause (subst (λ (b : List ℕ). JobIs k.task b (Err cause)) here.bytes_are (job_found h r w all k.task n.path before (Err cause) after text here.file f)))
      (looking.same_ok result (without_name (no_days_fate cause)) done x ok)
  unnamed_told n bytes mode from before result to after done none text here (instance.has_job job mid f does) ok =
      let same : mid ≡ before = jobs.finds_job h (as_whole h r) k.task n.path before (Ok job) mid (works.finds_job (working_may h r w (may_do h)) (may_do h) (working_also h r w) (as_whole h r) k.task n.path before (Ok job) mid f) in
      earlier h k bytes before mid done same
      (made_told job n bytes mode from mid result to after done (subst (λ (s : FileSystem). s.written ≡ None) (sym same) none) text (subst (λ (s : FileSystem). IsHere h n.path bytes s.now) (sym same) here)
      (subst (λ (b : List ℕ). JobIs k.task b (Ok job)) here.bytes_are (job_found h r w all k.task n.path before (Ok job) mid text here.file f)) does ok)

  file_told : (n : Named) (bytes : List ℕ) (mode : ℕ) (from : E) (before : FileSystem) (result : Result Done RunStop) (to : E) (after : FileSystem) (done : Done) → k.keeps_names ≡ false → is_media_index n.relative ≡ false → before.written ≡ None → IsUtf8 n.path → IsHere h n.path bytes before.now
      → DoesFile (working {F = F} h r w e) k n mode from before result to after → result ≡ Ok done → EndsTold h k bytes before.now done
  file_told n bytes mode from before result to after done not no_index none text here (files.an_index index told x same) ok = true_false (is_media_index n.relative) index no_index
  file_told n bytes mode from before result to after done not no_index none text here (files.keeps_name became index kept does x) ok = true_false k.keeps_names kept not
  file_told n bytes mode from before result to after done not no_index none text here (files.by_instance index other does) ok = unnamed_told n bytes mode from before result to after done none text here does ok

  pub ends_told : (n : Named) (bytes : List ℕ) (mode : ℕ) (from : E) (before : FileSystem) (done : Done) (to : E) (after : FileSystem) → k.keeps_names ≡ false → is_media_index n.relative ≡ false → before.written ≡ None → IsUtf8 n.path → IsHere h n.path bytes before.now
      → DoesName (working {F = F} h r w e) k n (File mode) from before (Ok done) to after → EndsTold h k bytes before.now done
  ends_told n bytes mode from before done to after not no_index none text here (files.a_file other is does) = file_told n bytes other from before (Ok done) to after done not no_index none text here does refl
  ends_told n bytes mode from before done to after not no_index none text here (files.no_file other told is same) = absurd (other mode refl)
