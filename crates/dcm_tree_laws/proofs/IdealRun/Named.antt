-- What becomes of a file whose output is named by the instance in it is what becomes of it in the ideal run.
use Rattle.std.proofs.Common.{◌≡◌, ◌≢◌, ◌∙◌, refl, sym, ap, subst, ℕ, ◌+◌, ◌≤◌, List, length, Bool, true, false, if◌then◌else◌, Option, Some, None, Ok, bytes_eq}
use Rattle.std.specs.Prelude.{nat_le}
use Rattle.std.specs.Str.{IsUtf8}
use Rattle.std.proofs.lemmas.Slice.Eq.{bytes_eq-Decides}
use Rattle.arrayvec.specs.ArrayVec.{ArrayVec}
use Rattle.dcm_lemmas.proofs.Options.{one_value}
use Rattle.dcm_lemmas.proofs.Truth.{true_false}
use Rattle.dcm_base.specs.Reading.Reads.{INPUT_LIMIT}
use Rattle.dcm_devices.specs.Writing.{Writer}
use Rattle.dcm_files.specs.declared.folders.Found.{Found}
use Rattle.dcm_files.specs.declared.folders.FoundKind.TheVariants as kinds
use Rattle.dcm_files.specs.declared.folders.Links.TheVariants.{Followed}
use Rattle.dcm_instance.specs.declared.names.NoInstance.{NoInstance}
use Rattle.dcm_instance.specs.declared.names.NoInstance.TheVariants as causes
use Rattle.dcm_instance.specs.ReadInstance.{FileNames}
use Rattle.dcm_instance.specs.Uids.{Uids, instance_name}
use Rattle.dcm_walk.specs.Names.{PATH_LIMIT, below}
use Rattle.dcm_walk.specs.Visits.{Named}
use Rattle.dcm_walk.specs.declared.visitor.What.{What}
use Rattle.dcm_walk.specs.declared.visitor.What.TheVariants.{File}
use Rattle.dcm_cli.specs.Calls.{Reader}
use Rattle.dcm_cli.specs.declared.ending.Verdict.{Verdict}
use Rattle.dcm_cli.specs.declared.ending.Verdict.TheVariants as verdicts
use Rattle.dcm_trees.specs.declared.fate.Fate.{Fate}
use Rattle.dcm_trees.specs.declared.fate.Fate.TheVariants as fates
use Rattle.dcm_trees.specs.declared.file.Done.{Done}
use Rattle.dcm_trees.specs.declared.part.Naming.TheVariants.{NotFree}
use Rattle.dcm_trees.specs.declared.place.Place.{Place}
use Rattle.dcm_trees.specs.declared.place.Place.TheVariants as place
use Rattle.dcm_trees.specs.Fate.{fate_of as what_fate, has_output, is_written}
use Rattle.dcm_trees.specs.File.{DoesName, is_media_index}
use Rattle.dcm_trees.specs.Instance.{is_there, no_instance_fate, without_name}
use Rattle.dcm_trees.specs.Lines.{done_fate, there_fate, verdict_fate}
use Rattle.dcm_trees.specs.Manner.{Manner}
use Rattle.dcm_trees.specs.Part.{naming_fate}
use Rattle.dcm_trees.specs.Place.{path_in, is_free}
use Rattle.dcm_trees.specs.Run.{part_name}
use Rattle.dcm_trees.specs.Task.{Task}
use Rattle.dcm_trees.specs.Work as work
use Rattle.dcm_tree_laws.specs.Again.{IsAt}
use Rattle.dcm_tree_laws.specs.Copies.{EndsUnnamed, no_days, not_done, no_instance}
use Rattle.dcm_tree_laws.specs.Determined.{FollowsLinks, ComesTo, was_done, by_job, working}
use Rattle.dcm_tree_laws.specs.FileSystem.{FileSystem, Tree, Host, number_of, place_of as path_place, at_path, Removes}
use Rattle.dcm_tree_laws.specs.Ideal as ideal
use Rattle.dcm_tree_laws.specs.Ideal.{Thing, a_file, a_folder, Outputs, is_passed, has_way, place_at, with_file, Output, Comes, without, named, Became, ended, met, wrote, become_named, become}
use Rattle.dcm_tree_laws.specs.IdealLaws.{Keeps, its_output}
use Rattle.dcm_tree_laws.specs.Ran.{NameComes, comes_of_no_file, comes_of_index, kept_too_long, kept_file, unnamed_file, named_too_long, named_file, ShowsThing, Shows, TellsApart}
use Rattle.dcm_tree_laws.specs.Single.{TellsAll}
use Rattle.dcm_tree_laws.specs.Together.{HasBytes, NamesInstance}
use Rattle.dcm_tree_laws.proofs.Alike.{Changes}
use Rattle.dcm_tree_laws.proofs.Becomes.{PlacesAs, PlacesIn, NamedBy, NamesAs, EndsBy, DoneAs, becomes}
use Rattle.dcm_tree_laws.proofs.CopyMade.{CopyMade, copy_made, by_name}
use Rattle.dcm_tree_laws.proofs.Ends.{one_instance, end_is_answer}
use Rattle.dcm_tree_laws.proofs.EndsAs.{PlacedAs, ends_told, is_placed}
use Rattle.dcm_tree_laws.proofs.Frees.{IsMade}
use Rattle.dcm_tree_laws.proofs.IdealRun.Done.{held_some}
use Rattle.dcm_tree_laws.proofs.IdealRun.Looks.{SamePlace, both_free, both_held, both_barred, same_seen}
use Rattle.dcm_tree_laws.proofs.IdealRun.Places.{free_is, passes_by, same_test}
use Rattle.dcm_tree_laws.proofs.IdealRun.Shown.{what_cell, there_cell, done_written, shows_as, shows_same, shows_change, StepsTo, ended_steps, met_steps, wrote_steps, free_now, clear, shows_new}
use Rattle.dcm_tree_laws.proofs.Looking.{same_ok}
use Rattle.dcm_tree_laws.proofs.OutputsBy.{Leaves}
use Rattle.dcm_tree_laws.proofs.Placing.{Gives, not_free, was_free}
use Rattle.dcm_tree_laws.proofs.RowsBy.{visit_of}
use Rattle.dcm_tree_laws.proofs.RowsToldBy.{index_done, none_done}
use Rattle.dcm_tree_laws.proofs.SharesBy.{one_output}
use Rattle.dcm_tree_laws.proofs.Stages.{of_output, unchanged, index_same, name_leaves, written_out}
use Rattle.dcm_tree_laws.proofs.StagesAs.{touches_as}
use Rattle.dcm_tree_laws.proofs.Touched.{Touches}
use Rattle.dcm_tree_laws.proofs.TouchedAs.{TouchesAs, part_alone, at_instance}
use Rattle.dcm_tree_laws.proofs.UnnamedLeft.{unnamed_is_left}
use Rattle.dcm_tree_laws.proofs.Working.{whole_gives}

-- ---- a file without a name

cause_cell : (cause : NoInstance) → has_output (no_instance_fate cause) ≡ false
cause_cell causes.Unread = refl
cause_cell (causes.Unfit uid) = refl

verdict_cell : (v : Verdict) → is_written (verdict_fate v) ≡ false → has_output (verdict_fate v) ≡ false
verdict_cell (verdicts.Done unplaced) not = true_false (is_written (done_fate unplaced)) (done_written unplaced) not
verdict_cell verdicts.PixelsMayShow not = refl
verdict_cell (verdicts.Refused stop) not = refl
verdict_cell (verdicts.RefusedLine stop) not = refl

unnamed_cell : (task : Task) (bytes : List ℕ) (fate : Fate) → EndsUnnamed task bytes fate → has_output fate ≡ false
unnamed_cell task bytes fate (no_days stop none is) = ap has_output is
unnamed_cell task bytes fate (not_done output verdict comes not is) = ap has_output is ∙ verdict_cell verdict not
unnamed_cell task bytes fate (no_instance output verdict cause comes done names is) = ap has_output is ∙ cause_cell cause

-- ---- paths

path_none : (output relative : List ℕ) → nat_le (length (below output relative)) PATH_LIMIT ≡ false → path_in output relative ≡ None
path_none output relative long = ap (λ t. if t then Some (below output relative) else None) long

path_some : (output relative : List ℕ) → nat_le (length (below output relative)) PATH_LIMIT ≡ true → path_in output relative ≡ Some (below output relative)
path_some output relative fits = ap (λ t. if t then Some (below output relative) else None) fits

gone_change : {I O : Type 0} (h : Host I O) (part : List ℕ) (s after : FileSystem) → Removes h part s after → Changes (path_place h part) None s.now after.now
gone_change h part s after gone = record { there = gone.puts.there; elsewhere = gone.puts.elsewhere; bytes = λ other f is. gone.bytes (number_of f) }

no_other : (x : Option Found) → x ≡ None → (f : Found) → x ≡ Some f → f.kind ≢ kinds.Other
no_other x none f is e = absurd (cc)

same_made : (held made : List ℕ) (v verdict : Verdict) → was_done made verdict ≡ was_done held v → made ≡ held
same_made held made v verdict e = cc

free_not : {A : Type 0} (p q : Place) → p ≡ q → is_free q ≡ true → is_free p ≡ false → A
free_not p q e f g = true_false (is_free p) (ap is_free e ∙ f) g

not_taken : {A : Type 0} (p q : Place) → p ≡ q → is_free q ≡ false → is_free p ≡ true → A
not_taken p q e f g = true_false (is_free p) g (ap is_free e ∙ f)

-- what is shown of a file
file_bytes : (t : Tree) (found : Option Found) (thing : Option Thing) (f : Found) (mode : ℕ) (bytes : List ℕ) → found ≡ Some f → thing ≡ Some (a_file mode bytes) → ShowsThing t found thing → t.bytes (number_of f) ≡ bytes
file_bytes t found thing f mode bytes is at shows =
    let here : ShowsThing t (Some f) (Some (a_file mode bytes)) = subst (λ x. ShowsThing t x (Some (a_file mode bytes))) is (subst (λ x. ShowsThing t found x) at shows) in here.2

no_instance_name : {A : Type 0} (x : Option (ArrayVec ℕ)) (a : ArrayVec ℕ) → x ≡ None → x ≡ Some a → A
no_instance_name x a e f = absurd (cc)

module _ {I O E : Type 0} (F : Type 0) (h : Host I O) (r : Reader I) (w : Writer O) (e : Writer E) (tells : TellsAll h w) (k : Manner) (number : ℕ) (part_is : k.part ≡ below k.output (part_name number)) (not_kept : k.keeps_names ≡ false) (part_text : IsUtf8 k.part) (spoken : List ℕ → Bool) (first o : Outputs) (apart : TellsApart h k.output k.part spoken first) (since : Keeps first o) (n : Named) (s : FileSystem) (quiet : s.written ≡ None) (no_part : at_path h s.now k.part ≡ None) (shows : Shows h k.output spoken s.now o) (follows : FollowsLinks h s.now) where
  leads : h.leads Followed k.part ≡ path_place h k.part
  leads = follows k.part (no_other (at_path h s.now k.part) no_part)

  -- at the part alone something changed
  part_changed : (what : Option Found) (t u : Tree) → Changes (path_place h k.part) what t u → Shows h k.output spoken t o → Shows h k.output spoken u o
  part_changed what t u change there = shows_change h k.output k.part spoken first o apart since what t u change there

  unnamed_steps : (mode : ℕ) (bytes : List ℕ) (fate : Fate) (from : E) (done : Done) (to : E) (after : FileSystem) → is_media_index n.relative ≡ false → HasBytes h k.output s.now (visit_of n (File mode)) bytes → EndsUnnamed k.task bytes fate → after.unremoved ≡ false
      → DoesName (working {F = F} h r w e) k n (File mode) from s (Ok done) to after → StepsTo h k.output spoken o n done after.now (ended fate)
  unnamed_steps mode bytes fate from done to after no_index has ends gone does =
      let it = unnamed_is_left {F = F} r w e h k n mode fate from s (Ok done) to after tells not_kept no_index part_text no_part follows has.text has.file (subst (λ b. EndsUnnamed k.task b fate) (sym has.bytes_are) ends) does gone in
      ended_steps h k.output spoken o n done after.now fate (ap (λ (d : Done). d.fate) (same_ok (Ok done) (without_name fate) done it.row refl)) (unnamed_cell k.task bytes fate ends) (shows_as h k.output spoken s.now after.now o it.same shows)

  -- a file whose job is done, and which names an instance
  module _ (mode : ℕ) (bytes made : List ℕ) (uids : Uids) (its : NamesInstance k.task bytes made uids) (fits : length made ≤ INPUT_LIMIT) (from : E) (done : Done) (to : E) (after : FileSystem) (no_index : is_media_index n.relative ≡ false) (has : HasBytes h k.output s.now (visit_of n (File mode)) bytes) (gone : after.unremoved ≡ false) (does : DoesName (working {F = F} h r w e) k n (File mode) from s (Ok done) to after) where
    done_as : DoneAs h k.output k.part mode made (verdict_fate its.verdict) s done.fate after
    done_as =
        becomes {F = F} h r w e k n (File mode) mode (was_done made its.verdict) from s done to after (whole_gives h r w tells) part_text not_kept no_part follows (λ held v same. subst (λ (b : List ℕ). length b ≤ INPUT_LIMIT) (same_made held made v its.verdict same) fits) refl no_index has.text has.file
        (by_job made its.verdict (subst (λ b. ComesTo k.task b made its.verdict) (sym has.bytes_are) its.comes) refl) gone does

    filled_shows : Shows h k.output spoken done_as.filled.now o
    filled_shows = part_changed (Some done_as.fills.file) s.now done_as.filled.now done_as.fills.change shows

    names_as : NamesAs h k.output k.part made (verdict_fate its.verdict) done_as.filled done.fate after
    names_as = subst (EndsBy h k.output k.part made (verdict_fate its.verdict) done_as.filled done.fate after) its.written done_as.ends

    places_in : PlacesIn h k.output k.part made (verdict_fate its.verdict) done_as.filled done.fate after (path_in k.output (instance_name uids))
    places_in = subst (NamedBy h k.output k.part made (verdict_fate its.verdict) done_as.filled done.fate after) (one_instance made names_as.answer (Ok uids) names_as.names its.names) names_as.by

    long_steps : nat_le (length (below k.output (instance_name uids))) PATH_LIMIT ≡ false → StepsTo h k.output spoken o n done after.now (ended fates.Unwritten)
    long_steps long =
        let x = subst (PlacesIn h k.output k.part made (verdict_fate its.verdict) done_as.filled done.fate after) (path_none k.output (instance_name uids) long) places_in in
        ended_steps h k.output spoken o n done after.now fates.Unwritten x.0 refl (part_changed None done_as.filled.now after.now (gone_change h k.part done_as.filled after x.1) filled_shows)

  module _ (mode : ℕ) (bytes made : List ℕ) (unplaced : ℕ) (uids : Uids) (comes : ComesTo k.task bytes made (verdicts.Done unplaced)) (names : FileNames made (Ok uids)) (fits : length made ≤ INPUT_LIMIT) (short : nat_le (length (below k.output (instance_name uids))) PATH_LIMIT ≡ true) (of_it : spoken (instance_name uids) ≡ true) (from : E) (done : Done) (to : E) (after : FileSystem)
      (no_index : is_media_index n.relative ≡ false) (has : HasBytes h k.output s.now (visit_of n (File mode)) bytes) (gone : after.unremoved ≡ false) (does : DoesName (working {F = F} h r w e) k n (File mode) from s (Ok done) to after) where
    abbrev relative : List ℕ
    relative = instance_name uids

    abbrev output : Output
    output = record { mode = h.masked mode; bytes = made; unplaced = unplaced }

    abbrev its : NamesInstance k.task bytes made uids
    its = record { verdict = verdicts.Done unplaced; comes = comes; written = done_written unplaced; names = names }

    placed : PlacedAs h k made uids (verdicts.Done unplaced) s.now done
    placed =
        is_placed h k bytes s.now done made uids its short
        (ends_told F h r w e (whole_gives h r w tells) k part_text (of_output h r w k number part_is) leads n bytes mode from s done to after not_kept no_index quiet has.text (record { file = has.file; bytes_are = has.bytes_are }) does)

    name_is : work.name_in n.relative done.instance ≡ relative
    name_is = by_name n.relative done.instance placed.named.relative relative placed.named.instance_is placed.named.relative_is

    filled_is : DoneAs h k.output k.part mode made (done_fate unplaced) s done.fate after
    filled_is = done_as mode bytes made uids its fits from done to after no_index has gone does

    shows_filled : Shows h k.output spoken filled_is.filled.now o
    shows_filled = part_changed (Some filled_is.fills.file) s.now filled_is.filled.now filled_is.fills.change shows

    -- its output is written
    module _ (at : place_at o relative ≡ ideal.free) where
      way_n : has_way o relative ≡ true
      way_n = (free_is (has_way o relative) (o relative) at).0

      fate_is : done.fate ≡ done_fate unplaced
      fate_is = placed.free (free_now h k.output k.part spoken first o apart since s.now shows relative of_it short way_n (free_is (has_way o relative) (o relative) at).1) (clear h k.output k.part spoken first o apart since s.now shows relative of_it way_n)

      was_written : is_written done.fate ≡ true
      was_written = ap is_written fate_is ∙ done_written unplaced

      is_made : IsMade h k.task k.output relative mode bytes after.now
      is_made = subst (λ x. IsMade h k.task k.output x mode bytes after.now) name_is (written_out {F = F} h r w e k number part_is (whole_gives h r w tells) n mode bytes from s done to after quiet has does was_written)

      bytes_are : after.now.bytes (number_of is_made.file) ≡ made
      bytes_are = one_output k.task bytes (after.now.bytes (number_of is_made.file)) made is_made.answered (end_is_answer k.task bytes made (verdicts.Done unplaced) comes)

      copy : CopyMade h k.task k.part k.output (s.now.bytes (number_of has.file.file)) done after.now
      copy = copy_made {F = F} h r w e k n (File mode) from s done to after tells not_kept quiet (of_output h r w k number part_is) leads has.text has.file does was_written

      folders : (folder behind : List ℕ) → relative ≡ below folder behind → IsAt h kinds.Folder after.now (below k.output folder)
      folders folder behind cut = (copy.at.way folder behind (sym (by_name n.relative done.instance copy.named.relative (instance_name copy.uids) copy.named.instance_is copy.named.relative_is) ∙ name_is ∙ cut)).at

      left : Leaves h k.part k.output s after
      left = name_leaves {F = F} h r w e k number part_is n (File mode) from s (Ok done) to after quiet does

      touched : TouchesAs h k done s after → Touches h k.part k.output relative (is_written done.fate ≡ true) s.now after.now
      touched (part_alone none touch) = no_instance_name done.instance placed.named.relative none placed.named.instance_is
      touched (at_instance found is touch) =
          subst (λ x. Touches h k.part k.output x (is_written done.fate ≡ true) s.now after.now) (ap (λ (y : ArrayVec ℕ). y.items) (one_value done.instance found placed.named.relative is placed.named.instance_is) ∙ placed.named.relative_is) touch

      written_steps : StepsTo h k.output spoken o n done after.now (wrote relative output)
      written_steps =
          wrote_steps h k.output spoken o n done after.now relative output fate_is name_is
          (shows_new h k.output k.part spoken first o apart since s.now shows relative of_it (h.masked mode) made at after.now is_made.file is_made.is is_made.kind is_made.mode_is bytes_are folders (is_written done.fate ≡ true)
          (touched (touches_as {F = F} h r w e k number part_is not_kept n (File mode) from s done to after quiet does)) left.stays.bytes)

    places : PlacesAs h k.output k.part made (below k.output relative) (done_fate unplaced) filled_is.filled done.fate after
    unfolding filled_is done_as
    places = subst (PlacesIn h k.output k.part made (done_fate unplaced) filled_is.filled done.fate after) (path_some k.output relative short) (places_in mode bytes made uids its fits from done to after no_index has gone does)

    -- something is at its place
    module _ (p : Place) (nf : is_free p ≡ false) (naming_is : places.naming ≡ NotFree p) (same : places.named ≡ filled_is.filled) where
      shows_named : Shows h k.output spoken places.named.now o
      shows_named = subst (λ (x : FileSystem). Shows h k.output spoken x.now o) (sym same) shows_filled

      shows_after : Shows h k.output spoken after.now o
      shows_after = part_changed None places.named.now after.now (gone_change h k.part places.named after places.gone) shows_named

      met_place : (held : List ℕ) → p ≡ place.There → place_at o relative ≡ ideal.held held → StepsTo h k.output spoken o n done after.now (met relative (there_fate (bytes_eq held made)))
      met_place held there at =
          let it = held_some (has_way o relative) (o relative) held at in
          let naming : places.naming ≡ NotFree place.There = naming_is ∙ ap NotFree there in
          let is : is_there places.naming ≡ true = ap is_there naming in
          let file = places.copy.file is in
          let bytes_is : places.named.now.bytes (number_of file.found) ≡ held =
          file_bytes places.named.now (at_path h places.named.now (below k.output relative)) (o relative) file.found it.0 held file.is it.1 (shows_named.shown relative of_it (passes_by relative o (λ x on. ap is_passed (shows_named.folders relative x (a_file it.0 held) it.1 on)))) in
          let alike : places.same ≡ bytes_eq held made =
          same_test places.same (bytes_eq held made) (λ so. (bytes_eq-Decides held made).1 (sym bytes_is ∙ places.copy.then file.found is file.is so)) (λ so. places.copy.back file.found is file.is (bytes_is ∙ (bytes_eq-Decides held made).0 so)) in
          met_steps h k.output spoken o n done after.now relative (there_fate (bytes_eq held made)) (places.becomes ∙ ap (λ y. naming_fate y (done_fate unplaced) places.same) naming ∙ ap there_fate alike) name_is (there_cell (bytes_eq held made)) shows_after

      taken_steps : SamePlace p (place_at o relative) → StepsTo h k.output spoken o n done after.now (become_named relative output (place_at o relative))
      taken_steps (both_free a b) = free_not p place.Free a refl nf
      taken_steps (both_held held a b) = subst (λ x. StepsTo h k.output spoken o n done after.now (become_named relative output x)) (sym b) (met_place held a b)
      taken_steps (both_barred a b) =
          subst (λ x. StepsTo h k.output spoken o n done after.now (become_named relative output x)) (sym b)
          (ended_steps h k.output spoken o n done after.now fates.Unwritten (places.becomes ∙ ap (λ y. naming_fate y (done_fate unplaced) places.same) (naming_is ∙ ap NotFree a)) refl shows_after)

    opened_steps : (p : Place) → is_free p ≡ true → SamePlace p (place_at o relative) → StepsTo h k.output spoken o n done after.now (become_named relative output (place_at o relative))
    opened_steps p f (both_free a b) = subst (λ x. StepsTo h k.output spoken o n done after.now (become_named relative output x)) (sym b) (written_steps b)
    opened_steps p f (both_held held a b) = not_taken p place.There a refl f
    opened_steps p f (both_barred a b) = not_taken p place.Barred a refl f

    file_steps : StepsTo h k.output spoken o n done after.now (become_named relative output (place_at o relative))
    file_steps = by places.given
      where
        by : Gives h k.part (below k.output relative) (length k.output + 1) filled_is.filled places.naming places.named → StepsTo h k.output spoken o n done after.now (become_named relative output (place_at o relative))
        by (not_free p stand nf is same) = taken_steps p nf is same (same_seen h k.output k.part spoken filled_is.filled.now o shows_filled apart.way apart.text relative p of_it stand)
        by (was_free p has mid stand nf paves lands) = opened_steps p nf (same_seen h k.output k.part spoken filled_is.filled.now o shows_filled apart.way apart.text relative p of_it stand)

  pub name_steps : (what : What) (comes : Comes) (from : E) (done : Done) (to : E) (after : FileSystem) → NameComes h false k.task k.output s.now (visit_of n what) comes → ((p : List ℕ) → its_output comes ≡ Some p → spoken p ≡ true) → after.unremoved ≡ false
      → DoesName (working {F = F} h r w e) k n what from s (Ok done) to after → StepsTo h k.output spoken o n done after.now (become k.continues o comes)
  name_steps what comes from done to after (comes_of_no_file not is) of_n gone does =
      subst (λ x. StepsTo h k.output spoken o n done after.now (become k.continues o x)) (sym is)
      (ended_steps h k.output spoken o n done after.now (what_fate what) (ap (λ (d : Done). d.fate) (none_done {F = F} h r w e k n what from s done to after not does)) (what_cell what) (shows_same h k.output spoken s after o (unchanged {F = F} h r w e k n what from s (Ok done) to after not does) shows))
  name_steps what comes from done to after (comes_of_index mode of_file index is) of_n gone does =
      subst (λ x. StepsTo h k.output spoken o n done after.now (become k.continues o x)) (sym is)
      (ended_steps h k.output spoken o n done after.now fates.MediaIndex (ap (λ (d : Done). d.fate) (index_done {F = F} h r w e k n mode from s done to after index (subst (λ y. DoesName (working {F = F} h r w e) k n y from s (Ok done) to after) of_file does))) refl
      (shows_same h k.output spoken s after o (index_same {F = F} h r w e k n what from s (Ok done) to after index does) shows))
  name_steps what comes from done to after (kept_too_long mode keeps of_file no_index long is) of_n gone does = absurd (cc)
  name_steps what comes from done to after (kept_file mode bytes end keeps of_file no_index short has ends is) of_n gone does = absurd (cc)
  name_steps what comes from done to after (unnamed_file mode bytes fate not of_file no_index has ends is) of_n gone does =
      subst (λ x. StepsTo h k.output spoken o n done after.now (become k.continues o x)) (sym is)
      (unnamed_steps mode bytes fate from done to after no_index (subst (λ y. HasBytes h k.output s.now (visit_of n y) bytes) of_file has) ends gone (subst (λ y. DoesName (working {F = F} h r w e) k n y from s (Ok done) to after) of_file does))
  name_steps what comes from done to after (named_too_long mode bytes made uids not of_file no_index has its fits long is) of_n gone does =
      subst (λ x. StepsTo h k.output spoken o n done after.now (become k.continues o x)) (sym is)
      (long_steps mode bytes made uids its fits from done to after no_index (subst (λ y. HasBytes h k.output s.now (visit_of n y) bytes) of_file has) gone (subst (λ y. DoesName (working {F = F} h r w e) k n y from s (Ok done) to after) of_file does) long)
  name_steps what comes from done to after (named_file mode bytes made unplaced uids not of_file no_index has made_so names fits short is) of_n gone does =
      subst (λ x. StepsTo h k.output spoken o n done after.now (become k.continues o x)) (sym is)
      (file_steps mode bytes made unplaced uids made_so names fits short (of_n (instance_name uids) (ap its_output is)) from done to after no_index (subst (λ y. HasBytes h k.output s.now (visit_of n y) bytes) of_file has) gone (subst (λ y. DoesName (working {F = F} h r w e) k n y from s (Ok done) to after) of_file does))
