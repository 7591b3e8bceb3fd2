-- What becomes of a name that its output keeps is what becomes of it in the ideal run.
use Rattle.std.proofs.Common.{◌≡◌, ◌∙◌, refl, sym, ap, subst, ℕ, ◌+◌, List, length, Bool, true, false, if◌then◌else◌, Some, None, Result, Ok}
use Rattle.std.specs.Prelude.{nat_le}
use Rattle.std.specs.Str.{IsUtf8}
use Rattle.dcm_lemmas.proofs.Truth.{true_false}
use Rattle.dcm_devices.specs.Writing.{Writer}
use Rattle.dcm_walk.specs.Names.{PATH_LIMIT, below}
use Rattle.dcm_walk.specs.Visits.{Named}
use Rattle.dcm_walk.specs.declared.visitor.What.{What}
use Rattle.dcm_walk.specs.declared.visitor.What.TheVariants.{File}
use Rattle.dcm_cli.specs.Calls.{Reader}
use Rattle.dcm_cli.specs.declared.ending.Verdict.{Verdict}
use Rattle.dcm_cli.specs.declared.ending.Verdict.TheVariants as verdicts
use Rattle.dcm_trees.specs.declared.fate.Fate.{Fate}
use Rattle.dcm_trees.specs.declared.fate.Fate.TheVariants as fates
use Rattle.dcm_trees.specs.declared.file.Done.{Done}
use Rattle.dcm_trees.specs.declared.place.Place.{Place}
use Rattle.dcm_trees.specs.declared.place.Place.TheVariants as place
use Rattle.dcm_trees.specs.declared.progress.Stop.{Stop as RunStop}
use Rattle.dcm_trees.specs.Fate.{fate_of as what_fate, has_output, is_written}
use Rattle.dcm_trees.specs.File as files
use Rattle.dcm_trees.specs.File.{DoesFile, DoesName, DoesNamed, is_media_index, under_its_name}
use Rattle.dcm_trees.specs.Lines.{done_fate, there_fate, place_fate}
use Rattle.dcm_trees.specs.Manner.{Manner}
use Rattle.dcm_trees.specs.Place.{path_in, is_free}
use Rattle.dcm_trees.specs.Run.{part_name}
use Rattle.dcm_trees.specs.Task.{Task}
use Rattle.dcm_trees.specs.Work as work
use Rattle.dcm_tree_laws.specs.Again.{IsThere}
use Rattle.dcm_tree_laws.specs.Determined.{FileEnd, was_done, no_job, EndsAs, by_job, by_days_of, as_whole, working}
use Rattle.dcm_tree_laws.specs.FileSystem.{FileSystem, Host, number_of, at_path}
use Rattle.dcm_tree_laws.specs.Ideal.{Thing, a_file, a_folder, no_file, Outputs, is_on_way, is_passed, has_way, place_at, with_file, Output, Made, nothing, an_output, Comes, without, kept, Became, ended, met, wrote, become_kept, become, put, fate_of, output_of}
use Rattle.dcm_tree_laws.specs.Ideal as ideal
use Rattle.dcm_tree_laws.specs.IdealLaws.{Keeps, its_output}
use Rattle.dcm_tree_laws.specs.Laws.{IsOutput}
use Rattle.dcm_tree_laws.specs.Ran.{made_by, NameComes, comes_of_no_file, comes_of_index, kept_too_long, kept_file, unnamed_file, named_too_long, named_file, Shows, TellsApart}
use Rattle.dcm_tree_laws.specs.Single.{TellsAll, IsAnswered}
use Rattle.dcm_tree_laws.specs.Together.{HasBytes, IsFree, its_own, end_fate}
use Rattle.dcm_tree_laws.proofs.Ends.{one_end, end_is_answer}
use Rattle.dcm_tree_laws.proofs.Fates.{Fated, fated}
use Rattle.dcm_tree_laws.proofs.Files.{path_is}
use Rattle.dcm_tree_laws.proofs.Frees.{IsMade}
use Rattle.dcm_tree_laws.proofs.IdealRun.Looks.{SamePlace, both_free, both_held, both_barred, same_seen}
use Rattle.dcm_tree_laws.proofs.IdealRun.Places.{free_is}
use Rattle.dcm_tree_laws.proofs.IdealRun.Shown.{what_cell, there_cell, done_written, shows_as, shows_same, StepsTo, ended_steps, met_steps, wrote_steps, free_now, clear, shows_new}
use Rattle.dcm_tree_laws.proofs.KeptLeft.{without_is_left}
use Rattle.dcm_tree_laws.proofs.Left.{too_long}
use Rattle.dcm_tree_laws.proofs.Looking as looking
use Rattle.dcm_tree_laws.proofs.Looking.{same_ok}
use Rattle.dcm_tree_laws.proofs.MadeBy.{name_by, name_made, made_there}
use Rattle.dcm_tree_laws.proofs.Onwards.{calls_of, calls_quiet, Stands, stands}
use Rattle.dcm_tree_laws.proofs.OutputsBy.{Leaves}
use Rattle.dcm_tree_laws.proofs.RowsBy.{visit_of}
use Rattle.dcm_tree_laws.proofs.RowsToldBy.{index_done, none_done}
use Rattle.dcm_tree_laws.proofs.SharesBy.{one_output}
use Rattle.dcm_tree_laws.proofs.Stages.{of_output, idle_at, over_does, unchanged, index_same, name_leaves, touches, written_out}
use Rattle.dcm_tree_laws.proofs.Working.{whole_gives}

-- ---- what is done with a file whose output keeps its name

pub data Placed {I O : Type 0} (h : Host I O) (k : Manner) (n : Named) (s : FileSystem) (done : Done) (after : FileSystem) : Type 0 where
  was_long : path_in k.output n.relative ≡ None → done ≡ its_own fates.Unwritten → after ≡ s → Placed h k n s done after
  was_taken : (p : Place) → path_in k.output n.relative ≡ Some (below k.output n.relative) → Stands h s.now (below k.output n.relative) (length k.output + 1) p → is_free p ≡ false → done ≡ its_own (place_fate p k.continues) → after ≡ s → Placed h k n s done after
  was_open : (p : Place) → path_in k.output n.relative ≡ Some (below k.output n.relative) → Stands h s.now (below k.output n.relative) (length k.output + 1) p → is_free p ≡ true → Placed h k n s done after

own_fate : (became : Result Fate RunStop) (fate : Fate) (done : Done) → Ok done ≡ under_its_name became → became ≡ Ok fate → done ≡ its_own fate
own_fate became fate done is ok = same_ok (under_its_name became) (its_own fate) done (ap under_its_name ok) (sym is)

module _ {I O F E : Type 0} (h : Host I O) (r : Reader I) (w : Writer O) (e : Writer E) (k : Manner) (n : Named) where
  named_how : (mode : ℕ) (from : E) (s : FileSystem) (became : Result Fate RunStop) (done : Done) (to : E) (after : FileSystem) → Ok done ≡ under_its_name became → DoesNamed (working {F = F} h r w e) k n mode from s became to after → Placed h k n s done after
  named_how mode from s became done to after is (files.too_long none told x same) = was_long none (own_fate became fates.Unwritten done is x) same
  named_how mode from s became done to after is (files.placed path at (files.not_free p f nf told x)) =
      let here : path ≡ below k.output n.relative = path_is k.output n.relative path at in
      was_taken p (at ∙ ap (λ y. Some y) here) (subst (λ y. Stands h s.now y (length k.output + 1) p) here (stands {F = F} h path (length k.output + 1) s p after f)) nf (own_fate became (place_fate p k.continues) done is x)
      (looking.finds (calls_of F h) (calls_quiet F h) path (length k.output + 1) s p after f)
  named_how mode from s became done to after is (files.placed path at (files.free p looked f nf does)) =
      let here : path ≡ below k.output n.relative = path_is k.output n.relative path at in
      was_open p (at ∙ ap (λ y. Some y) here) (subst (λ y. Stands h s.now y (length k.output + 1) p) here (stands {F = F} h path (length k.output + 1) s p looked f)) nf

  pub file_how : (mode : ℕ) (from : E) (s : FileSystem) (done : Done) (to : E) (after : FileSystem) → k.keeps_names ≡ true → is_media_index n.relative ≡ false → DoesName (working {F = F} h r w e) k n (File mode) from s (Ok done) to after → Placed h k n s done after
  file_how mode from s done to after keeps no_index (files.a_file other is (files.an_index index told x same)) = true_false (is_media_index n.relative) index no_index
  file_how mode from s done to after keeps no_index (files.a_file other is (files.keeps_name became index own does x)) = named_how other from s became done to after x does
  file_how mode from s done to after keeps no_index (files.a_file other is (files.by_instance index not does)) = true_false k.keeps_names keeps not
  file_how mode from s done to after keeps no_index (files.no_file other told x same) = absurd (other mode refl)

-- ---- the bytes of an output

answered_as : (task : Task) (bytes held : List ℕ) (verdict : Verdict) (end : FileEnd) → EndsAs task bytes end → end ≡ was_done held verdict → IsAnswered task bytes held
answered_as task bytes held verdict end (by_job output v comes is) same =
    let its : output ≡ held = (let both : was_done output v ≡ was_done held verdict = sym is ∙ same in cc) in
    subst (IsAnswered task bytes) its (end_is_answer task bytes output v comes)
answered_as task bytes held verdict end (by_days_of stop none is) same = absurd (let both : no_job stop ≡ was_done held verdict = sym is ∙ same in cc)

free_not : {A : Type 0} (p : Place) (q : Place) → p ≡ q → is_free q ≡ true → is_free p ≡ false → A
free_not p q e f g = true_false (is_free p) (ap is_free e ∙ f) g

module _ {I O E : Type 0} (F : Type 0) (h : Host I O) (r : Reader I) (w : Writer O) (e : Writer E) (tells : TellsAll h w) (k : Manner) (number : ℕ) (part_is : k.part ≡ below k.output (part_name number)) (keeps_is : k.keeps_names ≡ true) (part_text : IsUtf8 k.part) (spoken : List ℕ → Bool) (first o : Outputs) (apart : TellsApart h k.output k.part spoken first) (since : Keeps first o) (n : Named) (s : FileSystem) (quiet : s.written ≡ None) (no_part : at_path h s.now k.part ≡ None) (shows : Shows h k.output spoken s.now o) where
  -- an output whose place is free
  is_free_now : spoken n.relative ≡ true → nat_le (length (below k.output n.relative)) PATH_LIMIT ≡ true → has_way o n.relative ≡ true → o n.relative ≡ None → IsFree h k.output n.relative s.now
  is_free_now of_n fits way none = free_now h k.output k.part spoken first o apart since s.now shows n.relative of_n fits way none

  -- nothing is written of it
  without_steps : (mode : ℕ) (bytes : List ℕ) (end : FileEnd) (from : E) (done : Done) (to : E) (after : FileSystem) → is_media_index n.relative ≡ false → HasBytes h k.output s.now (visit_of n (File mode)) bytes → EndsAs k.task bytes end → is_written (end_fate end) ≡ false → has_output (end_fate end) ≡ false
      → IsFree h k.output n.relative s.now → after.unremoved ≡ false → DoesName (working {F = F} h r w e) k n (File mode) from s (Ok done) to after → StepsTo h k.output spoken o n done after.now (ended (end_fate end))
  without_steps mode bytes end from done to after no_index has ends not none free gone does =
      let it = without_is_left {F = F} r w e h k n mode (its_own (end_fate end)) from s (Ok done) to after tells keeps_is no_index part_text no_part has.text has.file
      (record { told = record { end = end; ends = subst (λ b. EndsAs k.task b end) (sym has.bytes_are) ends; is = refl }; not = not }) free does gone in
      ended_steps h k.output spoken o n done after.now (end_fate end) (ap (λ (d : Done). d.fate) (same_ok (Ok done) (its_own (end_fate end)) done it.row refl)) none (shows_as h k.output spoken s.now after.now o it.same shows)

  -- its output is written
  module _ (mode : ℕ) (bytes held : List ℕ) (unplaced : ℕ) (end : FileEnd) (end_is : end ≡ was_done held (verdicts.Done unplaced)) (from : E) (done : Done) (to : E) (after : FileSystem) (of_n : spoken n.relative ≡ true) (at : place_at o n.relative ≡ ideal.free) (no_index : is_media_index n.relative ≡ false) (has : HasBytes h k.output s.now (visit_of n (File mode)) bytes) (ends : EndsAs k.task bytes end) (free : IsFree h k.output n.relative s.now) (does : DoesName (working {F = F} h r w e) k n (File mode) from s (Ok done) to after) where
    way_n : has_way o n.relative ≡ true
    way_n = (free_is (has_way o n.relative) (o n.relative) at).0

    fate_is : done.fate ≡ done_fate unplaced
    fate_is =
        let fate : Fated k.task bytes done.fate = fated {F = F} h r w e (whole_gives h r w tells) k n (clear h k.output k.part spoken first o apart since s.now shows n.relative of_n way_n) part_text (of_output h r w k number part_is) has.text bytes mode from s done to after keeps_is no_index
        (record { file = has.file; bytes_are = has.bytes_are }) (idle_at h r w k number part_is s quiet) free does in
        fate.is ∙ ap end_fate (one_end k.task bytes fate.end end fate.ends ends ∙ end_is)

    was_written : is_written done.fate ≡ true
    was_written = ap is_written fate_is ∙ done_written unplaced

    instance_is : done.instance ≡ None
    instance_is = (name_by {F = F} h (as_whole h r) w e k n (File mode) from s (Ok done) to after done keeps_is (over_does {F = F} h r w e k n (File mode) from s (Ok done) to after does) refl was_written).its

    is_made : IsMade h k.task k.output n.relative mode bytes after.now
    is_made = subst (λ i. IsMade h k.task k.output (work.name_in n.relative i) mode bytes after.now) instance_is (written_out {F = F} h r w e k number part_is (whole_gives h r w tells) n mode bytes from s done to after quiet has does was_written)

    bytes_are : after.now.bytes (number_of is_made.file) ≡ held
    bytes_are = one_output k.task bytes (after.now.bytes (number_of is_made.file)) held is_made.answered (answered_as k.task bytes held (verdicts.Done unplaced) end ends end_is)

    is_there : IsThere h k.output n.relative after.now
    is_there =
        made_there h (IsOutput h (as_whole h r) w) k.part k.output n.relative after.now
        (name_made {F = F} h (as_whole h r) w e k n (File mode) from s to after done keeps_is quiet (of_output h r w k number part_is) (over_does {F = F} h r w e k n (File mode) from s (Ok done) to after does) was_written)

    left : Leaves h k.part k.output s after
    left = name_leaves {F = F} h r w e k number part_is n (File mode) from s (Ok done) to after quiet does

    shows_after : Shows h k.output spoken after.now (with_file n.relative (a_file (h.masked mode) held) o)
    shows_after =
        shows_new h k.output k.part spoken first o apart since s.now shows n.relative of_n (h.masked mode) held at after.now is_made.file is_made.is is_made.kind is_made.mode_is bytes_are is_there.way (is_written done.fate ≡ true)
        (touches {F = F} h r w e k number part_is n (File mode) from s done to after keeps_is quiet does) left.stays.bytes

    written_steps : StepsTo h k.output spoken o n done after.now (wrote n.relative (record { mode = h.masked mode; bytes = held; unplaced = unplaced }))
    written_steps = wrote_steps h k.output spoken o n done after.now n.relative (record { mode = h.masked mode; bytes = held; unplaced = unplaced }) fate_is (ap (work.name_in n.relative) instance_is) shows_after

  -- the place of its output is free
  open_steps : (mode : ℕ) (bytes : List ℕ) (end : FileEnd) (from : E) (done : Done) (to : E) (after : FileSystem) → spoken n.relative ≡ true → place_at o n.relative ≡ ideal.free → is_media_index n.relative ≡ false → HasBytes h k.output s.now (visit_of n (File mode)) bytes → EndsAs k.task bytes end → IsFree h k.output n.relative s.now
      → after.unremoved ≡ false → DoesName (working {F = F} h r w e) k n (File mode) from s (Ok done) to after → StepsTo h k.output spoken o n done after.now (become_kept k.continues n.relative (made_by (h.masked mode) end) ideal.free)
  open_steps mode bytes (was_done held (verdicts.Done unplaced)) from done to after of_n at no_index has ends free gone does = written_steps mode bytes held unplaced (was_done held (verdicts.Done unplaced)) refl from done to after of_n at no_index has ends free does
  open_steps mode bytes (was_done held verdicts.PixelsMayShow) from done to after of_n at no_index has ends free gone does = without_steps mode bytes (was_done held verdicts.PixelsMayShow) from done to after no_index has ends refl refl free gone does
  open_steps mode bytes (was_done held (verdicts.Refused stop)) from done to after of_n at no_index has ends free gone does = without_steps mode bytes (was_done held (verdicts.Refused stop)) from done to after no_index has ends refl refl free gone does
  open_steps mode bytes (was_done held (verdicts.RefusedLine stop)) from done to after of_n at no_index has ends free gone does = without_steps mode bytes (was_done held (verdicts.RefusedLine stop)) from done to after no_index has ends refl refl free gone does
  open_steps mode bytes (no_job stop) from done to after of_n at no_index has ends free gone does = without_steps mode bytes (no_job stop) from done to after no_index has ends refl refl free gone does

  seen_as : (p : Place) → spoken n.relative ≡ true → Stands h s.now (below k.output n.relative) (length k.output + 1) p → SamePlace p (place_at o n.relative)
  seen_as p of_n stand = same_seen h k.output k.part spoken s.now o shows apart.way apart.text n.relative p of_n stand

  file_steps : (mode : ℕ) (bytes : List ℕ) (end : FileEnd) (from : E) (done : Done) (to : E) (after : FileSystem) → spoken n.relative ≡ true → is_media_index n.relative ≡ false → nat_le (length (below k.output n.relative)) PATH_LIMIT ≡ true → HasBytes h k.output s.now (visit_of n (File mode)) bytes → EndsAs k.task bytes end
      → after.unremoved ≡ false → DoesName (working {F = F} h r w e) k n (File mode) from s (Ok done) to after → StepsTo h k.output spoken o n done after.now (become_kept k.continues n.relative (made_by (h.masked mode) end) (place_at o n.relative))
  file_steps mode bytes end from done to after of_n no_index fits has ends gone does = by (file_how {F = F} h r w e k n mode from s done to after keeps_is no_index does)
    where
      made_it : Made
      made_it = made_by (h.masked mode) end

      at_place : (q : ideal.Place) → place_at o n.relative ≡ q → StepsTo h k.output spoken o n done after.now (become_kept k.continues n.relative made_it q) → StepsTo h k.output spoken o n done after.now (become_kept k.continues n.relative made_it (place_at o n.relative))
      at_place q is steps = subst (λ x. StepsTo h k.output spoken o n done after.now (become_kept k.continues n.relative made_it x)) (sym is) steps

      taken : (p : Place) → is_free p ≡ false → done ≡ its_own (place_fate p k.continues) → after ≡ s → SamePlace p (place_at o n.relative) → StepsTo h k.output spoken o n done after.now (become_kept k.continues n.relative made_it (place_at o n.relative))
      taken p nf is same (both_free a b) = free_not p place.Free a refl nf
      taken p nf is same (both_held its a b) =
          at_place (ideal.held its) b (met_steps h k.output spoken o n done after.now n.relative (there_fate k.continues) (ap (λ (d : Done). d.fate) is ∙ ap (λ x. place_fate x k.continues) a) (ap (λ (d : Done). work.name_in n.relative d.instance) is) (there_cell k.continues) (shows_same h k.output spoken s after o same shows))
      taken p nf is same (both_barred a b) =
          at_place ideal.barred b (ended_steps h k.output spoken o n done after.now fates.Unwritten (ap (λ (d : Done). d.fate) is ∙ ap (λ x. place_fate x k.continues) a) refl (shows_same h k.output spoken s after o same shows))

      opened : (p : Place) → is_free p ≡ true → SamePlace p (place_at o n.relative) → StepsTo h k.output spoken o n done after.now (become_kept k.continues n.relative made_it (place_at o n.relative))
      opened p f (both_free a b) =
          let it = free_is (has_way o n.relative) (o n.relative) b in
          at_place ideal.free b (open_steps mode bytes end from done to after of_n b no_index has ends (is_free_now of_n fits it.0 it.1) gone does)
      opened p f (both_held its a b) = true_false (is_free p) f (ap is_free a)
      opened p f (both_barred a b) = true_false (is_free p) f (ap is_free a)

      by : Placed h k n s done after → StepsTo h k.output spoken o n done after.now (become_kept k.continues n.relative made_it (place_at o n.relative))
      by (was_long none is same) = absurd (too_long k.output n.relative fits none)
      by (was_taken p at stand nf is same) = taken p nf is same (seen_as p of_n stand)
      by (was_open p at stand f) = opened p f (seen_as p of_n stand)

  some_path : {A : Type 0} (b : Bool) (path : List ℕ) → (if b then Some path else None) ≡ Some path → b ≡ false → A
  some_path true path e f = absurd (cc)
  some_path false path e f = absurd (cc)

  long_steps : (mode : ℕ) (from : E) (done : Done) (to : E) (after : FileSystem) → is_media_index n.relative ≡ false → nat_le (length (below k.output n.relative)) PATH_LIMIT ≡ false → DoesName (working {F = F} h r w e) k n (File mode) from s (Ok done) to after → StepsTo h k.output spoken o n done after.now (ended fates.Unwritten)
  long_steps mode from done to after no_index long does = by (file_how {F = F} h r w e k n mode from s done to after keeps_is no_index does)
    where
      by : Placed h k n s done after → StepsTo h k.output spoken o n done after.now (ended fates.Unwritten)
      by (was_long none is same) = ended_steps h k.output spoken o n done after.now fates.Unwritten (ap (λ (d : Done). d.fate) is) refl (shows_same h k.output spoken s after o same shows)
      by (was_taken p at stand nf is same) = some_path (nat_le (length (below k.output n.relative)) PATH_LIMIT) (below k.output n.relative) at long
      by (was_open p at stand f) = some_path (nat_le (length (below k.output n.relative)) PATH_LIMIT) (below k.output n.relative) at long

  pub name_steps : (what : What) (comes : Comes) (from : E) (done : Done) (to : E) (after : FileSystem) → NameComes h true k.task k.output s.now (visit_of n what) comes → ((p : List ℕ) → its_output comes ≡ Some p → spoken p ≡ true) → after.unremoved ≡ false
      → DoesName (working {F = F} h r w e) k n what from s (Ok done) to after → StepsTo h k.output spoken o n done after.now (become k.continues o comes)
  name_steps what comes from done to after (comes_of_no_file not is) of_n gone does =
      subst (λ x. StepsTo h k.output spoken o n done after.now (become k.continues o x)) (sym is)
      (ended_steps h k.output spoken o n done after.now (what_fate what) (ap (λ (d : Done). d.fate) (none_done {F = F} h r w e k n what from s done to after not does)) (what_cell what) (shows_same h k.output spoken s after o (unchanged {F = F} h r w e k n what from s (Ok done) to after not does) shows))
  name_steps what comes from done to after (comes_of_index mode of_file index is) of_n gone does =
      subst (λ x. StepsTo h k.output spoken o n done after.now (become k.continues o x)) (sym is)
      (ended_steps h k.output spoken o n done after.now fates.MediaIndex (ap (λ (d : Done). d.fate) (index_done {F = F} h r w e k n mode from s done to after index (subst (λ y. DoesName (working {F = F} h r w e) k n y from s (Ok done) to after) of_file does))) refl
      (shows_same h k.output spoken s after o (index_same {F = F} h r w e k n what from s (Ok done) to after index does) shows))
  name_steps what comes from done to after (kept_too_long mode kept_so of_file no_index long is) of_n gone does =
      subst (λ x. StepsTo h k.output spoken o n done after.now (become k.continues o x)) (sym is)
      (long_steps mode from done to after no_index long (subst (λ y. DoesName (working {F = F} h r w e) k n y from s (Ok done) to after) of_file does))
  name_steps what comes from done to after (kept_file mode bytes end kept_so of_file no_index fits has ends is) of_n gone does =
      subst (λ x. StepsTo h k.output spoken o n done after.now (become k.continues o x)) (sym is)
      (file_steps mode bytes end from done to after (of_n n.relative (ap its_output is)) no_index fits (subst (λ y. HasBytes h k.output s.now (visit_of n y) bytes) of_file has) ends gone (subst (λ y. DoesName (working {F = F} h r w e) k n y from s (Ok done) to after) of_file does))
  name_steps what comes from done to after (unnamed_file mode bytes fate not of_file no_index has ends is) of_n gone does = absurd (cc)
  name_steps what comes from done to after (named_too_long mode bytes made uids not of_file no_index has names fits long is) of_n gone does = absurd (cc)
  name_steps what comes from done to after (named_file mode bytes made unplaced uids not of_file no_index has made_so names fits short is) of_n gone does = absurd (cc)
