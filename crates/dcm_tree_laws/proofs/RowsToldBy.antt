-- The rows of runs of all shares are told by what was there before the first of them.
use Rattle.std.proofs.Common.{◌≡◌, ◌∙◌, refl, sym, ap, subst, inl, ℕ, List, true, false, None, Result, Ok}
use Rattle.std.specs.Prelude.{◌≢◌}
use Rattle.dcm_lemmas.proofs.Truth.{true_false}
use Rattle.dcm_devices.specs.Writing.{Writer}
use Rattle.dcm_walk.specs.Names.{below}
use Rattle.dcm_walk.specs.Visits.{Named}
use Rattle.dcm_walk.specs.declared.visitor.What.{What}
use Rattle.dcm_walk.specs.declared.visitor.What.TheVariants.{File}
use Rattle.dcm_cli.specs.Calls.{Reader}
use Rattle.dcm_trees.specs.declared.fate.Fate.{Fate}
use Rattle.dcm_trees.specs.declared.fate.Fate.TheVariants as fates
use Rattle.dcm_trees.specs.declared.file.Done.{Done}
use Rattle.dcm_trees.specs.declared.progress.Stop.{Stop as RunStop}
use Rattle.dcm_trees.specs.Fate.{is_written, fate_of, word}
use Rattle.dcm_trees.specs.File as files
use Rattle.dcm_trees.specs.File.{DoesName, is_media_index}
use Rattle.dcm_trees.specs.Manner.{Manner}
use Rattle.dcm_trees.specs.Run.{part_name}
use Rattle.dcm_trees.specs.Task.{Task}
use Rattle.dcm_trees.specs.Work.{output_of}
use Rattle.dcm_tree_laws.specs.Again.{IsAt, IsThere, sure, over_sure, left_there}
use Rattle.dcm_tree_laws.specs.Copies.{SameRow}
use Rattle.dcm_tree_laws.specs.Determined.{as_whole, working, FileEnd, EndsAs}
use Rattle.dcm_tree_laws.specs.FileSystem.{FileSystem, Tree, Host, place_of, may_do, folders_do}
use Rattle.dcm_tree_laws.specs.Rows.{Visit}
use Rattle.dcm_tree_laws.specs.Single.{TellsAll}
use Rattle.dcm_tree_laws.specs.Together.{IsNoPart, HasOwnPlace, IsNameOf, IsFree, its_own, end_fate, IsToldBy}
use Rattle.dcm_tree_laws.specs.Told.{IsTold, told_no_file, told_index, told_there, told_free, AreAside, one_no_file, other_no_file, both_aside, RowsAreTold}
use Rattle.dcm_tree_laws.proofs.Ends.{one_end}
use Rattle.dcm_tree_laws.proofs.Frees.{KeepsAll, bytes_kept, free_stays}
use Rattle.dcm_tree_laws.proofs.Left.{there_is_left}
use Rattle.dcm_tree_laws.proofs.Looking.{same_ok}
use Rattle.dcm_tree_laws.proofs.RowsBy.{visit_of}
use Rattle.dcm_tree_laws.proofs.Stages.{unchanged, touches, apart, name_keeps}
use Rattle.dcm_tree_laws.proofs.Telling.{Telling, rows_told}
use Rattle.dcm_tree_laws.proofs.ToldBy.{fate_is_told}
use Rattle.dcm_tree_laws.proofs.Working.{working_also, working_sure}
use Rattle.dcm_tree_laws.proofs.Works as works

-- ---- names apart

pub swapped : {I O : Type 0} (h : Host I O) (output : List ℕ) (one other : Visit) → AreAside h output one other → AreAside h output other one
swapped h output one other (one_no_file not) = other_no_file not
swapped h output one other (other_no_file not) = one_no_file not
swapped h output one other (both_aside a b) = both_aside b a

-- ---- what a name becomes

abbrev kept_at : {I O : Type 0} (h : Host I O) (kind : _) (output path : List ℕ) (t u : Tree) → KeepsAll h output t u → IsNoPart h output (place_of h path) → IsAt h kind t path → IsAt h kind u path
kept_at h kind output path t u keeps no_part at = record { text = at.text; found = at.found; is = keeps.there (place_of h path) at.found no_part at.is; kind_is = at.kind_is }

abbrev pub kept_there : {I O : Type 0} (h : Host I O) (output relative : List ℕ) (t u : Tree) → KeepsAll h output t u → HasOwnPlace h output relative → IsThere h output relative t → IsThere h output relative u
kept_there h output relative t u keeps own there = record {
  fits = there.fits;
  file = kept_at h _ output (below output relative) t u keeps own.no_part there.file;
  way = λ folder behind cut. kept_at h _ output (below output folder) t u keeps (own.way folder behind cut).0 (there.way folder behind cut);
}

kept_name : {I O : Type 0} (h : Host I O) (output : List ℕ) (t u : Tree) (v : Visit) (mode : ℕ) (bytes : List ℕ) → KeepsAll h output t u → IsNameOf h output t v mode bytes → IsFree h output v.named.relative u → IsNameOf h output u v mode bytes
kept_name h output t u v mode bytes keeps named free = record {
  of_file = named.of_file;
  no_index = named.no_index;
  input = bytes_kept h output t u v bytes keeps named.input;
  output_is = inl free;
  own = named.own;
  parts = named.parts;
}

its_fate : (done : Done) (fate : Fate) (result : Result Done RunStop) → result ≡ Ok (its_own fate) → result ≡ Ok done → done ≡ its_own fate
its_fate done fate result is ok = same_ok result (its_own fate) done is ok

module _ {I O F E : Type 0} (h : Host I O) (r : Reader I) (w : Writer O) (e : Writer E) (k : Manner) where
  pub index_done : (n : Named) (mode : ℕ) (from : E) (before : FileSystem) (done : Done) (to : E) (after : FileSystem) → is_media_index n.relative ≡ true → DoesName (working {F = F} h r w e) k n (File mode) from before (Ok done) to after → done ≡ its_own fates.MediaIndex
  index_done n mode from before done to after index (files.a_file c is (files.an_index it told ok same)) = its_fate done fates.MediaIndex (Ok done) ok refl
  index_done n mode from before done to after index (files.a_file c is (files.keeps_name became not kept does ok)) = true_false (is_media_index n.relative) index not
  index_done n mode from before done to after index (files.a_file c is (files.by_instance not kept does)) = true_false (is_media_index n.relative) index not
  index_done n mode from before done to after index (files.no_file other told ok same) = absurd (other mode refl)

  pub none_done : (n : Named) (what : What) (from : E) (before : FileSystem) (done : Done) (to : E) (after : FileSystem) → ((mode : ℕ) → what ≢ File mode) → DoesName (working {F = F} h r w e) k n what from before (Ok done) to after → done ≡ its_own (fate_of what)
  none_done n what from before done to after not (files.a_file c is does) = absurd (not c is)
  none_done n what from before done to after not (files.no_file other told ok same) = its_fate done (fate_of what) (Ok done) ok refl

module _ {I O F E : Type 0} (h : Host I O) (r : Reader I) (w : Writer O) (e : Writer E) (tells : TellsAll h w) (k : Manner) (number : ℕ) (part_is : k.part ≡ below k.output (part_name number)) (keeps_is : k.keeps_names ≡ true) (goes : k.continues ≡ true) where
  in_sure : (n : Named) (what : What) (from : E) (before : FileSystem) (result : Result Done RunStop) (to : E) (after : FileSystem) → DoesName (working {F = F} h r w e) k n what from before result to after → DoesName (over_sure {F = F} h (as_whole h r) w e) k n what from before result to after
  in_sure n what from before result to after does = works.does_name (working {F = F} h r w e) (may_do h) (working_also h r w) (sure (folders_do {F = F} h)) (working_sure {F = F} h) k n what from before result to after does

  there_done : (n : Named) (mode : ℕ) (from : E) (before : FileSystem) (done : Done) (to : E) (after : FileSystem) → is_media_index n.relative ≡ false → IsThere h k.output n.relative before.now → DoesName (working {F = F} h r w e) k n (File mode) from before (Ok done) to after → done ≡ left_there
  there_done n mode from before done to after no_index there does =
      same_ok (Ok done) left_there done (there_is_left {F = F} (as_whole h r) w e h k n mode from before (Ok done) to after goes keeps_is no_index there (in_sure n (File mode) from before (Ok done) to after does)).row refl

  free_done : (n : Named) (mode : ℕ) (bytes : List ℕ) (end : FileEnd) (from : E) (before : FileSystem) (done : Done) (to : E) (after : FileSystem) → before.written ≡ None → IsNameOf h k.output before.now (visit_of n (File mode)) mode bytes → IsFree h k.output n.relative before.now → EndsAs k.task bytes end
      → DoesName (working {F = F} h r w e) k n (File mode) from before (Ok done) to after → done ≡ its_own (end_fate end)
  free_done n mode bytes end from before done to after none named free ends does =
      let told : IsToldBy k.task bytes done = fate_is_told {F = F} r w e h k number n mode bytes from before done to after tells keeps_is part_is none named free does in
      told.is ∙ ap (λ (x : FileEnd). its_own (end_fate x)) (one_end k.task bytes told.end end told.ends ends)

  pub told_done : (n : Named) (what : What) (d : Done) (from : E) (before : FileSystem) (done : Done) (to : E) (after : FileSystem) → before.written ≡ None → IsTold h k.task k.output before.now (visit_of n what) d → DoesName (working {F = F} h r w e) k n what from before (Ok done) to after → done ≡ d
  told_done n what d from before done to after none (told_no_file not is) does = none_done {F = F} h r w e k n what from before done to after not does ∙ sym is
  told_done n what d from before done to after none (told_index mode of_file index is) does =
      index_done {F = F} h r w e k n mode from before done to after index (subst (λ (y : What). DoesName (working {F = F} h r w e) k n y from before (Ok done) to after) of_file does) ∙ sym is
  told_done n what d from before done to after none (told_there mode of_file no_index own there is) does =
      there_done n mode from before done to after no_index there (subst (λ (y : What). DoesName (working {F = F} h r w e) k n y from before (Ok done) to after) of_file does) ∙ sym is
  told_done n what d from before done to after none (told_free mode bytes end named free ends is) does =
      free_done n mode bytes end from before done to after none (subst (λ (y : What). IsNameOf h k.output before.now (visit_of n y) mode bytes) named.of_file named) free ends
      (subst (λ (y : What). DoesName (working {F = F} h r w e) k n y from before (Ok done) to after) named.of_file does) ∙ sym is

module _ {I O F E : Type 0} (h : Host I O) (r : Reader I) (w : Writer O) (e : Writer E) (k : Manner) (number : ℕ) (part_is : k.part ≡ below k.output (part_name number)) (keeps_is : k.keeps_names ≡ true) where
  -- what is free stays so
  pub free_aside : (x : Visit) (mode : ℕ) → x.what ≡ File mode → HasOwnPlace h k.output x.named.relative → (n : Named) (what : What) (from : E) (before : FileSystem) (done : Done) (to : E) (after : FileSystem) → before.written ≡ None → AreAside h k.output x (visit_of n what)
      → DoesName (working {F = F} h r w e) k n what from before (Ok done) to after → IsFree h k.output x.named.relative before.now → IsFree h k.output x.named.relative after.now
  free_aside x mode is own n what from before done to after none (one_no_file not) does free = absurd (not mode is)
  free_aside x mode is own n what from before done to after none (other_no_file not) does free =
      subst (λ (s : FileSystem). IsFree h k.output x.named.relative s.now) (sym (unchanged {F = F} h r w e k n what from before (Ok done) to after not does)) free
  free_aside x mode is own n what from before done to after none (both_aside a b) does free =
      free_stays h k.part k.output x.named.relative n.relative (is_written done.fate ≡ true) (apart h k.part k.output number part_is x.named.relative own n.relative (is_written done.fate ≡ true) a b) before.now after.now
      (touches {F = F} h r w e k number part_is n what from before done to after keeps_is none does) free

-- ---- what is told of it
pub still_told : {I O : Type 0} (h : Host I O) (task : Task) (folder : List ℕ) (t u : Tree) (v : Visit) (done : Done) → KeepsAll h folder t u → ((mode : ℕ) → v.what ≡ File mode → HasOwnPlace h folder v.named.relative → IsFree h folder v.named.relative t → IsFree h folder v.named.relative u)
    → IsTold h task folder t v done → IsTold h task folder u v done
still_told h task folder t u v done keeps frees (told_no_file not is) = told_no_file not is
still_told h task folder t u v done keeps frees (told_index mode of_file index is) = told_index mode of_file index is
still_told h task folder t u v done keeps frees (told_there mode of_file no_index own there is) = told_there mode of_file no_index own (kept_there h folder v.named.relative t u keeps own there) is
still_told h task folder t u v done keeps frees (told_free mode bytes end named free ends is) =
    let now : IsFree h folder v.named.relative u = frees mode named.of_file named.own free in
    told_free mode bytes end (kept_name h folder t u v mode bytes keeps named now) now ends is

pub same_row : (n : Named) (one other : Done) → one ≡ other → SameRow n one other
same_row n one other is = record { output_is = ap (output_of n) is; word_is = ap (λ (d : Done). word d.fate) is }

module _ {I O F E : Type 0} (h : Host I O) (r : Reader I) (w : Writer O) (e : Writer E) (tells : TellsAll h w) (task : Task) (folder : List ℕ) (first : Tree) where
  pub rows_of : (k : Manner) (number : ℕ) → k.part ≡ below k.output (part_name number) → k.keeps_names ≡ true → k.output ≡ folder → k.task ≡ task → k.continues ≡ true → (n : Named) (what : What) (d : Done) (from : E) (before : FileSystem) (done : Done) (to : E) (after : FileSystem) → before.written ≡ None
      → IsTold h task folder before.now (visit_of n what) d → DoesName (working {F = F} h r w e) k n what from before (Ok done) to after → SameRow n done d
  rows_of k number part_is keeps_is output_is task_is goes n what d from before done to after none is does =
      same_row n done d (told_done {F = F} h r w e tells k number part_is keeps_is goes n what d from before done to after none
      (subst (λ (o : List ℕ). IsTold h k.task o before.now (visit_of n what) d) (sym output_is) (subst (λ (t : Task). IsTold h t folder before.now (visit_of n what) d) (sym task_is) is)) does)

  stays_told : (k : Manner) (number : ℕ) → k.part ≡ below k.output (part_name number) → k.keeps_names ≡ true → k.output ≡ folder → (x : Visit) (d : Done) (n : Named) (what : What) (from : E) (before : FileSystem) (done : Done) (to : E) (after : FileSystem) → before.written ≡ None
      → AreAside h folder x (visit_of n what) → DoesName (working {F = F} h r w e) k n what from before (Ok done) to after → IsTold h task folder before.now x d → IsTold h task folder after.now x d
  stays_told k number part_is keeps_is output_is x d n what from before done to after none aside does =
      subst (λ (o : List ℕ). AreAside h o x (visit_of n what) → IsTold h task o before.now x d → IsTold h task o after.now x d) output_is
      (λ apart_now is. still_told h task k.output before.now after.now x d (name_keeps {F = F} h r w e k number part_is n what from before (Ok done) to after none does)
      (λ mode of_file own free. free_aside {F = F} h r w e k number part_is keeps_is x mode of_file own n what from before done to after none apart_now does free) is) aside

  telling : Telling F h r w e true task folder first (λ continues. continues ≡ true) (λ t v d. IsTold h task folder t v d) (AreAside h folder)
  telling = record {
    swap = λ x v aside. swapped h folder x v aside;
    rows = λ k number part_is keeps_is output_is task_is goes n what d from before done to after none is does. rows_of k number part_is keeps_is output_is task_is goes n what d from before done to after none is does;
    stays = λ k number part_is keeps_is output_is task_is x d n what from before done to after none since aside does is. stays_told k number part_is keeps_is output_is x d n what from before done to after none aside does is;
  }

pub rows_are_told : {I O F W E : Type 0} (r : Reader I) (w : Writer O) (m : Writer W) (e : Writer E) → RowsAreTold F r w m e
rows_are_told {I} {O} {F} r w m e h task folder first visits became count numbers after tells each all once runs goes =
    rows_told {F = F} h r w m e true task folder first (λ continues. continues ≡ true) (λ t v d. IsTold h task folder t v d) (AreAside h folder) (telling {F = F} h r w e tells task folder first) became visits count each all numbers after once runs goes
