-- The rows of runs that keep names, some of which come to one output, are told by the names before.
use Rattle.std.proofs.Common.{◌≡◌, ◌∙◌, refl, sym, ap, subst, ℕ, List, ◌∷◌, Bool, true, false, Option, None, Ok}
use Rattle.std.specs.Prelude.{◌&&◌, ◌||◌}
use Rattle.arrayvec.specs.ArrayVec.{ArrayVec}
use Rattle.dcm_lemmas.proofs.Truth.{true_false}
use Rattle.dcm_devices.specs.Writing.{Writer}
use Rattle.dcm_walk.specs.Names.{below}
use Rattle.dcm_walk.specs.Visits.{Named}
use Rattle.dcm_walk.specs.declared.visitor.What.{What}
use Rattle.dcm_cli.specs.Calls.{Reader}
use Rattle.dcm_trees.specs.declared.fate.Fate.TheVariants as fates
use Rattle.dcm_trees.specs.declared.file.Done.{Done}
use Rattle.dcm_trees.specs.Fate.{is_written, fate_of}
use Rattle.dcm_trees.specs.File.{DoesName, is_media_index}
use Rattle.dcm_trees.specs.Manner.{Manner}
use Rattle.dcm_trees.specs.Run.{part_name}
use Rattle.dcm_trees.specs.Task.{Task}
use Rattle.dcm_tree_laws.specs.Again.{IsThere, OfAll, left_there}
use Rattle.dcm_tree_laws.specs.Behind.{is_met, met, met_if, behind, AreOne, AreBeside, RowsAreToldBehind}
use Rattle.dcm_tree_laws.specs.Determined.{as_whole, working, FileEnd, EndsAs}
use Rattle.dcm_tree_laws.specs.FileSystem.{FileSystem, Tree, Host}
use Rattle.dcm_tree_laws.specs.Laws.{IsOutput}
use Rattle.dcm_tree_laws.specs.Rows.{Visit}
use Rattle.dcm_tree_laws.specs.Single.{TellsAll}
use Rattle.dcm_tree_laws.specs.Together.{HasOwnPlace, IsFree, IsNameOf, end_fate}
use Rattle.dcm_tree_laws.specs.Told.{IsTold, told_no_file, told_index, told_there, told_free, AreAside}
use Rattle.dcm_tree_laws.proofs.BehindAs.{of_all}
use Rattle.dcm_tree_laws.proofs.Ends.{one_end}
use Rattle.dcm_tree_laws.proofs.Following.{Following, rows_follow}
use Rattle.dcm_tree_laws.proofs.Frees.{KeepsAll, bytes_kept, free_stays}
use Rattle.dcm_tree_laws.proofs.MadeBy.{made_there, name_made}
use Rattle.dcm_tree_laws.proofs.RowsBy.{visit_of}
use Rattle.dcm_tree_laws.proofs.RowsToldBy.{swapped, kept_there, told_done, free_aside, still_told, rows_of}
use Rattle.dcm_tree_laws.proofs.Stages.{own, of_output, over_does, touches, name_keeps}
use Rattle.dcm_tree_laws.proofs.StagesAs.{same_bytes}
use Rattle.dcm_tree_laws.proofs.Touched.{Touches}
use Rattle.dcm_tree_laws.proofs.Written.{what_not, not_written as no_output}

-- ---- fates

told_none : {I O : Type 0} (h : Host I O) (task : Task) (output : List ℕ) (t : Tree) (v : Visit) (d : Done) → IsTold h task output t v d → d.instance ≡ None
told_none h task output t v d (told_no_file not is) = ap (λ (x : Done). x.instance) is
told_none h task output t v d (told_index mode of_file index is) = ap (λ (x : Done). x.instance) is
told_none h task output t v d (told_there mode of_file no_index own there is) = ap (λ (x : Done). x.instance) is
told_none h task output t v d (told_free mode bytes end named free ends is) = ap (λ (x : Done). x.instance) is

met_there : (d : Done) → d.instance ≡ None → met d ≡ left_there
met_there d is = ap (λ (i : Option (ArrayVec ℕ)). record { fate = fates.There; instance = i }) is

met_not : (b : Bool) (d : Done) → is_written d.fate ≡ false → is_written (met_if b d).fate ≡ false
met_not true d not = refl
met_not false d not = not

-- ---- a name behind another one

module _ {I O F E : Type 0} (h : Host I O) (r : Reader I) (w : Writer O) (e : Writer E) (tells : TellsAll h w) (k : Manner) (number : ℕ) (part_is : k.part ≡ below k.output (part_name number)) (keeps_is : k.keeps_names ≡ true) (goes : k.continues ≡ true) (first : Tree) (others others_v : Bool) (x : Visit) (n : Named) (what : What) (dv dx : Done) (from : E) (before : FileSystem) (done : Done) (to : E) (after : FileSystem)
    (none : before.written ≡ None) (since : KeepsAll h k.output first before.now) (told_v : IsTold h k.task k.output first (visit_of n what) dv) (told_x : IsTold h k.task k.output first x dx) (it : IsTold h k.task k.output before.now (visit_of n what) (met_if others_v dv)) (does : DoesName (working {F = F} h r w e) k n what from before (Ok done) to after) where
  keeps_now : KeepsAll h k.output before.now after.now
  keeps_now = name_keeps {F = F} h r w e k number part_is n what from before (Ok done) to after none does

  done_is : done ≡ met_if others_v dv
  done_is = told_done {F = F} h r w e tells k number part_is keeps_is goes n what (met_if others_v dv) from before done to after none it does

  apart_stays : (d : Done) → AreAside h k.output (visit_of n what) x → IsTold h k.task k.output before.now x d → IsTold h k.task k.output after.now x d
  apart_stays d aside is =
      still_told h k.task k.output before.now after.now x d keeps_now
      (λ mode of_file place free. free_aside {F = F} h r w e k number part_is keeps_is x mode of_file place n what from before done to after none (swapped h k.output (visit_of n what) x aside) does free) is

  module _ (both : AreOne (visit_of n what) x) where
    -- where the first is not written
    free_then : is_written dv.fate ≡ false → HasOwnPlace h k.output x.named.relative → IsFree h k.output x.named.relative before.now → IsFree h k.output x.named.relative after.now
    free_then not place free =
        free_stays h k.part k.output x.named.relative x.named.relative (is_written done.fate ≡ true)
        (own h k.part k.output number part_is x.named.relative place (is_written done.fate ≡ true) (λ is. true_false (is_written done.fate) is (ap (λ (d : Done). is_written d.fate) done_is ∙ met_not others_v dv not))) before.now after.now
        (subst (λ (p : List ℕ). Touches h k.part k.output p (is_written done.fate ≡ true) before.now after.now) both.same (touches {F = F} h r w e k number part_is n what from before done to after keeps_is none does)) free

    not_written : (d : Done) → is_written dv.fate ≡ false → IsTold h k.task k.output before.now x d → IsTold h k.task k.output after.now x d
    not_written d not is = still_told h k.task k.output before.now after.now x d keeps_now (λ mode of_file place free. free_then not place free) is

    there_as : is_media_index x.named.relative ≡ false → HasOwnPlace h k.output x.named.relative → IsThere h k.output x.named.relative after.now → IsTold h k.task k.output after.now x (met dx)
    there_as no_index place there = told_there both.mode both.of_file no_index place there (met_there dx (told_none h k.task k.output first x dx told_x))

    -- the file that was written
    written_file : is_written done.fate ≡ true → IsThere h k.output x.named.relative after.now
    written_file is =
        subst (λ (p : List ℕ). IsThere h k.output p after.now) both.same
        (made_there h (IsOutput h (as_whole h r) w) k.part k.output n.relative after.now
        (name_made {F = F} h (as_whole h r) w e k n what from before to after done keeps_is none (of_output h r w k number part_is) (over_does {F = F} h r w e k n what from before (Ok done) to after does) is))

    -- its output is there, or was free
    is_at : (c : ℕ) (held : List ℕ) (last : FileEnd) → IsNameOf h k.output first (visit_of n what) c held → EndsAs k.task held last → is_written (end_fate last) ≡ true → IsTold h k.task k.output before.now (visit_of n what) (met_if others_v dv) → IsThere h k.output x.named.relative after.now
    is_at c held last v ends_first written (told_no_file not is) = absurd (not c v.of_file)
    is_at c held last v ends_first written (told_index mode of_file index is) = true_false (is_media_index n.relative) index v.no_index
    is_at c held last v ends_first written (told_there mode of_file no_index place there is) = subst (λ (p : List ℕ). IsThere h k.output p after.now) both.same (kept_there h k.output n.relative before.now after.now keeps_now place there)
    is_at c held last v ends_first written (told_free mode bytes end named free ends is) =
        let same : held ≡ bytes = same_bytes h k.output before.now (visit_of n what) held bytes (bytes_kept h k.output first before.now (visit_of n what) held since v.input) named.input in
        let one : end ≡ last = one_end k.task bytes end last ends (subst (λ (b : List ℕ). EndsAs k.task b last) same ends_first) in
        written_file (ap (λ (d : Done). is_written d.fate) (done_is ∙ is) ∙ ap (λ (y : FileEnd). is_written (end_fate y)) one ∙ written)

    there_by : is_media_index n.relative ≡ false → IsThere h k.output x.named.relative after.now → IsTold h k.task k.output before.now x (met_if others dx) → IsTold h k.task k.output after.now x (met dx)
    there_by no_index there (told_no_file not is) = absurd (not both.mode both.of_file)
    there_by no_index there (told_index mode of_file index is) = true_false (is_media_index x.named.relative) index (ap is_media_index (sym both.same) ∙ no_index)
    there_by no_index there (told_there mode of_file not_it place at is) = there_as not_it place there
    there_by no_index there (told_free mode bytes end named free ends is) = there_as named.no_index named.own there

    is_there : is_written dv.fate ≡ true → IsTold h k.task k.output first (visit_of n what) dv → IsTold h k.task k.output before.now x (met_if others dx) → IsTold h k.task k.output after.now x (met dx)
    is_there written (told_no_file not d) is = no_output dv.fate (fate_of what) (ap (λ (y : Done). y.fate) d) (what_not what) written
    is_there written (told_index mode of_file index d) is = no_output dv.fate fates.MediaIndex (ap (λ (y : Done). y.fate) d) refl written
    is_there written (told_there mode of_file no_index place at d) is = no_output dv.fate fates.There (ap (λ (y : Done). y.fate) d) refl written
    is_there written (told_free mode bytes end named free ends d) is =
        there_by named.no_index (is_at mode bytes end named ends (sym (ap (λ (y : Done). is_written y.fate) d) ∙ written) it) is

  -- by whether they come to one output, and the first was written
  follows_by : (is_same was : Bool) → AreBeside h k.output is_same (visit_of n what) x → is_written dv.fate ≡ was → IsTold h k.task k.output before.now x (met_if others dx) → IsTold h k.task k.output after.now x (met_if ((is_same && was) || others) dx)
  follows_by false was aside written is = apart_stays (met_if others dx) aside is
  follows_by true false both written is = not_written both (met_if others dx) written is
  follows_by true true both written is = is_there both written told_v is

-- ---- the runs

-- by the task and the folder of a run
abbrev Follows : {I O : Type 0} → Host I O → (first : Tree) (same : Visit → Visit → Bool) (became : Visit → Done) (others : List Visit) (x v : Visit) (before after : FileSystem) (its : Task) (output : List ℕ) → Type 0
Follows h first same became others x v before after its output = KeepsAll h output first before.now → IsTold h its output first v (became v) → IsTold h its output first x (became x) → AreBeside h output (same v x) v x
    → IsTold h its output before.now v (behind same became others v) → IsTold h its output before.now x (behind same became others x) → IsTold h its output after.now x (behind same became (v ∷ others) x)

module _ {I O F E : Type 0} (h : Host I O) (r : Reader I) (w : Writer O) (e : Writer E) (tells : TellsAll h w) (task : Task) (folder : List ℕ) (first : Tree) (visits : List Visit) (same : Visit → Visit → Bool) (became : Visit → Done) (each : OfAll (λ one. OfAll (λ other. AreBeside h folder (same one other) one other) visits) visits) (all : OfAll (λ v. IsTold h task folder first v (became v)) visits) where
  follows_it : (k : Manner) (number : ℕ) → k.part ≡ below k.output (part_name number) → k.keeps_names ≡ true → k.output ≡ folder → k.task ≡ task → k.continues ≡ true → (others : List Visit) (x : Visit) (n : Named) (what : What) (from : E) (before : FileSystem) (done : Done) (to : E) (after : FileSystem) → before.written ≡ None
      → DoesName (working {F = F} h r w e) k n what from before (Ok done) to after → Follows h first same became others x (visit_of n what) before after task folder
  follows_it k number part_is keeps_is output_is task_is goes others x n what from before done to after none does =
      subst (λ (o : List ℕ). Follows h first same became others x (visit_of n what) before after task o) output_is (subst (λ (t : Task). Follows h first same became others x (visit_of n what) before after t k.output) task_is
      (λ since told_v told_x beside it is. follows_by {F = F} h r w e tells k number part_is keeps_is goes first (is_met same became others x) (is_met same became others (visit_of n what)) x n what (became (visit_of n what)) (became x) from before done to after none since told_v told_x it does
      (same (visit_of n what) x) (is_written (became (visit_of n what)).fate) beside refl is))

  following : Following F h r w e true task folder first (λ continues. continues ≡ true) (λ t v d. IsTold h task folder t v d) visits same became
  following = record {
    rows = λ k number part_is keeps_is output_is task_is goes n what d from before done to after none is does. rows_of {F = F} h r w e tells task folder first k number part_is keeps_is output_is task_is goes n what d from before done to after none is does;
    follows = λ k number part_is keeps_is output_is task_is goes others x n what from before done to after none since has has_x it is does.
        follows_it k number part_is keeps_is output_is task_is goes others x n what from before done to after none does since (of_all (λ v. IsTold h task folder first v (became v)) (visit_of n what) visits has all) (of_all (λ v. IsTold h task folder first v (became v)) x visits has_x all)
        (of_all (λ other. AreBeside h folder (same (visit_of n what) other) (visit_of n what) other) x visits has_x
        (of_all (λ one. OfAll (λ other. AreBeside h folder (same one other) one other) visits) (visit_of n what) visits has each)) it is;
  }

pub rows_are_told_behind : {I O F W E : Type 0} (r : Reader I) (w : Writer O) (m : Writer W) (e : Writer E) → RowsAreToldBehind F r w m e
rows_are_told_behind {I} {O} {F} r w m e h task folder first visits same became count numbers after tells each all runs goes =
    rows_follow {F = F} h r w m e true task folder first (λ continues. continues ≡ true) (λ t v d. IsTold h task folder t v d) visits same became (following {F = F} h r w e tells task folder first visits same became each all) count
    (λ x has. of_all (λ v. IsTold h task folder first v (became v)) x visits has all) numbers after runs goes
