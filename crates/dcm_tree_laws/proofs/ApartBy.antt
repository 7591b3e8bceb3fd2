-- The folder of the outputs lies apart from the one that a run is over, and is empty where the run goes on with nothing.
use Rattle.std.proofs.Common.{◌≡◌, ◌∙◌, refl, sym, ap, subst, ℕ, zero, suc, List, [], Bool, true, false, Option, Some, None, Ok, Err, length}
use Rattle.std.specs.Prelude.{◌≢◌, ◌==◌, codes, nat_le, if◌then◌else◌}
use Rattle.std.proofs.lemmas.Bool.{eqb-true}
use Rattle.dcm_lemmas.proofs.Numbers.{equals_itself}
use Rattle.dcm_lemmas.proofs.Options.{some_same}
use Rattle.dcm_lemmas.proofs.Truth.{and_both, and_first, and_second, or_first_false, or_second_false, true_false}
use Rattle.dcm_devices.specs.Writing.{Writer}
use Rattle.dcm_files.specs.Devices.{MayDo}
use Rattle.dcm_files.specs.Folders.{FoldersDo}
use Rattle.dcm_files.specs.declared.folders.Found.{Found}
use Rattle.dcm_files.specs.declared.folders.Links.TheVariants.{Followed}
use Rattle.dcm_walk.specs.declared.folder.FolderNumber.{FolderNumber}
use Rattle.dcm_walk.specs.Names.{PATH_LIMIT, below}
use Rattle.dcm_tree_words.specs.Trees.{folder}
use Rattle.dcm_tree_words.specs.declared.said.TreeOptions.{TreeOptions}
use Rattle.dcm_cli.specs.Calls.{Reader}
use Rattle.dcm_trees.specs.declared.beginning.Begun.{Begun}
use Rattle.dcm_trees.specs.declared.beginning.Refusal.TheVariants as refusals
use Rattle.dcm_trees.specs.declared.beginning.Spared.{Spared}
use Rattle.dcm_trees.specs.declared.run.TreeRun.{TreeRun}
use Rattle.dcm_trees.specs.Beginning as beginning
use Rattle.dcm_trees.specs.Beginning.{Looks, Numbers, Climbed, Climbs, IsThere, Compares, MakesApart, HasOutput, ChecksEmpty, ChecksNew, Begins, above, clash, is_same, is_within, parent_of}
use Rattle.dcm_trees.specs.Tree as spec
use Rattle.dcm_trees.specs.Tree.{OpensTree, VisitsFolder, DoesOpened, DoesFolder, DoesTree, part_of, spared_of}
use Rattle.dcm_trees.specs.World.{World}
use Rattle.dcm_tree_laws.specs.Apart.{up, IsOther, AreOthers, LiesOutside, LieApart, both_there, new_output, IsEmpty, BeginsSo, refused, no_header, visited, OutputsLieApart, OutputsBeginEmpty}
use Rattle.dcm_tree_laws.specs.Course.{IsNumberAt, Ready, TellsLeft, nothing_told}
use Rattle.dcm_tree_laws.specs.FileSystem.{FileSystem, Tree, Host, begins, may_do, at_path}
use Rattle.dcm_tree_laws.specs.Laws.{over}
use Rattle.dcm_tree_laws.specs.Visited.{GivesAll, HasOnce, NamesItself, telling, over_telling}
use Rattle.dcm_tree_laws.proofs.Beginnings.{numbers, climbed, climbs, is_there, new_use, begins_told}
use Rattle.dcm_tree_laws.proofs.Clearing.{FoldersOver, InputsOver, folders_over, inputs_over}
use Rattle.dcm_tree_laws.proofs.CourseBy.{opens_tree, ready}
use Rattle.dcm_tree_laws.proofs.Looking.{same_ok}
use Rattle.dcm_tree_laws.proofs.NumberAt.{number_at, climbs_at}
use Rattle.dcm_tree_laws.proofs.VisitedRuns.{telling_over, own_path, same_path, folder_list}

-- ---- numbers

same_as : (a b : FolderNumber) → b ≡ a → is_same a b ≡ true
same_as a b e = subst (λ (x : FolderNumber). is_same a x ≡ true) (sym e) (and_both (a.device == a.device) (a.number == a.number) (equals_itself a.device) (equals_itself a.number))

both_same : (a b : FolderNumber) → b.device ≡ a.device → b.number ≡ a.number → b ≡ a
both_same a b d n = ap (λ (x : ℕ). record { device = x; number = b.number }) d ∙ ap (λ (y : ℕ). record { device = a.device; number = y }) n

-- what is at a path has one number
one_number : {I O : Type 0} (h : Host I O) (t : Tree) (path : List ℕ) (a b : FolderNumber) → IsNumberAt h t path a → IsNumberAt h t path b → b ≡ a
one_number h t path a b first second =
    let same : second.found ≡ first.found = some_same second.found first.found (sym second.is ∙ first.is) in
    both_same a b (second.device_is ∙ ap (λ (f : Found). f.device) same ∙ sym first.device_is) (second.number_is ∙ ap (λ (f : Found). f.number) same ∙ sym first.number_is)

-- one that is not that of a number is another one
other_at : {I O : Type 0} (h : Host I O) (t : Tree) (path : List ℕ) (its number : FolderNumber) → IsNumberAt h t path its → is_same its number ≡ false → IsOther h t path number
other_at h t path its number is differs found at same = true_false (is_same its number) (same_as its number (sym same ∙ one_number h t path its found is at)) differs

-- that of one that is the same is that
same_at : {I O : Type 0} (h : Host I O) (t : Tree) (path : List ℕ) (again last : FolderNumber) → is_same again last ≡ true → IsNumberAt h t path again → IsNumberAt h t path last
same_at h t path again last same at = record {
  found = at.found;
  is = at.is;
  device_is = sym (eqb-true again.device last.device (and_first (again.device == last.device) (again.number == last.number) same)) ∙ at.device_is;
  number_is = sym (eqb-true again.number last.number (and_second (again.device == last.device) (again.number == last.number) same)) ∙ at.number_is;
}

-- ---- the way up

-- a way up came to a path, so many levels above a folder: what is there has the last number, and none has another one
record Reaches {I O : Type 0} (h : Host I O) (t : Tree) (path : List ℕ) (other : FolderNumber) (at : List ℕ) (last : FolderNumber) (has_other : Bool) : Type 0 where
  levels : ℕ
  at_is : at ≡ up levels path
  last_is : IsNumberAt h t at last
  others : has_other ≡ false → AreOthers h t path other levels

no_clash : (same within : Bool) → (if same then Some refusals.Same else (if within then Some refusals.OutputWithin else None)) ≡ None → within ≡ false
no_clash same false e = refl
no_clash true true e = absurd (cc)
no_clash false true e = absurd (cc)

not_within : (read : FolderNumber) (way : _) → clash false read way ≡ None → is_within false way ≡ false
not_within read way e = no_clash (is_same way.first read) (is_within false way) e

module _ {I O F : Type 0} (h : Host I O) (d : FoldersDo FileSystem O F) (is_over : FoldersOver h d) where
  finds : (before : FileSystem) (path : List ℕ) (found : Option Found) (after : FileSystem) → d.finds before path Followed (Ok found) after → found ≡ before.now.at (h.leads Followed path)
  finds before path found after call = is_over.finds before path Followed found after call

  numbered : (path : List ℕ) (before : FileSystem) (number : FolderNumber) (after : FileSystem) → Numbers d path before (Ok number) after → IsNumberAt h before.now path number
  numbered path before number after n = number_at h d is_over.quiet finds path before number after n

  by_state : (path : List ℕ) (number : FolderNumber) (s t : FileSystem) → t ≡ s → IsNumberAt h t.now path number → IsNumberAt h s.now path number
  by_state path number s t same at = subst (λ (x : FileSystem). IsNumberAt h x.now path number) same at

  reaches : (path : List ℕ) (other : FolderNumber) (before : FileSystem) (at : List ℕ) (first last : FolderNumber) (has_other : Bool) (after : FileSystem) → Climbed d path other before at first last has_other after
      → Reaches h before.now path other at last has_other
  reaches path other before at first last has_other after (beginning.itself n short a l o) = record {
    levels = zero;
    at_is = a;
    last_is = subst (λ (p : List ℕ). IsNumberAt h before.now p last) (sym a) (subst (IsNumberAt h before.now path) (sym l) (numbered path before first after n));
    others = λ none. other_at h before.now path first other (numbered path before first after n) (sym o ∙ none);
  }
  reaches path other before at first last has_other after (beginning.and_above from below had_other mid more short n apart a o) =
      let r : Reaches h before.now path other from below had_other = reaches path other before from first below had_other mid more in
      let there : IsNumberAt h before.now (above from) last = by_state (above from) last before mid (climbed d is_over.quiet path other before from first below had_other mid more) (numbered (above from) mid last after n) in
      let above_is : above from ≡ up (suc r.levels) path = ap above r.at_is in
      record {
        levels = suc r.levels;
        at_is = a ∙ above_is;
        last_is = subst (λ (p : List ℕ). IsNumberAt h before.now p last) (sym a) there;
        others = λ none. (r.others (or_first_false had_other (is_same last other) (sym o ∙ none)), subst (λ (p : List ℕ). IsOther h before.now p other) above_is (other_at h before.now (above from) last other there (or_second_false had_other (is_same last other) (sym o ∙ none))));
      }

  -- where another folder was not met on the way up, a folder lies outside it
  outside : (path : List ℕ) (other : FolderNumber) (before : FileSystem) (way : _) (after : FileSystem) → Climbs d path other before (Ok way) after → is_within false way ≡ false → LiesOutside h before.now path other
  outside path other before way after (beginning.not_begun refusal n is) none = absurd (cc)
  outside path other before way after (beginning.too_long first n short is) none = absurd (cc)
  outside path other before way after (beginning.to_the_top at first last again has_other mid c short n same is) none =
      let r : Reaches h before.now path other at last has_other = reaches path other before at first last has_other mid c in
      let there : IsNumberAt h before.now (above at) again = by_state (above at) again before mid (climbed d is_over.quiet path other before at first last has_other mid c) (numbered (above at) mid again after n) in
      record {
        levels = r.levels;
        top = last;
        top_is = subst (λ (p : List ℕ). IsNumberAt h before.now p last) r.at_is r.last_is;
        in_itself = subst (λ (p : List ℕ). IsNumberAt h before.now (above p) last) r.at_is (same_at h before.now (above at) again last same there);
        others = r.others (ap (is_within false) (same_ok (Ok way) way (record { first = first; has_other = has_other }) refl is) ∙ none);
      }
  outside path other before way after (beginning.not_seen at first last has_other refusal mid c short n is) none = absurd (cc)
  outside path other before way after (beginning.too_deep at first last has_other c short is) none = absurd (cc)

  first_at : (path : List ℕ) (other : FolderNumber) (before : FileSystem) (way : _) (after : FileSystem) → Climbs d path other before (Ok way) after → IsNumberAt h before.now path way.first
  first_at path other before way after c = climbs_at h d is_over.quiet finds path other before (Ok way) after c

  -- ---- the folder of the outputs

  outside_in : (path : List ℕ) (other : FolderNumber) (s t : FileSystem) → t ≡ s → LiesOutside h t.now path other → LiesOutside h s.now path other
  outside_in path other s t same is = subst (λ (x : FileSystem). LiesOutside h x.now path other) same is

  of_compared : (input output : List ℕ) (before : FileSystem) (number : FolderNumber) (after : FileSystem) → Compares d input false output before (Ok number) after → LieApart h before.now input output number
  of_compared input output before number after (beginning.not_numbered refusal n is) = absurd (cc)
  of_compared input output before number after (beginning.not_climbed read refusal mid n c is) = absurd (cc)
  of_compared input output before number after (beginning.clashed read way refusal mid n c k is) = absurd (cc)
  of_compared input output before number after (beginning.not_back read way refusal mid was n c k b is) = absurd (cc)
  of_compared input output before number after (beginning.within read way back mid was n c k b o is) = absurd (cc)
  of_compared input output before number after (beginning.apart read way back mid was n c k b o is) =
      let looked : mid ≡ before = numbers d is_over.quiet input before (Ok read) mid n in
      let went_up : was ≡ before = climbs d is_over.quiet output read mid (Ok way) was c ∙ looked in
      subst (LieApart h before.now input output) (same_ok (Ok number) number way.first refl is)
      (both_there read (numbered input before read mid n) (by_state output way.first before mid looked (first_at output read mid way was c)) (outside_in output read before mid looked (outside output read mid way was c (not_within read way k)))
      (outside_in input way.first before was went_up (outside input way.first was back after b o)))

  of_made : (input output : List ℕ) (before : FileSystem) (number : FolderNumber) (after : FileSystem) → before.now.at (h.leads Followed output) ≡ None → MakesApart d input false output before (Ok number) after → LieApart h before.now input output number
  of_made input output before number after nothing (beginning.not_numbered refusal n is) = absurd (cc)
  of_made input output before number after nothing (beginning.not_climbed read refusal mid n c is) = absurd (cc)
  of_made input output before number after nothing (beginning.within read way mid n c k is) = absurd (cc)
  of_made input output before number after nothing (beginning.made read way mid was n c k m) =
      new_output read (numbered input before read mid n) nothing (outside_in (parent_of output) read before mid (numbers d is_over.quiet input before (Ok read) mid n) (outside (parent_of output) read mid way was c k))

  nothing_there : (output : List ℕ) (before after : FileSystem) → IsThere d output before (Ok false) after → before.now.at (h.leads Followed output) ≡ None
  nothing_there output before after (beginning.nothing (beginning.no_text t is same) e) = absurd (cc)
  nothing_there output before after (beginning.nothing (beginning.looked found t call is) e) = sym (finds before output found after call) ∙ same_ok (Ok None) None found refl is
  nothing_there output before after (beginning.nothing (beginning.not_looked error t call is) e) = absurd (cc)
  nothing_there output before after (beginning.a_folder found l kind e) = absurd (cc)
  nothing_there output before after (beginning.no_folder found l kind e) = absurd (cc)
  nothing_there output before after (beginning.not_seen refusal l e) = absurd (cc)

  of_output : (input output : List ℕ) (before : FileSystem) (number : FolderNumber) (after : FileSystem) → HasOutput d input false output before (Ok number) after → LieApart h before.now input output number
  of_output input output before number after (beginning.not_looked refusal l is) = absurd (cc)
  of_output input output before number after (beginning.was_there looked l c) =
      subst (λ (s : FileSystem). LieApart h s.now input output number) (is_there d is_over.quiet output before (Ok true) looked l) (of_compared input output looked number after c)
  of_output input output before number after (beginning.not_there looked l m) =
      let still : looked ≡ before = is_there d is_over.quiet output before (Ok false) looked l in
      subst (λ (s : FileSystem). LieApart h s.now input output number) still
      (of_made input output looked number after (subst (λ (s : FileSystem). s.now.at (h.leads Followed output) ≡ None) (sym still) (nothing_there output before looked l)) m)

  of_begun : {E : Type 0} (may : MayDo FileSystem I O) (e : Writer E) (input output name : List ℕ) (options : TreeOptions) (spared : Spared) (from : E) (before : FileSystem) (begun : Begun) (to : E) (after : FileSystem) → Begins may d e input false output name options spared from before (Ok begun) to after
      → LieApart h before.now input output begun.number
  of_begun may e input output name options spared from before begun to after (beginning.no_output refusal has is silent) = absurd (cc)
  of_begun may e input output name options spared from before begun to after (beginning.no_part number refusal has p is silent) = absurd (cc)
  of_begun may e input output name options spared from before begun to after (beginning.has_part number path refusal mid has p c is) = absurd (cc)
  of_begun may e input output name options spared from before begun to after (beginning.in_use number path refusal mid checked has p c u is) = absurd (cc)
  of_begun may e input output name options spared from before begun to after (beginning.begun number path mid checked has p c u is) =
      subst (λ (b : Begun). LieApart h before.now input output b.number) (same_ok (Ok begun) begun (record { number = number; part = path }) refl is) (of_output input output before number mid has)

-- ---- it is empty

still_empty : {I O : Type 0} (h : Host I O) (path : List ℕ) (s t : FileSystem) → t ≡ s → IsEmpty h s.now path → IsEmpty h t.now path
still_empty h path s t same none = subst (λ (x : FileSystem). IsEmpty h x.now path) (sym same) none

no_name : {I O F : Type 0} (h : Host I O) (gives : F → List (List ℕ)) (t : Tree) (path : List ℕ) (opened : F) → GivesAll h gives t path opened → gives opened ≡ [] → IsEmpty h t path
no_name h gives t path opened all none name at = subst (HasOnce name) none (all.each name at)

own_empty : {I O : Type 0} (h : Host I O) (t : Tree) (path own : List ℕ) → NamesItself h → below path (codes ".") ≡ own → IsEmpty h t own → IsEmpty h t path
own_empty h t path own itself is none name at = none name (record {
  part = at.part;
  leads = at.leads;
  there = subst (λ (p : List ℕ). at_path h t (below p name) ≢ None) is (subst (λ (place : List ℕ). t.at place ≢ None) (sym (itself path name)) at.there);
})

module _ {I O F : Type 0} (h : Host I O) (gives : F → List (List ℕ)) (itself : NamesItself h) where
  checked_empty : (path : List ℕ) (before after : FileSystem) → ChecksEmpty (telling h gives) path before (Ok _) after → IsEmpty h before.now path
  checked_empty path before after (beginning.no_text t is same) = absurd (cc)
  checked_empty path before after (beginning.not_opened e t call is) = absurd (cc)
  checked_empty path before after (beginning.empty f left opened listed t o n c is) = no_name h gives before.now path f o.1 n.1
  checked_empty path before after (beginning.not_empty f left name opened listed t o n c is) = absurd (cc)
  checked_empty path before after (beginning.not_listed f left e opened listed t o n c is) = absurd (cc)

  checked_new : (output : List ℕ) (before after : FileSystem) → ChecksNew (telling h gives) output before (Ok _) after → IsEmpty h before.now output
  checked_new output before after (beginning.followed own is c) =
      own_empty h before.now output own itself (own_path (nat_le (length (below output (codes "."))) PATH_LIMIT) (below output (codes ".")) own is) (checked_empty own before after c)
  checked_new output before after (beginning.too_long is c) = checked_empty output before after c

  begun_empty : {E : Type 0} (may : MayDo FileSystem I O) (e : Writer E) (input output name : List ℕ) (options : TreeOptions) (spared : Spared) (from : E) (before : FileSystem) (begun : Begun) (to : E) (after : FileSystem) → options.continues ≡ false
      → Begins may (telling h gives) e input false output name options spared from before (Ok begun) to after → IsEmpty h after.now output
  begun_empty may e input output name options spared from before begun to after new (beginning.no_output refusal has is silent) = absurd (cc)
  begun_empty may e input output name options spared from before begun to after new (beginning.no_part number refusal has p is silent) = absurd (cc)
  begun_empty may e input output name options spared from before begun to after new (beginning.has_part number path refusal mid has p c is) = absurd (cc)
  begun_empty may e input output name options spared from before begun to after new (beginning.in_use number path refusal mid checked has p c u is) = absurd (cc)
  begun_empty may e input output name options spared from before begun to after new (beginning.begun number path mid checked has p c u is) =
      let x = new_use may (telling h gives) (telling_over h gives).quiet input false output number name path.items options checked (Ok _) after new u in
      still_empty h output checked after x.1 (checked_new output checked after x.0)

-- ---- the run

-- something is so of what a run was begun with
abbrev IsSoBegun : {I O F E : Type 0} (w : World FileSystem I O F E) → (IsSo : FolderNumber → Tree → Type 0) → (run : TreeRun) → (path : List ℕ) → (start : Tree) → Type 0
IsSoBegun {I} {O} {F} {E} w IsSo run path start = (from : E) (begun : Begun) (told : E) (mid : FileSystem)
    → Begins w.may w.folders w.errors path false run.output.now (part_of run) run.options (spared_of run) from (begins start) (Ok begun) told mid → IsSo begun.number mid.now

module _ {I O F W E : Type 0} (h : Host I O) (w : World FileSystem I O F E) (folders_are : FoldersOver h w.folders) (inputs_are : InputsOver h w.may) (m : Writer W) (IsSo : FolderNumber → Tree → Type 0) (run : TreeRun) (path : List ℕ) (start : Tree) (so : IsSoBegun w IsSo run path start) (manifest : W) (from : E) (status : ℕ) (left : W) (to : E) (after : FileSystem) where
  abbrev Begins_so : Type 0
  Begins_so = BeginsSo h w m IsSo run path start manifest from status left to after

  of_visits : (opened : F) (begun : Begun) (told : E) (mid : FileSystem) → TellsLeft w.errors (part_of run) from told → Ready h run start begun mid → IsSo begun.number mid.now → VisitsFolder w m run path begun opened manifest told mid status left to after → Begins_so
  of_visits opened begun told mid tells ok is (spec.no_header failure puts close ends) = no_header failure told tells puts ends
  of_visits opened begun told mid tells ok is (spec.visited headed puts v) = visited opened begun headed told mid tells puts ok is v

  of_opened : (opened : F) → DoesOpened w m run path opened manifest from (begins start) status left to after → Begins_so
  of_opened opened (spec.not_begun refusal told tried b close refuses same) =
      refused refusal told (begins_told w.may w.folders w.errors path false run.output.now (part_of run) run.options (spared_of run) from (begins start) (Err refusal) told tried b) refuses same
  of_opened opened (spec.was_begun begun told mid b v) =
      of_visits opened begun told mid (begins_told w.may w.folders w.errors path false run.output.now (part_of run) run.options (spared_of run) from (begins start) (Ok begun) told mid b)
      (ready h w.may inputs_are w.folders folders_are w.errors run start path false (spared_of run) from begun told mid b) (so from begun told mid b) v

  of_folder : DoesFolder w m run path manifest from (begins start) status left to after → Begins_so
  of_folder (spec.too_long long refuses same still) = refused _ from (nothing_told refl) refuses same
  of_folder (spec.not_opened o refuses same) = refused _ from (nothing_told refl) refuses same
  of_folder (spec.was_opened opened mid o does) =
      of_opened opened (subst (λ (s : FileSystem). DoesOpened w m run path opened manifest from s status left to after) (opens_tree w.folders folders_are.quiet path (begins start) (Some opened) mid o) does)

  of_run : DoesTree w m run (folder path) manifest from (begins start) status left to after → Begins_so
  of_run (spec.of_folder other is does) = of_folder (subst (λ (p : List ℕ). DoesFolder w m run p manifest from (begins start) status left to after) (sym (same_path path other is)) does)
  of_run (spec.of_list other is does) = absurd (folder_list path other is)

pub outputs_lie_apart : {I O F W E : Type 0} (r : Reader I) (w : Writer O) (m : Writer W) (e : Writer E) → OutputsLieApart F r w m e
outputs_lie_apart {I} {O} {F} {W} {E} r w m e h run path start manifest from status left to after met does =
    of_run h (over {F = F} h r w e) (folders_over h) (inputs_over {I = I} h) m (λ number now. LieApart h start path run.output.now number) run path start
    (λ from begun told mid b. of_begun h (over {F = F} h r w e).folders (folders_over h) (may_do {I = I} h) e path run.output.now (part_of run) run.options (spared_of run) from (begins start) begun told mid b) manifest from status left to after does

pub outputs_begin_empty : {I O F W E : Type 0} (r : Reader I) (w : Writer O) (m : Writer W) (e : Writer E) → OutputsBeginEmpty F r w m e
outputs_begin_empty {I} {O} {F} {W} {E} r w m e h gives itself run path start manifest from status left to after new does =
    of_run h (over_telling h gives r w e) (telling_over h gives) (inputs_over {I = I} h) m (λ number now. IsEmpty h now run.output.now) run path start
    (λ from begun told mid b. begun_empty h gives itself (may_do {I = I} h) e path run.output.now (part_of run) run.options (spared_of run) from (begins start) begun told mid new b) manifest from status left to after does
