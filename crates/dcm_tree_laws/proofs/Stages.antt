-- The output of one name of a walk, before and after each name of that is done.
use Rattle.std.proofs.Common.{◌≡◌, ◌∙◌, refl, sym, ap, subst, inl, inr, ◌⊎◌, ℕ, List, Bool, true, false, None, Result, Ok}
use Rattle.std.specs.Prelude.{◌≢◌}
use Rattle.std.specs.Str.{IsUtf8}
use Rattle.dcm_lemmas.proofs.Truth.{true_false}
use Rattle.dcm_devices.specs.Writing.{Writer}
use Rattle.dcm_tree_laws.proofs.Left.{same_mode}
use Rattle.dcm_walk.specs.Names.{below}
use Rattle.dcm_walk.specs.Visits.{Named}
use Rattle.dcm_walk.specs.declared.visitor.What.{What}
use Rattle.dcm_walk.specs.declared.visitor.What.TheVariants.{File}
use Rattle.dcm_cli.specs.Calls.{Reader}
use Rattle.dcm_trees.specs.declared.file.Done.{Done}
use Rattle.dcm_trees.specs.declared.progress.Stop.{Stop as RunStop}
use Rattle.dcm_trees.specs.Fate.{is_written}
use Rattle.dcm_trees.specs.File as files
use Rattle.dcm_trees.specs.File.{DoesName, is_media_index}
use Rattle.dcm_trees.specs.Manner.{Manner}
use Rattle.dcm_trees.specs.Run.{part_name}
use Rattle.dcm_trees.specs.Task.{Task}
use Rattle.dcm_trees.specs.Work.{name_in}
use Rattle.dcm_tree_laws.specs.Determined.{as_whole, working, EndsAs, FileEnd}
use Rattle.dcm_tree_laws.specs.FileSystem.{FileSystem, Tree, Host, place_of, may_do, folders_do}
use Rattle.dcm_tree_laws.specs.Laws.{IsOutput, over}
use Rattle.dcm_tree_laws.specs.Outputs.{HasOutput}
use Rattle.dcm_tree_laws.specs.Rows.{Visit}
use Rattle.dcm_tree_laws.specs.Single.{IsAnswered}
use Rattle.dcm_tree_laws.proofs.Near.{IsNear, near}
use Rattle.dcm_tree_laws.specs.Together.{IsNoPart, IsFree, IsAside, HasBytes, HasOwnPlace, GoesBeside, no_file, same_output, other_output, IsNameOf}
use Rattle.dcm_tree_laws.proofs.Fates.{Fated, fated, end_written, Frees}
use Rattle.dcm_tree_laws.proofs.Files.{does_name}
use Rattle.dcm_tree_laws.proofs.Frees.{KeepsAll, stays_keeps, IsUntouched, free_stays, IsMade, made_kept, Stepped}
use Rattle.dcm_tree_laws.proofs.Held.{GivesAll}
use Rattle.dcm_tree_laws.proofs.MadeBy.{ByName, name_by}
use Rattle.dcm_tree_laws.proofs.OutputsBy.{Leaves, leaves}
use Rattle.dcm_tree_laws.proofs.RowsBy.{visit_of}
use Rattle.dcm_tree_laws.proofs.SinglesBy.{answered, opens_holds}
use Rattle.dcm_tree_laws.proofs.Steps.{idle, no_step}
use Rattle.dcm_tree_laws.proofs.Touched.{Touches, name_touches}
use Rattle.dcm_tree_laws.proofs.Working.{working_also, working_can}
use Rattle.dcm_tree_laws.proofs.Works as works
use Rattle.dcm_tree_laws.proofs.Written.{FileGives, IsIdle}
use Rattle.dcm_tree_laws.proofs.WrittenBy.{name_out}

-- ---- the output of one name

-- it was done: how its bytes end says whether its output is there, or still free
pub record Settled {I O : Type 0} (h : Host I O) (task : Task) (output relative : List ℕ) (mode : ℕ) (bytes : List ℕ) (t : Tree) : Type 0 where
  pub end : FileEnd
  pub ends : EndsAs task bytes end
  pub made : end_written end ≡ true → IsMade h task output relative mode bytes t
  pub free : end_written end ≡ false → IsFree h output relative t

-- it is free, or was done
abbrev pub Stage : {I O : Type 0} → Host I O → Task → (output relative : List ℕ) → (mode : ℕ) → (bytes : List ℕ) → Tree → Type 0
Stage h task output relative mode bytes t = IsFree h output relative t ⊎ Settled h task output relative mode bytes t

-- the mode and the bytes that are asked of it
abbrev Whole : {I O : Type 0} → Host I O → Task → (mode : ℕ) → (bytes : List ℕ) → (its_mode : ℕ) → (its_bytes : List ℕ) → Type 0
Whole h task mode bytes its_mode its_bytes = (its_mode ≡ h.masked mode) × IsAnswered task bytes its_bytes

made_of : {I O : Type 0} (h : Host I O) (task : Task) (part output relative : List ℕ) (mode : ℕ) (bytes : List ℕ) (t : Tree) → HasOutput h (Whole h task mode bytes) part (below output relative) t → IsMade h task output relative mode bytes t
made_of h task part output relative mode bytes t out = record { file = out.file; is = out.is; kind = out.kind; mode_is = out.whole.0; answered = out.whole.1 }

-- ---- what keeps it

module _ {I O : Type 0} (h : Host I O) (task : Task) (output : List ℕ) (x : Visit) (mode : ℕ) (bytes : List ℕ) (no_part : IsNoPart h output (place_of h (below output x.named.relative))) (t u : Tree) (keeps : KeepsAll h output t u) where
  settled_kept : (IsFree h output x.named.relative t → IsFree h output x.named.relative u) → Settled h task output x.named.relative mode bytes t → Settled h task output x.named.relative mode bytes u
  settled_kept frees s = record {
    end = s.end;
    ends = s.ends;
    made = λ is. made_kept h task output x.named.relative mode bytes t u no_part keeps (s.made is);
    free = λ is. frees (s.free is);
  }

  by_stage : (IsFree h output x.named.relative t → IsFree h output x.named.relative u) → Stage h task output x.named.relative mode bytes t → Stage h task output x.named.relative mode bytes u
  by_stage frees (inl free) = inl (frees free)
  by_stage frees (inr s) = inr (settled_kept frees s)

  -- a name that is no file, or has another output
  aside : (v : Visit) → v ≢ x → (IsFree h output x.named.relative t → IsFree h output x.named.relative u) → Stepped (Stage h task output x.named.relative mode bytes) (Settled h task output x.named.relative mode bytes) x v (Unit {0}) t u
  aside v other frees = record {
    stage = by_stage frees;
    keeps = settled_kept frees;
    came = λ is it s. absurd (other is);
  }

  -- the file itself, or one like it
  again_by : (b : Bool) (s : Settled h task output x.named.relative mode bytes t) → end_written s.end ≡ b → (IsFree h output x.named.relative t → Settled h task output x.named.relative mode bytes u) → Settled h task output x.named.relative mode bytes u
  again_by true s is settle = record {
    end = s.end;
    ends = s.ends;
    made = λ it. made_kept h task output x.named.relative mode bytes t u no_part keeps (s.made it);
    free = λ not. true_false (end_written s.end) is not;
  }
  again_by false s is settle = settle (s.free is)

  any_stage : (IsFree h output x.named.relative t → Settled h task output x.named.relative mode bytes u) → Stage h task output x.named.relative mode bytes t → Settled h task output x.named.relative mode bytes u
  any_stage settle (inl free) = settle free
  any_stage settle (inr s) = again_by (end_written s.end) s refl settle

  itself : (v : Visit) → (IsFree h output x.named.relative t → Settled h task output x.named.relative mode bytes u) → Stepped (Stage h task output x.named.relative mode bytes) (Settled h task output x.named.relative mode bytes) x v (Unit {0}) t u
  itself v settle = record {
    stage = λ s. inr (any_stage settle s);
    keeps = λ s. any_stage settle (inr s);
    came = λ is it s. any_stage settle s;
  }

-- ---- where it is

module _ {I O : Type 0} (h : Host I O) (part output : List ℕ) (number : ℕ) (part_is : part ≡ below output (part_name number)) (relative : List ℕ) (place : HasOwnPlace h output relative) where
  -- nothing of a name that is not written is at its own output
  pub own : (IsNamed : Type 0) → (IsNamed → ⊥) → IsUntouched h part output relative relative IsNamed
  own IsNamed none = record {
    no_part = λ is. place.no_part number (is ∙ ap (place_of h) part_is);
    no_output = λ it. absurd (none it);
    on_no_way = λ way. (place.way way.folder way.behind way.cut).1 (sym way.is);
    way_no_part = λ folder behind cut is. (place.way folder behind cut).0 number (is ∙ ap (place_of h) part_is);
    way_no_output = λ folder behind cut it. absurd (none it);
  }

  pub apart : (other : List ℕ) (IsNamed : Type 0) → IsAside h output relative other → IsAside h output other relative → IsUntouched h part output relative other IsNamed
  apart other IsNamed a b = record {
    no_part = λ is. place.no_part number (is ∙ ap (place_of h) part_is);
    no_output = λ it. a.place;
    on_no_way = λ way. a.way way.folder way.behind way.cut way.is;
    way_no_part = λ folder behind cut is. (place.way folder behind cut).0 number (is ∙ ap (place_of h) part_is);
    way_no_output = λ folder behind cut it is. b.way folder behind cut (sym is);
  }

no_file_not : (x : Visit) (mode : ℕ) → x.what ≡ File mode → (n : Named) (what : What) → ((c : ℕ) → what ≢ File c) → visit_of n what ≢ x
no_file_not x mode of_file n what not is = not mode (ap (λ (v : Visit). v.what) is ∙ of_file)

aside_not : {I O : Type 0} (h : Host I O) (output : List ℕ) (x : Visit) (n : Named) (what : What) → IsAside h output x.named.relative n.relative → visit_of n what ≢ x
aside_not h output x n what a is = a.place (ap (λ (v : Visit). place_of h (below output v.named.relative)) (sym is))

-- ---- a name that is done

module _ {I O : Type 0} (h : Host I O) (r : Reader I) (w : Writer O) (k : Manner) (number : ℕ) (part_is : k.part ≡ below k.output (part_name number)) where
  pub of_output : IsNear k.output k.part
  of_output = near (part_name number) part_is

  pub idle_at : (s : FileSystem) → s.written ≡ None → IsIdle h (IsOutput h (as_whole h r) w) k.part k.output idle s s
  idle_at s none = record { none = none; of_output = of_output; steps = no_step refl refl }

  -- the output of a file that was written
  file_gives : GivesAll h (as_whole h r) w → (n : Named) (mode : ℕ) (bytes : List ℕ) (before : FileSystem) → HasBytes h k.output before.now (visit_of n (File mode)) bytes → FileGives h (Whole h k.task mode bytes) (as_whole h r) w k.task n.path mode before
  file_gives all n mode bytes before has = λ job mid f input opened o left made written ending new finished done. (
    refl,
    (answered h (as_whole h r) w all k.task n.path before mid job input opened left made written ending f o new finished done bytes
        (λ input opened o. opens_holds h n.path before input opened o has.file.file has.file.is has.file.kind ∙ has.bytes_are)).answered,
  )

module _ {I O F E : Type 0} (h : Host I O) (r : Reader I) (w : Writer O) (e : Writer E) (k : Manner) where
  pub over_does : (n : Named) (what : What) (from : E) (before : FileSystem) (result : Result Done RunStop) (to : E) (after : FileSystem) → DoesName (working {F = F} h r w e) k n what from before result to after → DoesName (over {F = F} h (as_whole h r) w e) k n what from before result to after
  over_does n what from before result to after does = works.does_name (working {F = F} h r w e) (may_do h) (working_also h r w) (folders_do {F = F} h) (working_can {F = F} h) k n what from before result to after does

  pub unchanged : (n : Named) (what : What) (from : E) (before : FileSystem) (result : Result Done RunStop) (to : E) (after : FileSystem) → ((c : ℕ) → what ≢ File c) → DoesName (working {F = F} h r w e) k n what from before result to after → after ≡ before
  unchanged n what from before result to after not (files.a_file c is does) = absurd (not c is)
  unchanged n what from before result to after not (files.no_file other told is same) = same

  pub index_same : (n : Named) (what : What) (from : E) (before : FileSystem) (result : Result Done RunStop) (to : E) (after : FileSystem) → is_media_index n.relative ≡ true → DoesName (working {F = F} h r w e) k n what from before result to after → after ≡ before
  index_same n what from before result to after index (files.a_file c is (files.an_index it told x same)) = same
  index_same n what from before result to after index (files.a_file c is (files.keeps_name became not kept does x)) = true_false (is_media_index n.relative) index not
  index_same n what from before result to after index (files.a_file c is (files.by_instance not kept does)) = true_false (is_media_index n.relative) index not
  index_same n what from before result to after index (files.no_file other told is same) = same

  module _ (number : ℕ) (part_is : k.part ≡ below k.output (part_name number)) where
    pub name_leaves : (n : Named) (what : What) (from : E) (before : FileSystem) (result : Result Done RunStop) (to : E) (after : FileSystem) → before.written ≡ None → DoesName (working {F = F} h r w e) k n what from before result to after → Leaves h k.part k.output before after
    name_leaves n what from before result to after none does =
        leaves h (IsOutput h (as_whole h r) w) k.part k.output before after none (of_output h r w k number part_is) (does_name {F = F} h (as_whole h r) w e k n what from before result to after (over_does n what from before result to after does))

    pub name_keeps : (n : Named) (what : What) (from : E) (before : FileSystem) (result : Result Done RunStop) (to : E) (after : FileSystem) → before.written ≡ None → DoesName (working {F = F} h r w e) k n what from before result to after → KeepsAll h k.output before.now after.now
    name_keeps n what from before result to after none does = stays_keeps h k.part k.output number before.now after.now part_is (name_leaves n what from before result to after none does).stays

    pub touches : (n : Named) (what : What) (from : E) (before : FileSystem) (done : Done) (to : E) (after : FileSystem) → k.keeps_names ≡ true → before.written ≡ None → DoesName (working {F = F} h r w e) k n what from before (Ok done) to after
        → Touches h k.part k.output n.relative (is_written done.fate ≡ true) before.now after.now
    touches n what from before done to after keeps none does =
        name_touches {F = F} h (as_whole h r) w e k n what from before (Ok done) to after done keeps (idle_at h r w k number part_is before none) (over_does n what from before (Ok done) to after does) refl

    pub written_out : GivesAll h (as_whole h r) w → (n : Named) (mode : ℕ) (bytes : List ℕ) (from : E) (before : FileSystem) (done : Done) (to : E) (after : FileSystem) → before.written ≡ None → HasBytes h k.output before.now (visit_of n (File mode)) bytes
        → DoesName (working {F = F} h r w e) k n (File mode) from before (Ok done) to after → is_written done.fate ≡ true → IsMade h k.task k.output (name_in n.relative done.instance) mode bytes after.now
    written_out all n mode bytes from before done to after none has does written =
        made_of h k.task k.part k.output (name_in n.relative done.instance) mode bytes after.now
        (name_out {F = F} h (Whole h k.task mode bytes) (as_whole h r) w e k n (File mode) from before before (Ok done) to after done
        (λ other is. subst (λ (c : ℕ). FileGives h (Whole h k.task mode bytes) (as_whole h r) w k.task n.path c before) (same_mode mode other is) (file_gives h r w k number part_is all n mode bytes before has))
        (record { none = none; of_output = of_output h r w k number part_is; steps = no_step refl refl }) (over_does n (File mode) from before (Ok done) to after does) refl written).name.out

    out_now : GivesAll h (as_whole h r) w → (n : Named) (mode : ℕ) (bytes : List ℕ) (from : E) (before : FileSystem) (done : Done) (to : E) (after : FileSystem) → k.keeps_names ≡ true → before.written ≡ None → HasBytes h k.output before.now (visit_of n (File mode)) bytes
        → DoesName (working {F = F} h r w e) k n (File mode) from before (Ok done) to after → is_written done.fate ≡ true → IsMade h k.task k.output n.relative mode bytes after.now
    out_now all n mode bytes from before done to after keeps none has does written =
        let by : ByName k n done = name_by {F = F} h (as_whole h r) w e k n (File mode) from before (Ok done) to after done keeps (over_does n (File mode) from before (Ok done) to after does) refl written in
        subst (λ (i : _). IsMade h k.task k.output (name_in n.relative i) mode bytes after.now) by.its (written_out all n mode bytes from before done to after none has does written)

    -- ---- beside another one

    module _ (all : GivesAll h (as_whole h r) w) (keeps_names : k.keeps_names ≡ true) (first : Tree) (x : Visit) (mode : ℕ) (bytes : List ℕ) (named : IsNameOf h k.output first x mode bytes) where
      settled_by : (n : Named) (from : E) (before : FileSystem) (done : Done) (to : E) (after : FileSystem) → before.written ≡ None → n.relative ≡ x.named.relative → HasBytes h k.output before.now (visit_of n (File mode)) bytes
          → DoesName (working {F = F} h r w e) k n (File mode) from before (Ok done) to after → IsFree h k.output x.named.relative before.now → Settled h k.task k.output x.named.relative mode bytes after.now
      settled_by n from before done to after none name has does free =
          let clear : Frees h k n.relative = subst (Frees h k) (sym name) (own h k.part k.output number part_is x.named.relative named.own ⊥ (λ it. it)) in
          let fate : Fated k.task bytes done.fate = fated {F = F} h r w e all k n clear (subst IsUtf8 (sym part_is) (named.parts.text number)) (of_output h r w k number part_is) has.text bytes mode from before done to after keeps_names (ap is_media_index name ∙ named.no_index)
          (record { file = has.file; bytes_are = has.bytes_are }) (idle_at h r w k number part_is before none) (subst (λ (p : List ℕ). IsFree h k.output p before.now) (sym name) free) does in
          record {
            end = fate.end;
            ends = fate.ends;
            made = λ is. subst (λ (p : List ℕ). IsMade h k.task k.output p mode bytes after.now) name (out_now all n mode bytes from before done to after keeps_names none has does (ap is_written fate.is ∙ is));
            free = λ is. free_stays h k.part k.output x.named.relative x.named.relative (is_written done.fate ≡ true)
                (own h k.part k.output number part_is x.named.relative named.own (is_written done.fate ≡ true) (λ was. true_false (is_written done.fate) was (ap is_written fate.is ∙ is))) before.now after.now
                (subst (λ (p : List ℕ). Touches h k.part k.output p (is_written done.fate ≡ true) before.now after.now) name (touches n (File mode) from before done to after keeps_names none does)) free;
          }

      pub step : (n : Named) (what : What) (from : E) (before : FileSystem) (done : Done) (to : E) (after : FileSystem) → before.written ≡ None → GoesBeside h k.output before.now x bytes (visit_of n what)
          → DoesName (working {F = F} h r w e) k n what from before (Ok done) to after → Stepped (Stage h k.task k.output x.named.relative mode bytes) (Settled h k.task k.output x.named.relative mode bytes) x (visit_of n what) (Unit {0}) before.now after.now
      step n what from before done to after none (no_file not) does =
          aside h k.task k.output x mode bytes named.own.no_part before.now after.now (name_keeps n what from before (Ok done) to after none does) (visit_of n what) (no_file_not x mode named.of_file n what not)
          (λ free. subst (λ (s : FileSystem). IsFree h k.output x.named.relative s.now) (sym (unchanged n what from before (Ok done) to after not does)) free)
      step n what from before done to after none (other_output a b) does =
          aside h k.task k.output x mode bytes named.own.no_part before.now after.now (name_keeps n what from before (Ok done) to after none does) (visit_of n what) (aside_not h k.output x n what a)
          (λ free. free_stays h k.part k.output x.named.relative n.relative (is_written done.fate ≡ true) (apart h k.part k.output number part_is x.named.relative named.own n.relative (is_written done.fate ≡ true) a b) before.now after.now
          (touches n what from before done to after keeps_names none does) free)
      step n what from before done to after none (same_output name is has) does =
          itself h k.task k.output x mode bytes named.own.no_part before.now after.now (name_keeps n what from before (Ok done) to after none does) (visit_of n what)
          (λ free. settled_by n from before done to after none name (subst (λ (y : What). HasBytes h k.output before.now (visit_of n y) bytes) (is ∙ named.of_file) has)
          (subst (λ (y : What). DoesName (working {F = F} h r w e) k n y from before (Ok done) to after) (is ∙ named.of_file) does) free)
