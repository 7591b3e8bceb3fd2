-- A run over a tree is refused, or its names are visited from a state in which it was begun.
use Rattle.std.specs.Prelude.{◌≢◌}
use Rattle.std.proofs.Common.{◌≡◌, ◌∙◌, refl, sym, ap, subst, inl, inr, ◌⊎◌, ℕ, List, Bool, true, false, Option, Some, None, Result, Ok, Err}
use Rattle.arrayvec.specs.ArrayVec.{ArrayVec}
use Rattle.std.specs.declared.io.Error.{Error}
use Rattle.dcm_devices.specs.Writing.{Writer}
use Rattle.dcm_files.specs.Devices as devices
use Rattle.dcm_files.specs.Devices.{MayDo, OpensInput}
use Rattle.dcm_files.specs.Folders.{FoldersDo}
use Rattle.dcm_files.specs.declared.folders.Found.{Found}
use Rattle.dcm_files.specs.declared.folders.FoundKind.TheVariants.{File, Folder}
use Rattle.dcm_files.specs.declared.folders.Links.TheVariants.{Followed}
use Rattle.dcm_files.specs.declared.opened.Opened.{Opened}
use Rattle.dcm_tree_words.specs.Trees.{Source, folder, list}
use Rattle.dcm_tree_words.specs.declared.said.TreeOptions.{TreeOptions}
use Rattle.dcm_cli.specs.Calls.{Reader}
use Rattle.dcm_lemmas.proofs.Options.{one_value}
use Rattle.dcm_walk.specs.Names.{below}
use Rattle.dcm_walk.specs.declared.folder.FolderNumber.{FolderNumber}
use Rattle.dcm_trees.specs.declared.beginning.Begun.{Begun}
use Rattle.dcm_trees.specs.declared.beginning.Refusal.{Refusal}
use Rattle.dcm_trees.specs.declared.beginning.Spared.{Spared}
use Rattle.dcm_trees.specs.declared.run.TreeRun.{TreeRun}
use Rattle.dcm_trees.specs.Beginning as beginning
use Rattle.dcm_trees.specs.Beginning.{MakesFolder, MakesOutput, MakesApart, HasOutput, ClearsWay, ChecksUse, IsPart, Begins, parent_of}
use Rattle.dcm_trees.specs.Modes.{Modes}
use Rattle.dcm_trees.specs.Tree as spec
use Rattle.dcm_trees.specs.Tree.{OpensFolder, OpensTree, VisitsFolder, VisitsList, DoesOpened, DoesFolder, DoesNames, DoesList, DoesTree, part_of, spared_of, spared_with}
use Rattle.dcm_trees.specs.World.{World}
use Rattle.dcm_tree_laws.specs.Again.{sure, over_sure}
use Rattle.dcm_tree_laws.specs.Course as course
use Rattle.dcm_tree_laws.specs.Course.{IsMade, IsCleared, IsTried, OnlyOutput, IsNumberAt, TellsLeft, nothing_told, Ready, ComesTo, EachBeginsSo, RunsBeginSo, RunsOfHeldBeginSo, SureRunsBeginSo, WorkingRunsBeginSo}
use Rattle.dcm_tree_laws.specs.Determined.{working, working_may, working_folders}
use Rattle.dcm_tree_laws.specs.FileSystem as files
use Rattle.dcm_tree_laws.specs.FileSystem.{FileSystem, Tree, Host, SameBytes, number_of, begins, may_do, folders_do, place_of, at_path}
use Rattle.dcm_tree_laws.specs.Laws.{over, part_path}
use Rattle.dcm_tree_laws.specs.Single.{as_held}
use Rattle.dcm_tree_laws.proofs.Beginnings.{numbers, climbs, is_there, numbers_folder, compares, checks_use, use_well, is_part, begins_told}
use Rattle.dcm_tree_laws.proofs.Clearing as clearing
use Rattle.dcm_tree_laws.proofs.Clearing.{FoldersOver, InputsOver, folders_over, inputs_over, Clearing, IsClear, way_clearing, way_clear}
use Rattle.dcm_tree_laws.proofs.Given.{is_file}
use Rattle.dcm_tree_laws.proofs.Left.{sure_quiet}
use Rattle.dcm_tree_laws.proofs.Looking.{finds_mode, same_ok}
use Rattle.dcm_tree_laws.proofs.NumberAt.{FolderThere, has_at, folder_there}
use Rattle.dcm_tree_laws.proofs.Onwards.{calls_quiet}
use Rattle.dcm_tree_laws.proofs.Quiet.{Quiet}
use Rattle.dcm_tree_laws.proofs.Runs.{begun_part}
use Rattle.dcm_tree_laws.proofs.Trying as trying
use Rattle.dcm_tree_laws.proofs.Trying.{Tried, TriedWell, Trying, tried_there, tried_none, tried_unremoved, tried_elsewhere, tried_bytes}

-- ---- worlds over a file system

sure_over : {I O F : Type 0} (h : Host I O) → FoldersOver h (sure (folders_do {F = F} h))
sure_over h = record {
  quiet = sure_quiet h;
  finds = λ before path links found after call. call.0.0;
  makes = λ before path mode r after call. call;
  makes_as = λ before path mode r after call. call.0;
}

working_over : {I O F : Type 0} (h : Host I O) → FoldersOver h (working_folders h (sure (folders_do {F = F} h)))
working_over {I} {O} {F} h = record {
  quiet = calls_quiet F h;
  finds = λ before path links found after call. call.0.0;
  makes = λ before path mode r after call. call.0;
  makes_as = λ before path mode r after call. call.0.0;
}

working_inputs : {I O : Type 0} (h : Host I O) (r : Reader I) (w : Writer O) → InputsOver h (working_may h r w (may_do h))
working_inputs h r w = record {
  stdin = λ before o after call. call;
  opens = λ before path result after call. call.0.0;
  releases = λ before input after call. call;
  seizes = λ before path result after call. call;
  holds = λ before path is_held after call. call;
  removes = λ before path result after call. call;
  closes = λ before output result after call. (h.took output, h.took output, call.0);
}

-- ---- what is opened

opens_folder : {S O F : Type 0} (d : FoldersDo S O F) → Quiet d → (path : List ℕ) (before : S) (opened : Option F) (after : S) → OpensFolder d path before opened after → after ≡ before
opens_folder d quiet path before opened after (spec.no_text t is same) = same
opens_folder d quiet path before opened after (spec.not_opened e t call is) = quiet.opens before path (Err e) after call
opens_folder d quiet path before opened after (spec.was_opened f t call is) = quiet.opens before path (Ok f) after call

pub opens_tree : {S O F : Type 0} (d : FoldersDo S O F) → Quiet d → (path : List ℕ) (before : S) (opened : Option F) (after : S) → OpensTree d path before opened after → after ≡ before
opens_tree d quiet path before opened after (spec.followed own is o) = opens_folder d quiet own before opened after o
opens_tree d quiet path before opened after (spec.too_long is o) = opens_folder d quiet path before opened after o

opens_input : {I O : Type 0} {h : Host I O} (may : MayDo FileSystem I O) → InputsOver h may → (path : List ℕ) (before : FileSystem) (r : Result (Opened I) Error) (after : FileSystem) → OpensInput may path before r after → after ≡ before
opens_input may is_over path before r after (devices.stream d is call i) = is_over.stdin before d after call
opens_input may is_over path before r after (devices.no_text e is t k i same) = same
opens_input may is_over path before r after (devices.refused e is t call i) = is_over.opens before path (Err e) after call
opens_input may is_over path before r after (devices.directory d e had is t call k back k2 i) = is_over.releases had d.device after back ∙ is_over.opens before path (Ok d) had call
opens_input may is_over path before r after (devices.opened d is t call k i) = is_over.opens before path (Ok d) after call

-- ---- one after another

then_name : {I O : Type 0} (h : Host I O) (output place : List ℕ) (a b c : Tree) → (b.at place ≡ a.at place) ⊎ IsMade h output place a b → (c.at place ≡ b.at place) ⊎ IsMade h output place b c → (c.at place ≡ a.at place) ⊎ IsMade h output place a c
then_name h output place a b c (inl e) (inl f) = inl (f ∙ e)
then_name h output place a b c (inl e) (inr m) = inr (record { of_output = m.of_output; nothing = sym e ∙ m.nothing; made = m.made; is = m.is; kind = m.kind })
then_name h output place a b c (inr m) (inl f) = inr (record { of_output = m.of_output; nothing = m.nothing; made = m.made; is = f ∙ m.is; kind = m.kind })
then_name h output place a b c (inr m) (inr n) = inr (record { of_output = m.of_output; nothing = m.nothing; made = n.made; is = n.is; kind = n.kind })

-- no more was done than to make that folder: at each other place is what was there, and each file has its bytes
record OnlyMade {I O : Type 0} (h : Host I O) (output : List ℕ) (start now : Tree) : Type 0 where
  names : (place : List ℕ) → (now.at place ≡ start.at place) ⊎ IsMade h output place start now
  bytes : SameBytes start now

-- and else the file system is as it was
record Only {I O : Type 0} (h : Host I O) (output : List ℕ) (before after : FileSystem) : Type 0 where
  written : after.written ≡ before.written
  unremoved : after.unremoved ≡ before.unremoved
  only : OnlyMade h output before.now after.now

still_only : {I O : Type 0} (h : Host I O) (output : List ℕ) (before after : FileSystem) → after ≡ before → Only h output before after
still_only h output before after same = record {
  written = ap (λ (s : FileSystem). s.written) same;
  unremoved = ap (λ (s : FileSystem). s.unremoved) same;
  only = record { names = λ place. inl (ap (λ (s : FileSystem). s.now.at place) same); bytes = λ n. ap (λ (s : FileSystem). s.now.bytes n) same };
}

then_only : {I O : Type 0} (h : Host I O) (output : List ℕ) (a b c : FileSystem) → Only h output a b → Only h output b c → Only h output a c
then_only h output a b c first second = record {
  written = second.written ∙ first.written;
  unremoved = second.unremoved ∙ first.unremoved;
  only = record {
    names = λ place. then_name h output place a.now b.now c.now (first.only.names place) (second.only.names place);
    bytes = λ n. second.only.bytes n ∙ first.only.bytes n;
  };
}

-- ---- the beginning

made_name : {I O : Type 0} {mode : ℕ} (h : Host I O) (output place : List ℕ) (before after : FileSystem) → files.MakesFolder h output mode before after → (place ≡ place_of h output) ⊎ (after.now.at place ≡ before.now.at place)
    → (after.now.at place ≡ before.now.at place) ⊎ IsMade h output place before.now after.now
made_name h output place before after makes (inl e) = inr (record { of_output = e; nothing = ap before.now.at e ∙ makes.nothing; made = makes.made; is = ap after.now.at e ∙ makes.puts.there; kind = makes.kind })
made_name h output place before after makes (inr e) = inl e

made_only : {I O : Type 0} {mode : ℕ} (h : Host I O) (output : List ℕ) (before after : FileSystem) → files.MakesFolder h output mode before after → Only h output before after
made_only h output before after call = record {
  written = call.notes.written_is;
  unremoved = call.notes.unremoved_is;
  only = record { names = λ place. made_name h output place before after call (call.puts.elsewhere place); bytes = call.bytes };
}

module _ {I O F : Type 0} (h : Host I O) (d : FoldersDo FileSystem O F) (is_over : FoldersOver h d) where
  folder_only : (output : List ℕ) (mode : ℕ) (before : FileSystem) (r : Result (Unit {0}) Refusal) (after : FileSystem) → MakesFolder d output mode before r after → Only h output before after
  folder_only output mode before r after (beginning.no_text t is same) = still_only h output before after same
  folder_only output mode before r after (beginning.made t call is) = made_only h output before after (is_over.makes before output mode (Ok _) after call)
  folder_only output mode before r after (beginning.was_there e t call k is) = still_only h output before after (is_over.makes before output mode (Err e) after call)
  folder_only output mode before r after (beginning.not_made e t call k is) = still_only h output before after (is_over.makes before output mode (Err e) after call)

  output_only : {modes : Modes} (output : List ℕ) (before : FileSystem) (r : Result FolderNumber Refusal) (after : FileSystem) → MakesOutput d modes output before r after → Only h output before after
  output_only output before r after (beginning.no_mode n f is) = still_only h output before after (finds_mode d is_over.quiet before (Err n) after f)
  output_only output before r after (beginning.not_made mode refusal seen f m is) =
      then_only h output before seen after (still_only h output before seen (finds_mode d is_over.quiet before (Ok mode) seen f)) (folder_only output mode seen (Err refusal) after m)
  output_only output before r after (beginning.made mode seen mid f m n) =
      then_only h output before mid after
      (then_only h output before seen mid (still_only h output before seen (finds_mode d is_over.quiet before (Ok mode) seen f)) (folder_only output mode seen (Ok _) mid m)) (still_only h output mid after (numbers_folder d is_over.quiet output mid r after n))

  apart_only : (input : List ℕ) (is_list : Bool) (output : List ℕ) (before : FileSystem) (r : Result FolderNumber Refusal) (after : FileSystem) → MakesApart d input is_list output before r after
      → Only h output before after
  apart_only input is_list output before r after (beginning.not_numbered refusal n is) = still_only h output before after (numbers d is_over.quiet input before (Err refusal) after n)
  apart_only input is_list output before r after (beginning.not_climbed read refusal mid n c is) =
      still_only h output before after (climbs d is_over.quiet (parent_of output) read mid (Err refusal) after c ∙ numbers d is_over.quiet input before (Ok read) mid n)
  apart_only input is_list output before r after (beginning.within read way mid n c k is) =
      still_only h output before after (climbs d is_over.quiet (parent_of output) read mid (Ok way) after c ∙ numbers d is_over.quiet input before (Ok read) mid n)
  apart_only input is_list output before r after (beginning.made read way mid was n c k m) =
      then_only h output before was after
      (still_only h output before was (climbs d is_over.quiet (parent_of output) read mid (Ok way) was c ∙ numbers d is_over.quiet input before (Ok read) mid n))
      (output_only output was r after m)

  has_only : (input : List ℕ) (is_list : Bool) (output : List ℕ) (before : FileSystem) (r : Result FolderNumber Refusal) (after : FileSystem) → HasOutput d input is_list output before r after
      → Only h output before after
  has_only input is_list output before r after (beginning.not_looked refusal l is) = still_only h output before after (is_there d is_over.quiet output before (Err refusal) after l)
  has_only input is_list output before r after (beginning.was_there looked l c) =
      still_only h output before after (compares d is_over.quiet input is_list output looked r after c ∙ is_there d is_over.quiet output before (Ok true) looked l)
  has_only input is_list output before r after (beginning.not_there looked l m) =
      then_only h output before looked after (still_only h output before looked (is_there d is_over.quiet output before (Ok false) looked l)) (apart_only input is_list output looked r after m)

-- ---- it was removed, or was not there

cleared_name : {I O : Type 0} (h : Host I O) (output part place : List ℕ) (start mid after : Tree) (was : Found) → mid.at (place_of h part) ≡ Some was → was.kind ≡ File → after.at (place_of h part) ≡ None → (mid.at place ≡ start.at place) ⊎ IsMade h output place start mid
    → (place ≡ place_of h part) ⊎ (after.at place ≡ mid.at place) → (after.at place ≡ start.at place) ⊎ (IsMade h output place start after ⊎ (IsCleared h part place start after ⊎ IsTried h part place after))
cleared_name h output part place start mid after was there kind none (inl e) (inl at) = inr (inr (inl (record { of_part = at; was = was; was_there = sym e ∙ (ap mid.at at ∙ there); kind = kind; gone = ap after.at at ∙ none })))
cleared_name h output part place start mid after was there kind none (inr m) (inl at) =
    absurd (is_file was kind (subst (λ (f : Found). f.kind ≡ Folder) (one_value (mid.at place) m.made was m.is (ap mid.at at ∙ there)) m.kind))
cleared_name h output part place start mid after was there kind none (inl e) (inr same) = inl (same ∙ e)
cleared_name h output part place start mid after was there kind none (inr m) (inr same) = inr (inl (record { of_output = m.of_output; nothing = m.nothing; made = m.made; is = same ∙ m.is; kind = m.kind }))

made_or : {A B C : Type 0} → A ⊎ B → A ⊎ (B ⊎ C)
made_or (inl a) = inl a
made_or (inr b) = inr (inl b)

same_now : {I O : Type 0} (h : Host I O) (output part : List ℕ) (start mid after : Tree) → after ≡ mid → OnlyMade h output start mid → OnlyOutput h output part start after
same_now h output part start mid after same only = subst (OnlyOutput h output part start) (sym same) (record { names = λ place. made_or (only.names place); bytes = λ place f apart is. only.bytes (number_of f) })

then_cleared : {I O : Type 0} (h : Host I O) (output part : List ℕ) (start : Tree) (mid after : FileSystem) → OnlyMade h output start mid.now → Clearing h part mid after → OnlyOutput h output part start after.now
then_cleared h output part start mid after only (clearing.still same) = same_now h output part start mid.now after.now (ap (λ (s : FileSystem). s.now) same) only
then_cleared h output part start mid after only (clearing.failed held is) = same_now h output part start mid.now after.now (ap (λ (s : FileSystem). s.now) is) only
then_cleared h output part start mid after only (clearing.gone was there kind removes) = record {
  names = λ place. cleared_name h output part place start mid.now after.now was there kind removes.puts.there (only.names place) (removes.puts.elsewhere place);
  bytes = λ place f apart is. removes.bytes (number_of f) ∙ only.bytes (number_of f);
}

left_same : {I O : Type 0} (h : Host I O) (output part : List ℕ) (start : Tree) (before now : FileSystem) → now ≡ before → OnlyOutput h output part start before.now → OnlyOutput h output part start now.now
left_same h output part start before now same only = subst (λ (s : FileSystem). OnlyOutput h output part start s.now) (sym same) only

-- the folder of the outputs is still there
number_by : {I O : Type 0} (h : Host I O) (output part : List ℕ) (number : FolderNumber) (before after : FileSystem) → FolderThere h output before.now → Clearing h part before after → IsNumberAt h before.now output number → IsNumberAt h after.now output number
number_by h output part number before after there (clearing.still same) at = subst (λ (s : FileSystem). IsNumberAt h s.now output number) (sym same) at
number_by h output part number before after there (clearing.failed held is) at = subst (λ (t : Tree). IsNumberAt h t output number) (sym (ap (λ (s : FileSystem). s.now) is)) at
number_by h output part number before after there (clearing.gone was file kind removes) at = record {
  found = at.found;
  is = not_cleared before.now (h.leads Followed output) (place_of h part) there.found was there.is there.kind file kind (removes.puts.elsewhere (h.leads Followed output)) ∙ at.is;
  device_is = at.device_is;
  number_is = at.number_is;
}
  where
    not_cleared : {A : Type 0} (t : Tree) (place other : List ℕ) (one was : Found) → t.at place ≡ Some one → one.kind ≡ Folder → t.at other ≡ Some was → was.kind ≡ File → (place ≡ other) ⊎ A → A
    not_cleared t place other one was is folders at kind (inl e) = absurd (is_file was kind (subst (λ (f : Found). f.kind ≡ Folder) (one_value (t.at place) one was is (ap t.at e ∙ at)) folders))
    not_cleared t place other one was is folders at kind (inr same) = same

-- ---- a part was made to be looked at

-- at a place is still what was there, where that is not of the part
still_name : {I O : Type 0} (h : Host I O) (output part place : List ℕ) (start mid after : Tree) → after.at place ≡ mid.at place
    → (mid.at place ≡ start.at place) ⊎ (IsMade h output place start mid ⊎ (IsCleared h part place start mid ⊎ IsTried h part place mid)) → (after.at place ≡ start.at place) ⊎ (IsMade h output place start after ⊎ (IsCleared h part place start after ⊎ IsTried h part place after))
still_name h output part place start mid after same (inl e) = inl (same ∙ e)
still_name h output part place start mid after same (inr (inl m)) = inr (inl (record { of_output = m.of_output; nothing = m.nothing; made = m.made; is = same ∙ m.is; kind = m.kind }))
still_name h output part place start mid after same (inr (inr (inl c))) = inr (inr (inl (record { of_part = c.of_part; was = c.was; was_there = c.was_there; kind = c.kind; gone = same ∙ c.gone })))
still_name h output part place start mid after same (inr (inr (inr t))) = inr (inr (inr (record { of_part = t.of_part; made = t.made; is = same ∙ t.is; kind = t.kind })))

was_name : {I O : Type 0} (h : Host I O) (output part place : List ℕ) (start mid : Tree) (f : Found) → start.at place ≡ Some f → place ≢ place_of h part
    → (mid.at place ≡ start.at place) ⊎ (IsMade h output place start mid ⊎ (IsCleared h part place start mid ⊎ IsTried h part place mid)) → mid.at place ≡ Some f
was_name h output part place start mid f is apart (inl e) = e ∙ is
was_name h output part place start mid f is apart (inr (inl m)) = absurd (let no : Some f ≡ None = sym is ∙ m.nothing in cc)
was_name h output part place start mid f is apart (inr (inr (inl c))) = absurd (apart c.of_part)
was_name h output part place start mid f is apart (inr (inr (inr t))) = absurd (apart t.of_part)

-- where it is removed, each place is as it was
gone_place : {I O : Type 0} {h : Host I O} {part : List ℕ} {before closed after : FileSystem} (t : Tried h part before closed) → files.Removes h part closed after → (place : List ℕ) → (place ≡ place_of h part) ⊎ (closed.now.at place ≡ before.now.at place)
    → (place ≡ place_of h part) ⊎ (after.now.at place ≡ closed.now.at place) → after.now.at place ≡ before.now.at place
gone_place {I} {O} {h} {part} {before} {closed} {after} t r place first (inl at) = ap after.now.at at ∙ (r.puts.there ∙ sym (ap before.now.at at ∙ t.makes.nothing))
gone_place {I} {O} {h} {part} {before} {closed} {after} t r place (inl at) (inr same) = ap after.now.at at ∙ (r.puts.there ∙ sym (ap before.now.at at ∙ t.makes.nothing))
gone_place t r place (inr was) (inr same) = same ∙ was

well_place : {I O : Type 0} {h : Host I O} {part : List ℕ} {before after : FileSystem} → TriedWell h part before after → (place : List ℕ) → after.now.at place ≡ before.now.at place
well_place (trying.still same) place = ap (λ (s : FileSystem). s.now.at place) same
well_place (trying.gone closed t r) place = gone_place t r place (tried_elsewhere t place) (r.puts.elsewhere place)

stays_name : {I O : Type 0} (h : Host I O) (output part place : List ℕ) (start mid after : Tree) (made : Found) → after.at (place_of h part) ≡ Some made → made.kind ≡ File → (place ≡ place_of h part) ⊎ (after.at place ≡ mid.at place)
    → (mid.at place ≡ start.at place) ⊎ (IsMade h output place start mid ⊎ (IsCleared h part place start mid ⊎ IsTried h part place mid)) → (after.at place ≡ start.at place) ⊎ (IsMade h output place start after ⊎ (IsCleared h part place start after ⊎ IsTried h part place after))
stays_name h output part place start mid after made there kind (inl at) was = inr (inr (inr (record { of_part = at; made = made; is = ap after.at at ∙ there; kind = kind })))
stays_name h output part place start mid after made there kind (inr same) was = still_name h output part place start mid after same was

then_tried : {I O : Type 0} (h : Host I O) (output part : List ℕ) (start : Tree) (mid after : FileSystem) → OnlyOutput h output part start mid.now → Trying h part mid after → OnlyOutput h output part start after.now
then_tried h output part start mid after only (trying.well (trying.still same)) = left_same h output part start mid after same only
then_tried h output part start mid after only (trying.well (trying.gone closed t r)) = record {
  names = λ place. still_name h output part place start mid.now after.now (well_place (trying.gone closed t r) place) (only.names place);
  bytes = λ place f apart is. r.bytes (number_of f) ∙ (tried_bytes t place f (was_name h output part place start mid.now f is apart (only.names place)) ∙ only.bytes place f apart is);
}
then_tried h output part start mid after only (trying.stays closed t noted) =
    let now_is : after.now ≡ closed.now = ap (λ (s : FileSystem). s.now) noted in
    subst (OnlyOutput h output part start) (sym now_is) (record {
      names = λ place. stays_name h output part place start mid.now closed.now t.makes.made (tried_there t) t.makes.kind (tried_elsewhere t place) (only.names place);
      bytes = λ place f apart is. tried_bytes t place f (was_name h output part place start mid.now f is apart (only.names place)) ∙ only.bytes place f apart is;
    })

module _ {I O F E : Type 0} (h : Host I O) (may : MayDo FileSystem I O) (inputs : InputsOver h may) (d : FoldersDo FileSystem O F) (is_over : FoldersOver h d) (e : Writer E) (output part name : List ℕ) (named : below output name ≡ part) where
  way_of : (path : ArrayVec ℕ) → IsPart output name (Ok path) → (spared : Spared) (from : E) (before : FileSystem) (r : Result (Unit {0}) Refusal) (to : E) (after : FileSystem) → ClearsWay may d e path.items name spared from before r to after → Clearing h part before after
  way_of path p spared from before r to after clears =
      subst (λ (x : List ℕ). Clearing h x before after) (is_part output name path p ∙ named) (way_clearing h may inputs d is_over e path.items name spared from before r to after clears)

  clear_of : (path : ArrayVec ℕ) → IsPart output name (Ok path) → (spared : Spared) (from : E) (before : FileSystem) (to : E) (after : FileSystem) → ClearsWay may d e path.items name spared from before (Ok _) to after → IsClear h part before after
  clear_of path p spared from before to after clears =
      subst (λ (x : List ℕ). IsClear h x before after) (is_part output name path p ∙ named) (way_clear h may inputs d is_over e path.items name spared from before to after clears)

  tried_only : (input : List ℕ) (is_list : Bool) (number : FolderNumber) (path : ArrayVec ℕ) → IsPart output name (Ok path) → (options : TreeOptions) (start : Tree) (before : FileSystem) (r : Result (Unit {0}) Refusal) (after : FileSystem)
      → ChecksUse may d input is_list output number name path.items options before r after → OnlyOutput h output part start before.now → OnlyOutput h output part start after.now
  tried_only input is_list number path p options start before r after checks only =
      then_tried h output part start before after only
      (subst (λ (x : List ℕ). Trying h x before after) (is_part output name path p ∙ named) (checks_use h may inputs d is_over input is_list output number name path.items options before r after checks))

  tried_well : (input : List ℕ) (is_list : Bool) (number : FolderNumber) (path : ArrayVec ℕ) → IsPart output name (Ok path) → (options : TreeOptions) (before after : FileSystem)
      → ChecksUse may d input is_list output number name path.items options before (Ok _) after → TriedWell h part before after
  tried_well input is_list number path p options before after checks =
      subst (λ (x : List ℕ). TriedWell h x before after) (is_part output name path p ∙ named) (use_well h may inputs d is_over input is_list output number name path.items options before after checks)

  begins_only : (input : List ℕ) (is_list : Bool) (options : TreeOptions) (spared : Spared) (from : E) (before : FileSystem) (r : Result Begun Refusal) (to : E) (after : FileSystem)
      → Begins may d e input is_list output name options spared from before r to after → OnlyOutput h output part before.now after.now
  begins_only input is_list options spared from before r to after (beginning.no_output refusal has is silent) = same_now h output part before.now after.now after.now refl (has_only h d is_over input is_list output before (Err refusal) after has).only
  begins_only input is_list options spared from before r to after (beginning.no_part number refusal has p is silent) = same_now h output part before.now after.now after.now refl (has_only h d is_over input is_list output before (Ok number) after has).only
  begins_only input is_list options spared from before r to after (beginning.has_part number path refusal mid has p c is) =
      then_cleared h output part before.now mid after (has_only h d is_over input is_list output before (Ok number) mid has).only (way_of path p spared from mid (Err refusal) to after c)
  begins_only input is_list options spared from before r to after (beginning.in_use number path refusal mid checked has p c u is) =
      tried_only input is_list number path p options before.now checked (Err refusal) after u
      (then_cleared h output part before.now mid checked (has_only h d is_over input is_list output before (Ok number) mid has).only (way_of path p spared from mid (Ok _) to checked c))
  begins_only input is_list options spared from before r to after (beginning.begun number path mid checked has p c u is) =
      tried_only input is_list number path p options before.now checked (Ok _) after u
      (then_cleared h output part before.now mid checked (has_only h d is_over input is_list output before (Ok number) mid has).only (way_of path p spared from mid (Ok _) to checked c))

  -- ---- nothing is at the part

  clear_then : (before mid checked after : FileSystem) → before.written ≡ None → Only h output before mid → TriedWell h part checked after → IsClear h part mid checked → IsClear h part before after
  clear_then before mid checked after none only (trying.still same) clear = record {
    text = clear.text;
    nothing = ap (λ (s : FileSystem). at_path h s.now part) same ∙ clear.nothing;
    written = ap (λ (s : FileSystem). s.written) same ∙ (clear.written ∙ only.written);
    unremoved = ap (λ (s : FileSystem). s.unremoved) same ∙ (clear.unremoved ∙ only.unremoved);
  }
  clear_then before mid checked after none only (trying.gone closed t r) clear = record {
    text = clear.text;
    nothing = r.puts.there;
    written = r.notes.written_is ∙ (tried_none t ∙ sym none);
    unremoved = r.notes.unremoved_is ∙ (tried_unremoved t ∙ (clear.unremoved ∙ only.unremoved));
  }

  begun_clear : (input : List ℕ) (is_list : Bool) (options : TreeOptions) (spared : Spared) (from : E) (before : FileSystem) (begun : Begun) (to : E) (after : FileSystem) → before.written ≡ None → Begins may d e input is_list output name options spared from before (Ok begun) to after
      → IsClear h part before after
  begun_clear input is_list options spared from before begun to after quiet (beginning.no_output refusal has is silent) = absurd (cc)
  begun_clear input is_list options spared from before begun to after quiet (beginning.no_part number refusal has p is silent) = absurd (cc)
  begun_clear input is_list options spared from before begun to after quiet (beginning.has_part number path refusal mid has p c is) = absurd (cc)
  begun_clear input is_list options spared from before begun to after quiet (beginning.in_use number path refusal mid checked has p c u is) = absurd (cc)
  begun_clear input is_list options spared from before begun to after quiet (beginning.begun number path mid checked has p c u is) =
      clear_then before mid checked after quiet (has_only h d is_over input is_list output before (Ok number) mid has) (tried_well input is_list number path p options checked after u) (clear_of path p spared from mid to checked c)

  -- ---- the number of the folder of the outputs

  still_number : (path : List ℕ) (number : FolderNumber) (before after : FileSystem) → ((place : List ℕ) → after.now.at place ≡ before.now.at place) → IsNumberAt h before.now path number → IsNumberAt h after.now path number
  still_number path number before after same at = record { found = at.found; is = same (h.leads Followed path) ∙ at.is; device_is = at.device_is; number_is = at.number_is }

  looks_so : (before : FileSystem) (path : List ℕ) (found : Option Found) (after : FileSystem) → d.finds before path Followed (Ok found) after → found ≡ before.now.at (h.leads Followed path)
  looks_so before path found after call = is_over.finds before path Followed found after call

  begun_at : (input : List ℕ) (is_list : Bool) (options : TreeOptions) (spared : Spared) (from : E) (before : FileSystem) (begun : Begun) (to : E) (after : FileSystem) → Begins may d e input is_list output name options spared from before (Ok begun) to after
      → IsNumberAt h after.now output begun.number
  begun_at input is_list options spared from before begun to after (beginning.no_output refusal has is silent) = absurd (cc)
  begun_at input is_list options spared from before begun to after (beginning.no_part number refusal has p is silent) = absurd (cc)
  begun_at input is_list options spared from before begun to after (beginning.has_part number path refusal mid has p c is) = absurd (cc)
  begun_at input is_list options spared from before begun to after (beginning.in_use number path refusal mid checked has p c u is) = absurd (cc)
  begun_at input is_list options spared from before begun to after (beginning.begun number path mid checked has p c u is) =
      subst (λ (b : Begun). IsNumberAt h after.now output b.number) (same_ok (Ok begun) begun (record { number = number; part = path }) refl is)
      (still_number output number checked after (well_place (tried_well input is_list number path p options checked after u))
      (number_by h output part number mid checked (folder_there h d is_over.quiet looks_so input is_list output before number mid has) (way_of path p spared from mid (Ok _) to checked c)
      (has_at h d is_over.quiet looks_so input is_list output before number mid has)))

module _ {I O F E : Type 0} (h : Host I O) (may : MayDo FileSystem I O) (inputs : InputsOver h may) (d : FoldersDo FileSystem O F) (is_over : FoldersOver h d) (e : Writer E) where
  pub ready : (run : TreeRun) (start : Tree) (input : List ℕ) (is_list : Bool) (spared : Spared) (from : E) (begun : Begun) (told : E) (mid : FileSystem)
      → Begins may d e input is_list run.output.now (part_of run) run.options spared from (begins start) (Ok begun) told mid → Ready h run start begun mid
  ready run start input is_list spared from begun told mid b =
      let clear : IsClear h (part_path run) (begins start) mid = begun_clear h may inputs d is_over e run.output.now (part_path run) (part_of run) refl input is_list run.options spared from (begins start) begun told mid refl b in
      record {
        written = clear.written;
        unremoved = clear.unremoved;
        part_is = begun_part may d e input is_list run.output.now (part_of run) run.options spared from (begins start) begun told mid b;
        text = clear.text;
        no_part = clear.nothing;
        only = begins_only h may inputs d is_over e run.output.now (part_path run) (part_of run) refl input is_list run.options spared from (begins start) (Ok begun) told mid b;
        number = begun_at h may inputs d is_over e run.output.now (part_path run) (part_of run) refl input is_list run.options spared from (begins start) begun told mid b;
      }

-- ---- the run

module _ {I O F W E : Type 0} (h : Host I O) (w : World FileSystem I O F E) (folders_are : FoldersOver h w.folders) (inputs_are : InputsOver h w.may) (rows : Writer W) (run : TreeRun) (source : Source) (start : Tree) (manifest : W) (from : E) (status : ℕ) (left : W) (to : E) (after : FileSystem) where
  abbrev Comes : Type 0
  Comes = ComesTo h w rows run source start manifest from status left to after

  abbrev Left : FileSystem → Type 0
  Left s = OnlyOutput h run.output.now (part_path run) start s.now

  left_so : (before now : FileSystem) → now ≡ before → Left before → Left now
  left_so before now same only = left_same h run.output.now (part_path run) start before now same only

  nothing_done : after ≡ begins start → Left after
  nothing_done same = same_now h run.output.now (part_path run) start after.now after.now refl (still_only h run.output.now (begins start) after same).only

  -- what was told before the first name
  abbrev Tells : E → Type 0
  Tells told = TellsLeft w.errors (part_of run) from told

  -- ---- a folder

  folder_visited : (path : List ℕ) (opened : F) (begun : Begun) (told : E) (mid : FileSystem) → source ≡ folder path → OpensTree w.folders path (begins start) (Some opened) (begins start) → Tells told → Ready h run start begun mid
      → VisitsFolder w rows run path begun opened manifest told mid status left to after → Comes
  folder_visited path opened begun told mid is opens tells ok (spec.no_header failure puts close ends) = course.no_header failure told tells puts ends (left_so mid after (folders_are.quiet.closes mid opened after close) ok.only)
  folder_visited path opened begun told mid is opens tells ok (spec.visited headed puts v) = course.in_folder path opened begun headed told mid is tells opens puts ok v

  folder_opened : (path : List ℕ) (opened : F) → source ≡ folder path → OpensTree w.folders path (begins start) (Some opened) (begins start) → DoesOpened w rows run path opened manifest from (begins start) status left to after → Comes
  folder_opened path opened is opens (spec.not_begun refusal told tried b close refuses same) =
      course.refused refusal told (begins_told w.may w.folders w.errors path false run.output.now (part_of run) run.options (spared_of run) from (begins start) (Err refusal) told tried b) refuses same
      (left_so tried after (folders_are.quiet.closes tried opened after close)
      (begins_only h w.may inputs_are w.folders folders_are w.errors run.output.now (part_path run) (part_of run) refl path false run.options (spared_of run) from (begins start) (Err refusal) told tried b))
  folder_opened path opened is opens (spec.was_begun begun told mid b v) =
      folder_visited path opened begun told mid is opens (begins_told w.may w.folders w.errors path false run.output.now (part_of run) run.options (spared_of run) from (begins start) (Ok begun) told mid b)
      (ready h w.may inputs_are w.folders folders_are w.errors run start path false (spared_of run) from begun told mid b) v

  of_folder : (path : List ℕ) → source ≡ folder path → DoesFolder w rows run path manifest from (begins start) status left to after → Comes
  of_folder path is (spec.too_long long refuses same still) = course.refused _ from (nothing_told refl) refuses same (nothing_done still)
  of_folder path is (spec.not_opened o refuses same) = course.refused _ from (nothing_told refl) refuses same (nothing_done (opens_tree w.folders folders_are.quiet path (begins start) None after o))
  of_folder path is (spec.was_opened opened mid o does) =
      let still : mid ≡ begins start = opens_tree w.folders folders_are.quiet path (begins start) (Some opened) mid o in
      folder_opened path opened is (subst (OpensTree w.folders path (begins start) (Some opened)) still o)
      (subst (λ (s : FileSystem). DoesOpened w rows run path opened manifest from s status left to after) still does)

  -- ---- a list

  list_visited : (path : List ℕ) (opened : Opened I) (begun : Begun) (told : E) (mid done : FileSystem) (read : I) → source ≡ list path → OpensInput w.may path (begins start) (Ok opened) (begins start) → Tells told → Ready h run start begun mid → after ≡ done
      → VisitsList w rows run path begun opened.device manifest told mid status left to done read → Comes
  list_visited path opened begun told mid done read is opens tells ok back (spec.no_header failure puts ends same unread) = course.no_header failure told tells puts ends (left_so mid after (back ∙ same) ok.only)
  list_visited path opened begun told mid done read is opens tells ok back (spec.visited headed puts v) =
      course.in_list path opened begun headed told mid read is tells opens puts ok (subst (λ (s : FileSystem). spec.VisitsListed w rows run path begun opened.device headed told mid status left to s read) (sym back) v)

  list_opened : (path : List ℕ) (opened : Opened I) (done : FileSystem) (read : I) → source ≡ list path → OpensInput w.may path (begins start) (Ok opened) (begins start) → after ≡ done
      → DoesNames w rows run path opened.kind opened.device manifest from (begins start) status left to done read → Comes
  list_opened path opened done read is opens back (spec.not_begun refusal told b refuses same unread) =
      course.refused refusal told (begins_told w.may w.folders w.errors _ true run.output.now (part_of run) run.options (spared_with run path opened.kind) from (begins start) (Err refusal) told done b) refuses same
      (left_so done after back
      (begins_only h w.may inputs_are w.folders folders_are w.errors run.output.now (part_path run) (part_of run) refl _ true run.options (spared_with run path opened.kind) from (begins start) (Err refusal) told done b))
  list_opened path opened done read is opens back (spec.was_begun begun told mid b v) =
      list_visited path opened begun told mid done read is opens (begins_told w.may w.folders w.errors _ true run.output.now (part_of run) run.options (spared_with run path opened.kind) from (begins start) (Ok begun) told mid b)
      (ready h w.may inputs_are w.folders folders_are w.errors run start _ true (spared_with run path opened.kind) from begun told mid b) back v

  of_list : (path : List ℕ) → source ≡ list path → DoesList w rows run path manifest from (begins start) status left to after → Comes
  of_list path is (spec.not_opened error o told s same) = course.no_list path is told s same (opens_input w.may inputs_are path (begins start) (Err error) after o)
  of_list path is (spec.was_opened opened read mid done o does back) =
      let still : mid ≡ begins start = opens_input w.may inputs_are path (begins start) (Ok opened) mid o in
      list_opened path opened done read is (subst (OpensInput w.may path (begins start) (Ok opened)) still o) (inputs_are.releases done read after back)
      (subst (λ (s : FileSystem). DoesNames w rows run path opened.kind opened.device manifest from s status left to done read) still does)

  comes : DoesTree w rows run source manifest from (begins start) status left to after → Comes
  comes (spec.of_folder path is does) = of_folder path is does
  comes (spec.of_list path is does) = of_list path is does

-- ---- the worlds

pub each : {I O F W E : Type 0} (world_of : Host I O → World FileSystem I O F E) → ((h : Host I O) → FoldersOver h (world_of h).folders) → ((h : Host I O) → InputsOver h (world_of h).may) → (rows : Writer W) → EachBeginsSo world_of rows
each world_of folders_are inputs_are rows h run source start manifest from status left to after does =
    comes h (world_of h) (folders_are h) (inputs_are h) rows run source start manifest from status left to after does

pub runs_begin_so : {I O F W E : Type 0} (r : Reader I) (w : Writer O) (rows : Writer W) (e : Writer E) → RunsBeginSo F r w rows e
runs_begin_so {I} {O} {F} r w rows e = each (λ h. over {F = F} h r w e) (λ h. folders_over h) (λ h. inputs_over h) rows

pub runs_of_held_begin_so : {I O F W E : Type 0} (r : Reader I) (w : Writer O) (rows : Writer W) (e : Writer E) → RunsOfHeldBeginSo F r w rows e
runs_of_held_begin_so {I} {O} {F} r w rows e = each (λ h. over {F = F} h (as_held h r) w e) (λ h. folders_over h) (λ h. inputs_over h) rows

pub sure_runs_begin_so : {I O F W E : Type 0} (r : Reader I) (w : Writer O) (rows : Writer W) (e : Writer E) → SureRunsBeginSo F r w rows e
sure_runs_begin_so {I} {O} {F} r w rows e = each (λ h. over_sure {F = F} h r w e) (λ h. sure_over h) (λ h. inputs_over h) rows

pub working_runs_begin_so : {I O F W E : Type 0} (r : Reader I) (w : Writer O) (rows : Writer W) (e : Writer E) → WorkingRunsBeginSo F r w rows e
working_runs_begin_so {I} {O} {F} r w rows e = each (λ h. working {F = F} h r w e) (λ h. working_over h) (λ h. working_inputs h r w) rows
