-- The beginning of a run makes the folder of the outputs, removes what was left over, and else only looks.
use Rattle.std.proofs.Common.{◌≡◌, ◌∙◌, refl, sym, ap, subst, ℕ, List, Bool, true, false, Option, Some, None, Result, Ok, Err}
use Rattle.arrayvec.specs.ArrayVec.{ArrayVec}
use Rattle.dcm_lemmas.proofs.Truth.{true_false}
use Rattle.dcm_devices.specs.Writing.{Writer}
use Rattle.dcm_files.specs.Devices.{MayDo}
use Rattle.dcm_files.specs.Folders.{FoldersDo}
use Rattle.dcm_files.specs.declared.folders.Found.{Found}
use Rattle.dcm_files.specs.declared.folders.Links.TheVariants.{Kept, Followed}
use Rattle.dcm_tree_words.specs.declared.said.TreeOptions.{TreeOptions}
use Rattle.dcm_walk.specs.Names.{below}
use Rattle.dcm_walk.specs.declared.folder.FolderNumber.{FolderNumber}
use Rattle.dcm_trees.specs.declared.beginning.Begun.{Begun}
use Rattle.dcm_trees.specs.declared.beginning.Refusal.{Refusal}
use Rattle.dcm_trees.specs.declared.beginning.Spared.{Spared}
use Rattle.dcm_trees.specs.Beginning as spec
use Rattle.dcm_trees.specs.Beginning.{Looks, Numbers, Climbed, Climbs, IsThere, MakesFolder, NumbersFolder, MakesOutput, Compares, MakesApart, HasOutput, ClearsWay, ChecksEmpty, ChecksNew, MayDiffer, TriesLetters, ChecksLetters, ChecksUse, IsPart, Begins, parent_of}
use Rattle.dcm_trees.specs.Modes.{Modes}
use Rattle.dcm_tree_laws.specs.Course.{TellsLeft, nothing_told}
use Rattle.dcm_tree_laws.specs.FileSystem.{FileSystem, Host, may_do, folders_do}
use Rattle.dcm_tree_laws.proofs.Clearing as clearing
use Rattle.dcm_tree_laws.proofs.Clearing.{Clearing, FoldersOver, InputsOver, folders_over, inputs_over, way_clearing, way_told}
use Rattle.dcm_tree_laws.proofs.Files.{path_is}
use Rattle.dcm_tree_laws.proofs.Looking.{finds_mode, same_ok}
use Rattle.dcm_tree_laws.proofs.Quiet.{Quiet, are_quiet}
use Rattle.dcm_tree_laws.proofs.Steps.{Phase, idle, is_writing, StepsIn, folder, removed, not_removed, goes_on, one, quiet}
use Rattle.dcm_tree_laws.proofs.Trying.{TriedWell, Trying, still, well, trying_steps, one_name_trying, one_name_well, from_same, well_from}

pub looks : {S O F : Type 0} (d : FoldersDo S O F) → Quiet d → (path : List ℕ) (before : S) (r : Result (Option Found) Refusal) (after : S) → Looks d path before r after → after ≡ before
looks d q path before r after (spec.no_text t is same) = same
looks d q path before r after (spec.looked found t call is) = q.finds before path Followed (Ok found) after call
looks d q path before r after (spec.not_looked e t call is) = q.finds before path Followed (Err e) after call

pub numbers : {S O F : Type 0} (d : FoldersDo S O F) → Quiet d → (path : List ℕ) (before : S) (r : Result FolderNumber Refusal) (after : S) → Numbers d path before r after → after ≡ before
numbers d q path before r after (spec.numbered found l is) = looks d q path before (Ok (Some found)) after l
numbers d q path before r after (spec.nothing l is) = looks d q path before (Ok None) after l
numbers d q path before r after (spec.not_seen refusal l is) = looks d q path before (Err refusal) after l

pub climbed : {S O F : Type 0} (d : FoldersDo S O F) → Quiet d → (path : List ℕ) (other : FolderNumber) (before : S) (at : List ℕ) (first last : FolderNumber) (has_other : Bool) (after : S) → Climbed d path other before at first last has_other after → after ≡ before
climbed d q path other before at first last has_other after (spec.itself n short a l o) = numbers d q path before (Ok first) after n
climbed d q path other before at first last has_other after (spec.and_above from below had_other mid more short n apart a o) =
    numbers d q (spec.above from) mid (Ok last) after n ∙ climbed d q path other before from first below had_other mid more

pub climbs : {S O F : Type 0} (d : FoldersDo S O F) → Quiet d → (path : List ℕ) (other : FolderNumber) (before : S) (r : Result _ Refusal) (after : S) → Climbs d path other before r after → after ≡ before
climbs d q path other before r after (spec.not_begun refusal n is) = numbers d q path before (Err refusal) after n
climbs d q path other before r after (spec.too_long first n short is) = numbers d q path before (Ok first) after n
climbs d q path other before r after (spec.to_the_top at first last again has_other mid c short n same is) = numbers d q (spec.above at) mid (Ok again) after n ∙ climbed d q path other before at first last has_other mid c
climbs d q path other before r after (spec.not_seen at first last has_other refusal mid c short n is) = numbers d q (spec.above at) mid (Err refusal) after n ∙ climbed d q path other before at first last has_other mid c
climbs d q path other before r after (spec.too_deep at first last has_other c short is) = climbed d q path other before at first last has_other after c

pub is_there : {S O F : Type 0} (d : FoldersDo S O F) → Quiet d → (output : List ℕ) (before : S) (r : Result Bool Refusal) (after : S) → IsThere d output before r after → after ≡ before
is_there d q output before r after (spec.nothing l is) = looks d q output before (Ok None) after l
is_there d q output before r after (spec.a_folder found l k is) = looks d q output before (Ok (Some found)) after l
is_there d q output before r after (spec.no_folder found l k is) = looks d q output before (Ok (Some found)) after l
is_there d q output before r after (spec.not_seen refusal l is) = looks d q output before (Err refusal) after l

pub numbers_folder : {S O F : Type 0} (d : FoldersDo S O F) → Quiet d → (path : List ℕ) (before : S) (r : Result FolderNumber Refusal) (after : S) → NumbersFolder d path before r after → after ≡ before
numbers_folder d q path before r after (spec.a_folder found l k is) = looks d q path before (Ok (Some found)) after l
numbers_folder d q path before r after (spec.no_folder found l k is) = looks d q path before (Ok (Some found)) after l
numbers_folder d q path before r after (spec.nothing l is) = looks d q path before (Ok None) after l
numbers_folder d q path before r after (spec.not_seen refusal l is) = looks d q path before (Err refusal) after l

pub compares : {S O F : Type 0} (d : FoldersDo S O F) → Quiet d → (input : List ℕ) (is_list : Bool) (output : List ℕ) (before : S) (r : Result FolderNumber Refusal) (after : S) → Compares d input is_list output before r after → after ≡ before
compares d q input is_list output before r after (spec.not_numbered refusal n is) = numbers d q input before (Err refusal) after n
compares d q input is_list output before r after (spec.not_climbed read refusal mid n c is) = climbs d q output read mid (Err refusal) after c ∙ numbers d q input before (Ok read) mid n
compares d q input is_list output before r after (spec.clashed read way refusal mid n c k is) = climbs d q output read mid (Ok way) after c ∙ numbers d q input before (Ok read) mid n
compares d q input is_list output before r after (spec.not_back read way refusal mid was n c k b is) =
    climbs d q input way.first was (Err refusal) after b ∙ climbs d q output read mid (Ok way) was c ∙ numbers d q input before (Ok read) mid n
compares d q input is_list output before r after (spec.within read way back mid was n c k b o is) =
    climbs d q input way.first was (Ok back) after b ∙ climbs d q output read mid (Ok way) was c ∙ numbers d q input before (Ok read) mid n
compares d q input is_list output before r after (spec.apart read way back mid was n c k b o is) =
    climbs d q input way.first was (Ok back) after b ∙ climbs d q output read mid (Ok way) was c ∙ numbers d q input before (Ok read) mid n

checks_empty : {S O F : Type 0} (d : FoldersDo S O F) → Quiet d → (output : List ℕ) (before : S) (r : Result (Unit {0}) Refusal) (after : S) → ChecksEmpty d output before r after → after ≡ before
checks_empty d q output before r after (spec.no_text t is same) = same
checks_empty d q output before r after (spec.not_opened e t call is) = q.opens before output (Err e) after call
checks_empty d q output before r after (spec.empty f left opened listed t o n c is) = q.closes listed left after c ∙ q.names opened f (Ok None) left listed n ∙ q.opens before output (Ok f) opened o
checks_empty d q output before r after (spec.not_empty f left name opened listed t o n c is) = q.closes listed left after c ∙ q.names opened f (Ok (Some name)) left listed n ∙ q.opens before output (Ok f) opened o
checks_empty d q output before r after (spec.not_listed f left e opened listed t o n c is) = q.closes listed left after c ∙ q.names opened f (Err e) left listed n ∙ q.opens before output (Ok f) opened o

checks_new : {S O F : Type 0} (d : FoldersDo S O F) → Quiet d → (output : List ℕ) (before : S) (r : Result (Unit {0}) Refusal) (after : S) → ChecksNew d output before r after → after ≡ before
checks_new d q output before r after (spec.followed own is c) = checks_empty d q own before r after c
checks_new d q output before r after (spec.too_long is c) = checks_empty d q output before r after c

may_differ : {S O F : Type 0} (d : FoldersDo S O F) → Quiet d → (input : List ℕ) (is_list : Bool) (number : FolderNumber) (before : S) (r : Result Bool Refusal) (after : S) → MayDiffer d input is_list number before r after → after ≡ before
may_differ d q input is_list number before r after (spec.of_list list is same) = same
may_differ d q input is_list number before r after (spec.of_folder read list n is) = numbers d q input before (Ok read) after n
may_differ d q input is_list number before r after (spec.not_numbered refusal list n is) = numbers d q input before (Err refusal) after n

module _ {I O F : Type 0} (h : Host I O) (may : MayDo FileSystem I O) (inputs : InputsOver h may) (d : FoldersDo FileSystem O F) (folders : FoldersOver h d) (input : List ℕ) (is_list : Bool) (output : List ℕ) (number : FolderNumber) (part path : List ℕ) where
  tries_letters : (before : FileSystem) (r : Result (Unit {0}) Refusal) (after : FileSystem) → TriesLetters may d output part path before r after → Trying h path before after
  tries_letters before r after (spec.too_long none is same) = well (still same)
  tries_letters before r after (spec.told_apart capitals some one_name is) = one_name_trying h may inputs d folders path capitals before (Ok false) after one_name
  tries_letters before r after (spec.alike capitals some one_name is) = one_name_trying h may inputs d folders path capitals before (Ok true) after one_name
  tries_letters before r after (spec.not_tried capitals refusal some one_name is) = one_name_trying h may inputs d folders path capitals before (Err refusal) after one_name

  checks_letters : (before : FileSystem) (r : Result (Unit {0}) Refusal) (after : FileSystem) → ChecksLetters may d input is_list output number part path before r after → Trying h path before after
  checks_letters before r after (spec.may_differ looked m t) = from_same (may_differ d folders.quiet input is_list number before (Ok true) looked m) (tries_letters looked r after t)
  checks_letters before r after (spec.of_one_device m is) = well (still (may_differ d folders.quiet input is_list number before (Ok false) after m))
  checks_letters before r after (spec.not_seen refusal m is) = well (still (may_differ d folders.quiet input is_list number before (Err refusal) after m))

  pub checks_use : (options : TreeOptions) (before : FileSystem) (r : Result (Unit {0}) Refusal) (after : FileSystem) → ChecksUse may d input is_list output number part path options before r after → Trying h path before after
  checks_use options before r after (spec.is_new c n) = well (still (checks_new d folders.quiet output before r after n))
  checks_use options before r after (spec.goes_on c k is same) = well (still same)
  checks_use options before r after (spec.keeps_names c k l) = checks_letters before r after l

  -- where the run goes on

  letters_well : (before after : FileSystem) → TriesLetters may d output part path before (Ok _) after → TriedWell h path before after
  letters_well before after (spec.too_long none is same) = absurd (cc)
  letters_well before after (spec.told_apart capitals some one_name is) = one_name_well h may inputs d folders path capitals before false after one_name
  letters_well before after (spec.alike capitals some one_name is) = absurd (cc)
  letters_well before after (spec.not_tried capitals refusal some one_name is) = absurd (cc)

  checks_well : (before after : FileSystem) → ChecksLetters may d input is_list output number part path before (Ok _) after → TriedWell h path before after
  checks_well before after (spec.may_differ looked m t) = well_from (may_differ d folders.quiet input is_list number before (Ok true) looked m) (letters_well looked after t)
  checks_well before after (spec.of_one_device m is) = still (may_differ d folders.quiet input is_list number before (Ok false) after m)
  checks_well before after (spec.not_seen refusal m is) = absurd (cc)

  pub use_well : (options : TreeOptions) (before after : FileSystem) → ChecksUse may d input is_list output number part path options before (Ok _) after → TriedWell h path before after
  use_well options before after (spec.is_new c n) = still (checks_new d folders.quiet output before (Ok _) after n)
  use_well options before after (spec.goes_on c k is same) = still same
  use_well options before after (spec.keeps_names c k l) = checks_well before after l

-- a run that does not go on looks for names alone
pub new_use : {S I O F : Type 0} (may : MayDo S I O) (d : FoldersDo S O F) → Quiet d → (input : List ℕ) (is_list : Bool) (output : List ℕ) (number : FolderNumber) (part path : List ℕ) (options : TreeOptions) (before : S) (r : Result (Unit {0}) Refusal) (after : S) → options.continues ≡ false
    → ChecksUse may d input is_list output number part path options before r after → ChecksNew d output before r after × (after ≡ before)
new_use may d q input is_list output number part path options before r after new (spec.is_new c n) = (n, checks_new d q output before r after n)
new_use may d q input is_list output number part path options before r after new (spec.goes_on c k is same) = absurd (true_false options.continues c new)
new_use may d q input is_list output number part path options before r after new (spec.keeps_names c k l) = absurd (true_false options.continues c new)

-- ---- the folder of the outputs

makes_folder : {I O F : Type 0} {mode : ℕ} (h : Host I O) (IsWhole : ℕ → List ℕ → Type 0) (part output : List ℕ) (Of : List ℕ → Type 0) → Of output → (at : Phase) → is_writing at ≡ false → (before : FileSystem) (r : Result (Unit {0}) Refusal) (after : FileSystem)
    → MakesFolder (folders_do {F = F} h) output mode before r after → StepsIn h IsWhole part Of at before at after
makes_folder h IsWhole part output Of to at rest before r after (spec.no_text t is same) = quiet same
makes_folder {mode = mode} h IsWhole part output Of to at rest before r after (spec.made t call is) = one (folder output mode rest to call refl)
makes_folder h IsWhole part output Of to at rest before r after (spec.was_there e t call k is) = quiet call
makes_folder h IsWhole part output Of to at rest before r after (spec.not_made e t call k is) = quiet call

makes_output : {I O F : Type 0} {modes : Modes} (h : Host I O) (IsWhole : ℕ → List ℕ → Type 0) (part output : List ℕ) (Of : List ℕ → Type 0) → Of output → (at : Phase) → is_writing at ≡ false → (before : FileSystem) (r : Result FolderNumber Refusal) (after : FileSystem)
    → MakesOutput (folders_do {F = F} h) modes output before r after → StepsIn h IsWhole part Of at before at after
makes_output {I} {O} {F} h IsWhole part output Of to at rest before r after (spec.no_mode n f is) = quiet (finds_mode (folders_do {F = F} h) (are_quiet h) before (Err n) after f)
makes_output {I} {O} {F} h IsWhole part output Of to at rest before r after (spec.not_made mode refusal seen f m is) =
    goes_on (quiet (finds_mode (folders_do {F = F} h) (are_quiet h) before (Ok mode) seen f)) (makes_folder {F = F} h IsWhole part output Of to at rest seen (Err refusal) after m)
makes_output {I} {O} {F} h IsWhole part output Of to at rest before r after (spec.made mode seen mid f m n) =
    goes_on (goes_on (quiet (finds_mode (folders_do {F = F} h) (are_quiet h) before (Ok mode) seen f)) (makes_folder {F = F} h IsWhole part output Of to at rest seen (Ok _) mid m)) (quiet (numbers_folder (folders_do {F = F} h) (are_quiet h) output mid r after n))

makes_apart : {I O F : Type 0} (h : Host I O) (IsWhole : ℕ → List ℕ → Type 0) (part output : List ℕ) (Of : List ℕ → Type 0) → Of output → (at : Phase) → is_writing at ≡ false → (input : List ℕ) (is_list : Bool) (before : FileSystem) (r : Result FolderNumber Refusal) (after : FileSystem)
    → MakesApart (folders_do {F = F} h) input is_list output before r after → StepsIn h IsWhole part Of at before at after
makes_apart {I} {O} {F} h IsWhole part output Of to at rest input is_list before r after (spec.not_numbered refusal n is) = quiet (numbers (folders_do {F = F} h) (are_quiet h) input before (Err refusal) after n)
makes_apart {I} {O} {F} h IsWhole part output Of to at rest input is_list before r after (spec.not_climbed read refusal mid n c is) =
    quiet (climbs (folders_do {F = F} h) (are_quiet h) (parent_of output) read mid (Err refusal) after c ∙ numbers (folders_do {F = F} h) (are_quiet h) input before (Ok read) mid n)
makes_apart {I} {O} {F} h IsWhole part output Of to at rest input is_list before r after (spec.within read way mid n c k is) =
    quiet (climbs (folders_do {F = F} h) (are_quiet h) (parent_of output) read mid (Ok way) after c ∙ numbers (folders_do {F = F} h) (are_quiet h) input before (Ok read) mid n)
makes_apart {I} {O} {F} h IsWhole part output Of to at rest input is_list before r after (spec.made read way mid was n c k m) =
    goes_on (quiet (climbs (folders_do {F = F} h) (are_quiet h) (parent_of output) read mid (Ok way) was c ∙ numbers (folders_do {F = F} h) (are_quiet h) input before (Ok read) mid n))
    (makes_output {F = F} h IsWhole part output Of to at rest was r after m)

has_output : {I O F : Type 0} (h : Host I O) (IsWhole : ℕ → List ℕ → Type 0) (part output : List ℕ) (Of : List ℕ → Type 0) → Of output → (at : Phase) → is_writing at ≡ false → (input : List ℕ) (is_list : Bool) (before : FileSystem) (r : Result FolderNumber Refusal) (after : FileSystem)
    → HasOutput (folders_do {F = F} h) input is_list output before r after → StepsIn h IsWhole part Of at before at after
has_output {I} {O} {F} h IsWhole part output Of to at rest input is_list before r after (spec.not_looked refusal l is) = quiet (is_there (folders_do {F = F} h) (are_quiet h) output before (Err refusal) after l)
has_output {I} {O} {F} h IsWhole part output Of to at rest input is_list before r after (spec.was_there looked l c) =
    quiet (compares (folders_do {F = F} h) (are_quiet h) input is_list output looked r after c ∙ is_there (folders_do {F = F} h) (are_quiet h) output before (Ok true) looked l)
has_output {I} {O} {F} h IsWhole part output Of to at rest input is_list before r after (spec.not_there looked l m) =
    goes_on (quiet (is_there (folders_do {F = F} h) (are_quiet h) output before (Ok false) looked l)) (makes_apart {F = F} h IsWhole part output Of to at rest input is_list looked r after m)

-- the part is at its path in the folder of the outputs
pub is_part : (output part : List ℕ) (path : ArrayVec ℕ) → IsPart output part (Ok path) → path.items ≡ below output part
is_part output part path (spec.fits other e is) = ap (λ (p : ArrayVec ℕ). p.items) (sym (same_ok (Ok path) path other refl is)) ∙ path_is output part other.items e
is_part output part path (spec.too_long e is) = absurd (cc)

clears_by : {I O : Type 0} (h : Host I O) (IsWhole : ℕ → List ℕ → Type 0) (part : List ℕ) (Of : List ℕ → Type 0) (before after : FileSystem) → Clearing h part before after → StepsIn h IsWhole part Of idle before idle after
clears_by h IsWhole part Of before after (clearing.still same) = quiet same
clears_by h IsWhole part Of before after (clearing.failed held is) = one (not_removed held refl is refl)
clears_by h IsWhole part Of before after (clearing.gone was there kind removes) = one (removed refl removes refl)

module _ {I O F E : Type 0} (h : Host I O) (e : Writer E) (IsWhole : ℕ → List ℕ → Type 0) (part output name : List ℕ) (is : below output name ≡ part) (Of : List ℕ → Type 0) (to_output : Of output) where
  way_by : (path : ArrayVec ℕ) → IsPart output name (Ok path) → (spared : Spared) (from : E) (before : FileSystem) (r : Result (Unit {0}) Refusal) (to : E) (after : FileSystem)
      → ClearsWay (may_do {I = I} h) (folders_do {F = F} h) e path.items name spared from before r to after → StepsIn h IsWhole part Of idle before idle after
  way_by path p spared from before r to after clears =
      clears_by h IsWhole part Of before after
      (subst (λ (x : List ℕ). Clearing h x before after) (is_part output name path p ∙ is) (way_clearing h (may_do {I = I} h) (inputs_over {I = I} h) (folders_do {F = F} h) (folders_over {F = F} h) e path.items name spared from before r to after clears))

  use_by : (input : List ℕ) (is_list : Bool) (number : FolderNumber) (path : ArrayVec ℕ) → IsPart output name (Ok path) → (options : TreeOptions) (before : FileSystem) (r : Result (Unit {0}) Refusal) (after : FileSystem)
      → ChecksUse (may_do {I = I} h) (folders_do {F = F} h) input is_list output number name path.items options before r after → StepsIn h IsWhole part Of idle before idle after
  use_by input is_list number path p options before r after checks =
      trying_steps h IsWhole part Of before after
      (subst (λ (x : List ℕ). Trying h x before after) (is_part output name path p ∙ is) (checks_use h (may_do {I = I} h) (inputs_over {I = I} h) (folders_do {F = F} h) (folders_over {F = F} h) input is_list output number name path.items options before r after checks))

  pub begins_by : (input : List ℕ) (is_list : Bool) (options : TreeOptions) (spared : Spared) (from : E) (before : FileSystem) (r : Result Begun Refusal) (to : E) (after : FileSystem)
      → Begins (may_do {I = I} h) (folders_do {F = F} h) e input is_list output name options spared from before r to after → StepsIn h IsWhole part Of idle before idle after
  begins_by input is_list options spared from before r to after (spec.no_output refusal has x silent) = has_output {F = F} h IsWhole part output Of to_output idle refl input is_list before (Err refusal) after has
  begins_by input is_list options spared from before r to after (spec.no_part number refusal has p x silent) = has_output {F = F} h IsWhole part output Of to_output idle refl input is_list before (Ok number) after has
  begins_by input is_list options spared from before r to after (spec.has_part number path refusal mid has p c x) =
      goes_on (has_output {F = F} h IsWhole part output Of to_output idle refl input is_list before (Ok number) mid has) (way_by path p spared from mid (Err refusal) to after c)
  begins_by input is_list options spared from before r to after (spec.in_use number path refusal mid checked has p c u x) =
      goes_on (goes_on (has_output {F = F} h IsWhole part output Of to_output idle refl input is_list before (Ok number) mid has) (way_by path p spared from mid (Ok _) to checked c))
      (use_by input is_list number path p options checked (Err refusal) after u)
  begins_by input is_list options spared from before r to after (spec.begun number path mid checked has p c u x) =
      goes_on (goes_on (has_output {F = F} h IsWhole part output Of to_output idle refl input is_list before (Ok number) mid has) (way_by path p spared from mid (Ok _) to checked c))
      (use_by input is_list number path p options checked (Ok _) after u)

-- ---- what it tells

pub begins_told : {S I O F E : Type 0} (may : MayDo S I O) (d : FoldersDo S O F) (e : Writer E) (input : List ℕ) (is_list : Bool) (output name : List ℕ) (options : TreeOptions) (spared : Spared) (from : E) (before : S) (r : Result Begun Refusal) (to : E) (after : S)
    → Begins may d e input is_list output name options spared from before r to after → TellsLeft e name from to
begins_told may d e input is_list output name options spared from before r to after (spec.no_output refusal has x silent) = nothing_told silent
begins_told may d e input is_list output name options spared from before r to after (spec.no_part number refusal has p x silent) = nothing_told silent
begins_told may d e input is_list output name options spared from before r to after (spec.has_part number path refusal mid has p c x) = way_told may d e path.items name spared from mid (Err refusal) to after c
begins_told may d e input is_list output name options spared from before r to after (spec.in_use number path refusal mid checked has p c u x) = way_told may d e path.items name spared from mid (Ok _) to checked c
begins_told may d e input is_list output name options spared from before r to after (spec.begun number path mid checked has p c u x) = way_told may d e path.items name spared from mid (Ok _) to checked c
