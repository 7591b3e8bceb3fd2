-- Calls that only look.
use Rattle.std.proofs.Common.{◌≡◌, ◌∙◌, ℕ, List, Option, Result}
use Rattle.std.specs.declared.io.Error.{Error}
use Rattle.dcm_files.specs.Folders.{FoldersDo}
use Rattle.dcm_files.specs.declared.folders.Found.{Found}
use Rattle.dcm_files.specs.declared.folders.Links.{Links}
use Rattle.dcm_tree_laws.specs.FileSystem.{Host, folders_do}

-- they leave a system as it was
pub record Quiet {S O F : Type 0} (d : FoldersDo S O F) : Type 0 where
  pub finds : (before : S) (path : List ℕ) (links : Links) (r : Result (Option Found) Error) (after : S) → d.finds before path links r after → after ≡ before
  pub modes : (before : S) (folder name : List ℕ) (r : Result ℕ Error) (after : S) → d.modes before folder name r after → after ≡ before
  pub opens : (before : S) (path : List ℕ) (r : Result F Error) (after : S) → d.opens_folder before path r after → after ≡ before
  pub names : (before : S) (folder : F) (r : Result (Option (List ℕ)) Error) (left : F) (after : S) → d.names before folder r left after → after ≡ before
  pub closes : (before : S) (folder : F) (after : S) → d.closes_folder before folder after → after ≡ before

pub are_quiet : {I O F : Type 0} (h : Host I O) → Quiet (folders_do {F = F} h)
are_quiet h = record {
  finds = λ before path links r after call. call.1;
  modes = λ before folder name r after call. call.1;
  opens = λ before path r after call. call;
  names = λ before folder r left after call. call;
  closes = λ before folder after call. call;
}

-- they leave no more than this of a system
pub record Only {S O F : Type 0} (Same : S → S → Type 0) (d : FoldersDo S O F) : Type 0 where
  pub finds : (before : S) (path : List ℕ) (links : Links) (r : Result (Option Found) Error) (after : S) → d.finds before path links r after → Same before after
  pub opens : (before : S) (path : List ℕ) (r : Result F Error) (after : S) → d.opens_folder before path r after → Same before after
  pub names : (before : S) (folder : F) (r : Result (Option (List ℕ)) Error) (left : F) (after : S) → d.names before folder r left after → Same before after
  pub closes : (before : S) (folder : F) (after : S) → d.closes_folder before folder after → Same before after
  pub same : (before after : S) → after ≡ before → Same before after
  pub both : (before mid after : S) → Same before mid → Same mid after → Same before after

abbrev pub IsSame : {S : Type 0} → (before after : S) → Type 0
IsSame before after = after ≡ before

pub only_quiet : {S O F : Type 0} (d : FoldersDo S O F) → Quiet d → Only IsSame d
only_quiet d quiet = record {
  finds = quiet.finds;
  opens = quiet.opens;
  names = quiet.names;
  closes = quiet.closes;
  same = λ before after e. e;
  both = λ before mid after a b. b ∙ a;
}

abbrev pub IsAny : {S : Type 0} → (before after : S) → Type 0
IsAny before after = Unit {0}

-- nothing is asked of them
pub only_any : {S O F : Type 0} (d : FoldersDo S O F) → Only IsAny d
only_any d = record {
  finds = λ before path links r after call. tt;
  opens = λ before path r after call. tt;
  names = λ before folder r left after call. tt;
  closes = λ before folder after call. tt;
  same = λ before after e. tt;
  both = λ before mid after a b. tt;
}

-- a relation of what a visitor and a system were and are: it is there where no more was done than to look, and one after
-- another
pub record IsClosed {V S : Type 0} (Same : S → S → Type 0) (R : V → S → V → S → Type 0) : Type 0 where
  pub none : (v : V) (s t : S) → t ≡ s → R v s v t
  pub still : (v : V) (s t : S) → Same s t → R v s v t
  pub then : (a b c : V) (s t u : S) → R a s b t → R b t c u → R a s c u
