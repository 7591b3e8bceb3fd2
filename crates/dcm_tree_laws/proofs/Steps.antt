-- What a run over a tree does to a file system: these steps, one after another. New folders and outputs are at the paths of which something is so.
use Rattle.std.proofs.Common.{◌≡◌, refl, sym, subst, ℕ, List, Bool, true, false, Option, None}
use Rattle.dcm_tree_laws.specs.FileSystem.{FileSystem, Number, Host, MakesFolder, MakesFile, ClosesOutput, MakesLink, MovesWhat, Removes, at_path, HasWay}
use Rattle.dcm_tree_laws.proofs.Near.{IsNear}

-- how far a run is with its part: nothing is done with it; it is being written, a file of this mode; or it is the whole output of a job
pub data Phase : Type 0 where
  idle : Phase
  writing : (mode : ℕ) → Phase
  whole : (bytes : List ℕ) → Phase

abbrev pub is_writing : Phase → Bool
is_writing idle = false
is_writing (writing mode) = true
is_writing (whole bytes) = false

pub data StepIn {I O : Type 0} (h : Host I O) (IsWhole : ℕ → List ℕ → Type 0) (part : List ℕ) (Of : List ℕ → Type 0) (at : Phase) (before : FileSystem) (then : Phase) (after : FileSystem) : Type 0 where
  folder : (path : List ℕ) (mode : ℕ) → is_writing at ≡ false → Of path → MakesFolder h path mode before after → then ≡ at → StepIn h IsWhole part Of at before then after
  part_made : (mode : ℕ) → is_writing at ≡ false → MakesFile h part mode before after → then ≡ writing (h.masked mode) → StepIn h IsWhole part Of at before then after
  filled : (mode : ℕ) (bytes : List ℕ) → at ≡ writing mode → ClosesOutput before.written bytes bytes before after → IsWhole mode bytes → then ≡ whole bytes → StepIn h IsWhole part Of at before then after
  not_filled : (mode : ℕ) (bytes kept : List ℕ) → at ≡ writing mode → ClosesOutput before.written bytes kept before after → then ≡ idle → StepIn h IsWhole part Of at before then after
  named : (bytes path : List ℕ) → at ≡ whole bytes → Of path → MakesLink h part path before after → then ≡ at → StepIn h IsWhole part Of at before then after
  moved : (bytes path : List ℕ) → at ≡ whole bytes → Of path → (HasWay h before.now path → at_path h before.now path ≡ None) → MovesWhat h part path before after → then ≡ idle → StepIn h IsWhole part Of at before then after
  removed : is_writing at ≡ false → Removes h part before after → then ≡ idle → StepIn h IsWhole part Of at before then after
  not_removed : (held : Option Number) → is_writing at ≡ false → after ≡ record before { held = held; unremoved = true } → then ≡ idle → StepIn h IsWhole part Of at before then after
  left : is_writing at ≡ false → after ≡ before → then ≡ idle → StepIn h IsWhole part Of at before then after

pub data StepsIn {I O : Type 0} (h : Host I O) (IsWhole : ℕ → List ℕ → Type 0) (part : List ℕ) (Of : List ℕ → Type 0) (at : Phase) (before : FileSystem) : (then : Phase) → (after : FileSystem) → Type 0 where
  no_step : {then : Phase} {after : FileSystem} → then ≡ at → after ≡ before → StepsIn h IsWhole part Of at before then after
  and_step : {then : Phase} {after : FileSystem} (between : Phase) (mid : FileSystem) → StepsIn h IsWhole part Of at before between mid → StepIn h IsWhole part Of between mid then after
      → StepsIn h IsWhole part Of at before then after

-- where a path of the outputs is any that begins with their folder
abbrev pub Step : {I O : Type 0} → Host I O → (IsWhole : ℕ → List ℕ → Type 0) → (part output : List ℕ) → (at : Phase) → (before : FileSystem) → (then : Phase) → (after : FileSystem) → Type 0
Step h IsWhole part output at before then after = StepIn h IsWhole part (IsNear output) at before then after

abbrev pub Steps : {I O : Type 0} → Host I O → (IsWhole : ℕ → List ℕ → Type 0) → (part output : List ℕ) → (at : Phase) → (before : FileSystem) → (then : Phase) → (after : FileSystem) → Type 0
Steps h IsWhole part output at before then after = StepsIn h IsWhole part (IsNear output) at before then after

pub goes_on : {I O : Type 0} {h : Host I O} {IsWhole : ℕ → List ℕ → Type 0} {part : List ℕ} {Of : List ℕ → Type 0} {at : Phase} {before : FileSystem} {between : Phase} {mid : FileSystem} {then : Phase} {after : FileSystem}
    → StepsIn h IsWhole part Of at before between mid → StepsIn h IsWhole part Of between mid then after → StepsIn h IsWhole part Of at before then after
goes_on {I} {O} {h} {IsWhole} {part} {Of} {at} {before} {between} {mid} {then} {after} first (no_step p s) =
    subst (λ (k : Phase). StepsIn h IsWhole part Of at before k after) (sym p) (subst (λ (x : FileSystem). StepsIn h IsWhole part Of at before between x) (sym s) first)
goes_on first (and_step b m more last) = and_step b m (goes_on first more) last

pub one : {I O : Type 0} {h : Host I O} {IsWhole : ℕ → List ℕ → Type 0} {part : List ℕ} {Of : List ℕ → Type 0} {at : Phase} {before : FileSystem} {then : Phase} {after : FileSystem}
    → StepIn h IsWhole part Of at before then after → StepsIn h IsWhole part Of at before then after
one {at = at} {before = before} step = and_step at before (no_step refl refl) step

pub quiet : {I O : Type 0} {h : Host I O} {IsWhole : ℕ → List ℕ → Type 0} {part : List ℕ} {Of : List ℕ → Type 0} {at : Phase} {before after : FileSystem} → after ≡ before → StepsIn h IsWhole part Of at before at after
quiet is = no_step refl is

-- what each step keeps they all keep
pub all_keep : {I O : Type 0} {h : Host I O} {IsWhole : ℕ → List ℕ → Type 0} {part : List ℕ} {Of : List ℕ → Type 0} (Kept : Phase → FileSystem → Type 0)
    (each : (at : Phase) (before : FileSystem) (then : Phase) (after : FileSystem) → StepIn h IsWhole part Of at before then after → Kept at before → Kept then after)
    (at : Phase) (before : FileSystem) (then : Phase) (after : FileSystem) → StepsIn h IsWhole part Of at before then after → Kept at before → Kept then after
all_keep Kept each at before then after (no_step p s) kept =
    subst (λ (k : Phase). Kept k after) (sym p) (subst (λ (x : FileSystem). Kept at x) (sym s) kept)
all_keep Kept each at before then after (and_step b m more last) kept = each b m then after last (all_keep Kept each at before b m more kept)
