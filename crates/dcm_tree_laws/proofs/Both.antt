-- What holds of a file system after all steps of a run.
use Rattle.std.specs.Prelude.{Bool, []}
use Rattle.std.proofs.Common.{◌≡◌, refl, List, Option, None}
use Rattle.dcm_tree_laws.specs.FileSystem.{FileSystem, Tree, Number, Host}
use Rattle.dcm_tree_laws.proofs.Near.{IsNear}
use Rattle.dcm_tree_laws.specs.Whole.{was_there, nothing, IsWholeAt}
use Rattle.dcm_tree_laws.proofs.Steps.{Phase, idle, StepIn, StepsIn, all_keep}
use Rattle.dcm_tree_laws.proofs.StaysBy.{Keeps, each_keeps}
use Rattle.dcm_tree_laws.proofs.WholeBy.{Holds, each_holds, no_folder}
use Rattle.dcm_files.specs.declared.folders.Found.{Found}
use Rattle.std.proofs.Common.{inl, Some, ℕ}

pub record BothIn {I O : Type 0} (h : Host I O) (IsWhole : ℕ → List ℕ → Type 0) (part : List ℕ) (Of : List ℕ → Type 0) (start : Tree) (at : Phase) (s : FileSystem) : Type 0 where
  pub keeps : Keeps h part Of start at s
  pub holds : Holds h IsWhole part start at s

-- where a path of the outputs is any that begins with their folder
abbrev pub Both : {I O : Type 0} → Host I O → (IsWhole : ℕ → List ℕ → Type 0) → (part output : List ℕ) → (start : Tree) → (at : Phase) → FileSystem → Type 0
Both h IsWhole part output start at s = BothIn h IsWhole part (IsNear output) start at s

pub each : {I O : Type 0} (h : Host I O) (IsWhole : ℕ → List ℕ → Type 0) (part : List ℕ) (Of : List ℕ → Type 0) (start : Tree) → Of part → (at : Phase) (before : FileSystem) (then : Phase) (after : FileSystem)
    → StepIn h IsWhole part Of at before then after → BothIn h IsWhole part Of start at before → BothIn h IsWhole part Of start then after
each h IsWhole part Of start of_output at before then after step both = record {
  keeps = each_keeps h IsWhole part Of start of_output at before then after (λ rest other. no_folder h IsWhole part start at before both.holds rest other) step both.keeps;
  holds = each_holds h IsWhole part Of start at before then after step both.holds;
}

as_it_was : (IsWhole : ℕ → List ℕ → Type 0) (start : Tree) (p : List ℕ) (o : Option Found) → start.at p ≡ o → IsWholeAt IsWhole start start p
as_it_was IsWhole start p None is = nothing is
as_it_was IsWhole start p (Some f) is = was_there f is is refl

-- one as it is found, with the file that is held, and in which a file could not be removed before, or not
abbrev pub afresh : Tree → (held : Option Number) → (unremoved : Bool) → FileSystem
afresh start held unremoved = record { now = start; earlier = []; written = None; held = held; unremoved = unremoved }

first : {I O : Type 0} (h : Host I O) (IsWhole : ℕ → List ℕ → Type 0) (part : List ℕ) (Of : List ℕ → Type 0) (start : Tree) (held : Option Number) (unremoved : Bool) → BothIn h IsWhole part Of start idle (afresh start held unremoved)
first h IsWhole part Of start held unremoved = record {
  keeps = record {
    stays = record { there = λ p f other is. is; bytes = λ p f other is. refl; new = λ p. inl refl };
    earlier = tt;
    quiet = refl;
  };
  holds = record { none_half = λ p other. as_it_was IsWhole start p (start.at p) refl; earlier = tt; part_at = tt };
}

-- after any steps
pub after_steps : {I O : Type 0} (h : Host I O) (IsWhole : ℕ → List ℕ → Type 0) (part : List ℕ) (Of : List ℕ → Type 0) (start : Tree) (held : Option Number) (unremoved : Bool) → Of part → (then : Phase) (after : FileSystem)
    → StepsIn h IsWhole part Of idle (afresh start held unremoved) then after → BothIn h IsWhole part Of start then after
after_steps h IsWhole part Of start held unremoved of_output then after steps =
    all_keep (BothIn h IsWhole part Of start) (each h IsWhole part Of start of_output) idle (afresh start held unremoved) then after steps (first h IsWhole part Of start held unremoved)
