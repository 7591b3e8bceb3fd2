-- A part gets the name of an output, and is removed.
use Rattle.std.proofs.Common.{◌≡◌, ◌∙◌, refl, sym, subst, ℕ, ◌+◌, ◌<◌, List, length, true, false, None, Ok, Err, arith}
use Rattle.dcm_walk.specs.Names.{below}
use Rattle.dcm_trees.specs.declared.part.Naming.{Naming}
use Rattle.dcm_trees.specs.declared.part.Naming.TheVariants.{Linked, Moved, NotFree, Failed}
use Rattle.dcm_trees.specs.Modes.{Modes}
use Rattle.dcm_trees.specs.Part as spec
use Rattle.dcm_trees.specs.Part.{RemovesPart, MovesPart, MovesIfFree, GivesSecondName, GivesName, ClearsPart, is_moved}
use Rattle.dcm_tree_laws.specs.FileSystem.{FileSystem, Host, may_do, folders_do, HasWay, at_path}
use Rattle.dcm_tree_laws.proofs.Near.{IsNear}
use Rattle.dcm_tree_laws.proofs.Quiet.{are_quiet}
use Rattle.dcm_tree_laws.proofs.Looking.{finds, free_nothing}
use Rattle.dcm_tree_laws.proofs.Making.{Leads, makes_way_in, leads_near}
use Rattle.dcm_tree_laws.proofs.Steps.{Phase, idle, whole, is_writing, Steps, StepsIn, named, moved, removed, left, not_removed, goes_on, one, quiet}

-- where the run is after the part was named so
abbrev pub phase_of : (bytes : List ℕ) → Naming → Phase
phase_of bytes Moved = idle
phase_of bytes Linked = whole bytes
phase_of bytes (NotFree place) = whole bytes
phase_of bytes Failed = whole bytes

pub by_naming : {I O : Type 0} {h : Host I O} {IsWhole : ℕ → List ℕ → Type 0} {part : List ℕ} {Of : List ℕ → Type 0} {at : Phase} {before after : FileSystem} (bytes : List ℕ) (naming other : Naming) → naming ≡ other
    → StepsIn h IsWhole part Of at before (phase_of bytes other) after → StepsIn h IsWhole part Of at before (phase_of bytes naming) after
by_naming {I} {O} {h} {IsWhole} {part} {Of} {at} {before} {after} bytes naming other is steps = subst (λ (n : Naming). StepsIn h IsWhole part Of at before (phase_of bytes n) after) (sym is) steps

pub removes_part : {I O : Type 0} (h : Host I O) (IsWhole : ℕ → List ℕ → Type 0) (part : List ℕ) (Of : List ℕ → Type 0) (at : Phase) → is_writing at ≡ false → (before after : FileSystem) → RemovesPart (may_do {I = I} h) part before after
    → StepsIn h IsWhole part Of at before idle after
removes_part h IsWhole part Of at rest before after (spec.no_text t is) = one (left rest is refl)
removes_part h IsWhole part Of at rest before after (spec.removed (Ok u) t call) = one (removed rest call refl)
removes_part h IsWhole part Of at rest before after (spec.removed (Err e) t call) = one (not_removed before.held rest call refl)

moves_part : {I O : Type 0} (h : Host I O) (IsWhole : ℕ → List ℕ → Type 0) (part : List ℕ) (Of : List ℕ → Type 0) (bytes path : List ℕ) → Of path → (before : FileSystem) → (HasWay h before.now path → at_path h before.now path ≡ None)
    → (naming : Naming) (after : FileSystem) → MovesPart (may_do {I = I} h) part path before naming after → StepsIn h IsWhole part Of (whole bytes) before (phase_of bytes naming) after
moves_part h IsWhole part Of bytes path to before nothing naming after (spec.moved call is) = by_naming bytes naming Moved is (one (moved bytes path refl to nothing call refl))
moves_part h IsWhole part Of bytes path to before nothing naming after (spec.not_moved e call is) = by_naming bytes naming Failed is (quiet call)

moves_if_free : {I O F : Type 0} (h : Host I O) (IsWhole : ℕ → List ℕ → Type 0) (part : List ℕ) (Of : List ℕ → Type 0) (bytes path : List ℕ) → Of path → (base : ℕ) → 0 < base → (before : FileSystem) (naming : Naming) (after : FileSystem)
    → MovesIfFree (may_do {I = I} h) (folders_do {F = F} h) part path base before naming after → StepsIn h IsWhole part Of (whole bytes) before (phase_of bytes naming) after
moves_if_free {I} {O} {F} h IsWhole part Of bytes path to base some before naming after (spec.not_free place f nf is) = by_naming bytes naming (NotFree place) is (quiet (finds (folders_do {F = F} h) (are_quiet h) path base before place after f))
moves_if_free {I} {O} {F} h IsWhole part Of bytes path to base some before naming after (spec.free place looked f nf m) =
    let same : looked ≡ before = finds (folders_do {F = F} h) (are_quiet h) path base before place looked f in
    goes_on (quiet same)
    (moves_part {I = I} h IsWhole part Of bytes path to looked
    (subst (λ (s : FileSystem). HasWay h s.now path → at_path h s.now path ≡ None) (sym same) (free_nothing {F = F} h path base before place looked some f nf)) naming after m)

pub gives_second : {I O F : Type 0} (h : Host I O) (IsWhole : ℕ → List ℕ → Type 0) (part : List ℕ) (Of : List ℕ → Type 0) (bytes path : List ℕ) → Of path → (base : ℕ) → 0 < base → (before : FileSystem) (naming : Naming) (after : FileSystem)
    → GivesSecondName (may_do {I = I} h) (folders_do {F = F} h) part path base before naming after → StepsIn h IsWhole part Of (whole bytes) before (phase_of bytes naming) after
gives_second h IsWhole part Of bytes path to base some before naming after (spec.no_part_text t is same) = by_naming bytes naming Failed is (quiet same)
gives_second h IsWhole part Of bytes path to base some before naming after (spec.no_text t u is same) = by_naming bytes naming Failed is (quiet same)
gives_second h IsWhole part Of bytes path to base some before naming after (spec.linked t u call is) = by_naming bytes naming Linked is (one (named bytes path refl to call refl))
gives_second {I} {O} {F} h IsWhole part Of bytes path to base some before naming after (spec.was_there e tried t u call k (spec.found place f is)) =
    by_naming bytes naming (NotFree place) is (quiet (finds (folders_do {F = F} h) (are_quiet h) path base tried place after f ∙ call))
gives_second {I} {O} {F} h IsWhole part Of bytes path to base some before naming after (spec.not_linked e tried t u call k m) =
    goes_on (quiet call) (moves_if_free {I = I} {F = F} h IsWhole part Of bytes path to base some tried naming after m)

pub gives_name_in : {I O F : Type 0} {modes : Modes} (h : Host I O) (IsWhole : ℕ → List ℕ → Type 0) (part : List ℕ) (Of : List ℕ → Type 0) (bytes path : List ℕ) (base : ℕ) → 0 < base → Leads Of path base → (before : FileSystem) (naming : Naming) (after : FileSystem)
    → GivesName (may_do {I = I} h) (folders_do {F = F} h) modes part path base before naming after → StepsIn h IsWhole part Of (whole bytes) before (phase_of bytes naming) after
gives_name_in {I} {O} {F} h IsWhole part Of bytes path base some leads before naming after (spec.no_way e m n) =
    by_naming bytes naming Failed n (makes_way_in {F = F} h IsWhole part Of (whole bytes) refl path base leads before (Err e) after m)
gives_name_in {I} {O} {F} h IsWhole part Of bytes path base some leads before naming after (spec.on_its_way has_way m g) =
    goes_on (makes_way_in {F = F} h IsWhole part Of (whole bytes) refl path base leads before (Ok _) has_way m)
    (gives_second {I = I} {F = F} h IsWhole part Of bytes path leads.end base some has_way naming after g)

pub gives_name : {I O F : Type 0} {modes : Modes} (h : Host I O) (IsWhole : ℕ → List ℕ → Type 0) (part output bytes path relative : List ℕ) → path ≡ below output relative → (before : FileSystem) (naming : Naming) (after : FileSystem)
    → GivesName (may_do {I = I} h) (folders_do {F = F} h) modes part path (length output + 1) before naming after → Steps h IsWhole part output (whole bytes) before (phase_of bytes naming) after
gives_name {I} {O} {F} h IsWhole part output bytes path relative is =
    gives_name_in {I = I} {F = F} h IsWhole part (IsNear output) bytes path (length output + 1) (omega arith) (leads_near output relative path (length output + 1) is (omega arith))

cleared_rest : (bytes : List ℕ) (naming : Naming) → is_writing (phase_of bytes naming) ≡ false
cleared_rest bytes Moved = refl
cleared_rest bytes Linked = refl
cleared_rest bytes (NotFree place) = refl
cleared_rest bytes Failed = refl

moved_idle : (bytes : List ℕ) (naming : Naming) → is_moved naming ≡ true → phase_of bytes naming ≡ idle
moved_idle bytes Moved is = refl
moved_idle bytes Linked is = absurd (cc)
moved_idle bytes (NotFree place) is = absurd (cc)
moved_idle bytes Failed is = absurd (cc)

pub clears_part : {I O : Type 0} (h : Host I O) (IsWhole : ℕ → List ℕ → Type 0) (part : List ℕ) (Of : List ℕ → Type 0) (bytes : List ℕ) (naming : Naming) (before after : FileSystem) → ClearsPart (may_do {I = I} h) naming part before after
    → StepsIn h IsWhole part Of (phase_of bytes naming) before idle after
clears_part h IsWhole part Of bytes naming before after (spec.moved is same) = one (left (cleared_rest bytes naming) same refl)
clears_part {I} h IsWhole part Of bytes naming before after (spec.removed is r) = removes_part {I = I} h IsWhole part Of (phase_of bytes naming) (cleared_rest bytes naming) before after r
