-- What holds of a file system as a run goes on, where it depends on all trees that it had what a whole output is.
use Rattle.std.proofs.Common.{◌≡◌, ◌∙◌, refl, sym, ap, subst, ℕ, List, [], ◌∷◌, ◌++◌, false, Option, Some, None, append_assoc}
use Rattle.std.specs.Prelude.{◌≢◌}
use Rattle.dcm_tree_laws.specs.FileSystem.{FileSystem, Tree, Host, WasState, Number, number_of, begins, Notes, TakesPieces, no_piece, and_piece, ClosesOutput, MovesWhat, a_file, same_file, a_folder}
use Rattle.dcm_tree_laws.specs.Stays.{OfEach, OfEachSoFar, AlwaysSoFar}
use Rattle.dcm_tree_laws.specs.Whole.{IsWholeAt, nothing, was_there, a_folder as is_folder, an_output, NoneHalf, NoneHalfSoFar}
use Rattle.dcm_tree_laws.proofs.Both.{BothIn, each, after_steps}
use Rattle.dcm_tree_laws.proofs.StaysBy.{NoFolder, not_idle}
use Rattle.dcm_tree_laws.proofs.Steps.{Phase, idle, is_writing, StepIn, StepsIn, no_step, folder, part_made, filled, not_filled, named, moved, removed, left, not_removed, all_keep}
use Rattle.dcm_tree_laws.proofs.WholeBy.{no_folder}

-- all trees that it had, the latest first
abbrev pub trees_of : FileSystem → List Tree
trees_of s = s.now ∷ s.earlier

-- it had this state when more trees have come, too
pub later_state : (later trees : List Tree) (s : FileSystem) → WasState trees s → WasState (later ++ trees) s
later_state later trees s was = record { later = later ++ was.later; trees_are = ap (λ (ts : List Tree). later ++ ts) was.trees_are ∙ sym (append_assoc later was.later (trees_of s)) }

-- ---- the trees that come to those that were

pub record Adds (trees : List Tree) (s : FileSystem) : Type 0 where
  pub later : List Tree
  pub are : trees_of s ≡ later ++ trees

one_adds : (trees : List Tree) (before after : FileSystem) (w : Option Number) → Notes w before after → Adds trees before → Adds trees after
one_adds trees before after w notes adds = record { later = after.now ∷ adds.later; are = ap (λ (ts : List Tree). after.now ∷ ts) (notes.noted ∙ adds.are) }

none_adds : (trees : List Tree) (before after : FileSystem) → after ≡ before → Adds trees before → Adds trees after
none_adds trees before after same adds = subst (Adds trees) (sym same) adds

pieces_add : (trees : List Tree) (n : Number) (all : List ℕ) (before after : FileSystem) → TakesPieces n all before after → Adds trees before → Adds trees after
pieces_add trees n all before after (no_piece same) adds = none_adds trees before after same adds
pieces_add trees n all before after (and_piece mid front rest pieces is takes) adds = one_adds trees mid after (Some n) takes.notes (pieces_add trees n all before mid pieces adds)

closes_add : (trees : List Tree) (now : Option Number) (all kept : List ℕ) (before after : FileSystem) → ClosesOutput now all kept before after → Adds trees before → Adds trees after
closes_add trees (Some n) all kept before after closes adds = one_adds trees closes.last after None closes.notes (pieces_add trees n all before closes.last closes.pieces adds)
closes_add trees None all kept before after same adds = none_adds trees before after same adds

moves_add : {I O : Type 0} (h : Host I O) (part path : List ℕ) (trees : List Tree) (before after : FileSystem) → NoFolder h part before.now → MovesWhat h part path before after → Adds trees before → Adds trees after
moves_add h part path trees before after no_folder (a_file moves) adds = one_adds trees before after before.written moves.notes adds
moves_add h part path trees before after no_folder (same_file one other way from is number same) adds = none_adds trees before after same adds
moves_add h part path trees before after no_folder (a_folder one is kind stays) adds = absurd (no_folder one is kind)

pub each_adds : {I O : Type 0} (h : Host I O) (IsWhole : ℕ → List ℕ → Type 0) (part : List ℕ) (Of : List ℕ → Type 0) (trees : List Tree) (at : Phase) (before : FileSystem) (then : Phase) (after : FileSystem)
    → (is_writing at ≡ false → at ≢ idle → NoFolder h part before.now) → StepIn h IsWhole part Of at before then after → Adds trees before → Adds trees after
each_adds h IsWhole part Of trees at before then after none (folder path mode rest to makes same) adds = one_adds trees before after before.written makes.notes adds
each_adds h IsWhole part Of trees at before then after none (part_made mode rest makes is) adds = one_adds trees before after (Some (number_of makes.made)) makes.notes adds
each_adds h IsWhole part Of trees at before then after none (filled mode bytes was closes done is) adds = closes_add trees before.written bytes bytes before after closes adds
each_adds h IsWhole part Of trees at before then after none (not_filled mode bytes kept was closes is) adds = closes_add trees before.written bytes kept before after closes adds
each_adds h IsWhole part Of trees at before then after none (named bytes path was to links same) adds = one_adds trees before after before.written links.notes adds
each_adds h IsWhole part Of trees at before then after none (moved bytes path was to nothing_there moves is) adds =
    moves_add h part path trees before after (none (ap is_writing was) (λ e. not_idle bytes (sym was ∙ e))) moves adds
each_adds h IsWhole part Of trees at before then after none (removed rest removes is) adds = one_adds trees before after before.written removes.notes adds
each_adds h IsWhole part Of trees at before then after none (left rest same is) adds = none_adds trees before after same adds
each_adds h IsWhole part Of trees at before then after none (not_removed held rest same is) adds = subst (Adds trees) (sym same) (record { later = adds.later; are = adds.are })

-- ---- what is whole

whole_by : (One Other : ℕ → List ℕ → Type 0) → ((mode : ℕ) (bytes : List ℕ) → One mode bytes → Other mode bytes) → (start now : Tree) (place : List ℕ) → IsWholeAt One start now place → IsWholeAt Other start now place
whole_by One Other becomes start now place (nothing e) = nothing e
whole_by One Other becomes start now place (was_there f e at_start bytes) = was_there f e at_start bytes
whole_by One Other becomes start now place (is_folder f e kind) = is_folder f e kind
whole_by One Other becomes start now place (an_output f e kind done) = an_output f e kind (becomes f.mode (now.bytes (number_of f)) done)

half_by : {I O : Type 0} (h : Host I O) (One Other : ℕ → List ℕ → Type 0) → ((mode : ℕ) (bytes : List ℕ) → One mode bytes → Other mode bytes) → (part : List ℕ) (start now : Tree) → NoneHalf h One part start now → NoneHalf h Other part start now
half_by h One Other becomes part start now half = λ place other. whole_by One Other becomes start now place (half place other)

halves_by : {I O : Type 0} (h : Host I O) (One Other : ℕ → List ℕ → Type 0) → ((mode : ℕ) (bytes : List ℕ) → One mode bytes → Other mode bytes) → (part : List ℕ) (start : Tree) (trees : List Tree) → OfEach (NoneHalf h One part start) trees
    → OfEach (NoneHalf h Other part start) trees
halves_by h One Other becomes part start [] all = tt
halves_by h One Other becomes part start (t ∷ trees) all = (half_by h One Other becomes part start t all.0, halves_by h One Other becomes part start trees all.1)

-- what was whole is so when more trees have come
abbrev pub Grows : (IsWhole : List Tree → ℕ → List ℕ → Type 0) → Type 0
Grows IsWhole = (later trees : List Tree) (mode : ℕ) (bytes : List ℕ) → IsWhole trees mode bytes → IsWhole (later ++ trees) mode bytes

each_so_far : {I O : Type 0} (h : Host I O) (IsWhole : List Tree → ℕ → List ℕ → Type 0) → Grows IsWhole → (part : List ℕ) (start : Tree) (later trees : List Tree) → OfEach (NoneHalf h (IsWhole trees) part start) (later ++ trees)
    → OfEachSoFar (NoneHalfSoFar h IsWhole part start) trees → OfEachSoFar (NoneHalfSoFar h IsWhole part start) (later ++ trees)
each_so_far h IsWhole grows part start [] trees all so_far = so_far
each_so_far h IsWhole grows part start (t ∷ later) trees all so_far =
    (half_by h (IsWhole trees) (IsWhole (later ++ trees)) (grows later trees) part start t all.0, each_so_far h IsWhole grows part start later trees all.1 so_far)

-- ---- a state that a run came to

-- what holds there: each tree so far is as it should be by those that were before it
pub record CameTo {I O : Type 0} (h : Host I O) (IsWhole : List Tree → ℕ → List ℕ → Type 0) (part : List ℕ) (Of : List ℕ → Type 0) (start : Tree) (s : FileSystem) : Type 0 where
  pub both : BothIn h (IsWhole (trees_of s)) part Of start idle s
  pub so_far : AlwaysSoFar (NoneHalfSoFar h IsWhole part start) s

pub still_there : {I O : Type 0} (h : Host I O) (IsWhole : List Tree → ℕ → List ℕ → Type 0) (part : List ℕ) (Of : List ℕ → Type 0) (start : Tree) (before after : FileSystem) → after ≡ before → CameTo h IsWhole part Of start before → CameTo h IsWhole part Of start after
still_there h IsWhole part Of start before after same came = subst (CameTo h IsWhole part Of start) (sym same) came

module _ {I O : Type 0} (h : Host I O) (IsWhole : List Tree → ℕ → List ℕ → Type 0) (grows : Grows IsWhole) (part : List ℕ) (Of : List ℕ → Type 0) (start : Tree) where
  grown : (trees : List Tree) (after : FileSystem) → Adds trees after → (mode : ℕ) (bytes : List ℕ) → IsWhole trees mode bytes → IsWhole (trees_of after) mode bytes
  grown trees after adds mode bytes is = subst (λ (ts : List Tree). IsWhole ts mode bytes) (sym adds.are) (grows adds.later trees mode bytes is)

  come : (before after : FileSystem) → CameTo h IsWhole part Of start before → BothIn h (IsWhole (trees_of before)) part Of start idle after → Adds (trees_of before) after → CameTo h IsWhole part Of start after
  come before after came both adds = record {
    both = record {
      keeps = both.keeps;
      holds = record {
        none_half = half_by h (IsWhole (trees_of before)) (IsWhole (trees_of after)) (grown (trees_of before) after adds) part start after.now both.holds.none_half;
        earlier = halves_by h (IsWhole (trees_of before)) (IsWhole (trees_of after)) (grown (trees_of before) after adds) part start after.earlier both.holds.earlier;
        part_at = tt;
      };
    };
    so_far = subst (OfEachSoFar (NoneHalfSoFar h IsWhole part start)) (sym adds.are)
        (each_so_far h IsWhole grows part start adds.later (trees_of before) (subst (OfEach (NoneHalf h (IsWhole (trees_of before)) part start)) adds.are (both.holds.none_half, both.holds.earlier)) came.so_far);
  }

  step_adds : (trees : List Tree) → Of part → (at : Phase) (before : FileSystem) (then : Phase) (after : FileSystem) → StepIn h (IsWhole trees) part Of at before then after → BothIn h (IsWhole trees) part Of start at before × Adds trees before
      → BothIn h (IsWhole trees) part Of start then after × Adds trees after
  step_adds trees of_output at before then after step had = (
    each h (IsWhole trees) part Of start of_output at before then after step had.0,
    each_adds h (IsWhole trees) part Of trees at before then after (λ rest other. no_folder h (IsWhole trees) part start at before had.0.holds rest other) step had.1,
  )

  pub at_first : Of part → CameTo h IsWhole part Of start (begins start)
  at_first of_output =
      let none_yet : BothIn h (IsWhole []) part Of start idle (begins start) = after_steps h (IsWhole []) part Of start None false of_output idle (begins start) (no_step refl refl) in
      record { both = after_steps h (IsWhole (start ∷ [])) part Of start None false of_output idle (begins start) (no_step refl refl); so_far = (none_yet.holds.none_half, tt) }

  pub further : Of part → (before after : FileSystem) → CameTo h IsWhole part Of start before → StepsIn h (IsWhole (trees_of before)) part Of idle before idle after → CameTo h IsWhole part Of start after
  further of_output before after came steps =
      let had : BothIn h (IsWhole (trees_of before)) part Of start idle after × Adds (trees_of before) after =
      all_keep (λ (at : Phase) (s : FileSystem). BothIn h (IsWhole (trees_of before)) part Of start at s × Adds (trees_of before) s) (step_adds (trees_of before) of_output) idle before idle after steps (came.both, record { later = []; are = refl }) in
      come before after came had.0 had.1
