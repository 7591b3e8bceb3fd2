-- A walk of a list does what its visits do, one after another.
use Rattle.std.proofs.Common.{sym, subst, ℕ, ◌+◌, List, take, Bool, false, Option, Some, None, Result, Ok, Err}
use Rattle.dcm_files.specs.Folders.{FoldersDo}
use Rattle.dcm_files.specs.declared.folders.Found.{Found}
use Rattle.dcm_files.specs.declared.folders.Links.TheVariants.{Followed}
use Rattle.dcm_names.specs.Names.{NAME_LIMIT}
use Rattle.dcm_walk.specs.List.{Sees, no_text, nothing, not_looked, AreOthers, none_yet, and_folder, LooksAlong, with_none, with_one, Looks, on_the_way, at_its_end, DoesLine, not_fit, looked, named_line}
use Rattle.dcm_walk.specs.List.{Listed, none_listed, and_line, all_done, not_read, was_stopped, WalksList}
use Rattle.dcm_walk.specs.Visits.{Named, Step, Visits}
use Rattle.dcm_walk.specs.declared.folder.FolderNumber.{FolderNumber}
use Rattle.dcm_walk.specs.declared.list.ListEnd.{ListEnd}
use Rattle.dcm_walk.specs.declared.visitor.Stopped.{Stopped}
use Rattle.dcm_walk.specs.declared.visitor.What.{What}
use Rattle.dcm_tree_laws.proofs.Quiet.{Only, IsClosed}
use Rattle.dcm_tree_laws.proofs.Walks.{Does, VisitsDo, looked_then}

sees : {S O F : Type 0} {Same : S → S → Type 0} (d : FoldersDo S O F) → Only Same d → (path : List ℕ) (before : S) (found : Option Found) (after : S) → Sees d path before found after → Same before after
sees d quiet path before None after (no_text t is) = quiet.same before after is
sees d quiet path before None after (nothing t call) = quiet.finds before path Followed (Ok None) after call
sees d quiet path before None after (not_looked e t call) = quiet.finds before path Followed (Err e) after call
sees d quiet path before (Some found) after call = quiet.finds before path Followed (Ok (Some found)) after call

others : {S O F : Type 0} {Same : S → S → Type 0} (d : FoldersDo S O F) → Only Same d → (output : FolderNumber) (relative : List ℕ) (before : S) (at : ℕ) (after : S) → AreOthers d output relative before at after → Same before after
others d quiet output relative before at after (none_yet a s) = quiet.same before after s
others d quiet output relative before at after (and_folder from size found mid more slash s right a) = quiet.both before mid after (others d quiet output relative before from mid more) (sees d quiet (take (from + size) relative) mid found after s)

along : {S O F : Type 0} {Same : S → S → Type 0} (d : FoldersDo S O F) → Only Same d → (output : FolderNumber) (relative : List ℕ) (before : S) (wrong : Option What) (after : S) → LooksAlong d output relative before wrong after → Same before after
along d quiet output relative before wrong after (with_none at o slash is) = others d quiet output relative before at after o
along d quiet output relative before wrong after (with_one at size found what mid o slash s wrong_is is) =
    quiet.both before mid after (others d quiet output relative before at mid o) (sees d quiet (take (at + size) relative) mid found after s)

looks : {S O F : Type 0} {Same : S → S → Type 0} (d : FoldersDo S O F) → Only Same d → (output : FolderNumber) (n : Named) (before : S) (what : What) (after : S) → Looks d output n before what after → Same before after
looks d quiet output n before what after (on_the_way l) = along d quiet output n.relative before (Some what) after l
looks d quiet output n before what after (at_its_end found mid l s is) = quiet.both before mid after (along d quiet output n.relative before None mid l) (sees d quiet n.path mid found after s)

line_does : {V S O F : Type 0} {Same : S → S → Type 0} (d : FoldersDo S O F) → Only Same d → (R : V → S → V → S → Type 0) → IsClosed Same R → (visits : Visits V S) → VisitsDo R visits → (output : FolderNumber) (line : List ℕ) → Does R (DoesLine d visits output line)
line_does d quiet R closed visits visit output line from before r to after (not_fit what judged v) = visit from before (named_line line) what r to after v
line_does d quiet R closed visits visit output line from before r to after (looked what mid fit l v) =
    looked_then R closed from before mid to after (looks d quiet output (named_line line) before what mid l) (visit from mid (named_line line) what r to after v)

listed_does : {V S I : Type 0} {Same : S → S → Type 0} (R : V → S → V → S → Type 0) → IsClosed Same R → (gets : I → Option (List ℕ) → I → Type 0) (Line : List ℕ → Step V S) → ((line : List ℕ) → Does R (Line line))
    → (from : V) (before : S) (input : I) (to : V) (after : S) (given : List ℕ) (left : I) (is_over : Bool) (names : List (List ℕ)) → Listed gets Line from before input to after given left is_over names → R from before to after
listed_does R closed gets Line visit from before input to after given left is_over names (none_listed v s g l o n) = subst (λ x. R from before x after) (sym v) (closed.none from before after s)
listed_does R closed gets Line visit from before input to after given left is_over names (and_line earlier more rest name mid between at l calls line g n) =
    closed.then from mid to before between after (listed_does R closed gets Line visit from before input mid between earlier at false rest l) (visit (take NAME_LIMIT name) mid between (Ok _) to after line)

pub lines_do : {V S O F I : Type 0} {Same : S → S → Type 0} (d : FoldersDo S O F) → Only Same d → (R : V → S → V → S → Type 0) → IsClosed Same R → (visits : Visits V S) → VisitsDo R visits → (gets : I → Option (List ℕ) → I → Type 0) (output : FolderNumber)
    (from : V) (before : S) (input : I) (r : Result ListEnd Stopped) (to : V) (after : S) (left : I) → WalksList d visits gets output from before input r to after left → R from before to after
lines_do d quiet R closed visits visit gets output from before input r to after left (all_done given was_over names at l a is) =
    listed_does R closed gets (DoesLine d visits output) (line_does d quiet R closed visits visit output) from before input to after given at was_over names l
lines_do d quiet R closed visits visit gets output from before input r to after left (not_read given was_over names count at l a is) =
    listed_does R closed gets (DoesLine d visits output) (line_does d quiet R closed visits visit output) from before input to after given at was_over names l
lines_do d quiet R closed visits visit gets output from before input r to after left (was_stopped given more is_over names rest name e mid between at l calls all line is) =
    closed.then from mid to before between after (listed_does R closed gets (DoesLine d visits output) (line_does d quiet R closed visits visit output) from before input mid between given at false names l)
    (line_does d quiet R closed visits visit output (take NAME_LIMIT name) mid between (Err e) to after line)
