-- The visits of a walk can be noted.
use Rattle.std.proofs.Common.{refl, ap, ℕ, zero, suc, List, [], ◌∷◌, ◌++◌, take, Bool, true, false, Option, Result, Ok, Err}
use Rattle.dcm_files.specs.Folders.{FoldersDo}
use Rattle.dcm_files.specs.declared.folders.Found.{Found}
use Rattle.dcm_names.specs.Names.{NAME_LIMIT}
use Rattle.dcm_walk.specs.Folder as walk
use Rattle.dcm_walk.specs.Folder.{DoesNamed, Listed, DoesNames, DoesFolder, Enters, EntersAt, EntryAt, WalksFolder, named_at, LEVELS}
use Rattle.dcm_walk.specs.List as lists
use Rattle.dcm_walk.specs.List.{DoesLine, DoesLines, WalksList}
use Rattle.dcm_walk.specs.Names.{below}
use Rattle.dcm_walk.specs.Visits.{Named, Step, Visits}
use Rattle.dcm_walk.specs.declared.folder.FolderNumber.{FolderNumber}
use Rattle.dcm_walk.specs.declared.folder.Walk.{Walk}
use Rattle.dcm_walk.specs.declared.list.ListEnd.{ListEnd}
use Rattle.dcm_walk.specs.declared.visitor.Stopped.{Stopped}
use Rattle.dcm_walk.specs.declared.visitor.What.{What}
use Rattle.dcm_tree_laws.specs.Rows.{Visit, noted}

-- a step is done with more noted
abbrev pub Notes : {V S : Type 0} → Step V S → Step (V × List Visit) S → Type 0
Notes {V} {S} step with_notes = (from : V) (before : S) (r : Result (Unit {0}) Stopped) (to : V) (after : S) → step from before r to after → (notes : List Visit)
    → (more : List Visit) × with_notes (from, notes) before r (to, more) after

visit_noted : {V S : Type 0} (visits : Visits V S) (n : Named) (what : What) (from : V) (before : S) (r : Result (Unit {0}) Stopped) (to : V) (after : S) → visits from before n what r to after → (notes : List Visit)
    → (more : List Visit) × noted visits (from, notes) before n what r (to, more) after
visit_noted visits n what from before r to after v notes = (notes ++ record { named = n; what = what } ∷ [], (v, refl))

named_noted : {V S O F : Type 0} (d : FoldersDo S O F) (visits : Visits V S) (Enter : Found → Named → Step V S) (EnterNoted : Found → Named → Step (V × List Visit) S) → ((found : Found) (n : Named) → Notes (Enter found n) (EnterNoted found n))
    → (n : Named) → Notes (DoesNamed d visits Enter n) (DoesNamed d (noted visits) EnterNoted n)
named_noted d visits Enter EnterNoted enters n from before r to after (walk.not_fit what judged v) notes = let x = visit_noted visits n what from before r to after v notes in (x.0, walk.not_fit what judged x.1)
named_noted d visits Enter EnterNoted enters n from before r to after (walk.not_seen looked fit s v) notes = let x = visit_noted visits n _ from looked r to after v notes in (x.0, walk.not_seen looked fit s x.1)
named_noted d visits Enter EnterNoted enters n from before r to after (walk.a_file found looked fit s is v) notes = let x = visit_noted visits n _ from looked r to after v notes in (x.0, walk.a_file found looked fit s is x.1)
named_noted d visits Enter EnterNoted enters n from before r to after (walk.no_file found looked fit s is v) notes = let x = visit_noted visits n _ from looked r to after v notes in (x.0, walk.no_file found looked fit s is x.1)
named_noted d visits Enter EnterNoted enters n from before r to after (walk.a_folder found looked fit s is e) notes = let x = enters found n from looked r to after e notes in (x.0, walk.a_folder found looked fit s is x.1)

listed_noted : {V S O F : Type 0} (d : FoldersDo S O F) (Entry : List ℕ → Step V S) (EntryNoted : List ℕ → Step (V × List Visit) S) → ((name : List ℕ) → Notes (Entry name) (EntryNoted name))
    → (from : V) (before : S) (folder : F) (count : ℕ) (to : V) (after : S) (left : F) → Listed d Entry from before folder count to after left → (notes : List Visit)
    → (more : List Visit) × Listed d EntryNoted (from, notes) before folder count (to, more) after left
listed_noted d Entry EntryNoted entries from before folder count to after left (walk.none_listed c v s f) notes = (notes, walk.none_listed c (ap (λ x. (x, notes)) v) s f)
listed_noted d Entry EntryNoted entries from before folder count to after left (walk.and_entry others name mid between given at listed call entry c) notes =
    let x = listed_noted d Entry EntryNoted entries from before folder others mid between at listed notes in
    let y = entries name mid given (Ok _) to after entry x.0 in
    (y.0, walk.and_entry others name (mid, x.0) between given at x.1 call y.1 c)

names_noted : {V S O F : Type 0} (d : FoldersDo S O F) (Entry : List ℕ → Step V S) (EntryNoted : List ℕ → Step (V × List Visit) S) → ((name : List ℕ) → Notes (Entry name) (EntryNoted name))
    → (folder left : F) (from : V) (before : S) (r : Result Bool Stopped) (to : V) (after : S) → DoesNames d Entry folder left from before r to after → (notes : List Visit)
    → (more : List Visit) × DoesNames d EntryNoted folder left (from, notes) before r (to, more) after
names_noted d Entry EntryNoted entries folder left from before r to after (walk.all_listed count at listed l call is) notes =
    let x = listed_noted d Entry EntryNoted entries from before folder count to listed at l notes in (x.0, walk.all_listed count at listed x.1 call is)
names_noted d Entry EntryNoted entries folder left from before r to after (walk.not_listed count e at listed l call is) notes =
    let x = listed_noted d Entry EntryNoted entries from before folder count to listed at l notes in (x.0, walk.not_listed count e at listed x.1 call is)
names_noted d Entry EntryNoted entries folder left from before r to after (walk.too_many l is) notes =
    let x = listed_noted d Entry EntryNoted entries from before folder _ to after left l notes in (x.0, walk.too_many x.1 is)
names_noted d Entry EntryNoted entries folder left from before r to after (walk.was_stopped count name e at mid listed given l call entry is) notes =
    let x = listed_noted d Entry EntryNoted entries from before folder count mid listed at l notes in
    let y = entries name mid given (Err e) to after entry x.0 in
    (y.0, walk.was_stopped count name e at (mid, x.0) listed given x.1 call y.1 is)

folder_noted : {V S O F : Type 0} (d : FoldersDo S O F) (visits : Visits V S) (Entry : List ℕ → Step V S) (EntryNoted : List ℕ → Step (V × List Visit) S) → ((name : List ℕ) → Notes (Entry name) (EntryNoted name))
    → (n : Named) (folder : F) → Notes (DoesFolder d visits Entry n folder) (DoesFolder d (noted visits) EntryNoted n folder)
folder_noted d visits Entry EntryNoted entries n folder from before r to after (walk.whole left listed names close is) notes =
    let x = names_noted d Entry EntryNoted entries folder left from before (Ok true) to listed names notes in (x.0, walk.whole left listed x.1 close is)
folder_noted d visits Entry EntryNoted entries n folder from before r to after (walk.not_whole left mid listed was_closed names close v) notes =
    let x = names_noted d Entry EntryNoted entries folder left from before (Ok false) mid listed names notes in
    let y = visit_noted visits n _ mid was_closed r to after v x.0 in
    (y.0, walk.not_whole left (mid, x.0) listed was_closed x.1 close y.1)
folder_noted d visits Entry EntryNoted entries n folder from before r to after (walk.stopped e left listed names close is) notes =
    let x = names_noted d Entry EntryNoted entries folder left from before (Err e) to listed names notes in (x.0, walk.stopped e left listed x.1 close is)

enters_noted : {V S O F : Type 0} (d : FoldersDo S O F) (visits : Visits V S) (w : Walk) (Entry : (folder entry : List ℕ) → Step V S) (EntryNoted : (folder entry : List ℕ) → Step (V × List Visit) S)
    → ((folder entry : List ℕ) → Notes (Entry folder entry) (EntryNoted folder entry)) → (found : Found) (n : Named) → Notes (Enters d visits w Entry found n) (Enters d (noted visits) w EntryNoted found n)
enters_noted d visits w Entry EntryNoted entries found n from before r to after (walk.of_output is v) notes = let x = visit_noted visits n _ from before r to after v notes in (x.0, walk.of_output is x.1)
enters_noted d visits w Entry EntryNoted entries found n from before r to after (walk.not_opened tried is o v) notes = let x = visit_noted visits n _ from tried r to after v notes in (x.0, walk.not_opened tried is o x.1)
enters_noted d visits w Entry EntryNoted entries found n from before r to after (walk.entered folder opened is o does) notes =
    let x = folder_noted d visits (Entry n.path) (EntryNoted n.path) (entries n.path) n folder from opened r to after does notes in (x.0, walk.entered folder opened is o x.1)

enters_at_noted : {V S O F : Type 0} (d : FoldersDo S O F) (visits : Visits V S) (w : Walk) (levels : ℕ) (found : Found) (n : Named) → Notes (EntersAt d visits w levels found n) (EntersAt d (noted visits) w levels found n)
unfolding EntersAt
enters_at_noted d visits w zero found n from before r to after v notes = visit_noted visits n _ from before r to after v notes
enters_at_noted d visits w (suc levels) found n from before r to after enters notes =
    enters_noted d visits w (λ folder entry. DoesNamed d visits (EntersAt d visits w levels) (named_at w.base (below folder entry)))
    (λ folder entry. DoesNamed d (noted visits) (EntersAt d (noted visits) w levels) (named_at w.base (below folder entry)))
    (λ folder entry. named_noted d visits (EntersAt d visits w levels) (EntersAt d (noted visits) w levels) (enters_at_noted d visits w levels) (named_at w.base (below folder entry))) found n from before r to after enters notes

-- those in a folder
pub walk_noted : {V S O F : Type 0} (d : FoldersDo S O F) (visits : Visits V S) (path : List ℕ) (output : FolderNumber) (folder : F) → Notes (WalksFolder d visits path output folder) (WalksFolder d (noted visits) path output folder)
walk_noted d visits path output folder from before r to after does notes =
    folder_noted d visits (EntryAt d visits _ LEVELS path) (EntryAt d (noted visits) _ LEVELS path)
    (λ entry. named_noted d visits (EntersAt d visits _ LEVELS) (EntersAt d (noted visits) _ LEVELS) (enters_at_noted d visits _ LEVELS) (named_at _ (below path entry))) _ folder from before r to after does notes

-- ---- a list

line_noted : {V S O F : Type 0} (d : FoldersDo S O F) (visits : Visits V S) (output : FolderNumber) (line : List ℕ) → Notes (DoesLine d visits output line) (DoesLine d (noted visits) output line)
line_noted d visits output line from before r to after (lists.not_fit what judged v) notes = let x = visit_noted visits _ what from before r to after v notes in (x.0, lists.not_fit what judged x.1)
line_noted d visits output line from before r to after (lists.looked what mid fit l v) notes = let x = visit_noted visits _ what from mid r to after v notes in (x.0, lists.looked what mid fit l x.1)

lines_listed_noted : {V S I : Type 0} (gets : I → Option (List ℕ) → I → Type 0) (Line : List ℕ → Step V S) (LineNoted : List ℕ → Step (V × List Visit) S) → ((line : List ℕ) → Notes (Line line) (LineNoted line))
    → (from : V) (before : S) (input : I) (to : V) (after : S) (given : List ℕ) (left : I) (is_over : Bool) (names : List (List ℕ)) → lists.Listed gets Line from before input to after given left is_over names → (notes : List Visit)
    → (more : List Visit) × lists.Listed gets LineNoted (from, notes) before input (to, more) after given left is_over names
lines_listed_noted gets Line LineNoted does from before input to after given left is_over names (lists.none_listed v s g l o n) notes = (notes, lists.none_listed (ap (λ x. (x, notes)) v) s g l o n)
lines_listed_noted gets Line LineNoted does from before input to after given left is_over names (lists.and_line earlier bytes rest name mid between at l calls line g n) notes =
    let x = lines_listed_noted gets Line LineNoted does from before input mid between earlier at false rest l notes in
    let y = does (take NAME_LIMIT name) mid between (Ok _) to after line x.0 in
    (y.0, lists.and_line earlier bytes rest name (mid, x.0) between at x.1 calls y.1 g n)

-- those in a list
pub list_noted : {V S O F I : Type 0} (d : FoldersDo S O F) (visits : Visits V S) (gets : I → Option (List ℕ) → I → Type 0) (output : FolderNumber) (from : V) (before : S) (input : I) (r : Result ListEnd Stopped) (to : V) (after : S) (left : I)
    → WalksList d visits gets output from before input r to after left → (notes : List Visit) → (more : List Visit) × WalksList d (noted visits) gets output (from, notes) before input r (to, more) after left
list_noted d visits gets output from before input r to after left (lists.all_done given was_over names at l a is) notes =
    let x = lines_listed_noted gets (DoesLine d visits output) (DoesLine d (noted visits) output) (line_noted d visits output) from before input to after given at was_over names l notes in
    (x.0, lists.all_done given was_over names at x.1 a is)
list_noted d visits gets output from before input r to after left (lists.not_read given was_over names count at l a is) notes =
    let x = lines_listed_noted gets (DoesLine d visits output) (DoesLine d (noted visits) output) (line_noted d visits output) from before input to after given at was_over names l notes in
    (x.0, lists.not_read given was_over names count at x.1 a is)
list_noted d visits gets output from before input r to after left (lists.was_stopped given bytes is_over names rest name e mid between at l calls all line is) notes =
    let x = lines_listed_noted gets (DoesLine d visits output) (DoesLine d (noted visits) output) (line_noted d visits output) from before input mid between given at false names l notes in
    let y = line_noted d visits output (take NAME_LIMIT name) mid between (Err e) to after line x.0 in
    (y.0, lists.was_stopped given bytes is_over names rest name e (mid, x.0) between at x.1 calls all y.1 is)
