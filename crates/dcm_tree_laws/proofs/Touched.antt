-- What a name of a run over a tree touches: the place of the part, folders on the way to its output, and that where it is written.
use Rattle.std.proofs.Common.{◌≡◌, ◌∙◌, refl, sym, ap, subst, inl, inr, ◌⊎◌, ℕ, ◌+◌, ◌≤◌, List, [], length, take, Bool, true, false, Option, Some, None, Result, Ok, Err, arith}
use Rattle.dcm_lemmas.proofs.Options.{one_value}
use Rattle.dcm_devices.specs.Writing.{Writer}
use Rattle.dcm_files.specs.declared.folders.Found.{Found}
use Rattle.dcm_files.specs.declared.folders.FoundKind.TheVariants.{File, Folder}
use Rattle.dcm_walk.specs.Names.{below}
use Rattle.dcm_walk.specs.Visits.{Named}
use Rattle.dcm_walk.specs.declared.visitor.What.{What}
use Rattle.dcm_words.specs.Words.{Job}
use Rattle.dcm_cli.specs.Calls.{Reader}
use Rattle.dcm_cli.specs.declared.ending.Ending.{Ending}
use Rattle.dcm_trees.specs.declared.fate.Fate.{Fate}
use Rattle.dcm_trees.specs.declared.file.Done.{Done}
use Rattle.dcm_trees.specs.declared.part.Naming.{Naming}
use Rattle.dcm_trees.specs.declared.part.Naming.TheVariants.{Linked, Moved, NotFree, Failed}
use Rattle.dcm_trees.specs.declared.progress.Stop.{Stop as RunStop}
use Rattle.dcm_trees.specs.declared.place.NotMade.{NotMade}
use Rattle.dcm_trees.specs.Fate.{is_written}
use Rattle.dcm_trees.specs.File as files
use Rattle.dcm_trees.specs.File.{DoesReady, DoesFree, DoesPlaced, DoesNamed, DoesFile, DoesName, under_its_name}
use Rattle.dcm_trees.specs.Lines.{ending_fate}
use Rattle.dcm_trees.specs.Manner.{Manner}
use Rattle.dcm_trees.specs.Modes.{Modes}
use Rattle.dcm_trees.specs.Part as parts
use Rattle.dcm_trees.specs.Part.{MakesPart, RemovesPart, Fills, MovesPart, MovesIfFree, GivesSecondName, GivesName, ClearsPart, NamesOutput, FillsAndNames, naming_fate}
use Rattle.dcm_trees.specs.Place as places
use Rattle.dcm_trees.specs.Place.{MakesNew, HasFolder, AreMade, MakesWay}
use Rattle.dcm_tree_laws.specs.FileSystem.{FileSystem, Tree, Number, Host, place_of, at_path, may_do, folders_do, SameNames, MakesFolder, MakesFile, TakesPieces, no_piece, and_piece, ClosesOutput, MakesLink, MovesWhat, a_file, same_file, a_folder, Removes}
use Rattle.dcm_tree_laws.specs.Laws.{IsOutput, over}
use Rattle.dcm_tree_laws.proofs.Files.{path_is}
use Rattle.dcm_tree_laws.proofs.Closing.{closes_kept, finished_of}
use Rattle.dcm_tree_laws.proofs.Filling.{opens_file, part_is_made, part_is_new, part_is_not_made, is_filled_as, is_output}
use Rattle.dcm_tree_laws.proofs.Given.{is_named, is_file}
use Rattle.dcm_tree_laws.proofs.Jobs.{finds_job}
use Rattle.dcm_tree_laws.proofs.Looking.{finds, finds_folder, seeks_mode, same_ok}
use Rattle.dcm_tree_laws.proofs.Making.{makes_way, beyond}
use Rattle.dcm_tree_laws.proofs.Quiet.{are_quiet}
use Rattle.dcm_tree_laws.proofs.Steps.{idle, writing, whole, quiet}
use Rattle.dcm_tree_laws.proofs.Ways.{WayFolder, way_folder}
use Rattle.dcm_tree_laws.proofs.WholePart.{IsReady, Ready, ready, then_steps}
use Rattle.dcm_tree_laws.proofs.Written.{IsIdle, more, is_ready}

-- ---- a place that is touched, or not

-- a place is that of a folder on the way to an output
pub record IsOnWay {I O : Type 0} (h : Host I O) (output relative place : List ℕ) : Type 0 where
  pub folder : List ℕ
  pub behind : List ℕ
  pub cut : relative ≡ below folder behind
  pub is : place ≡ place_of h (below output folder)

pub data Touched {I O : Type 0} (h : Host I O) (part output relative : List ℕ) (IsNamed : Type 0) (before after : Tree) (place : List ℕ) : Type 0 where
  as_it_was : after.at place ≡ before.at place → Touched h part output relative IsNamed before after place
  at_part : place ≡ place_of h part → Touched h part output relative IsNamed before after place
  at_output : IsNamed → place ≡ place_of h (below output relative) → Touched h part output relative IsNamed before after place
  at_folder : (f : Found) → IsOnWay h output relative place → after.at place ≡ Some f → f.kind ≡ Folder → Touched h part output relative IsNamed before after place

-- each place is such
abbrev pub Touches : {I O : Type 0} → Host I O → (part output relative : List ℕ) → (IsNamed : Type 0) → (before after : Tree) → Type 0
Touches h part output relative IsNamed before after = (place : List ℕ) → Touched h part output relative IsNamed before after place

module _ {I O : Type 0} (h : Host I O) (part output relative : List ℕ) (IsNamed : Type 0) where
  still_touched : (t u v : Tree) (place : List ℕ) → v.at place ≡ u.at place → Touched h part output relative IsNamed t u place → Touched h part output relative IsNamed t v place
  still_touched t u v place e (as_it_was a) = as_it_was (e ∙ a)
  still_touched t u v place e (at_part a) = at_part a
  still_touched t u v place e (at_output named a) = at_output named a
  still_touched t u v place e (at_folder f way is kind) = at_folder f way (e ∙ is) kind

  then_touched : (t u v : Tree) (place : List ℕ) → Touched h part output relative IsNamed t u place → Touched h part output relative IsNamed u v place → Touched h part output relative IsNamed t v place
  then_touched t u v place first (as_it_was e) = still_touched t u v place e first
  then_touched t u v place first (at_part e) = at_part e
  then_touched t u v place first (at_output named e) = at_output named e
  then_touched t u v place first (at_folder f way is kind) = at_folder f way is kind

  pub then_touches : (t u v : Tree) → Touches h part output relative IsNamed t u → Touches h part output relative IsNamed u v → Touches h part output relative IsNamed t v
  then_touches t u v first second = λ place. then_touched t u v place (first place) (second place)

  pub still : (before after : FileSystem) → after ≡ before → Touches h part output relative IsNamed before.now after.now
  still before after e = λ place. as_it_was (ap (λ (s : FileSystem). s.now.at place) e)

  -- one thing was put somewhere, which may be
  put : (t u : Tree) (at place : List ℕ) → (place ≡ at → Touched h part output relative IsNamed t u place) → (place ≡ at) ⊎ (u.at place ≡ t.at place) → Touched h part output relative IsNamed t u place
  put t u at place may (inl e) = may e
  put t u at place may (inr e) = as_it_was e

  folder_made : {mode : ℕ} (path folder behind : List ℕ) → relative ≡ below folder behind → path ≡ below output folder → (before after : FileSystem) → MakesFolder h path mode before after → Touches h part output relative IsNamed before.now after.now
  folder_made path folder behind cut is before after made = λ place. put before.now after.now (place_of h path) place
      (λ e. at_folder made.made (record { folder = folder; behind = behind; cut = cut; is = e ∙ ap (place_of h) is }) (ap after.now.at e ∙ made.puts.there) made.kind) (made.puts.elsewhere place)

  part_made : (mode : ℕ) (before after : FileSystem) → MakesFile h part mode before after → Touches h part output relative IsNamed before.now after.now
  part_made mode before after made = λ place. put before.now after.now (place_of h part) place (λ e. at_part e) (made.puts.elsewhere place)

  part_removed : (before after : FileSystem) → Removes h part before after → Touches h part output relative IsNamed before.now after.now
  part_removed before after removed = λ place. put before.now after.now (place_of h part) place (λ e. at_part e) (removed.puts.elsewhere place)

  linked : IsNamed → (path : List ℕ) → path ≡ below output relative → (before after : FileSystem) → MakesLink h part path before after → Touches h part output relative IsNamed before.now after.now
  linked named path is before after made = λ place. put before.now after.now (place_of h path) place (λ e. at_output named (e ∙ ap (place_of h) is)) (made.puts.elsewhere place)

  moved_place : IsNamed → (path : List ℕ) → path ≡ below output relative → (t u : Tree) (place : List ℕ) → ((place ≡ place_of h part) ⊎ (place ≡ place_of h path)) ⊎ (u.at place ≡ t.at place) → Touched h part output relative IsNamed t u place
  moved_place named path is t u place (inl (inl e)) = at_part e
  moved_place named path is t u place (inl (inr e)) = at_output named (e ∙ ap (place_of h) is)
  moved_place named path is t u place (inr e) = as_it_was e

  moved : (IsWhole : ℕ → List ℕ → Type 0) → IsNamed → (path : List ℕ) → path ≡ below output relative → (before after : FileSystem) → Ready h IsWhole part before.now → MovesWhat h part path before after → Touches h part output relative IsNamed before.now after.now
  moved IsWhole named path is before after r (a_file m) = λ place. moved_place named path is before.now after.now place (m.elsewhere place)
  moved IsWhole named path is before after r (same_file one other way from to same e) = still before after e
  moved IsWhole named path is before after r (a_folder one at kind stays) =
      absurd (is_file one (subst (λ (g : Found). g.kind ≡ File) (one_value (at_path h before.now part) r.file one r.is at) r.kind) kind)

  same_names : (t u : Tree) → SameNames t u → Touches h part output relative IsNamed t u
  same_names t u same = λ place. as_it_was (same place)

  pieces : (n : Number) (all : List ℕ) (before after : FileSystem) → TakesPieces n all before after → Touches h part output relative IsNamed before.now after.now
  pieces n all before after (no_piece e) = still before after e
  pieces n all before after (and_piece mid front rest more is takes) = then_touches before.now mid.now after.now (pieces n all before mid more) (same_names mid.now after.now takes.names)

  closed : (n : Option Number) (all kept : List ℕ) (before after : FileSystem) → ClosesOutput n all kept before after → Touches h part output relative IsNamed before.now after.now
  closed (Some n) all kept before after c = then_touches before.now c.last.now after.now (pieces n all before c.last c.pieces) (same_names c.last.now after.now c.names)
  closed None all kept before after c = still before after c

  pub removes : (before after : FileSystem) → RemovesPart (may_do {I = I} h) part before after → Touches h part output relative IsNamed before.now after.now
  removes before after (parts.no_text t e) = still before after e
  removes before after (parts.removed (Ok u) t call) = part_removed before after call
  removes before after (parts.removed (Err x) t call) = λ place. as_it_was (ap (λ (s : FileSystem). s.now.at place) call)

  pub clears : (naming : Naming) (before after : FileSystem) → ClearsPart (may_do {I = I} h) naming part before after → Touches h part output relative IsNamed before.now after.now
  clears naming before after (parts.moved is e) = still before after e
  clears naming before after (parts.removed is r) = removes before after r

by_place : {I O : Type 0} (h : Host I O) (part output relative : List ℕ) (A B : Type 0) (t u : Tree) → (A → B) → (place : List ℕ) → Touched h part output relative A t u place → Touched h part output relative B t u place
by_place h part output relative A B t u so place (as_it_was e) = as_it_was e
by_place h part output relative A B t u so place (at_part e) = at_part e
by_place h part output relative A B t u so place (at_output named e) = at_output (so named) e
by_place h part output relative A B t u so place (at_folder f way is kind) = at_folder f way is kind

pub weaker : {I O : Type 0} (h : Host I O) (part output relative : List ℕ) (A B : Type 0) (t u : Tree) → (A → B) → Touches h part output relative A t u → Touches h part output relative B t u
weaker h part output relative A B t u so touches = λ place. by_place h part output relative A B t u so place (touches place)

-- ---- the folders on the way

module _ {I O F : Type 0} (h : Host I O) (part output relative : List ℕ) (IsNamed : Type 0) where
  new_folder : (path : List ℕ) → WayFolder output relative path → (mode : ℕ) (before : FileSystem) (r : Result (Unit {0}) NotMade) (after : FileSystem) → MakesNew (folders_do {F = F} h) path mode before r after → Touches h part output relative IsNamed before.now after.now
  new_folder path w mode before r after (places.no_text e t x same) = still h part output relative IsNamed before after same
  new_folder path w mode before r after (places.made t call is) = folder_made h part output relative IsNamed path w.folder w.behind w.cut w.is before after call
  new_folder path w mode before r after (places.was_there cause tried t call k f is) = still h part output relative IsNamed before after (finds_folder (folders_do {F = F} h) (are_quiet h) path tried true after f ∙ call)
  new_folder path w mode before r after (places.no_folder cause e tried t call k f is) = still h part output relative IsNamed before after (finds_folder (folders_do {F = F} h) (are_quiet h) path tried false after f ∙ call)
  new_folder path w mode before r after (places.not_made cause e t call k is) = still h part output relative IsNamed before after call

  has_folder : {modes : Modes} {base : ℕ} (path : List ℕ) → WayFolder output relative path → (before : FileSystem) (r : Result (Unit {0}) NotMade) (after : FileSystem) → HasFolder (folders_do {F = F} h) modes path base before r after → Touches h part output relative IsNamed before.now after.now
  has_folder path w before r after (places.there_already f is) = still h part output relative IsNamed before after (finds_folder (folders_do {F = F} h) (are_quiet h) path before true after f)
  has_folder path w before r after (places.no_mode n e looked f m is) = still h part output relative IsNamed before after (seeks_mode (folders_do {F = F} h) (are_quiet h) path before looked (Err n) after f m)
  has_folder path w before r after (places.has_mode mode looked seen f m new) =
      then_touches h part output relative IsNamed before.now seen.now after.now (still h part output relative IsNamed before seen (seeks_mode (folders_do {F = F} h) (are_quiet h) path before looked (Ok mode) seen f m)) (new_folder path w mode seen r after new)

  pub are_made : {modes : Modes} (path : List ℕ) → path ≡ below output relative → (base : ℕ) → length output + 1 ≤ base → (before : FileSystem) (at : ℕ) (after : FileSystem) → AreMade (folders_do {F = F} h) modes path base before at after → Touches h part output relative IsNamed before.now after.now
  are_made path is base least before at after (places.none_made a same) = still h part output relative IsNamed before after same
  are_made path is base least before at after (places.and_made from size mid more slash has a) =
      let far : base ≤ from = beyond {F = F} h path base before from mid more in
      then_touches h part output relative IsNamed before.now mid.now after.now (are_made path is base least before from mid more)
      (has_folder (take (from + size) path) (way_folder output relative path is from size (omega (arith, least, far)) slash) mid (Ok _) after has)

  pub way_made : {modes : Modes} (path : List ℕ) → path ≡ below output relative → (base : ℕ) → length output + 1 ≤ base → (before : FileSystem) (r : Result (Unit {0}) NotMade) (after : FileSystem) → MakesWay (folders_do {F = F} h) modes path base before r after → Touches h part output relative IsNamed before.now after.now
  way_made path is base least before r after (places.all_made at more slash e) = are_made path is base least before at after more
  way_made path is base least before r after (places.not_all at size e mid more slash has was) =
      let far : base ≤ at = beyond {F = F} h path base before at mid more in
      then_touches h part output relative IsNamed before.now mid.now after.now (are_made path is base least before at mid more)
      (has_folder (take (at + size) path) (way_folder output relative path is at size (omega (arith, least, far)) slash) mid (Err e) after has)

-- ---- the output gets its name

named_by : (naming other : Naming) → naming ≡ other → is_named other ≡ true → is_named naming ≡ true
named_by naming other is named = ap is_named is ∙ named

pub named_written : (naming : Naming) (fate : Fate) (continues : Bool) → is_written fate ≡ true → is_named naming ≡ true → is_written (naming_fate naming fate continues) ≡ true
named_written Linked fate continues written named = written
named_written Moved fate continues written named = written
named_written (NotFree place) fate continues written named = absurd (cc)
named_written Failed fate continues written named = absurd (cc)

module _ {I O : Type 0} (h : Host I O) (IsWhole : ℕ → List ℕ → Type 0) (part output relative path bytes : List ℕ) (is : path ≡ below output relative) where
  moves : (naming : Naming) (start before after : FileSystem) → IsReady h IsWhole part output bytes start before → MovesPart (may_do {I = I} h) part path before naming after
      → Touches h part output relative (is_named naming ≡ true) before.now after.now
  moves naming start before after r (parts.moved call n) = moved h part output relative (is_named naming ≡ true) IsWhole (named_by naming Moved n refl) path is before after (ready r) call
  moves naming start before after r (parts.not_moved e call n) = still h part output relative (is_named naming ≡ true) before after call

module _ {I O F : Type 0} (h : Host I O) (IsWhole : ℕ → List ℕ → Type 0) (part output relative path bytes : List ℕ) (is : path ≡ below output relative) where
  if_free : (naming : Naming) (base : ℕ) (start before after : FileSystem) → IsReady h IsWhole part output bytes start before → MovesIfFree (may_do {I = I} h) (folders_do {F = F} h) part path base before naming after
      → Touches h part output relative (is_named naming ≡ true) before.now after.now
  if_free naming base start before after r (parts.not_free place f nf n) = still h part output relative (is_named naming ≡ true) before after (finds (folders_do {F = F} h) (are_quiet h) path base before place after f)
  if_free naming base start before after r (parts.free place looked f nf m) =
      let same : looked ≡ before = finds (folders_do {F = F} h) (are_quiet h) path base before place looked f in
      then_touches h part output relative (is_named naming ≡ true) before.now looked.now after.now (still h part output relative (is_named naming ≡ true) before looked same) (moves h IsWhole part output relative path bytes is naming start looked after (then_steps r (quiet same)) m)

  second : (naming : Naming) (base : ℕ) (start before after : FileSystem) → IsReady h IsWhole part output bytes start before → GivesSecondName (may_do {I = I} h) (folders_do {F = F} h) part path base before naming after
      → Touches h part output relative (is_named naming ≡ true) before.now after.now
  second naming base start before after r (parts.no_part_text t n same) = still h part output relative (is_named naming ≡ true) before after same
  second naming base start before after r (parts.no_text t u n same) = still h part output relative (is_named naming ≡ true) before after same
  second naming base start before after r (parts.linked t u call n) = linked h part output relative (is_named naming ≡ true) (named_by naming Linked n refl) path is before after call
  second naming base start before after r (parts.was_there e tried t u call k (parts.found place f n)) =
      still h part output relative (is_named naming ≡ true) before after (finds (folders_do {F = F} h) (are_quiet h) path base tried place after f ∙ call)
  second naming base start before after r (parts.not_linked e tried t u call k m) =
      then_touches h part output relative (is_named naming ≡ true) before.now tried.now after.now (still h part output relative (is_named naming ≡ true) before tried call) (if_free naming base start tried after (then_steps r (quiet call)) m)

  pub gives : {modes : Modes} (naming : Naming) (start before after : FileSystem) → IsReady h IsWhole part output bytes start before → GivesName (may_do {I = I} h) (folders_do {F = F} h) modes part path (length output + 1) before naming after
      → Touches h part output relative (is_named naming ≡ true) before.now after.now
  gives naming start before after r (parts.no_way e m n) = way_made {F = F} h part output relative (is_named naming ≡ true) path is (length output + 1) (omega arith) before (Err e) after m
  gives naming start before after r (parts.on_its_way has_way m g) =
      then_touches h part output relative (is_named naming ≡ true) before.now has_way.now after.now
      (way_made {F = F} h part output relative (is_named naming ≡ true) path is (length output + 1) (omega arith) before (Ok _) has_way m)
      (second naming (length output + 1) start has_way after (then_steps r (makes_way {F = F} h IsWhole part output (whole bytes) refl path relative is (length output + 1) (omega arith) before (Ok _) has_way m)) g)

-- ---- the part is made

module _ {I O F : Type 0} (h : Host I O) (part output relative : List ℕ) (IsNamed : Type 0) where
  pub made_part : (mode : ℕ) (before : FileSystem) (o : O) (after : FileSystem) → MakesPart (folders_do {F = F} h) part mode before (Ok o) after → Touches h part output relative IsNamed before.now after.now
  made_part mode before o after (parts.no_text t x same) = absurd (cc)
  made_part mode before o after (parts.made opened t call x) = part_made h part output relative IsNamed mode before after call.0
  made_part mode before o after (parts.is_there e t call k x) = absurd (cc)
  made_part mode before o after (parts.no_memory e t call k x) = absurd (cc)
  made_part mode before o after (parts.not_made e t call k m x) = absurd (cc)

pub no_done : (r : Result Done RunStop) (p : RunStop) (done : Done) → r ≡ Err p → r ≡ Ok done → ⊥
no_done r p done a b = absurd (cc)

-- ---- a file

-- a name touches this, by its fate
abbrev pub By : {I O : Type 0} → Host I O → Manner → (relative : List ℕ) → Fate → (before after : FileSystem) → Type 0
By h m relative fate before after = Touches h m.part m.output relative (is_written fate ≡ true) before.now after.now

module _ {I O : Type 0} (h : Host I O) (r : Reader I) (w : Writer O) (m : Manner) (relative : List ℕ) where
  pub filled : (job : Job) (input : I) (output : O) (before : FileSystem) (ending : Ending) (after : FileSystem) (IsNamed : Type 0) → Fills (may_do h) r w job input output before ending after → Touches h m.part m.output relative IsNamed before.now after.now
  filled job input output before ending after IsNamed f =
      let closes = closes_kept before.written (h.took f.written) before f.closing f.closed f.closes in
      then_touches h m.part m.output relative IsNamed before.now f.closed.now after.now (closed h m.part m.output relative IsNamed before.written (h.took f.written) closes.0 before f.closed closes.1)
      (still h m.part m.output relative IsNamed f.closed after f.releases)

module _ {I O F E : Type 0} (h : Host I O) (r : Reader I) (w : Writer O) (e : Writer E) (m : Manner) (relative path : List ℕ) (is : path ≡ below m.output relative) where
  names_output : (name bytes : List ℕ) (fate : Fate) (from : E) (start before : FileSystem) (became : Fate) (to : E) (after : FileSystem) → is_written fate ≡ true → IsReady h (IsOutput h r w) m.part m.output bytes start before
      → NamesOutput (may_do {I = I} h) (folders_do {F = F} h) e m name path fate from before became to after → By h m relative became before after
  names_output name bytes fate from start before became to after done i n =
      weaker h m.part m.output relative (is_named n.naming ≡ true) (is_written became ≡ true) before.now after.now (λ named. ap is_written n.becomes ∙ named_written n.naming fate m.continues done named)
      (then_touches h m.part m.output relative (is_named n.naming ≡ true) before.now n.named.now after.now
      (gives {F = F} h (IsOutput h r w) m.part m.output relative path bytes is n.naming start before n.named i n.gives)
      (clears h m.part m.output relative (is_named n.naming ≡ true) n.naming n.named after n.clears))

  fills : (job : Job) (name : List ℕ) (mode : ℕ) (input : I) (output : O) → h.took output ≡ [] → (from : E) (start before : FileSystem) (fate : Fate) (to : E) (after : FileSystem) → IsIdle h (IsOutput h r w) m.part m.output (writing (h.masked mode)) start before
      → FillsAndNames (over {F = F} h r w e) job m name path input output from before fate to after → By h m relative fate before after
  fills job name mode input output new from start before fate to after i (parts.not_done ending was_filled f not told gone x) =
      then_touches h m.part m.output relative (is_written fate ≡ true) before.now was_filled.now after.now (filled h r w m relative job input output before ending was_filled (is_written fate ≡ true) f) (removes h m.part m.output relative (is_written fate ≡ true) was_filled after gone)
  fills job name mode input output new from start before fate to after i (parts.has_done ending was_filled told f done reports names) =
      then_touches h m.part m.output relative (is_written fate ≡ true) before.now was_filled.now after.now (filled h r w m relative job input output before ending was_filled (is_written fate ≡ true) f)
      (names_output name (h.took f.written) (ending_fate ending) told start was_filled fate to after done
      (is_ready (h.took f.written) (more i (is_filled_as h (IsOutput h r w) r w m.part m.output (h.masked mode) job input output before ending was_filled f done (is_output h r w mode job input f.left output f.written ending new (finished_of f done) done)))) names)

  readied : (job : Job) (n : Named) (mode : ℕ) (from : E) (before : FileSystem) (result : Result Fate RunStop) (to : E) (after : FileSystem) (fate : Fate) → IsIdle h (IsOutput h r w) m.part m.output idle before before
      → DoesReady (over {F = F} h r w e) job m n mode path from before result to after → result ≡ Ok fate → By h m relative fate before after
  readied job n mode from before result to after fate i (files.not_opened opens told f) ok = still h m.part m.output relative (is_written fate ≡ true) before after (opens_file {I = I} h n.path before None after opens)
  readied job n mode from before result to after fate i (files.no_part input cause opened tried opens makes back tells) ok =
      still h m.part m.output relative (is_written fate ≡ true) before after (back ∙ part_is_not_made {F = F} h m.part mode opened cause tried makes ∙ opens_file {I = I} h n.path before (Some input) opened opens)
  readied job n mode from before result to after fate i (files.filled input output became opened made opens makes f x) ok =
      let same : opened ≡ before = opens_file {I = I} h n.path before (Some input) opened opens in
      subst (λ (k : Fate). By h m relative k before after) (sym (same_ok result became fate x ok))
      (then_touches h m.part m.output relative (is_written became ≡ true) before.now opened.now after.now (still h m.part m.output relative (is_written became ≡ true) before opened same)
      (then_touches h m.part m.output relative (is_written became ≡ true) opened.now made.now after.now (made_part {F = F} h m.part m.output relative (is_written became ≡ true) mode opened output made makes)
      (fills job n.name mode input output (part_is_new {F = F} h m.part mode opened output made makes) from before made became to after
      (more (more i (quiet same)) (part_is_made {F = F} h (IsOutput h r w) m.part m.output mode opened output made makes)) f)))

  freed : (n : Named) (mode : ℕ) (from : E) (before : FileSystem) (result : Result Fate RunStop) (to : E) (after : FileSystem) (fate : Fate) → IsIdle h (IsOutput h r w) m.part m.output idle before before
      → DoesFree (over {F = F} h r w e) m n mode path from before result to after → result ≡ Ok fate → By h m relative fate before after
  freed n mode from before result to after fate i (files.no_days cause f told x) ok = still h m.part m.output relative (is_written fate ≡ true) before after (finds_job h r m.task n.path before (Err cause) after f)
  freed n mode from before result to after fate i (files.has_job job mid f does) ok =
      let same : mid ≡ before = finds_job h r m.task n.path before (Ok job) mid f in
      then_touches h m.part m.output relative (is_written fate ≡ true) before.now mid.now after.now (still h m.part m.output relative (is_written fate ≡ true) before mid same)
      (readied job n mode from mid result to after fate (subst (λ (s : FileSystem). IsIdle h (IsOutput h r w) m.part m.output idle s s) (sym same) i) does ok)

  placed : (n : Named) (mode : ℕ) (from : E) (before : FileSystem) (result : Result Fate RunStop) (to : E) (after : FileSystem) (fate : Fate) → IsIdle h (IsOutput h r w) m.part m.output idle before before
      → DoesPlaced (over {F = F} h r w e) m n mode path from before result to after → result ≡ Ok fate → By h m relative fate before after
  placed n mode from before result to after fate i (files.not_free place f nf told x) ok =
      still h m.part m.output relative (is_written fate ≡ true) before after (finds (folders_do {F = F} h) (are_quiet h) path (length m.output + 1) before place after f)
  placed n mode from before result to after fate i (files.free place looked f nf does) ok =
      let same : looked ≡ before = finds (folders_do {F = F} h) (are_quiet h) path (length m.output + 1) before place looked f in
      then_touches h m.part m.output relative (is_written fate ≡ true) before.now looked.now after.now (still h m.part m.output relative (is_written fate ≡ true) before looked same)
      (freed n mode from looked result to after fate (subst (λ (s : FileSystem). IsIdle h (IsOutput h r w) m.part m.output idle s s) (sym same) i) does ok)

module _ {I O F E : Type 0} (h : Host I O) (r : Reader I) (w : Writer O) (e : Writer E) (m : Manner) (n : Named) where
  named : (mode : ℕ) (from : E) (before : FileSystem) (result : Result Fate RunStop) (to : E) (after : FileSystem) (fate : Fate) → IsIdle h (IsOutput h r w) m.part m.output idle before before
      → DoesNamed (over {F = F} h r w e) m n mode from before result to after → result ≡ Ok fate → By h m n.relative fate before after
  named mode from before result to after fate i (files.too_long none told x same) ok = still h m.part m.output n.relative (is_written fate ≡ true) before after same
  named mode from before result to after fate i (files.placed path at does) ok = placed {F = F} h r w e m n.relative path (path_is m.output n.relative path at) n mode from before result to after fate i does ok

  kept : (mode : ℕ) (from : E) (before : FileSystem) (became : Result Fate RunStop) (result : Result Done RunStop) (to : E) (after : FileSystem) (done : Done) → IsIdle h (IsOutput h r w) m.part m.output idle before before
      → DoesNamed (over {F = F} h r w e) m n mode from before became to after → result ≡ under_its_name became → result ≡ Ok done → By h m n.relative done.fate before after
  kept mode from before (Ok fate) result to after done i does x ok =
      subst (λ (d : Done). By h m n.relative d.fate before after) (sym (same_ok result (record { fate = fate; instance = None }) done x ok)) (named mode from before (Ok fate) to after fate i does refl)
  kept mode from before (Err p) result to after done i does x ok = absurd (no_done result p done x ok)

  file : (mode : ℕ) (from : E) (before : FileSystem) (result : Result Done RunStop) (to : E) (after : FileSystem) (done : Done) → m.keeps_names ≡ true → IsIdle h (IsOutput h r w) m.part m.output idle before before
      → DoesFile (over {F = F} h r w e) m n mode from before result to after → result ≡ Ok done → By h m n.relative done.fate before after
  file mode from before result to after done keeps i (files.an_index index told x same) ok = still h m.part m.output n.relative (is_written done.fate ≡ true) before after same
  file mode from before result to after done keeps i (files.keeps_name became index kept_it does x) ok = kept mode from before became result to after done i does x ok
  file mode from before result to after done keeps i (files.by_instance index not does) ok = absurd (cc)

  pub name_touches : (what : What) (from : E) (before : FileSystem) (result : Result Done RunStop) (to : E) (after : FileSystem) (done : Done) → m.keeps_names ≡ true → IsIdle h (IsOutput h r w) m.part m.output idle before before
      → DoesName (over {F = F} h r w e) m n what from before result to after → result ≡ Ok done → By h m n.relative done.fate before after
  name_touches what from before result to after done keeps i (files.a_file mode is does) ok = file mode from before result to after done keeps i does ok
  name_touches what from before result to after done keeps i (files.no_file other told x same) ok = still h m.part m.output n.relative (is_written done.fate ≡ true) before after same
