-- What was there is there after each run, and an output that is free stays so where it is not touched.
use Rattle.std.proofs.Common.{◌≡◌, ◌∙◌, refl, sym, ap, subst, ℕ, List, [], ◌∷◌, Some, None}
use Rattle.std.specs.Prelude.{◌≢◌}
use Rattle.dcm_lemmas.proofs.Options.{one_value}
use Rattle.dcm_files.specs.declared.folders.Found.{Found}
use Rattle.dcm_files.specs.declared.folders.FoundKind.TheVariants as kinds
use Rattle.dcm_walk.specs.Names.{below}
use Rattle.dcm_trees.specs.Run.{part_name}
use Rattle.dcm_trees.specs.Task.{Task}
use Rattle.dcm_tree_laws.specs.Again.{OfAll}
use Rattle.dcm_tree_laws.specs.FileSystem.{Tree, Host, number_of, place_of, at_path}
use Rattle.dcm_tree_laws.specs.Rows.{Visit}
use Rattle.dcm_tree_laws.specs.Single.{IsAnswered}
use Rattle.dcm_tree_laws.proofs.Near.{Stays}
use Rattle.dcm_tree_laws.specs.Together.{IsNoPart, TakesFolder, IsFree, HasBytes, GoesBeside, no_file, same_output, other_output}
use Rattle.dcm_tree_laws.proofs.Touched.{IsOnWay, Touched, Touches, as_it_was, at_part, at_output, at_folder}

-- ---- what was there is there

-- but at the place of a part
pub record KeepsAll {I O : Type 0} (h : Host I O) (output : List ℕ) (t u : Tree) : Type 0 where
  pub there : (place : List ℕ) (f : Found) → IsNoPart h output place → t.at place ≡ Some f → u.at place ≡ Some f
  pub bytes : (place : List ℕ) (f : Found) → IsNoPart h output place → t.at place ≡ Some f → u.bytes (number_of f) ≡ t.bytes (number_of f)

pub keeps_itself : {I O : Type 0} (h : Host I O) (output : List ℕ) (t : Tree) → KeepsAll h output t t
keeps_itself h output t = record { there = λ place f apart is. is; bytes = λ place f apart is. refl }

pub then_keeps : {I O : Type 0} (h : Host I O) (output : List ℕ) (t u v : Tree) → KeepsAll h output t u → KeepsAll h output u v → KeepsAll h output t v
then_keeps h output t u v first second = record {
  there = λ place f apart is. second.there place f apart (first.there place f apart is);
  bytes = λ place f apart is. second.bytes place f apart (first.there place f apart is) ∙ first.bytes place f apart is;
}

pub stays_keeps : {I O : Type 0} (h : Host I O) (part output : List ℕ) (number : ℕ) (t u : Tree) → part ≡ below output (part_name number) → Stays h part output t u → KeepsAll h output t u
stays_keeps h part output number t u is stays = record {
  there = λ place f apart at. stays.there place f (λ e. apart number (e ∙ ap (place_of h) is)) at;
  bytes = λ place f apart at. stays.bytes place f (λ e. apart number (e ∙ ap (place_of h) is)) at;
}

pub bytes_kept : {I O : Type 0} (h : Host I O) (output : List ℕ) (t u : Tree) (v : Visit) (bytes : List ℕ) → KeepsAll h output t u → HasBytes h output t v bytes → HasBytes h output u v bytes
bytes_kept h output t u v bytes keeps has = record {
  text = has.text;
  file = record { file = has.file.file; is = keeps.there _ has.file.file has.no_part has.file.is; kind = has.file.kind };
  bytes_are = keeps.bytes _ has.file.file has.no_part has.file.is ∙ has.bytes_are;
  no_part = has.no_part;
}

pub beside_kept : {I O : Type 0} (h : Host I O) (output : List ℕ) (t u : Tree) (x : Visit) (bytes : List ℕ) → KeepsAll h output t u → (v : Visit) → GoesBeside h output t x bytes v → GoesBeside h output u x bytes v
beside_kept h output t u x bytes keeps v (no_file not) = no_file not
beside_kept h output t u x bytes keeps v (same_output name what has) = same_output name what (bytes_kept h output t u v bytes keeps has)
beside_kept h output t u x bytes keeps v (other_output one other) = other_output one other

pub all_beside : {I O : Type 0} (h : Host I O) (output : List ℕ) (t u : Tree) (x : Visit) (bytes : List ℕ) → KeepsAll h output t u → (visits : List Visit) → OfAll (GoesBeside h output t x bytes) visits → OfAll (GoesBeside h output u x bytes) visits
all_beside h output t u x bytes keeps [] all = tt
all_beside h output t u x bytes keeps (v ∷ visits) all = (beside_kept h output t u x bytes keeps v all.0, all_beside h output t u x bytes keeps visits all.1)

-- ---- an output that is free

-- where nothing that a name touches is at its place, or on its way and no folder
pub record IsUntouched {I O : Type 0} (h : Host I O) (part output relative other : List ℕ) (IsNamed : Type 0) : Type 0 where
  pub no_part : place_of h (below output relative) ≢ place_of h part
  pub no_output : IsNamed → place_of h (below output relative) ≢ place_of h (below output other)
  pub on_no_way : IsOnWay h output other (place_of h (below output relative)) → ⊥
  pub way_no_part : (folder behind : List ℕ) → relative ≡ below folder behind → place_of h (below output folder) ≢ place_of h part
  pub way_no_output : (folder behind : List ℕ) → relative ≡ below folder behind → IsNamed → place_of h (below output folder) ≢ place_of h (below output other)

module _ {I O : Type 0} (h : Host I O) (part output relative other : List ℕ) (IsNamed : Type 0) (x : IsUntouched h part output relative other IsNamed) (t u : Tree) where
  nothing_stays : Touched h part output other IsNamed t u (place_of h (below output relative)) → at_path h t (below output relative) ≡ None → at_path h u (below output relative) ≡ None
  nothing_stays (as_it_was e) none = e ∙ none
  nothing_stays (at_part e) none = absurd (x.no_part e)
  nothing_stays (at_output named e) none = absurd (x.no_output named e)
  nothing_stays (at_folder f way is kind) none = absurd (x.on_no_way way)

  folder_stays : (folder behind : List ℕ) → relative ≡ below folder behind → Touched h part output other IsNamed t u (place_of h (below output folder)) → TakesFolder h t (below output folder) → TakesFolder h u (below output folder)
  folder_stays folder behind cut (as_it_was e) takes = record { text = takes.text; folder_is = λ f at. takes.folder_is f (sym e ∙ at) }
  folder_stays folder behind cut (at_part e) takes = absurd (x.way_no_part folder behind cut e)
  folder_stays folder behind cut (at_output named e) takes = absurd (x.way_no_output folder behind cut named e)
  folder_stays folder behind cut (at_folder f way is kind) takes = record {
    text = takes.text;
    folder_is = λ g at. ap (λ (k : Found). k.kind) (one_value (at_path h u (below output folder)) g f at is) ∙ kind;
  }

  pub free_stays : Touches h part output other IsNamed t u → IsFree h output relative t → IsFree h output relative u
  free_stays touches free = record {
    fits = free.fits;
    text = free.text;
    nothing = nothing_stays (touches (place_of h (below output relative))) free.nothing;
    way = λ folder behind cut. folder_stays folder behind cut (touches (place_of h (below output folder))) (free.way folder behind cut);
  }

-- ---- an output that was written

-- it has the mode of the file, less the bits that the system takes away, and the bytes of a single run
pub record IsMade {I O : Type 0} (h : Host I O) (task : Task) (output relative : List ℕ) (mode : ℕ) (bytes : List ℕ) (t : Tree) : Type 0 where
  pub file : Found
  pub is : at_path h t (below output relative) ≡ Some file
  pub kind : file.kind ≡ kinds.File
  pub mode_is : file.mode ≡ h.masked mode
  pub answered : IsAnswered task bytes (t.bytes (number_of file))

pub made_kept : {I O : Type 0} (h : Host I O) (task : Task) (output relative : List ℕ) (mode : ℕ) (bytes : List ℕ) (t u : Tree) → IsNoPart h output (place_of h (below output relative)) → KeepsAll h output t u → IsMade h task output relative mode bytes t
    → IsMade h task output relative mode bytes u
made_kept h task output relative mode bytes t u apart keeps made = record {
  file = made.file;
  is = keeps.there _ made.file apart made.is;
  kind = made.kind;
  mode_is = made.mode_is;
  answered = subst (IsAnswered task bytes) (sym (keeps.bytes _ made.file apart made.is)) made.answered;
}

-- ---- one name after another

-- what a name does to the output of one, before which a tree is so, and after which it is done: where it is that name, and of its share
pub record Stepped (IsSo IsDone : Tree → Type 0) (x v : Visit) (IsIts : Type 0) (t u : Tree) : Type 0 where
  pub stage : IsSo t → IsSo u
  pub keeps : IsDone t → IsDone u
  pub came : v ≡ x → IsIts → IsSo t → IsDone u
