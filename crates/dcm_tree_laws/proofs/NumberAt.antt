-- The folder of the outputs is told from others by the number of what is at its path.
use Rattle.std.proofs.Common.{◌≡◌, ◌∙◌, refl, sym, subst, ℕ, List, Bool, true, Option, Some, Result, Ok, Err}
use Rattle.std.specs.Prelude.{IfOk}
use Rattle.dcm_files.specs.Folders.{FoldersDo}
use Rattle.dcm_files.specs.declared.folders.Found.{Found}
use Rattle.dcm_files.specs.declared.folders.FoundKind.TheVariants.{Folder}
use Rattle.dcm_files.specs.declared.folders.Links.TheVariants.{Followed}
use Rattle.dcm_walk.specs.declared.folder.FolderNumber.{FolderNumber}
use Rattle.dcm_trees.specs.declared.beginning.Refusal.{Refusal}
use Rattle.dcm_trees.specs.Beginning as spec
use Rattle.dcm_trees.specs.Beginning.{Looks, Numbers, Climbed, Climbs, IsThere, NumbersFolder, MakesOutput, Compares, MakesApart, HasOutput}
use Rattle.dcm_trees.specs.Modes.{Modes}
use Rattle.dcm_tree_laws.specs.Course.{IsNumberAt}
use Rattle.dcm_tree_laws.specs.FileSystem.{FileSystem, Tree, Host}
use Rattle.dcm_tree_laws.proofs.Beginnings.{numbers, is_there, numbers_folder, compares}
use Rattle.dcm_tree_laws.proofs.Looking.{same_ok}
use Rattle.dcm_tree_laws.proofs.Quiet.{Quiet}

by_state : {I O : Type 0} (h : Host I O) (path : List ℕ) (number : FolderNumber) (s t : FileSystem) → t ≡ s → IsNumberAt h s.now path number → IsNumberAt h t.now path number
by_state h path number s t same at = subst (λ (x : FileSystem). IsNumberAt h x.now path number) (sym same) at

by_number : {I O : Type 0} (h : Host I O) (path : List ℕ) (t : Tree) (a b : FolderNumber) (r : Result FolderNumber Refusal) → r ≡ Ok b → r ≡ Ok a → IsNumberAt h t path a → IsNumberAt h t path b
by_number h path t a b r e f at = subst (IsNumberAt h t path) (same_ok r b a e f) at

if_so : {A : Type 0} (IsSo : A → Type 0) (r : Result A Refusal) (a : A) → r ≡ Ok a → IsSo a → IfOk r IsSo
if_so {A} IsSo r a is so = subst (λ (x : Result A Refusal). IfOk x IsSo) (sym is) so

if_not : {A : Type 0} (IsSo : A → Type 0) (r : Result A Refusal) (e : Refusal) → r ≡ Err e → IfOk r IsSo
if_not {A} IsSo r e is = subst (λ (x : Result A Refusal). IfOk x IsSo) (sym is) tt

-- a folder is at a path, links followed
pub record FolderThere {I O : Type 0} (h : Host I O) (path : List ℕ) (t : Tree) : Type 0 where
  pub found : Found
  pub is : t.at (h.leads Followed path) ≡ Some found
  pub kind : found.kind ≡ Folder

module _ {I O F : Type 0} (h : Host I O) (d : FoldersDo FileSystem O F) (quiet : Quiet d)
    (finds : (before : FileSystem) (path : List ℕ) (found : Option Found) (after : FileSystem) → d.finds before path Followed (Ok found) after → found ≡ before.now.at (h.leads Followed path)) where
  looked_at : (path : List ℕ) (before : FileSystem) (found : Found) (after : FileSystem) → Looks d path before (Ok (Some found)) after → IsNumberAt h before.now path (spec.number_of found)
  looked_at path before found after (spec.no_text t is same) = absurd (cc)
  looked_at path before found after (spec.looked other t call is) =
      record { found = found; is = sym (finds before path other after call) ∙ same_ok (Ok other) (Some found) other (sym is) refl; device_is = refl; number_is = refl }
  looked_at path before found after (spec.not_looked e t call is) = absurd (cc)

  pub number_at : (path : List ℕ) (before : FileSystem) (number : FolderNumber) (after : FileSystem) → Numbers d path before (Ok number) after → IsNumberAt h before.now path number
  number_at path before number after (spec.numbered found l is) = by_number h path before.now (spec.number_of found) number (Ok number) refl is (looked_at path before found after l)
  number_at path before number after (spec.nothing l is) = absurd (cc)
  number_at path before number after (spec.not_seen refusal l is) = absurd (cc)

  climbed_at : (path : List ℕ) (other : FolderNumber) (before : FileSystem) (at : List ℕ) (first last : FolderNumber) (has_other : Bool) (after : FileSystem) → Climbed d path other before at first last has_other after → IsNumberAt h before.now path first
  climbed_at path other before at first last has_other after (spec.itself n short a l o) = number_at path before first after n
  climbed_at path other before at first last has_other after (spec.and_above from below had_other mid more short n apart a o) = climbed_at path other before from first below had_other mid more

  pub climbs_at : (path : List ℕ) (other : FolderNumber) (before : FileSystem) (r : Result _ Refusal) (after : FileSystem) → Climbs d path other before r after → IfOk r (λ way. IsNumberAt h before.now path way.first)
  climbs_at path other before r after (spec.not_begun refusal n is) = if_not _ r refusal is
  climbs_at path other before r after (spec.too_long first n short is) = if_not _ r _ is
  climbs_at path other before r after (spec.to_the_top at first last again has_other mid c short n same is) = if_so _ r _ is (climbed_at path other before at first last has_other mid c)
  climbs_at path other before r after (spec.not_seen at first last has_other refusal mid c short n is) = if_not _ r refusal is
  climbs_at path other before r after (spec.too_deep at first last has_other c short is) = if_not _ r _ is

  folder_at : (path : List ℕ) (before : FileSystem) (number : FolderNumber) (after : FileSystem) → NumbersFolder d path before (Ok number) after → IsNumberAt h before.now path number
  folder_at path before number after (spec.a_folder found l k is) = by_number h path before.now (spec.number_of found) number (Ok number) refl is (looked_at path before found after l)
  folder_at path before number after (spec.no_folder found l k is) = absurd (cc)
  folder_at path before number after (spec.nothing l is) = absurd (cc)
  folder_at path before number after (spec.not_seen refusal l is) = absurd (cc)

  compares_at : (input : List ℕ) (is_list : Bool) (output : List ℕ) (before : FileSystem) (number : FolderNumber) (after : FileSystem) → Compares d input is_list output before (Ok number) after → IsNumberAt h before.now output number
  compares_at input is_list output before number after (spec.not_numbered refusal n is) = absurd (cc)
  compares_at input is_list output before number after (spec.not_climbed read refusal mid n c is) = absurd (cc)
  compares_at input is_list output before number after (spec.clashed read way refusal mid n c k is) = absurd (cc)
  compares_at input is_list output before number after (spec.not_back read way refusal mid was n c k b is) = absurd (cc)
  compares_at input is_list output before number after (spec.within read way back mid was n c k b o is) = absurd (cc)
  compares_at input is_list output before number after (spec.apart read way back mid was n c k b o is) =
      by_number h output before.now way.first number (Ok number) refl is (by_state h output way.first mid before (sym (numbers d quiet input before (Ok read) mid n)) (climbs_at output read mid (Ok way) was c))

  makes_at : {modes : Modes} (output : List ℕ) (before : FileSystem) (number : FolderNumber) (after : FileSystem) → MakesOutput d modes output before (Ok number) after → IsNumberAt h after.now output number
  makes_at output before number after (spec.no_mode n f is) = absurd (cc)
  makes_at output before number after (spec.not_made mode refusal seen f m is) = absurd (cc)
  makes_at output before number after (spec.made mode seen mid f m n) = by_state h output number mid after (numbers_folder d quiet output mid (Ok number) after n) (folder_at output mid number after n)

  apart_at : (input : List ℕ) (is_list : Bool) (output : List ℕ) (before : FileSystem) (number : FolderNumber) (after : FileSystem) → MakesApart d input is_list output before (Ok number) after → IsNumberAt h after.now output number
  apart_at input is_list output before number after (spec.not_numbered refusal n is) = absurd (cc)
  apart_at input is_list output before number after (spec.not_climbed read refusal mid n c is) = absurd (cc)
  apart_at input is_list output before number after (spec.within read way mid n c k is) = absurd (cc)
  apart_at input is_list output before number after (spec.made read way mid was n c k m) = makes_at output was number after m

  pub has_at : (input : List ℕ) (is_list : Bool) (output : List ℕ) (before : FileSystem) (number : FolderNumber) (after : FileSystem) → HasOutput d input is_list output before (Ok number) after → IsNumberAt h after.now output number
  has_at input is_list output before number after (spec.not_looked refusal l is) = absurd (cc)
  has_at input is_list output before number after (spec.was_there looked l c) = by_state h output number looked after (compares d quiet input is_list output looked (Ok number) after c) (compares_at input is_list output looked number after c)
  has_at input is_list output before number after (spec.not_there looked l m) = apart_at input is_list output looked number after m

  -- a folder is at its path
  there_of : (output : List ℕ) (before : FileSystem) (found : Found) (after : FileSystem) → Looks d output before (Ok (Some found)) after → found.kind ≡ Folder → FolderThere h output before.now
  there_of output before found after (spec.no_text t is same) kind = absurd (cc)
  there_of output before found after (spec.looked other t call is) kind =
      record { found = found; is = sym (finds before output other after call) ∙ same_ok (Ok other) (Some found) other (sym is) refl; kind = kind }
  there_of output before found after (spec.not_looked e t call is) kind = absurd (cc)

  there_by : (output : List ℕ) (before after : FileSystem) → after ≡ before → FolderThere h output before.now → FolderThere h output after.now
  there_by output before after same there = subst (λ (s : FileSystem). FolderThere h output s.now) (sym same) there

  is_there_at : (output : List ℕ) (before after : FileSystem) → IsThere d output before (Ok true) after → FolderThere h output before.now
  is_there_at output before after (spec.nothing l is) = absurd (cc)
  is_there_at output before after (spec.a_folder found l k is) = there_of output before found after l k
  is_there_at output before after (spec.no_folder found l k is) = absurd (cc)
  is_there_at output before after (spec.not_seen refusal l is) = absurd (cc)

  numbered_there : (output : List ℕ) (before : FileSystem) (number : FolderNumber) (after : FileSystem) → NumbersFolder d output before (Ok number) after → FolderThere h output before.now
  numbered_there output before number after (spec.a_folder found l k is) = there_of output before found after l k
  numbered_there output before number after (spec.no_folder found l k is) = absurd (cc)
  numbered_there output before number after (spec.nothing l is) = absurd (cc)
  numbered_there output before number after (spec.not_seen refusal l is) = absurd (cc)

  made_there : {modes : Modes} (output : List ℕ) (before : FileSystem) (number : FolderNumber) (after : FileSystem) → MakesOutput d modes output before (Ok number) after → FolderThere h output after.now
  made_there output before number after (spec.no_mode n f is) = absurd (cc)
  made_there output before number after (spec.not_made mode refusal seen f m is) = absurd (cc)
  made_there output before number after (spec.made mode seen mid f m n) = there_by output mid after (numbers_folder d quiet output mid (Ok number) after n) (numbered_there output mid number after n)

  apart_there : (input : List ℕ) (is_list : Bool) (output : List ℕ) (before : FileSystem) (number : FolderNumber) (after : FileSystem) → MakesApart d input is_list output before (Ok number) after → FolderThere h output after.now
  apart_there input is_list output before number after (spec.not_numbered refusal n is) = absurd (cc)
  apart_there input is_list output before number after (spec.not_climbed read refusal mid n c is) = absurd (cc)
  apart_there input is_list output before number after (spec.within read way mid n c k is) = absurd (cc)
  apart_there input is_list output before number after (spec.made read way mid was n c k m) = made_there output was number after m

  pub folder_there : (input : List ℕ) (is_list : Bool) (output : List ℕ) (before : FileSystem) (number : FolderNumber) (after : FileSystem) → HasOutput d input is_list output before (Ok number) after → FolderThere h output after.now
  folder_there input is_list output before number after (spec.not_looked refusal l is) = absurd (cc)
  folder_there input is_list output before number after (spec.was_there looked l c) =
      there_by output looked after (compares d quiet input is_list output looked (Ok number) after c) (there_by output before looked (is_there d quiet output before (Ok true) looked l) (is_there_at output before looked l))
  folder_there input is_list output before number after (spec.not_there looked l m) = apart_there input is_list output looked number after m
