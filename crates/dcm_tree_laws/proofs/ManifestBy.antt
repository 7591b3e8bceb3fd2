-- The manifest of a run as a whole has its first row and the rows of the names.
use Rattle.std.proofs.Common.{◌≡◌, ◌∙◌, sym, ap, ℕ, List, Bool, Option, Ok}
use Rattle.std.specs.Io.KnownBytes.{append_known}
use Rattle.dcm_files.specs.declared.opened.FileKind.{FileKind}
use Rattle.dcm_lemmas.proofs.Options.{known_nothing}
use Rattle.dcm_devices.specs.Writing.{Writer}
use Rattle.dcm_tree_words.specs.Trees.{Source, folder, list}
use Rattle.dcm_trees.specs.declared.beginning.Begun.{Begun}
use Rattle.dcm_trees.specs.declared.run.TreeRun.{TreeRun}
use Rattle.dcm_trees.specs.Row.{header}
use Rattle.dcm_trees.specs.Run as runs
use Rattle.dcm_trees.specs.Run.{PutsFirstRow}
use Rattle.dcm_trees.specs.Tree as spec
use Rattle.dcm_trees.specs.Tree.{VisitsFolder, VisitsList, DoesOpened, DoesFolder, DoesNames, DoesList, DoesTree}
use Rattle.dcm_trees.specs.World.{World}
use Rattle.dcm_tree_laws.specs.OneRow as rows
use Rattle.dcm_tree_laws.specs.OneRow.{first_row, FolderHasRows, ListHasRows, HasManifest, OneRowOfRun}
use Rattle.dcm_tree_laws.proofs.RowsBy.{went_out, one_row, one_row_of_list}

header_is : {W : Type 0} (m : Writer W) (has_header : Bool) (from to : W) → PutsFirstRow m has_header from (Ok _) to → m.contents to ≡ append_known (m.contents from) (first_row has_header)
header_is m has_header from to (runs.without off same is) =
    ap m.contents same ∙ sym (known_nothing (m.contents from)) ∙ ap (λ (b : Bool). append_known (m.contents from) (first_row b)) (sym off)
header_is m has_header from to (runs.with_header on puts) = went_out m header from to puts ∙ ap (λ (b : Bool). append_known (m.contents from) (first_row b)) (sym on)

behind_it : {W : Type 0} (m : Writer W) (has_header : Bool) (manifest headed left : W) (text : List ℕ) → PutsFirstRow m has_header manifest (Ok _) headed → m.contents left ≡ append_known (m.contents headed) text
    → m.contents left ≡ append_known (append_known (m.contents manifest) (first_row has_header)) text
behind_it m has_header manifest headed left text puts is = is ∙ ap (λ (known : Option (List ℕ)). append_known known text) (header_is m has_header manifest headed puts)

module _ {S I O F W E : Type 0} (w : World S I O F E) (m : Writer W) (run : TreeRun) (source : Source) (manifest : W) (from : E) (status : ℕ) (left : W) (to : E) (after : S) where
  abbrev Has : Type 0
  Has = HasManifest w m run source manifest from status left to after

  folder_has : (path : List ℕ) (begun : Begun) (opened : F) (told : E) (mid : S) → source ≡ folder path → VisitsFolder w m run path begun opened manifest told mid status left to after → Has
  folder_has path begun opened told mid is (spec.no_header failure puts close ends) = rows.no_header failure ends.status_is puts
  folder_has path begun opened told mid is (spec.visited headed puts v) = rows.of_folder path begun opened headed told mid is v (λ stop.
      let has : FolderHasRows w m run path begun opened headed told mid status left to after v = one_row w m run path begun opened headed told mid status left to after v stop in
      record { has = has; whole = behind_it m run.options.has_header manifest headed left has.text puts has.manifest })

  opened_has : (path : List ℕ) (opened : F) (before : S) → source ≡ folder path → DoesOpened w m run path opened manifest from before status left to after → Has
  opened_has path opened before is (spec.not_begun refusal told tried b close refuses same) = rows.not_begun refuses.status_is same
  opened_has path opened before is (spec.was_begun begun told mid b v) = folder_has path begun opened told mid is v

  of_folder : (path : List ℕ) (before : S) → source ≡ folder path → DoesFolder w m run path manifest from before status left to after → Has
  of_folder path before is (spec.too_long long refuses same still) = rows.not_begun refuses.status_is same
  of_folder path before is (spec.not_opened o refuses same) = rows.not_begun refuses.status_is same
  of_folder path before is (spec.was_opened opened mid o does) = opened_has path opened mid is does

  list_has : (path : List ℕ) (begun : Begun) (input : I) (told : E) (mid done : S) (read : I) → source ≡ list path → w.may.releases done read after → VisitsList w m run path begun input manifest told mid status left to done read → Has
  list_has path begun input told mid done read is back (spec.no_header failure puts ends same unread) = rows.no_header failure ends.status_is puts
  list_has path begun input told mid done read is back (spec.visited headed puts v) = rows.of_list path begun input headed told mid done read is v back (λ stop.
      let has : ListHasRows w m run path begun input headed told mid status left to done read v = one_row_of_list w m run path begun input headed told mid status left to done read v stop in
      record { has = has; whole = behind_it m run.options.has_header manifest headed left has.text puts has.manifest })

  names_have : (path : List ℕ) (kind : FileKind) (input : I) (before done : S) (read : I) → source ≡ list path → w.may.releases done read after → DoesNames w m run path kind input manifest from before status left to done read → Has
  names_have path kind input before done read is back (spec.not_begun refusal told b refuses same unread) = rows.not_begun refuses.status_is same
  names_have path kind input before done read is back (spec.was_begun begun told mid b v) = list_has path begun input told mid done read is back v

  of_list : (path : List ℕ) (before : S) → source ≡ list path → DoesList w m run path manifest from before status left to after → Has
  of_list path before is (spec.not_opened error o told s same) = rows.not_begun s same
  of_list path before is (spec.was_opened o read mid done opens does back) = names_have path o.kind o.device mid done read is back does

  has : (before : S) → DoesTree w m run source manifest from before status left to after → Has
  has before (spec.of_folder path is does) = of_folder path before is does
  has before (spec.of_list path is does) = of_list path before is does

pub one_row_of_run : {S I O F W E : Type 0} (w : World S I O F E) (m : Writer W) → OneRowOfRun w m
one_row_of_run w m run source manifest from before status left to after does = has w m run source manifest from status left to after before does
