-- What is done with the names of a list over files in memory.
use Rattle.std.proofs.Common.{◌≡◌, ◌∙◌, ap, sym, subst, ℕ, ◌≤◌, List, [], ◌∷◌, ◌++◌, length, Bool, true, false, Option, Some, None, Result}
use Rattle.std.specs.Prelude.{IfSome}
use Rattle.dcm_base.specs.declared.tag.Tag.{Tag}
use Rattle.dcm_devices.specs.declared.device.WriteFailed.{WriteFailed}
use Rattle.dcm_devices.specs.declared.memory.MemIn.{MemIn}
use Rattle.dcm_devices.specs.declared.memory.Measured.{Measured}
use Rattle.dcm_files.specs.declared.memory.MemSystem.{MemSystem}
use Rattle.dcm_files.specs.Memory.{may_do}
use Rattle.dcm_names.specs.Names.{can_be_opened, names_of}
use Rattle.dcm_names.specs.Reader.{READ_LIMIT}
use Rattle.dcm_table.specs.declared.quoted.TextForm.{TextForm}
use Rattle.dcm_cli.specs.Change.{Change}
use Rattle.dcm_cli.proofs.Runs.InMemory.{memory_reader, memory_writer}
use Rattle.dcm_each.specs.Each.{Writing, DoesListed, listed_path, Listed, none_listed, and_name, DoesNames, all_done, not_read, not_written, DoesList, no_list, list_done}
use Rattle.dcm_tables.specs.Table.{rows_into}
use Rattle.dcm_tables.specs.TableInMemory.{Rows, AllCome, file_of, ListedComes, ListComes}
use Rattle.dcm_tables.proofs.RowsAlike.{split}
use Rattle.dcm_each.proofs.InMemory.{opened_is}
use Rattle.dcm_each.proofs.ListGiven.{calls_left, given_on, name_within, listed_given, all_given, never_unread}
use Rattle.dcm_tables.proofs.TableMemory.{All, Left, unopened_left, at_left, nothing_left, one_more, one_failed}

-- ---- the names of a list, one after another

module _ (s : MemSystem) (columns : List Tag) (form : TextForm) where
  abbrev DoesOne : List ℕ → Writing MemSystem Measured
  DoesOne name errors from to before result after = DoesListed may_do (rows_into memory_reader memory_writer columns form) name errors from to before result after

  abbrev OneComes : List ℕ → Rows → Type 0
  OneComes name rows = ListedComes s columns form name rows

  one_left : (name : List ℕ) (rows : Rows) (errors : Change) (from to : Measured) (result : Result ℕ WriteFailed) (after : MemSystem) → DoesOne name errors from to s result after → OneComes name rows → Left rows errors from to result × (after ≡ s)
  one_left name rows errors from to result after does comes = at_left s columns form name (listed_path name) rows errors from to result after does comes

  listed_left : (from : Measured) (input : MemIn) (errors : Change) (to : Measured) (given : List ℕ) (left : MemIn) (is_over : Bool) (names : List (List ℕ)) (status : ℕ) (after : MemSystem) (rows : Rows)
      → Listed memory_reader.gets DoesOne from input s errors to given left is_over names status after → AllCome OneComes names rows → All rows errors from to status × (after ≡ s)
  listed_left from input errors to given left is_over names status after rows (none_listed line out none same going no_names is was) come =
      (nothing_left errors from to rows status line out (subst (λ (ns : List (List ℕ)). AllCome OneComes ns rows) no_names come) is, was)
  listed_left from input errors to given left is_over names status after rows (and_name earlier more others name reached ended mid at between of_others of_name so_far calls does follows whole all is) come =
      let p = split OneComes others (name ∷ []) rows (subst (λ (ns : List (List ℕ)). AllCome OneComes ns rows) all come) in
      let first = listed_left from input of_others mid earlier at false others reached between p.first so_far p.of_first in
      one_more s DoesOne OneComes one_left others name rows p errors of_others of_name from mid to reached ended status between after first does follows is

  names_left : (path : List ℕ) (errors : Change) (from to : Measured) (input left : MemIn) (result : Result ℕ WriteFailed) (after : MemSystem) (rows : Rows)
      → length input.rest.now ≤ READ_LIMIT → DoesNames memory_reader DoesOne path errors from to input left s result after → AllCome OneComes (names_of input.rest.now true) rows → Left rows errors from to result × (after ≡ s)
  names_left path errors from to input left result after rows short (all_done given was_over names status at so_far ends is) come =
      let whole = all_given was_over input at left given names (listed_given DoesOne s from input errors to given at was_over names status after so_far) ends in
      let same : names ≡ names_of input.rest.now true = ends.all ∙ ap (λ (bs : List ℕ). names_of bs true) (sym whole) in
      let l = listed_left from input errors to given at was_over names status after rows so_far (subst (λ (ns : List (List ℕ)). AllCome OneComes ns rows) (sym same) come) in
      (subst (Left rows errors from to) (sym is) l.0, l.1)
  names_left path errors from to input left result after rows short (not_read given names status count at of_names of_line so_far unread failed line follows is) come =
      absurd (never_unread input at left given names count short (listed_given DoesOne s from input of_names to given at false names status after so_far) unread failed)
  names_left path errors from to input left result after rows short (not_written given more names others name is_over status mid at between of_names of_name failure so_far calls all does follows is) come =
      let whole = given_on is_over input at left given more (listed_given DoesOne s from input of_names mid given at false names status between so_far) (calls_left is_over at left more calls) in
      let w = name_within is_over input left (given ++ more) names others name whole all in
      let p = split OneComes names (name ∷ w.0) rows (subst (λ (ns : List (List ℕ)). AllCome OneComes ns rows) w.1 come) in
      let first = listed_left from input of_names mid given at false names status between p.first so_far p.of_first in
      let l = one_failed s DoesOne OneComes one_left names w.0 name rows p of_names of_name from mid to status failure between after first does in
      (subst (Left rows errors from to) (sym is) l.0, l.1)

  -- ---- a list

  pub list_left : (path : List ℕ) (rows : Rows) (errors : Change) (from to : Measured) (result : Result ℕ WriteFailed) (after : MemSystem) → DoesList may_do memory_reader DoesOne path errors from to s result after
      → ListComes s columns form path (file_of s path path) rows → IfSome (file_of s path path) (λ bytes. length bytes ≤ READ_LIMIT) → Left rows errors from to result × (after ≡ s)
  list_left path rows errors from to result after (no_list opens line same is) comes short =
      let o = opened_is s (can_be_opened path) path None after opens in
      (unopened_left path rows errors from to result (subst (λ (f : Option (List ℕ)). ListComes s columns form path f rows) o.0 comes) line same is, o.1)
  list_left path rows errors from to result after (list_done i left has_list has_read opens does back) comes short =
      let o = opened_is s (can_be_opened path) path (Some i) has_list opens in
      let l = names_left path errors from to i.device left result has_read rows
      (subst (λ (f : Option (List ℕ)). IfSome f (λ bytes. length bytes ≤ READ_LIMIT)) o.0 short)
      (subst (λ (z : MemSystem). DoesNames memory_reader DoesOne path errors from to i.device left z result has_read) o.1 does)
      (subst (λ (f : Option (List ℕ)). ListComes s columns form path f rows) o.0 comes)
      in
      (l.0, back ∙ l.1)
