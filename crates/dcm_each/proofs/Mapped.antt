-- What is done with files, seen from one state that goes from file to file, is done so seen from another.
use Rattle.std.proofs.Common.{◌≡◌, ap, sym, subst, ℕ, List, Bool, false, Result, Ok}
use Rattle.dcm_devices.specs.declared.device.WriteFailed.{WriteFailed}
use Rattle.dcm_files.specs.declared.opened.Opened.{Opened}
use Rattle.dcm_files.specs.Devices.{MayDo}
use Rattle.dcm_cli.specs.Calls.{Reader}
use Rattle.dcm_cli.specs.Change.{Change}
use Rattle.dcm_table_words.specs.Table.{Name, file, list}
use Rattle.dcm_each.specs.Each.{Work, DoesAt, not_opened, done_at, DoesListed, Listed, none_listed, and_name, DoesNames, all_done, not_read, not_written, no_list, list_done, DoesName, DoneSoFar, none_done, and_done, DoesAll, all_names, failed_at}

module _ {S I O X Y : Type 0} (may : MayDo S I O) (r : Reader I) (one : Work I X) (other : Work I Y) (see : X → Y) (Keeps : X → Type 0)
    (does_as : (name : List ℕ) (errors : Change) (from to : X) (before : Opened I) (result : Result ℕ WriteFailed) (after : I) → Keeps from → one.does name errors from to before result after → Keeps to × other.does name errors (see from) (see to) before result after)
    (passes_as : (from to : X) → Keeps from → one.passes from to → Keeps to × other.passes (see from) (see to)) where
  at_as : (name path : List ℕ) (b : Bool) (errors : Change) (from to : X) (before : S) (result : Result ℕ WriteFailed) (after : S) → Keeps from → DoesAt may one name path b errors from to before result after
      → Keeps to × DoesAt may other name path b errors (see from) (see to) before result after
  at_as name path b errors from to before result after keeps (not_opened opens line passes is) =
      let p = passes_as from to keeps passes in
      (p.0, not_opened opens line p.1 is)
  at_as name path b errors from to before result after keeps (done_at i left has opens does back) =
      let d = does_as name errors from to i result left keeps does in
      (d.0, done_at i left has opens d.1 back)

  listed_as : (from : X) (input : I) (before : S) (errors : Change) (to : X) (given : List ℕ) (left : I) (is_over : Bool) (names : List (List ℕ)) (status : ℕ) (after : S)
      → Keeps from → Listed r.gets (DoesListed may one) from input before errors to given left is_over names status after → Keeps to × Listed r.gets (DoesListed may other) (see from) input before errors (see to) given left is_over names status after
  listed_as from input before errors to given left is_over names status after keeps (none_listed line out none same going no_names is was) =
      (subst Keeps (sym out) keeps, none_listed line (ap see out) none same going no_names is was)
  listed_as from input before errors to given left is_over names status after keeps (and_name earlier more others name reached ended mid at between of_others of_name so_far calls does follows whole all is) =
      let s = listed_as from input before of_others mid earlier at false others reached between keeps so_far in
      let d = at_as name _ _ of_name mid to between (Ok ended) after s.0 does in
      (d.0, and_name earlier more others name reached ended (see mid) at between of_others of_name s.1 calls d.1 follows whole all is)

  names_as : (path : List ℕ) (errors : Change) (from to : X) (input left : I) (before : S) (result : Result ℕ WriteFailed) (after : S)
      → Keeps from → DoesNames r (DoesListed may one) path errors from to input left before result after → Keeps to × DoesNames r (DoesListed may other) path errors (see from) (see to) input left before result after
  names_as path errors from to input left before result after keeps (all_done given was_over names status at so_far ends is) =
      let s = listed_as from input before errors to given at was_over names status after keeps so_far in
      (s.0, all_done given was_over names status at s.1 ends is)
  names_as path errors from to input left before result after keeps (not_read given names status count at of_names of_line so_far unread failed line follows is) =
      let s = listed_as from input before of_names to given at false names status after keeps so_far in
      (s.0, not_read given names status count at of_names of_line s.1 unread failed line follows is)
  names_as path errors from to input left before result after keeps (not_written given more names others name is_over status mid at between of_names of_name failure so_far calls all does follows is) =
      let s = listed_as from input before of_names mid given at false names status between keeps so_far in
      let d = at_as name _ _ of_name mid to between _ after s.0 does in
      (d.0, not_written given more names others name is_over status (see mid) at between of_names of_name failure s.1 calls all d.1 follows is)

  one_as : (name : Name) (errors : Change) (from to : X) (before : S) (result : Result ℕ WriteFailed) (after : S) → Keeps from → DoesName may r one name errors from to before result after
      → Keeps to × DoesName may r other name errors (see from) (see to) before result after
  one_as (file path) errors from to before result after keeps does = at_as path path _ errors from to before result after keeps does
  one_as (list path) errors from to before result after keeps (no_list opens line out is) = (subst Keeps (sym out) keeps, no_list opens line (ap see out) is)
  one_as (list path) errors from to before result after keeps (list_done i left has_list has_read opens does back) =
      let d = names_as path errors from to i.device left has_list result has_read keeps does in
      (d.0, list_done i left has_list has_read opens d.1 back)

  done_as : (from : X) (before : S) (errors : Change) (to : X) (names : List Name) (status : ℕ) (after : S) → Keeps from → DoneSoFar (DoesName may r one) from before errors to names status after
      → Keeps to × DoneSoFar (DoesName may r other) (see from) before errors (see to) names status after
  done_as from before errors to names status after keeps (none_done line out none is was) = (subst Keeps (sym out) keeps, none_done line (ap see out) none is was)
  done_as from before errors to names status after keeps (and_done others name reached ended mid between of_others of_name so_far does follows whole is) =
      let s = done_as from before of_others mid others reached between keeps so_far in
      let d = one_as name of_name mid to between (Ok ended) after s.0 does in
      (d.0, and_done others name reached ended (see mid) between of_others of_name s.1 d.1 follows whole is)

  pub all_as : (names : List Name) (errors : Change) (from to : X) (before : S) (result : Result ℕ WriteFailed) (after : S) → Keeps from → DoesAll (DoesName may r one) names errors from to before result after
      → DoesAll (DoesName may r other) names errors (see from) (see to) before result after
  all_as names errors from to before result after keeps (all_names status so_far is) = all_names status (done_as from before errors to names status after keeps so_far).1 is
  all_as names errors from to before result after keeps (failed_at others later name status mid between of_others of_name failure so_far does follows whole is) =
      let s = done_as from before of_others mid others status between keeps so_far in
      let d = one_as name of_name mid to between _ after s.0 does in
      failed_at others later name status (see mid) between of_others of_name failure s.1 d.1 follows whole is
