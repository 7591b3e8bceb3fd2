-- What all files leave, where each leaves something, seen by a relation of the states that go from file to file.
use Rattle.std.proofs.Common.{◌≡◌, sym, subst, ℕ, List, Bool, true, Option, Some, None, Result, Ok, Err}
use Rattle.std.specs.Prelude.{IsUtf8}
use Rattle.dcm_files.specs.declared.opened.Opened.{Opened}
use Rattle.dcm_files.specs.Devices as devices
use Rattle.dcm_files.specs.Devices.{MayDo, OpensInput, stream, no_text, directory}
use Rattle.dcm_names.specs.Names.{can_be_opened}
use Rattle.dcm_table_words.specs.Table.{Name, file, list}
use Rattle.dcm_cli.specs.Calls.{Reader}
use Rattle.dcm_cli.specs.Change.{Change}
use Rattle.dcm_each.specs.Each.{Work, OpensAt, not_tried, refused, opened_at, DoesAt, not_opened, done_at, DoesListed, listed_path, Listed, none_listed, and_name, DoesNames, all_done, not_read, not_written, no_list, list_done, DoesName, DoneSoFar, none_done, and_done, DoesAll, all_names, failed_at}
use Rattle.dcm_text_laws.proofs.Names.{dash_utf8, listed_utf8}

-- ---- what is opened has a path that is a text

no_other : {A E : Type 0} (x : A) (e : E) → (let r : Result A E = Ok x in r ≡ Err e) → ⊥
no_other x e h = cc

input_utf8 : {S I O : Type 0} (may : MayDo S I O) (path : List ℕ) (before : S) (i : Opened I) (after : S) → OpensInput may path before (Ok i) after → IsUtf8 path
input_utf8 may path before i after (stream d is said e) = subst IsUtf8 (sym is) dash_utf8
input_utf8 may path before i after (no_text e other text kind is same) = absurd (no_other i e is)
input_utf8 may path before i after (devices.refused e other text said is) = absurd (no_other i e is)
input_utf8 may path before i after (directory d e had other text said kind back cause is) = absurd (no_other i e is)
input_utf8 may path before i after (devices.opened d other text said kind is) = text

none_some : {A : Type 0} (x : A) → (let o : Option A = Some x in o ≡ None) → ⊥
none_some x h = cc

opened_utf8 : {S I O : Type 0} (may : MayDo S I O) (b : Bool) (path : List ℕ) (before : S) (i : Opened I) (after : S) → OpensAt may b path before (Some i) after → (b ≡ true) × IsUtf8 path
opened_utf8 may b path before i after (not_tried shut is same) = absurd (none_some i is)
opened_utf8 may b path before i after (refused cause may_be opens is) = absurd (none_some i is)
opened_utf8 may b path before i after (opened_at other may_be opens is) = (may_be, input_utf8 may path before other after opens)

-- ---- one after another

module _ {S I O X : Type 0} (may : MayDo S I O) (r : Reader I) (work : Work I X) (Grew : X → X → Type 0)
    (stays : (x : X) → Grew x x) (and_then : (x y z : X) → Grew x y → Grew y z → Grew x z)
    (does : (name : List ℕ) (errors : Change) (from to : X) (before : Opened I) (status : ℕ) (after : I) → IsUtf8 name → can_be_opened name ≡ true → work.does name errors from to before (Ok status) after → Grew from to)
    (passes : (from to : X) → work.passes from to → Grew from to) where
  same : (from to : X) → to ≡ from → Grew from to
  same from to is = subst (λ (x : X). Grew from x) (sym is) (stays from)

  at_grows : (name path : List ℕ) → (IsUtf8 path → IsUtf8 name) → (errors : Change) (from to : X) (before : S) (status : ℕ) (after : S) → DoesAt may work name path (can_be_opened name) errors from to before (Ok status) after → Grew from to
  at_grows name path named errors from to before status after (not_opened opens line passed is) = passes from to passed
  at_grows name path named errors from to before status after (done_at i left has opens done back) =
      let o = opened_utf8 may (can_be_opened name) path before i has opens in
      does name errors from to i status left (named o.1) o.0 done

  listed_grow : (from : X) (input : I) (before : S) (errors : Change) (to : X) (given : List ℕ) (left : I) (is_over : Bool) (names : List (List ℕ)) (status : ℕ) (after : S)
      → Listed r.gets (DoesListed may work) from input before errors to given left is_over names status after → Grew from to
  listed_grow from input before errors to given left is_over names status after (none_listed line out none at going no_names is was) = same from to out
  listed_grow from input before errors to given left is_over names status after (and_name earlier more others name reached ended mid at between of_others of_name so_far calls done follows whole all is) =
      and_then from mid to (listed_grow from input before of_others mid earlier at _ others reached between so_far)
      (at_grows name (listed_path name) (listed_utf8 name) of_name mid to between ended after done)

  names_grow : (path : List ℕ) (errors : Change) (from to : X) (input left : I) (before : S) (status : ℕ) (after : S)
      → DoesNames r (DoesListed may work) path errors from to input left before (Ok status) after → Grew from to
  names_grow path errors from to input left before status after (all_done given was_over names reached at so_far ends is) =
      listed_grow from input before errors to given at was_over names reached after so_far
  names_grow path errors from to input left before status after (not_read given names reached count at of_names of_line so_far unread failed line follows is) =
      listed_grow from input before of_names to given at _ names reached after so_far
  names_grow path errors from to input left before status after (not_written given more names others name is_over reached mid at between of_names of_name failure so_far calls all done follows is) =
      absurd (no_other status failure is)

  name_grows : (name : Name) (errors : Change) (from to : X) (before : S) (status : ℕ) (after : S) → DoesName may r work name errors from to before (Ok status) after → Grew from to
  name_grows (file path) errors from to before status after done = at_grows path path (λ h. h) errors from to before status after done
  name_grows (list path) errors from to before status after (no_list opens line out is) = same from to out
  name_grows (list path) errors from to before status after (list_done i left has_list has_read opens done back) = names_grow path errors from to i.device left has_list status has_read done

  so_far_grows : (from : X) (before : S) (errors : Change) (to : X) (names : List Name) (status : ℕ) (after : S) → DoneSoFar (DoesName may r work) from before errors to names status after → Grew from to
  so_far_grows from before errors to names status after (none_done line out none is was) = same from to out
  so_far_grows from before errors to names status after (and_done others name reached ended mid between of_others of_name so_far done follows whole is) =
      and_then from mid to (so_far_grows from before of_others mid others reached between so_far) (name_grows name of_name mid to between ended after done)

  pub all_grow : (names : List Name) (errors : Change) (from to : X) (before : S) (status : ℕ) (after : S) → DoesAll (DoesName may r work) names errors from to before (Ok status) after → Grew from to
  all_grow names errors from to before status after (all_names reached so_far is) = so_far_grows from before errors to names reached after so_far
  all_grow names errors from to before status after (failed_at others later name reached mid between of_others of_name failure so_far done follows whole is) = absurd (no_other status failure is)
