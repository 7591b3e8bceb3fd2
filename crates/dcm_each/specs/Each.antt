-- What is done with files by their names, one after another.
use Rattle.std.specs.Prelude.{◌≡◌, ℕ, max, List, [], ◌∷◌, ◌++◌, Bool, true, false, Option, Some, None, Result, Ok, Err}
use Rattle.std.specs.Prelude.{codes, bytes_eq, if◌then◌else◌}
use Rattle.std.specs.declared.io.Error.{Error}
use Rattle.dcm_devices.specs.declared.device.WriteFailed.{WriteFailed}
use Rattle.dcm_files.specs.declared.opened.Opened.{Opened}
use Rattle.dcm_files.specs.Devices.{MayDo, OpensInput}
use Rattle.dcm_names.specs.NamedLines.{unopened_line, unread_line}
use Rattle.dcm_names.specs.Names.{can_be_opened, names_of}
use Rattle.dcm_names.specs.declared.list_reader.NextName.TheVariants.{Unread}
use Rattle.dcm_names.specs.Reader.{Calls, AnswersEnd, AnswersUnread, TellsNext}
use Rattle.dcm_table_words.specs.Table.{Name, file, list}
use Rattle.dcm_cli.specs.Calls.{Reader}
use Rattle.dcm_cli.specs.Change.{Change}
use Rattle.dcm_cli.specs.ErrorLines.{Reports}
use Rattle.dcm_cli.specs.Program.{Follows}
use Rattle.dcm_cli.specs.Status.{DEVICE, DONE}

-- what is done with names, from one state of the work and of the system to later ones: with what change of standard
-- error, and with the greatest status, or a failure of the output
abbrev pub Writing : (S X : Type 0) → Type 1
Writing S X = (errors : Change) → (from to : X) → (before : S) → Result ℕ WriteFailed → (after : S) → Type 0

-- ---- one file

-- what is done with a file that is open, by its name; and how a file is passed that cannot be opened
pub record Work (I X : Type 0) : Type 1 where
  pub does : (name : List ℕ) → (errors : Change) → (from to : X) → (before : Opened I) → Result ℕ WriteFailed
      → (after : I) → Type 0
  pub passes : (from to : X) → Type 0

-- a name is opened at a path, where it may be
pub data OpensAt {S I O : Type 0} (may : MayDo S I O) (is_openable : Bool) (path : List ℕ) (before : S)
    (opened : Option (Opened I)) (after : S) : Type 0 where
  not_tried : is_openable ≡ false → opened ≡ None → after ≡ before → OpensAt may is_openable path before opened after
  refused : (cause : Error) → is_openable ≡ true → OpensInput may path before (Err cause) after → opened ≡ None
      → OpensAt may is_openable path before opened after
  opened_at : (i : Opened I) → is_openable ≡ true → OpensInput may path before (Ok i) after → opened ≡ Some i
      → OpensAt may is_openable path before opened after

-- the file of a name cannot be opened, and that is reported; or it was opened, done, and given back exactly as that left
-- it
pub data DoesAt {S I O X : Type 0} (may : MayDo S I O) (work : Work I X) (name path : List ℕ) (is_openable : Bool)
    (errors : Change) (from to : X) (before : S) (result : Result ℕ WriteFailed) (after : S) : Type 0 where
  not_opened : OpensAt may is_openable path before None after → Reports errors (unopened_line name)
      → work.passes from to → result ≡ Ok DEVICE → DoesAt may work name path is_openable errors from to before result after
  done_at : (i : Opened I) (left : I) (has_input : S) → OpensAt may is_openable path before (Some i) has_input
      → work.does name errors from to i result left → may.releases has_input left after
      → DoesAt may work name path is_openable errors from to before result after

-- a name among the words: `-` is standard input
abbrev pub DoesWord : {S I O X : Type 0} → MayDo S I O → Work I X → List ℕ → Writing S X
DoesWord may work name errors from to before result after =
    DoesAt may work name name (can_be_opened name) errors from to before result after

-- the path of a name in a list, where `-` is a file
abbrev pub listed_path : List ℕ → List ℕ
listed_path name = if bytes_eq name (codes "-") then codes "./-" else name

abbrev pub DoesListed : {S I O X : Type 0} → MayDo S I O → Work I X → List ℕ → Writing S X
DoesListed may work name errors from to before result after =
    DoesAt may work name (listed_path name) (can_be_opened name) errors from to before result after

-- ---- a list

-- the names of a list were done so far, one after another, with this greatest status; what the list gave for them, and
-- whether it was over with the last of them
pub data Listed {S I X : Type 0} (gets : I → Option (List ℕ) → I → Type 0) (Does : List ℕ → Writing S X) (from : X)
    (input : I) (before : S) : (errors : Change) → (to : X) → (given : List ℕ) → (left : I) → (is_over : Bool)
    → (names : List (List ℕ)) → (status : ℕ) → (after : S) → Type 0 where
  none_listed : {errors : Change} {to : X} {given : List ℕ} {left : I} {is_over : Bool} {names : List (List ℕ)}
      {status : ℕ} {after : S} → Reports errors [] → to ≡ from → given ≡ [] → left ≡ input → is_over ≡ false
      → names ≡ [] → status ≡ DONE → after ≡ before
      → Listed gets Does from input before errors to given left is_over names status after
  and_name : {errors : Change} {to : X} {given : List ℕ} {left : I} {is_over : Bool} {names : List (List ℕ)}
      {status : ℕ} {after : S} (earlier more : List ℕ) (others : List (List ℕ)) (name : List ℕ) (reached ended : ℕ)
      (mid : X) (at : I) (between : S) (of_others of_name : Change)
      → Listed gets Does from input before of_others mid earlier at false others reached between
      → Calls gets is_over at more left → Does name of_name mid to between (Ok ended) after
      → Follows errors of_others of_name → given ≡ earlier ++ more → names ≡ others ++ name ∷ []
      → status ≡ max reached ended → Listed gets Does from input before errors to given left is_over names status after

-- all names of a list that was read to its end were done; or its reader failed, or it has too many bytes, which is
-- reported after the names whose lines had ended; or the output failed at one of its names, and no other was done
pub data DoesNames {S I X : Type 0} (r : Reader I) (Does : List ℕ → Writing S X) (path : List ℕ) (errors : Change)
    (from to : X) (input left : I) (before : S) (result : Result ℕ WriteFailed) (after : S) : Type 0 where
  all_done : (given : List ℕ) (was_over : Bool) (names : List (List ℕ)) (status : ℕ) (at : I)
      → Listed r.gets Does from input before errors to given at was_over names status after
      → AnswersEnd r.gets was_over at left given names → result ≡ Ok status
      → DoesNames r Does path errors from to input left before result after
  not_read : (given : List ℕ) (names : List (List ℕ)) (status count : ℕ) (at : I) (of_names of_line : Change)
      → Listed r.gets Does from input before of_names to given at false names status after
      → AnswersUnread r.gets false at left given names count
      → TellsNext (r.has_failed at) (r.has_failed left) (Unread count) → Reports of_line (unread_line path count)
      → Follows errors of_names of_line → result ≡ Ok DEVICE
      → DoesNames r Does path errors from to input left before result after
  not_written : (given more : List ℕ) (names others : List (List ℕ)) (name : List ℕ) (is_over : Bool) (status : ℕ)
      (mid : X) (at : I) (between : S) (of_names of_name : Change) (failure : WriteFailed)
      → Listed r.gets Does from input before of_names mid given at false names status between
      → Calls r.gets is_over at more left → names_of (given ++ more) is_over ≡ names ++ name ∷ others
      → Does name of_name mid to between (Err failure) after → Follows errors of_names of_name → result ≡ Err failure
      → DoesNames r Does path errors from to input left before result after

-- a list cannot be opened, and that is reported; or it was opened, its names were done, and it was given back exactly as
-- that left it
pub data DoesList {S I O X : Type 0} (may : MayDo S I O) (r : Reader I) (Does : List ℕ → Writing S X) (path : List ℕ)
    (errors : Change) (from to : X) (before : S) (result : Result ℕ WriteFailed) (after : S) : Type 0 where
  no_list : OpensAt may (can_be_opened path) path before None after → Reports errors (unopened_line path) → to ≡ from
      → result ≡ Ok DEVICE → DoesList may r Does path errors from to before result after
  list_done : (i : Opened I) (left : I) (has_list has_read : S)
      → OpensAt may (can_be_opened path) path before (Some i) has_list
      → DoesNames r Does path errors from to i.device left has_list result has_read
      → may.releases has_read left after → DoesList may r Does path errors from to before result after

-- ---- all names

-- a file, or the files of a list
abbrev pub DoesName : {S I O X : Type 0} → MayDo S I O → Reader I → Work I X → Name → Writing S X
DoesName may r work (file path) errors from to before result after =
    DoesWord may work path errors from to before result after
DoesName may r work (list path) errors from to before result after =
    DoesList may r (DoesListed may work) path errors from to before result after

-- names were done so far, one after another, with this greatest status
pub data DoneSoFar {S X : Type 0} (Does : Name → Writing S X) (from : X) (before : S) : (errors : Change) → (to : X)
    → (names : List Name) → (status : ℕ) → (after : S) → Type 0 where
  none_done : {errors : Change} {to : X} {names : List Name} {status : ℕ} {after : S}
      → Reports errors [] → to ≡ from → names ≡ [] → status ≡ DONE → after ≡ before
      → DoneSoFar Does from before errors to names status after
  and_done : {errors : Change} {to : X} {names : List Name} {status : ℕ} {after : S}
      (others : List Name) (name : Name) (reached ended : ℕ) (mid : X) (between : S) (of_others of_name : Change)
      → DoneSoFar Does from before of_others mid others reached between
      → Does name of_name mid to between (Ok ended) after
      → Follows errors of_others of_name → names ≡ others ++ name ∷ [] → status ≡ max reached ended
      → DoneSoFar Does from before errors to names status after

-- all names were done; or the output failed at one of them, and no other was done
pub data DoesAll {S X : Type 0} (Does : Name → Writing S X) (names : List Name) (errors : Change) (from to : X)
    (before : S) (result : Result ℕ WriteFailed) (after : S) : Type 0 where
  all_names : (status : ℕ) → DoneSoFar Does from before errors to names status after → result ≡ Ok status
      → DoesAll Does names errors from to before result after
  failed_at : (others later : List Name) (name : Name) (status : ℕ) (mid : X) (between : S) (of_others of_name : Change)
      (failure : WriteFailed) → DoneSoFar Does from before of_others mid others status between
      → Does name of_name mid to between (Err failure) after → Follows errors of_others of_name
      → names ≡ others ++ name ∷ later → result ≡ Err failure → DoesAll Does names errors from to before result after
