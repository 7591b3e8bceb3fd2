-- What the reader of a list has read of it, and answered.
use Rattle.std.specs.Prelude.{◌≡◌, ◌⊎◌, ℕ, suc, ◌+◌, ◌-◌, ◌<◌, ◌≤◌, ◌^◌, Bool, true, false, List, [], ◌∷◌, ◌++◌, length, take}
use Rattle.std.specs.Prelude.{drop, filter, if◌then◌else◌}
use Rattle.std.specs.Prelude.{Option, Some, None, Result, Ok, Err}
use Rattle.dcm_devices.specs.Device.{Gave}
use Rattle.dcm_names.specs.declared.list_reader.ListReader.{ListReader}
use Rattle.dcm_names.specs.declared.list_reader.NextName.{NextName}
use Rattle.dcm_names.specs.declared.list_reader.NextName.TheVariants.{Name, End, Unread}
use Rattle.dcm_names.specs.Held.{Holds}
use Rattle.dcm_names.specs.Names.{has_bytes, open_line, ended_lines, names_of}

-- the most bytes of a list that are read
abbrev pub READ_LIMIT : ℕ
READ_LIMIT = 2 ^ 62

-- the most bytes that are held
abbrev pub PIECE : ℕ
PIECE = 16384

-- the bytes that are held and were not taken
abbrev pub pending : ListReader → List ℕ
pending v = drop v.at (take v.filled v.piece)

-- the names that ended in bytes, where this much of a line came before them
abbrev pub ended_names : List ℕ → List ℕ → List (List ℕ)
ended_names line bytes = filter has_bytes (ended_lines line bytes)

-- ---- between two calls

-- more is to come: the names in all that was given are those that were answered, and then those in the held bytes
pub record Going (v : ListReader) (given : List ℕ) (named : List (List ℕ)) : Type 0 where
  pub names : ended_names [] given ≡ named ++ ended_names [] (pending v)
  pub last : open_line [] given ≡ open_line [] (pending v)
  pub count : v.read ≡ length given

-- the list gave these bytes, and these names of them were answered
pub record HasRead (v : ListReader) (given : List ℕ) (named : List (List ℕ)) : Type 0 where
  pub going : v.is_over ≡ false → Going v given named
  pub over : v.is_over ≡ true → named ≡ names_of given true

-- how many bytes may still be taken at most
abbrev pub bytes_left : ListReader → ℕ
bytes_left v = ((READ_LIMIT + PIECE) - v.read) + (v.filled - v.at)

-- and how many names may still come: none after the last
abbrev pub most_left : ListReader → ℕ
most_left v = if v.is_over then 0 else suc (bytes_left v)

-- ---- one call

-- the calls on the device that gave bytes, and at the end of the list one more that gave none
abbrev pub Calls : {R : Type 0} (gets : R → Option (List ℕ) → R → Type 0)
    → (is_over : Bool) → (before : R) (more : List ℕ) (after : R) → Type 0
Calls gets false before more after = Gave gets before more after
Calls {R} gets true before more after = (mid : R) × Gave gets before more mid × gets mid (Some []) after

-- a name, which the reader holds: the list was not over before
pub record AnswersName {R : Type 0} (gets : R → Option (List ℕ) → R → Type 0) (was_over : Bool)
    (before after : R) (new : ListReader) (given : List ℕ) (named : List (List ℕ)) : Type 0 where
  pub going : was_over ≡ false
  pub more : List ℕ
  pub name : List ℕ
  pub calls : Calls gets new.is_over before more after
  pub held : Holds new.line name
  pub has_read : HasRead new (given ++ more) (named ++ name ∷ [])

-- all names were answered; no call was made exactly where the list was over before
pub record AnswersEnd {R : Type 0} (gets : R → Option (List ℕ) → R → Type 0) (was_over : Bool) (before after : R)
    (given : List ℕ) (named : List (List ℕ)) : Type 0 where
  pub more : List ℕ
  pub calls : ((was_over ≡ false) × Calls gets true before more after)
      ⊎ ((was_over ≡ true) × (more ≡ []) × (after ≡ before))
  pub all : named ≡ names_of (given ++ more) true

-- reading failed, or there are too many bytes: the names whose lines ended before were answered
pub record AnswersUnread {R : Type 0} (gets : R → Option (List ℕ) → R → Type 0) (was_over : Bool) (before after : R)
    (given : List ℕ) (named : List (List ℕ)) (read : ℕ) : Type 0 where
  pub going : was_over ≡ false
  pub more : List ℕ
  pub mid : R
  pub calls : Gave gets before more mid
  pub cause : gets mid None after ⊎ ((READ_LIMIT < read) × (after ≡ mid))
  pub all : named ≡ names_of (given ++ more) false
  pub count : read ≡ length (given ++ more)

abbrev pub Answers : {R : Type 0} (gets : R → Option (List ℕ) → R → Type 0)
    → (before after : R) → (old new : ListReader) → (given : List ℕ) → (named : List (List ℕ)) → NextName → Type 0
Answers gets before after old new given named Name = AnswersName gets old.is_over before after new given named
Answers gets before after old new given named End = AnswersEnd gets old.is_over before after given named
Answers gets before after old new given named (Unread read) =
    AnswersUnread gets old.is_over before after given named read

-- the reader failed in the calls exactly where that is why no name came, unless there are too many bytes
abbrev pub TellsNext : (failed_before failed_after : Bool) → NextName → Type 0
TellsNext failed_before failed_after Name = failed_after ≡ failed_before
TellsNext failed_before failed_after End = failed_after ≡ failed_before
TellsNext failed_before failed_after (Unread read) =
    (failed_after ≡ true) ⊎ ((READ_LIMIT < read) × (failed_after ≡ failed_before))

-- ---- the steps of a call

-- what taking bytes leaves as it was
pub record Same (old new : ListReader) : Type 0 where
  pub read : new.read ≡ old.read
  pub over : new.is_over ≡ old.is_over
  pub filled : new.filled ≡ old.filled

-- a line ended in the held bytes
pub record EndsPending (old new : ListReader) (line : List ℕ) : Type 0 where
  pub ended : List ℕ
  pub held : Holds new.line ended
  pub lines : ended_lines line (pending old) ≡ ended ∷ ended_lines [] (pending new)
  pub goes_on : open_line line (pending old) ≡ open_line [] (pending new)

-- no line ended in them
pub record PassesPending (old new : ListReader) (line : List ℕ) : Type 0 where
  pub held : Holds new.line (open_line line (pending old))
  pub lines : ended_lines line (pending old) ≡ []
  pub all : new.at ≡ new.filled

abbrev pub TakesPending : (old new : ListReader) (line : List ℕ) → Bool → Type 0
TakesPending old new line true = EndsPending old new line
TakesPending old new line false = PassesPending old new line

-- a name ended in the held bytes
pub record EndsName (old new : ListReader) (line : List ℕ) : Type 0 where
  pub name : List ℕ
  pub held : Holds new.line name
  pub names : ended_names line (pending old) ≡ name ∷ ended_names [] (pending new)
  pub goes_on : open_line line (pending old) ≡ open_line [] (pending new)

-- none ended in them
pub record PassesNames (old new : ListReader) (line : List ℕ) : Type 0 where
  pub held : Holds new.line (open_line line (pending old))
  pub names : ended_names line (pending old) ≡ []
  pub all : new.at ≡ new.filled

abbrev pub TakesName : (old new : ListReader) (line : List ℕ) → Bool → Type 0
TakesName old new line true = EndsName old new line
TakesName old new line false = PassesNames old new line

-- the next piece is held
pub record HoldsPiece {R : Type 0} (gets : R → Option (List ℕ) → R → Type 0)
    (before after : R) (old new : ListReader) : Type 0 where
  pub piece : List ℕ
  pub call : gets before (Some piece) after
  pub some : 0 < length piece
  pub held : pending new ≡ piece
  pub size : new.filled - new.at ≡ length piece
  pub room : length piece ≤ PIECE
  pub count : new.read ≡ old.read + length piece
  pub few : old.read ≤ READ_LIMIT
  pub line : new.line ≡ old.line
  pub over : new.is_over ≡ old.is_over

-- there is none
pub record HoldsNone {R : Type 0} (gets : R → Option (List ℕ) → R → Type 0)
    (before after : R) (old new : ListReader) : Type 0 where
  pub call : gets before (Some []) after
  pub count : new.read ≡ old.read
  pub line : new.line ≡ old.line

-- reading failed
pub record HoldsFailed {R : Type 0} (gets : R → Option (List ℕ) → R → Type 0)
    (before after : R) (old new : ListReader) : Type 0 where
  pub cause : gets before None after ⊎ ((READ_LIMIT < new.read) × (after ≡ before))
  pub count : new.read ≡ old.read

abbrev pub Refills : {R E : Type 0} (gets : R → Option (List ℕ) → R → Type 0)
    → (before after : R) → (old new : ListReader) → Result Bool E → Type 0
Refills gets before after old new (Ok true) = HoldsPiece gets before after old new
Refills gets before after old new (Ok false) = HoldsNone gets before after old new
Refills gets before after old new (Err e) = HoldsFailed gets before after old new

-- the reader failed in it exactly where that is the answer, unless there are too many bytes
abbrev pub TellsRefill : {E : Type 0} → (failed_before failed_after : Bool) → (read : ℕ) → Result Bool E → Type 0
TellsRefill failed_before failed_after read (Ok more) = failed_after ≡ failed_before
TellsRefill failed_before failed_after read (Err e) =
    (failed_after ≡ true) ⊎ ((READ_LIMIT < read) × (failed_after ≡ failed_before))

-- the last line is a name where it has bytes
abbrev pub last_answer : Bool → NextName
last_answer true = Name
last_answer false = End
