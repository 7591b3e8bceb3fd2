-- Whether two readers give the same bytes.
use Rattle.std.specs.Prelude.{◌≡◌, ◌≢◌, ◌⊎◌, ◌<◌, ◌≤◌, ℕ, List, [], ◌++◌, length, take, Bool, true, false, Option}
use Rattle.std.specs.Prelude.{Result, Ok, Err}
use Rattle.std.specs.Io.KnownBytes.{prepend_known, IsAtEnd}
use Rattle.dcm_base.specs.Reading.Reads.{INPUT_LIMIT}
use Rattle.dcm_cli.specs.InputCalls.{Reader, How, in_part, to_end, with_failure, Allows, ReadsInput}
use Rattle.dcm_devices.specs.Device.{Gave, Tells, given as given_of}

-- a call is made of a reader while the bytes that it gave so far are the front of those that the other one gave: it
-- reads no further where they differ
abbrev pub InFront : (other : List ℕ) → (given : List ℕ) → Type 0
InFront other given = (rest : List ℕ) × (other ≡ given ++ rest)

-- two readers that gave these bytes differ, whatever they still have
abbrev pub Differ : (first : List ℕ) → How → (second : List ℕ) → How → Type 0
Differ first first_how second second_how =
    (rest others : List ℕ) → Allows first_how rest → Allows second_how others → first ++ rest ≢ second ++ others

-- both readers were read to their ends, and gave the same bytes
pub record GaveTheSame (first : List ℕ) (first_how : How) (second : List ℕ) (second_how : How) : Type 0 where
  pub first_end : first_how ≡ to_end
  pub second_end : second_how ≡ to_end
  pub same : first ≡ second

-- one of them failed; or they differ; or both have more bytes than an input may have
pub data GaveOther (first : List ℕ) (first_how : How) (second : List ℕ) (second_how : How) : Type 0 where
  first_failed : first_how ≡ with_failure → GaveOther first first_how second second_how
  second_failed : second_how ≡ with_failure → GaveOther first first_how second second_how
  differ : Differ first first_how second second_how → GaveOther first first_how second second_how
  too_long : INPUT_LIMIT < length first → INPUT_LIMIT < length second → GaveOther first first_how second second_how

abbrev pub Answers : (first : List ℕ) → How → (second : List ℕ) → How → Bool → Type 0
Answers first first_how second second_how true = GaveTheSame first first_how second second_how
Answers first first_how second second_how false = GaveOther first first_how second second_how

-- two readers were read by such calls, and compared
pub record Compares {A B : Type 0} (a : Reader A) (b : Reader B) (first_before first_after : A)
    (second_before second_after : B) (answer : Bool) : Type 0 where
  pub first : List ℕ
  pub first_how : How
  pub second : List ℕ
  pub second_how : How
  pub reads_first : ReadsInput a (InFront second) first_before first first_how first_after
  pub reads_second : ReadsInput b (InFront first) second_before second second_how second_after
  pub answer_is : Answers first first_how second second_how answer

-- ---- the steps

-- by one call a reader gave at most so many bytes, and the buffer, which has its size, begins with them
abbrev pub PartOf : {E : Type 0} → (had left : Option (List ℕ)) → (most : ℕ) → (buffer : List ℕ) → Result ℕ E → Type 0
PartOf had left most buffer (Ok size) =
    (size ≤ most) × (had ≡ prepend_known (take size buffer) left) × (size ≡ 0 → IsAtEnd left)
PartOf had left most buffer (Err e) = left ≡ had

pub record ReadsPart {R E : Type 0} (r : Reader R) (before after : R) (most : ℕ) (buffer_before buffer_after : List ℕ)
    (result : Result ℕ E) : Type 0 where
  pub part : PartOf (r.remaining before) (r.remaining after) most buffer_after result
  pub call : r.gets before (given_of buffer_after result) after
  pub failed : Tells (r.has_failed before) (r.has_failed after) result
  pub kept : length buffer_after ≡ length buffer_before

-- it gave all these bytes
pub record GaveAll {R : Type 0} (r : Reader R) (before after : R) (bytes : List ℕ) : Type 0 where
  pub calls : Gave r.gets before bytes after
  pub left : r.remaining before ≡ prepend_known bytes (r.remaining after)
  pub unread : r.has_failed after ≡ r.has_failed before

-- or it failed, or its next bytes are others, and none was read behind them
pub record GaveElse {R : Type 0} (r : Reader R) (before after : R) (bytes : List ℕ) : Type 0 where
  pub given : List ℕ
  pub how : How
  pub reads : ReadsInput r (InFront bytes) before given how after
  pub other : (how ≡ with_failure) ⊎ Differ bytes in_part given how

abbrev pub Gives : {R : Type 0} → Reader R → (before after : R) → List ℕ → Bool → Type 0
Gives r before after bytes true = GaveAll r before after bytes
Gives r before after bytes false = GaveElse r before after bytes

-- it has ended; or it failed, or has more bytes
pub record GaveMore {R : Type 0} (r : Reader R) (before after : R) : Type 0 where
  pub given : List ℕ
  pub how : How
  pub reads : ReadsInput r (InFront []) before given how after
  pub other : (how ≡ with_failure) ⊎ Differ [] to_end given how

abbrev pub Ends : {R : Type 0} → Reader R → (before after : R) → Bool → Type 0
Ends r before after true = ReadsInput r (InFront []) before [] to_end after
Ends r before after false = GaveMore r before after
