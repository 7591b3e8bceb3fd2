-- The reading of a file's head, byte by byte.
use Rattle.std.specs.Prelude.{◌≡◌, ◌↔◌, ◌+◌, ◌-◌, ◌≤◌, ◌<◌, ◌==◌, ◌⊎◌, ◌&&◌, ℕ, Bool, false, nat_lt, bytes_eq, List, []}
use Rattle.std.specs.Prelude.{◌∷◌, ◌++◌, length, take, drop, Option, Some, None, Result, Ok, Err, if◌then◌else◌, fold}
use Rattle.dcm_base.specs.declared.tag.Tag.{Tag}
use Rattle.dcm_base.specs.declared.fault.Fault.{Fault}
use Rattle.dcm_base.specs.declared.fault.Fault.TheVariants.{EndsEarly, NoPrefix, NoTransferSyntax, Deflated}
use Rattle.dcm_base.specs.declared.syntax.Coding.{Coding}
use Rattle.dcm_base.specs.declared.transfer.Deflated.{Deflated as DeflatedSyntax}
use Rattle.dcm_base.specs.Tables.Tag.{is_tag}
use Rattle.dcm_base.specs.declared.fault.Stop.{Stop}
use Rattle.dcm_head.specs.declared.meta_read.MetaEnd.{MetaEnd}
use Rattle.dcm_head.specs.declared.meta_read.MetaEnd.TheVariants.{Refused, Ended}
use Rattle.dcm_head.specs.declared.meta_read.MetaRead.{MetaRead}
use Rattle.dcm_head.specs.declared.meta_read.MetaRead.TheVariants as reads
use Rattle.dcm_base.specs.Tables.Transfer.{without_pads, coding_of}
use Rattle.dcm_base.specs.File.MetaGroup.{GroupPlace, an_element, the_end, too_few, a_fault, group_place}
use Rattle.dcm_base.specs.File.MetaReads.{PREFIX, MetaAnswer, begins, refused, is_undecided}

-- the bytes so far; where the element that comes begins; where the transfer syntax is, 0 where it doesn't yet; how
-- the reading ended
pub record Reading : Type 0 where
  pub bytes : List ℕ
  pub place : ℕ
  pub uid_at : ℕ
  pub uid_size : ℕ
  pub end : Option MetaEnd

abbrev pub at_start : Reading
at_start = record { bytes = []; place = 132; uid_at = 0; uid_size = 0; end = None }

abbrev pub ending : Reading → MetaEnd → Reading
ending r end = record r { end = Some end }

abbrev pub refusing : Reading → Fault → ℕ → Reading
refusing r fault at = ending r (Refused (record { fault = fault; at = at }))

-- the transfer syntax
abbrev pub uid_of : Reading → List ℕ
uid_of r = take r.uid_size (drop r.uid_at r.bytes)

abbrev pub coded_end : ℕ → Result Coding DeflatedSyntax → MetaEnd
coded_end place (Ok coding) = Ended coding
coded_end place (Err deflated) = Refused (record { fault = Deflated; at = place })

-- how a group with this transfer syntax ends at a place
abbrev pub group_end : ℕ → List ℕ → MetaEnd
group_end place uid = if length uid == 0 then Refused (record { fault = NoTransferSyntax; at = place })
    else coded_end place (coding_of uid)

abbrev pub group_ended : Reading → Reading
group_ended r = ending r (group_end r.place (uid_of r))

-- the first transfer syntax counts
abbrev pub is_first_syntax : ℕ → Tag → Bool
is_first_syntax uid_at tag = (uid_at == 0) && is_tag 2 0x10 tag

-- after a whole element
abbrev pub behind : Reading → Tag → (head size : ℕ) → Reading
behind r tag head size =
    let value = r.place + head in
    if is_first_syntax r.uid_at tag then record r {
      place = value + size;
      uid_at = value;
      uid_size = length (without_pads (take size (drop value r.bytes)));
    }
    else record r { place = value + size }

abbrev pub at_place : Reading → GroupPlace → Reading
at_place r (an_element tag vr head size) = behind r tag head size
at_place r the_end = group_ended r
at_place r too_few = r
at_place r (a_fault fault) = refusing r fault r.place

abbrev pub has_prefix : List ℕ → Bool
has_prefix bytes = bytes_eq (drop 128 bytes) PREFIX

-- with one byte more
abbrev pub reached : Reading → Reading
reached r =
    if nat_lt (length r.bytes) 132 then r
    else if length r.bytes == 132 then (if has_prefix r.bytes then r else refusing r NoPrefix 128)
    else at_place r (group_place (r.place - 132) (drop r.place r.bytes))

abbrev pub step_from : Reading → ℕ → Option MetaEnd → Reading
step_from r byte (Some end) = r
step_from r byte None = reached (record r { bytes = r.bytes ++ byte ∷ [] })

-- a byte of the file; an end stays
abbrev pub meta_step : Reading → ℕ → Reading
meta_step r byte = step_from r byte r.end

-- the end of the input
abbrev pub finished_from : Reading → Option MetaEnd → Reading
finished_from r (Some end) = r
finished_from r None = if length r.bytes == r.place then group_ended r else refusing r EndsEarly (length r.bytes)

abbrev pub meta_finished : Reading → Reading
meta_finished r = finished_from r r.end

abbrev pub HasEnded : Option MetaEnd → Type 0
HasEnded (Some (Ended coding)) = Unit {0}
HasEnded _ = ⊥

-- what finish answers
abbrev pub FinishAnswers : Option MetaEnd → Result (Unit {0}) Stop → Type 0
FinishAnswers end (Ok done) = HasEnded end
FinishAnswers end (Err stop) = end ≡ Some (Refused stop)

-- the data set begins so many bytes into a piece, or with the last byte before it
abbrev pub BeginsAt : (before : List ℕ) → (place used : ℕ) → Option ℕ → Type 0
BeginsAt before place used None = length before + used ≡ place
BeginsAt before place used (Some byte) = (used ≡ 0) × (before ≡ take place before ++ byte ∷ [])

abbrev pub EndsIn : List ℕ → ℕ → MetaRead → Type 0
EndsIn before place (reads.Ended used ahead) = BeginsAt before place used ahead
EndsIn before place reads.More = ⊥
EndsIn before place (reads.Refused stop) = ⊥

-- what feed answers, where these bytes came before
abbrev pub Answers : List ℕ → Reading → MetaRead → Type 0
Answers before r reads.More = r.end ≡ None
Answers before r (reads.Refused stop) = r.end ≡ Some (Refused stop)
Answers before r (reads.Ended used ahead) = HasEnded r.end × BeginsAt before r.place used ahead

-- a piece of this size has the bytes that were used of it
abbrev pub UsesWithin : ℕ → MetaRead → Type 0
UsesWithin size (reads.Ended used ahead) = used ≤ size
UsesWithin size reads.More = Unit {0}
UsesWithin size (reads.Refused stop) = Unit {0}

-- what a reading waits for: the prefix, an element, or more bytes of one
abbrev pub Waits : Reading → Option MetaEnd → Type 0
Waits r None = (length r.bytes ≤ r.place) ⊎ (group_place (r.place - 132) (drop r.place r.bytes) ≡ too_few)
Waits r (Some (Refused stop)) = Unit {0}
Waits r (Some (Ended coding)) = (r.place ≤ length r.bytes) × (length r.bytes ≤ r.place + 2)

-- what stays true
pub record Keeps (r : Reading) : Type 0 where
  pub low : 132 ≤ r.place
  pub high : r.place ≤ 16516
  pub uid : r.uid_at + r.uid_size ≤ r.place
  pub begun : 132 < r.place → r.place ≤ length r.bytes
  pub waits : Waits r r.end

-- more bytes may be fed
abbrev pub IsOpen : Option MetaEnd → Type 0
IsOpen (Some (Ended coding)) = ⊥
IsOpen _ = Unit {0}

-- the bytes of the group
abbrev pub group_of : Reading → List ℕ
group_of r = take (r.place - 132) (drop 132 r.bytes)

-- how a reading ended is this answer
abbrev pub Says : Reading → MetaAnswer → Type 0
Says r (refused fault offset) = r.end ≡ Some (Refused (record { fault = fault; at = offset }))
Says r (begins meta group coding) =
    (r.end ≡ Some (Ended coding)) × (r.place ≡ 132 + length group) × (take 128 r.bytes ≡ meta.preamble)
    × (group_of r ≡ group) × (uid_of r ≡ meta.uid)

-- a reading after a call with a piece, where these bytes were fed before
abbrev pub after_call : (before piece : List ℕ) → Reading
after_call before piece = fold meta_step (fold meta_step at_start before) piece

-- it has ended, with the data set after it or with a fault
abbrev pub IsOver : Reading → Type 0
IsOver r = (end : MetaEnd) × (r.end ≡ Some end)

-- it has ended with this fault
abbrev pub Refuses : Reading → Fault → ℕ → Type 0
Refuses r fault offset = r.end ≡ Some (Refused (record { fault = fault; at = offset }))

-- bytes are not undecided, where this is their answer
abbrev pub IsDecided : List ℕ → MetaAnswer → Type 0
IsDecided bytes answer = is_undecided (length bytes) answer ≡ false

-- a call ends the reading exactly where the bytes before it and its piece are not undecided
abbrev pub CallEnds : (before piece : List ℕ) → MetaAnswer → Type 0
CallEnds before piece answer = IsOver (after_call before piece) ↔ IsDecided (before ++ piece) answer

-- and with a fault exactly where it is the answer to them
abbrev pub CallRefuses : (before piece : List ℕ) → MetaAnswer → Fault → ℕ → Type 0
CallRefuses before piece answer fault offset =
    Refuses (after_call before piece) fault offset ↔ ((answer ≡ refused fault offset)
    × IsDecided (before ++ piece) answer)
