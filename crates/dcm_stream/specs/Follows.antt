-- What a machine has read.
use Rattle.std.specs.Prelude.{◌≡◌, ◌↔◌, ◌⊎◌, ℕ, ◌+◌, ◌≤◌, List, ◌++◌, length, true, false, Option, Some, None, fold}
use Rattle.dcm_base.specs.declared.tag.Tag.{Tag}
use Rattle.dcm_base.specs.declared.vr.Vr.{Vr}
use Rattle.dcm_base.specs.declared.syntax.Syntax.{Syntax}
use Rattle.dcm_base.specs.declared.fault.Fault.{Fault}
use Rattle.dcm_base.specs.declared.length.Length.{Length}
use Rattle.dcm_base.specs.Tree.Front.{Front}
use Rattle.dcm_base.specs.Bytes.Spelling.{SpellsFront}
use Rattle.dcm_base.specs.Reading.Place.{levels}
use Rattle.dcm_base.specs.Steps.Atoms.{Atom, Shows, front_atoms}
use Rattle.dcm_base.specs.Reading.Stop.{Stop, Bar, HeadBar, refused, is_early, is_early_bar, is_undecided}
use Rattle.dcm_base.specs.Reading.Reads.{INPUT_LIMIT, Reads, ended}
use Rattle.dcm_stream.specs.Reading.{Reading, finish, end_shows, read_all, reads_byte}

-- heads are barred by the atoms so far as by the data set that they show, and never with an early end
pub record BarsAs (bars : List Atom → HeadBar) (bar : Bar) : Type 0 where
  pub agree : (f : Front) (atoms : List Atom) → Shows f atoms → (tag : Tag) (vr : Vr) (declared : Length)
      → bars atoms tag vr declared ≡ bar f tag vr declared
  pub never_early : (f : Front) (tag : Tag) (vr : Vr) (declared : Length) → is_early_bar (bar f tag vr declared) ≡ false

-- f is read of these bytes and shown, and what is left is the beginning of a head; if the input ended here, the reading
-- would end as finish says
pub record GoesOn (bar : Bar) (s : Syntax) (start : ℕ) (bytes : List ℕ) (r : Reading) (atoms : List Atom) : Type 0 where
  pub f : Front
  pub read : List ℕ
  pub within : start + length bytes ≤ INPUT_LIMIT
  pub going : r.halt ≡ None
  pub parts : bytes ≡ read ++ r.head
  pub spelled : SpellsFront s f read
  pub position_is : r.position ≡ start + length read
  pub levels_are : r.levels ≡ levels s start f
  pub atoms_are : atoms ≡ front_atoms s f
  pub undecided : is_undecided (Some (finish r)) ≡ true
  pub reads : Reads bar s start bytes (ended (finish r) f) (finish r)
  pub shown : atoms ++ end_shows (finish r) ≡ front_atoms s (ended (finish r) f)

-- each input that begins with these bytes is refused here, and what is read of it is shown
pub record HaltsAt (bar : Bar) (s : Syntax) (start : ℕ) (bytes : List ℕ) (r : Reading)
    (atoms : List Atom) : Type 0 where
  pub f : Front
  pub fault : Fault
  pub offset : ℕ
  pub halt_is : r.halt ≡ Some (refused fault offset)
  pub decided : is_early fault ≡ false
  pub atoms_are : atoms ≡ front_atoms s f
  pub reads : (later : List ℕ) → Reads bar s start (bytes ++ later) f (refused fault offset)

-- a machine over any bytes of a data set has read what the definitions say, or is halted where they do
abbrev pub Follows : (List Atom → HeadBar) → Bar → Syntax → (start : ℕ) → List ℕ → Type 0
Follows bars bar s start bytes =
    GoesOn bar s start bytes (read_all bars s start bytes).0 (read_all bars s start bytes).1
    ⊎ HaltsAt bar s start bytes (read_all bars s start bytes).0 (read_all bars s start bytes).1

-- if the input ended here, more bytes could still have changed how
pub record Undecided (bar : Bar) (s : Syntax) (start : ℕ) (bytes : List ℕ) : Type 0 where
  pub within : start + length bytes ≤ INPUT_LIMIT
  pub open_end : (f : Front) (stop : Stop) → Reads bar s start bytes f stop → is_undecided (Some stop) ≡ true

-- how the reading of these bytes ends, where the input ends with them
pub record Answered (bar : Bar) (s : Syntax) (start : ℕ) (bytes : List ℕ) (r : Reading)
    (atoms : List Atom) : Type 0 where
  pub f : Front
  pub reads : Reads bar s start bytes f (finish r)
  pub shown : atoms ++ end_shows (finish r) ≡ front_atoms s f

-- a machine over all bytes of an input answers what is read of it
abbrev pub Answers : (List Atom → HeadBar) → Bar → Syntax → (start : ℕ) → List ℕ → Type 0
Answers bars bar s start bytes =
    Answered bar s start bytes (read_all bars s start bytes).0 (read_all bars s start bytes).1

-- it is halted exactly where the end is decided
abbrev pub HaltsWhereDecided : (List Atom → HeadBar) → Bar → Syntax → (start : ℕ) → List ℕ → Type 0
HaltsWhereDecided bars bar s start bytes = ((read_all bars s start bytes).0.halt ≡ None) ↔ Undecided bar s start bytes

-- by a fault
abbrev pub IsRefused : Option Stop → Type 0
IsRefused halt = (fault : Fault) × (offset : ℕ) × (halt ≡ Some (refused fault offset))

-- if the input ended here, this fault would refuse it, and more bytes could not have changed that
pub record RefusedHere (bar : Bar) (s : Syntax) (start : ℕ) (bytes : List ℕ) (fault : Fault) (offset : ℕ) : Type 0 where
  pub f : Front
  pub reads : Reads bar s start bytes f (refused fault offset)
  pub decided : is_early fault ≡ false

-- a machine after a call with a piece, where these bytes were fed before
abbrev pub after_call : (List Atom → HeadBar) → Syntax → (start : ℕ) → (before piece : List ℕ) → Reading
after_call bars s start before piece = (fold (reads_byte bars) (read_all bars s start before) piece).0

-- the call halts with a fault exactly where the bytes before it and its piece are not undecided
abbrev pub CallRefuses : (List Atom → HeadBar) → Bar → Syntax → (start : ℕ) → (before piece : List ℕ) → Type 0
CallRefuses bars bar s start before piece =
    IsRefused (after_call bars s start before piece).halt ↔ (Undecided bar s start (before ++ piece) → ⊥)

-- it is this fault exactly where this one refuses them
abbrev pub CallTells : (List Atom → HeadBar) → Bar → Syntax → (start : ℕ) → (before piece : List ℕ) → Fault
    → (offset : ℕ) → Type 0
CallTells bars bar s start before piece fault offset =
    ((after_call bars s start before piece).halt ≡ Some (refused fault offset)) ↔ RefusedHere bar s start
    (before ++ piece) fault offset
