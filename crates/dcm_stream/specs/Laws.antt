-- The statements of the laws.
use Rattle.std.specs.Prelude.{◌≡◌, ℕ, ◌≤◌, List, ◌++◌, None, Option, Some}
use Rattle.dcm_base.specs.Steps.Atoms.{Atom}
use Rattle.dcm_base.specs.Tree.Front.{Front}
use Rattle.dcm_base.specs.Reading.Reads.{INPUT_LIMIT, Reads}
use Rattle.dcm_base.specs.Reading.Stop.{Bar, HeadBar, Stop, refused}
use Rattle.dcm_base.specs.declared.syntax.Syntax.{Syntax}
use Rattle.dcm_base.specs.declared.fault.Fault.{Fault}
use Rattle.dcm_head.specs.declared.head.Head.{Head}
use Rattle.dcm_stream.specs.declared.token.Bar.{Bar as SinkBar}
use Rattle.dcm_stream.specs.Driven.{bars_by, driven, EndsAs, RefusesAs, WaitsAs}
use Rattle.dcm_stream.specs.Follows.{BarsAs}
use Rattle.dcm_stream.specs.Reading.{read_all}

-- the bytes of each data set within the limit, whose heads are barred by the atoms so far as by what was read
abbrev pub OfEachDataSet : ((List Atom → HeadBar) → Bar → Syntax → (start : ℕ) → List ℕ → Type 0) → Type 0
OfEachDataSet Holds =
    (bars : List Atom → HeadBar) (bar : Bar) → BarsAs bars bar → (s : Syntax) (start : ℕ) (bytes : List ℕ)
    → start ≤ INPUT_LIMIT
    → Holds bars bar s start bytes

-- the same of each call with a piece, where other bytes were fed before
abbrev pub OfEachCall : ((List Atom → HeadBar) → Bar → Syntax → (start : ℕ) → (before piece : List ℕ) → Type 0) → Type 0
OfEachCall Holds =
    (bars : List Atom → HeadBar) (bar : Bar) → BarsAs bars bar → (s : Syntax) (start : ℕ) (before piece : List ℕ)
    → start ≤ INPUT_LIMIT
    → Holds bars bar s start before piece

-- the same of each call and each fault at an offset
abbrev pub OfEachFault : ((List Atom → HeadBar) → Bar → Syntax → (start : ℕ) → (before piece : List ℕ) → Fault
    → (offset : ℕ) → Type 0) → Type 0
OfEachFault Holds =
    (bars : List Atom → HeadBar) (bar : Bar) → BarsAs bars bar
    → (s : Syntax) (start : ℕ) (before piece : List ℕ) (fault : Fault) (offset : ℕ) → start ≤ INPUT_LIMIT
    → Holds bars bar s start before piece fault offset

-- what was shown of bytes begins what is shown of them and more
abbrev pub StaysShown : Type 0
StaysShown =
    (bars : List Atom → HeadBar) (s : Syntax) (start : ℕ) (bytes later : List ℕ)
    → (more : List Atom) × ((read_all bars s start (bytes ++ later)).1 ≡ (read_all bars s start bytes).1 ++ more)

-- the reading of each data set within the limit has an answer
abbrev pub ReadsSome : Bar → Type 0
ReadsSome bar = (s : Syntax) (start : ℕ) (bytes : List ℕ) → start ≤ INPUT_LIMIT → (f : Front) × (stop : Stop)
    × Reads bar s start bytes f stop

-- where an input ends, the machine answers how its reading ends, and the sink has made of it what it makes of the atoms
-- of what is read
abbrev pub EndsAsRead : {S : Type 0} → (S → Head → Option SinkBar) → (S → Atom → S) → (S → Atom → List ℕ) → Type 0
EndsAsRead {S} bars step writes =
    (bar : Bar) (first : S) → BarsAs (bars_by bars step first) bar → (s : Syntax) (start : ℕ) (bytes : List ℕ)
    → start ≤ INPUT_LIMIT
    → EndsAs bars step writes bar first s start bytes

-- where the machine is halted, each input that begins with the bytes is refused exactly so
abbrev pub RefusesWhereHalted : {S : Type 0} → (S → Head → Option SinkBar) → (S → Atom → S) → (S → Atom → List ℕ)
    → Type 0
RefusesWhereHalted {S} bars step writes =
    (bar : Bar) (first : S) → BarsAs (bars_by bars step first) bar
    → (s : Syntax) (start : ℕ) (bytes : List ℕ) (fault : Fault) (offset : ℕ) → start ≤ INPUT_LIMIT
    → (driven bars step first s start bytes).0.halt ≡ Some (refused fault offset)
    → RefusesAs bars step writes bar first s start bytes fault offset

-- where it is not, more bytes may still come to another end
abbrev pub WaitsWhereGoing : {S : Type 0} → (S → Head → Option SinkBar) → (S → Atom → S) → (S → Atom → List ℕ) → Type 0
WaitsWhereGoing {S} bars step writes =
    (bar : Bar) (first : S) → BarsAs (bars_by bars step first) bar → (s : Syntax) (start : ℕ) (bytes : List ℕ)
    → start ≤ INPUT_LIMIT
    → (driven bars step first s start bytes).0.halt ≡ None → WaitsAs bars step writes bar first s start bytes
