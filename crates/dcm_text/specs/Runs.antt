-- A text in pieces: what is decided after each of them, and what waits.
use Rattle.std.specs.Prelude.{ℕ, zero, suc, Bool, true, false, List, [], ◌∷◌, ◌++◌, length, take, drop, Option, Some, None}
use Rattle.dcm_text.specs.declared.set.Halves.{Halves}
use Rattle.dcm_text.specs.declared.set.TextKind.{TextKind}
use Rattle.dcm_text.specs.declared.sets.Sets.{Sets}
use Rattle.dcm_text.specs.declared.first.Found.{Found}
use Rattle.dcm_text.specs.declared.decoder.Decoder.{Decoder}
use Rattle.dcm_text.specs.First.{start_of}
use Rattle.dcm_text.specs.Decoding.{Piece, found}

-- what is in force, what all bytes mean, and the bytes that wait
pub record State : Type 0 where
  pub sets : Sets
  pub kind : TextKind
  pub halves : Halves
  pub held : List ℕ

abbrev pub state_of : Decoder → State
state_of d = record { sets = d.sets; kind = d.kind; halves = d.halves; held = d.held.items }

-- how many bytes are left of what waits and what follows it
unfoldable pub bytes_left : Decoder → List ℕ → ℕ
bytes_left d rest = length (d.held.items ++ rest)

-- before a text
abbrev pub begun : Sets → TextKind → State
begun sets kind = record { sets = sets; kind = kind; halves = start_of sets; held = [] }

-- with bytes more, of which nothing is decided
abbrev pub with_bytes : State → List ℕ → State
with_bytes s bytes = record { sets = s.sets; kind = s.kind; halves = s.halves; held = s.held ++ bytes }

-- behind what was found in front
abbrev pub behind_found : State → Found → State
behind_found s f = record { sets = s.sets; kind = s.kind; halves = f.halves; held = drop f.size s.held }

abbrev pub found_in : Bool → State → Option Found
found_in at_end s = found at_end s.sets s.kind s.halves s.held

-- pieces that were decided, and what waits then
abbrev pub Run : Type 0
Run = List Piece × State

abbrev pub onto : Piece → Run → Run
onto p r = (p ∷ r.0, r.1)

-- pieces are decided one by one until nothing is, so many at most
abbrev pub run_by : (most : ℕ) → (at_end : Bool) → State → Run
run_by zero at_end s = ([], s)
run_by (suc n) at_end s = elim (found_in at_end s) [
  | None ↦ ([], s)
  | Some f ↦ onto (take f.size s.held, f.meaning) (run_by n at_end (behind_found s f))
]

-- after these bytes more, and perhaps the end of the text
unfoldable pub run : (at_end : Bool) → State → List ℕ → Run
run at_end s bytes = run_by (length (s.held ++ bytes)) at_end (with_bytes s bytes)

-- one run and then another
abbrev pub joined : Run → Run → Run
joined r q = (r.0 ++ q.0, q.1)

-- a text that comes in these pieces, to its end
abbrev pub run_pieces : State → List (List ℕ) → Run
run_pieces s [] = run true s []
run_pieces s (bytes ∷ others) = joined (run false s bytes) (run_pieces (run false s bytes).1 others)
