-- The laws of dumps of several files.
use Rattle.std.specs.Prelude.{◌≡◌, ℕ, List}
use Rattle.dcm_files.specs.declared.memory.MemSystem.{MemSystem}
use Rattle.dcm_dumps.specs.DumpsInMemory.{DumpsOutcome, DumpsCome}

-- words come to at most one outcome over files in memory
abbrev pub DumpsAreOne : Type 0
DumpsAreOne = (words : List (List ℕ)) (s : MemSystem) (a b : DumpsOutcome) → DumpsCome words s a → DumpsCome words s b
    → a ≡ b

-- and to at least one
abbrev pub DumpsAreSome : Type 0
DumpsAreSome = (words : List (List ℕ)) (s : MemSystem) → (o : DumpsOutcome) × DumpsCome words s o
