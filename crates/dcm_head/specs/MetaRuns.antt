-- Runs of bytes in the head of a file that lead to nothing by themselves.
use Rattle.std.specs.Prelude.{◌≡◌, ℕ, List, ◌++◌, fold}
use Rattle.dcm_head.specs.MetaReading.{Reading, Keeps, meta_step}

-- with bytes that are only held
abbrev pub holding : Reading → List ℕ → Reading
holding r run = record r { bytes = r.bytes ++ run }

-- bytes that lead to nothing by themselves: read one by one they are only held, and it waits as before
pub record Idle (r : Reading) (run : List ℕ) : Type 0 where
  pub read : fold meta_step r run ≡ holding r run
  pub kept : Keeps (holding r run)
