-- How many names were done, and what became of them.
use Rattle.std.specs.Prelude.{ℕ, ◌+◌, ◌-◌, ◌^◌, ◌%◌, ◌==◌, min, Bool, List, ◌++◌, codes, decimal, if◌then◌else◌}
use Rattle.dcm_trees.specs.declared.fate.Fate.{Fate}
use Rattle.dcm_trees.specs.declared.tally.Tally.{Tally}
use Rattle.dcm_trees.specs.Fate.{is_written, was_done}

-- the greatest count, which no run reaches: it stays
abbrev pub MOST : ℕ
MOST = 2 ^ 64 - 1

abbrev pub next : ℕ → ℕ
next n = min (n + 1) MOST

abbrev pub none : Tally
none = record { written = 0; there = 0; not_done = 0 }

-- a name more
abbrev pub with : Tally → Fate → Tally
with t fate = if is_written fate then record t { written = next t.written }
    else (if was_done fate then record t { there = next t.there } else record t { not_done = next t.not_done })

abbrev pub files : Tally → ℕ
files t = min (min (t.written + t.there) MOST + t.not_done) MOST

-- the counts are shown after each hundredth name
abbrev pub is_shown : Tally → Bool
is_shown t = files t % 100 == 0

abbrev pub counts : Tally → (end : List ℕ) → List ℕ
counts t end = decimal (files t) ++ codes " files, " ++ decimal t.written ++ codes " written, " ++ decimal t.there
    ++ codes " there, " ++ decimal t.not_done ++ codes " not done" ++ end
