-- The exit statuses.
use Rattle.std.specs.Prelude.{ℕ}

-- all was done
abbrev pub DONE : ℕ
DONE = 0

-- the words are refused
abbrev pub USAGE : ℕ
USAGE = 1

-- the input is at fault
abbrev pub FAULT : ℕ
FAULT = 2

-- all was done, and there is more to say: an edit found no place, or pixels may show identity
abbrev pub REMARK : ℕ
REMARK = 3

-- a device failed or could not be opened
abbrev pub DEVICE : ℕ
DEVICE = 4

-- memory was refused; this is the greatest one
abbrev pub MEMORY : ℕ
MEMORY = 5
