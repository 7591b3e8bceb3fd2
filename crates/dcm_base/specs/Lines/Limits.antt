-- How long the lines of a dump may be.
use Rattle.std.specs.Prelude.{ℕ}

-- the greatest limit that they may be given, in bytes
abbrev pub LINE_LIMIT : ℕ
LINE_LIMIT = 16384
