-- The filter before a sink of lines, as one sink.
use Rattle.std.specs.Prelude.{ℕ, List, [], ◌++◌, Option, None, if◌then◌else◌}
use Rattle.dcm_base.specs.Steps.Atoms.{Atom}
use Rattle.dcm_head.specs.declared.head.Head.{Head}
use Rattle.dcm_stream.specs.declared.token.Bar.{Bar}
use Rattle.dcm_named.specs.Filter.{Place, shows, next, before}

-- an atom goes on to the lines, or they pass over it
abbrev pub named_step : {T : Type 0} → (step over : T → Atom → T) → Place × T → Atom → Place × T
named_step step over s a = (next s.0 a, (if shows s.0 a then step s.1 a else over s.1 a))

abbrev pub named_writes : {T : Type 0} → (writes : T → Atom → List ℕ) → Place × T → Atom → List ℕ
named_writes writes s a = if shows s.0 a then before s.0 a ++ writes s.1 a else []

abbrev pub bars_nothing : {T : Type 0} → Place × T → Head → Option Bar
bars_nothing s head = None
