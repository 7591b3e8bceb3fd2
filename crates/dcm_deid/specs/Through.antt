-- The sink before another one, as one.
use Rattle.std.specs.Prelude.{ℕ, List, Option, fold}
use Rattle.dcm_base.specs.Steps.Atoms.{Atom}
use Rattle.dcm_base.specs.Steps.Steps.{outputs}
use Rattle.dcm_head.specs.declared.head.Head.{Head}
use Rattle.dcm_stream.specs.declared.token.Bar.{Bar}
use Rattle.dcm_deid.specs.DeidentifySink.{State, next, passed, deidentify_bar}

-- the other sink takes what is passed on
abbrev pub through_step : {T : Type 0} → (T → Atom → T) → State × T → Atom → State × T
through_step step s a = (next s.0 a, fold step s.1 (passed s.0 a))

-- and writes what it makes of that
abbrev pub through_writes : {T : Type 0} → (T → Atom → T) → (T → Atom → List ℕ) → State × T → Atom → List ℕ
through_writes step writes s a = outputs step writes s.1 (passed s.0 a)

-- what the other one bars is not asked
abbrev pub through_bar : {T : Type 0} → State × T → Head → Option Bar
through_bar s head = deidentify_bar s.0 head
