-- What the parts of a line show.
use Rattle.std.proofs.Common.{◌≡◌, sym, refl, ℕ, List, Some, None, Bool, true, false, if◌then◌else◌}
use Rattle.dcm_base.specs.Lines.Line.{Step, one, no_line, with_value, is_skipped, value_field}
use Rattle.dcm_build.specs.LineShown.{sole_value}

module _ (show : List ℕ → Step) where
  shows_where : (t : Bool) (w v : List ℕ) → (if t then Some w else None) ≡ Some v → one (show v) ≡ (if t then one (show w) else no_line)
  shows_where true w v e = cc
  shows_where false w v e = cc

  shows_nowhere : (t : Bool) (w : List ℕ) → (if t then Some w else None) ≡ None → no_line ≡ (if t then one (show w) else no_line)
  shows_nowhere true w e = cc
  shows_nowhere false w e = refl

  pub shows_value : (cs v : List ℕ) → Some v ≡ sole_value cs → one (show v) ≡ with_value show cs
  shows_value cs v e = shows_where (is_skipped (value_field cs).rest) (value_field cs).value v (sym e)

  pub shows_none : (cs : List ℕ) → None ≡ sole_value cs → no_line ≡ with_value show cs
  shows_none cs e = shows_nowhere (is_skipped (value_field cs).rest) (value_field cs).value (sym e)
