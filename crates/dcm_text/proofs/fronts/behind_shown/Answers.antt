use Rattle.std.proofs.Common.{List, ℕ, ◌∷◌, ◌≤◌, length, take, drop, ◌-◌, Option, Some, None, Bor}
use Rattle.std.specs.Prelude.{slice_index_or, IfSome}
use Rattle.dcm_text.specs.Fronts.{IsBehind, AreBehind}
use Rattle.dcm_text.proofs.Ahead.{one_front, few_front}
use Rattle.dcm_text.proofs.fronts.behind_shown.Goals as goal

pub returns-then-is_one_shown-clause-behind : goal.returns-then-is_one_shown-clause-behind
returns-then-is_one_shown-clause-behind c =
    one_front c.args.text.now c.behind_ascii.result.now c.in-len1-up.len_at_least (c.is_one_shown.ensures c.if-is_one_shown.true) c.behind_ascii.ensures.behind

by_rest : (text : List ℕ) (o : Option (Bor (List ℕ))) → 1 ≤ length text
    → IfSome o (λ rest. IsBehind (slice_index_or text 0 0 ∷ take (length text - 1) (drop 1 text)) rest.now) → IfSome o (λ rest. AreBehind text rest.now)
by_rest text None l h = h
by_rest text (Some rest) l h = few_front text rest.now l h

pub returns-else-is_one_shown-clause-behind : goal.returns-else-is_one_shown-clause-behind
returns-else-is_one_shown-clause-behind c = by_rest c.args.text.now c.behind_few.result c.in-len1-up.len_at_least c.behind_few.ensures.behind
