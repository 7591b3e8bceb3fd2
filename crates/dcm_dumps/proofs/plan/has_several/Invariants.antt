use Rattle.std.proofs.Common.{◌≡◌, map, drop}
use Rattle.std.specs.List.{list_any}
use Rattle.dcm_dumps.specs.Words.{is_several}
use Rattle.dcm_dumps.proofs.plan.has_several.Given as goal

-- the words that are left have it as all of them
abbrev pub invariant-loop-word : goal.invariant-loop-word
invariant-loop-word l = list_any is_several (map (λ w. w.now) l.words) ≡ list_any is_several (map (λ w. w.now) (drop l.word-index l.words))
