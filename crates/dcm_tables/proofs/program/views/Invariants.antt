use Rattle.std.proofs.Common.{◌≡◌, map, take}
use Rattle.dcm_tables.proofs.program.views.Given as goal

-- the bytes of the words so far
abbrev pub invariant-loop-word : goal.invariant-loop-word
invariant-loop-word l = record {
  seen : map (λ w. w.now) l.views.items ≡ map (λ w. w.items) (take l.word-index l.words);
}
