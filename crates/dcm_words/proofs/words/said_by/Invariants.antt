use Rattle.std.proofs.Common.{◌≡◌, ◌≤◌, map, ◌+◌, ◌-◌, drop, List, ℕ, length}
use Rattle.dcm_words.specs.Words.{said_after, said_by}
use Rattle.dcm_words.specs.Naming.{NamingIs}
use Rattle.dcm_words.specs.Plans.{reader, PathsAre, said_with_words}
use Rattle.dcm_words.proofs.words.said_by.Given as goal

-- the rest of the words, after what the ones before have said, say what all of them say
abbrev pub invariant-loop-i : goal.invariant-loop-i
invariant-loop-i l = record {
  read : List (List ℕ);
  paths : PathsAre l.said.paths read;
  named : List (List ℕ);
  naming : NamingIs l.said.naming named;
  few : length named ≤ l.i;
  the_rest : said_after (reader l.tool) (l.i + 2) (said_with_words l.said read named) (map (λ w. w.now) (drop l.i l.words)) ≡ said_by (reader l.tool) (map (λ w. w.now) l.words);
}

abbrev pub decreases-loop-i : goal.decreases-loop-i
decreases-loop-i l = length l.words - l.i
