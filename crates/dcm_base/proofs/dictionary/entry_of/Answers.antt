use Rattle.std.proofs.Common.{sym}
use Rattle.dcm_base.proofs.Dictionaries.Entries.{found_at_place}
use Rattle.dcm_base.proofs.dictionary.entry_of.Goals as goal

-- the guess was right
pub returns-then-entries-at : goal.returns-then-entries-at
returns-then-entries-at c = sym (found_at_place c.args.number c.args.entries.now c.requires.ascending _ _ c.if-at-entries.true c.if-entries-at.true)
