use Rattle.std.proofs.Common.{◌≡◌, length}
use Rattle.dcm_words.proofs.NamingLemmas.{grown, full}
use Rattle.dcm_words.proofs.tags.Tags.push.Goals as goal

pub returns-then-self-lt-MOST_NAMED : goal.returns-then-self-lt-MOST_NAMED
returns-then-self-lt-MOST_NAMED c = let sized : length c.args.self.now.tags ≡ 64 = search in grown c.args.self.now.tags c.args.self.now.count c.args.tag c.if-self-lt-MOST_NAMED.true sized

pub returns-else-self-lt-MOST_NAMED : goal.returns-else-self-lt-MOST_NAMED
returns-else-self-lt-MOST_NAMED c = let sized : length c.args.self.now.tags ≡ 64 = search in full c.args.self.now.tags c.args.self.now.count c.args.tag c.if-self-lt-MOST_NAMED.false c.args.self.now.within sized
