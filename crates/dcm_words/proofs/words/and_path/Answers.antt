use Rattle.std.proofs.Common.{arith}
use Rattle.dcm_words.proofs.WordLemmas.{length-and_path, more_than_two}
use Rattle.dcm_words.proofs.words.and_path.Goals as goal

pub returns-in-More : goal.returns-in-More
returns-in-More c = λ ps more. let h = more_than_two c.args.paths ps c.in-More.is more in omega (arith, h, length-and_path ps c.args.path.now)
