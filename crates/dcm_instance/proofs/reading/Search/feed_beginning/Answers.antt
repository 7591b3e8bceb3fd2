use Rattle.std.proofs.Common.{[], ◌∷◌, ◌++◌, Option, ℕ, subst, sym, take, drop}
use Rattle.std.specs.Prelude.{◌-◌, option_to_list}
use Rattle.dcm_instance.specs.Searching.{Searched}
use Rattle.dcm_instance.proofs.reading.Search.feed_beginning.Goals as goal

pub returns-in-Some-clause-searched : goal.returns-in-Some-clause-searched
returns-in-Some-clause-searched c = λ s start old.
    subst (λ (ahead : Option ℕ). Searched s start (option_to_list ahead ++ take (c.args.beginning.filled - c.args.beginning.used) (drop c.args.beginning.used c.args.buffer.now)) c.feed-in-Some-2.new.self) (sym c.in-Some.is)
    (c.feed-in-Some-2.ensures.searched s start (c.in-Some.byte ∷ []) (c.feed-in-Some.ensures.searched s start [] old))
