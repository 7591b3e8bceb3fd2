use Rattle.std.proofs.Common.{◌≡◌, List, ℕ, [], ◌++◌, subst, sym, ◌∙◌}
use Rattle.std.specs.Prelude.{MatchOption}
use Rattle.dcm_text.specs.Decoding.{Waits, Gives}
use Rattle.dcm_text.proofs.Calls.{empty_front, empty_of}
use Rattle.dcm_text.proofs.decoder.Decoder.step.Goals as goal

pub returns-then-is_empty : goal.returns-then-is_empty
returns-then-is_empty c =
    let held : List ℕ = c.args.self.now.held.items in
    let empty : held ≡ [] = empty_of held (sym c.is_empty.ensures ∙ c.if-is_empty.true) in
    subst (λ (text : List ℕ). MatchOption c.next_of.result (Waits c.args.at_end c.args.self.now c.next_of.new.self text)
    (λ r. Gives c.args.at_end c.args.self.now c.next_of.new.self text (c.next_of.new.self.held.items ++ r.1.now) r.0))
    (empty_front held c.args.input.now empty) c.next_of.ensures
