use Rattle.std.proofs.Common.{List, ℕ, ap, ◌∙◌}
use Rattle.dcm_text.specs.declared.set.Halves.{Halves}
use Rattle.dcm_text.specs.First.{start_of}
use Rattle.dcm_text.specs.Runs.{State}
use Rattle.dcm_text.proofs.decoder.Decoder.new.Goals as goal

pub returns : goal.returns
returns c =
    ap (λ (h : Halves). let x : State = record { sets = c.args.sets; kind = c.args.kind; halves = h; held = c.new.result.items } in x) c.start_of.ensures
    ∙ ap (λ (held : List ℕ). let x : State = record { sets = c.args.sets; kind = c.args.kind; halves = start_of c.args.sets; held = held } in x) c.new.ensures
