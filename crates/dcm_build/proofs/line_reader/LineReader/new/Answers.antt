use Rattle.std.proofs.Common.{◌∙◌, ap, List, [], ℕ, None}
use Rattle.dcm_build.specs.NewFile.{state}
use Rattle.dcm_build.proofs.line_reader.LineReader.new.Goals as goal

pub returns : goal.returns
returns c =
    ap (λ (line : List ℕ). state c.new.result (record { limit = c.args.limit; line = line; offset = 0; number = 1 }) None) c.new-2.ensures
    ∙ c.new.ensures (record { limit = c.args.limit; line = []; offset = 0; number = 1 })
