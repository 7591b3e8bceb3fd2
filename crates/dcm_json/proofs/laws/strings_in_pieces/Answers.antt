use Rattle.std.proofs.Common.{ap, List, ℕ, ◌∷◌, [], ◌++◌}
use Rattle.dcm_json.proofs.Escapes.{in_pieces}
use Rattle.dcm_json.proofs.laws.strings_in_pieces.Goals as goal

pub returns : goal.returns
returns c pieces = ap (λ (x : List ℕ). 34 ∷ (x ++ 34 ∷ [])) (in_pieces pieces)
