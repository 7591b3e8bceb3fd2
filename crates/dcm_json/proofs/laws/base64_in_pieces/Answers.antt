use Rattle.std.proofs.Common.{[]}
use Rattle.dcm_json.proofs.Groups.{groups_whole}
use Rattle.dcm_json.proofs.laws.base64_in_pieces.Goals as goal

pub returns : goal.returns
returns c pieces = groups_whole [] pieces
