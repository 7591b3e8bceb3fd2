use Rattle.std.proofs.Common.{◌∙◌, ◌==◌, ap, ℕ, Option, length}
use Rattle.std.specs.Option.{unwrap_or}
use Rattle.dcm_files.proofs.Listings.{position_is}
use Rattle.dcm_files.proofs.host_folder.name_size.Goals as goal

pub returns-clause-size : goal.returns-clause-size
returns-clause-size c =
    c.unwrap_or.ensures ∙ ap (λ (o : Option ℕ). unwrap_or o (length c.args.bytes.now)) c.first_end.ensures ∙ position_is (λ b. b == 0) c.args.bytes.now
