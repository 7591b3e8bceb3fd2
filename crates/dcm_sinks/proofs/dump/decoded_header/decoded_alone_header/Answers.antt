use Rattle.std.proofs.Common.{rules, refl, List, ℕ, [], ◌∷◌, ◌++◌, codes}
use Rattle.dcm_devices.proofs.Writes.PartsOut.{part_failed, parts_put}
use Rattle.dcm_sinks.specs.DecodedHeader.{used_syntax}
use Rattle.dcm_sinks.proofs.dump.decoded_header.decoded_alone_header.Goals as goal

-- the first line
abbrev first : List ℕ
first = codes "# Dicom-Data-Set (texts in UTF-8)" ++ 10 ∷ []

pub returns-in_err-put_all : goal.returns-in_err-put_all
returns-in_err-put_all g c =
    record { bytes = part_failed _ _ first _ (used_syntax c.args.uid.now) _ c.from_residual.result c.from_residual.ensures.0 refl refl c.in_err-put_all.ensures.wrote.bytes; failed = search rules }

pub returns : goal.returns
returns g c =
    record { bytes = parts_put _ _ _ first _ (used_syntax c.args.uid.now) _ _ c.put_used_syntax.result refl refl refl c.in_ok-put_all.ensures.wrote.bytes c.put_used_syntax.ensures.bytes; failed = search rules }
