use Rattle.std.proofs.Common.{rules, ◌≡◌, refl, List, ℕ, [], ◌∷◌, ◌++◌, append_assoc, codes}
use Rattle.dcm_devices.proofs.Writes.PartsOut.{part_failed, parts_put}
use Rattle.dcm_sinks.specs.DecodedHeader as header
use Rattle.dcm_sinks.proofs.dump.decoded_header.put_used_syntax.Goals as goal

-- what stands before the name, and the name
abbrev before : List ℕ
before = codes "# Used TransferSyntax: "

in_parts : (uid : List ℕ) → header.used_syntax uid ≡ before ++ (header.decoded_syntax_name uid ++ 10 ∷ [])
in_parts uid = append_assoc before (header.decoded_syntax_name uid) (10 ∷ [])

pub returns-in_err-put_all : goal.returns-in_err-put_all
returns-in_err-put_all g c =
    record { bytes = part_failed _ _ before _ (header.decoded_syntax_name c.args.uid.now ++ 10 ∷ []) _ c.from_residual.result c.from_residual.ensures.0 refl (in_parts c.args.uid.now) c.in_err-put_all.ensures.wrote.bytes; failed = search rules }

pub returns-in_err-put_decoded_syntax : goal.returns-in_err-put_decoded_syntax
returns-in_err-put_decoded_syntax g c =
    record {
      bytes = parts_put _ _ _ before _ (header.decoded_syntax_name c.args.uid.now ++ 10 ∷ []) _ _ c.from_residual-in_err-put_decoded_syntax.result refl refl (in_parts c.args.uid.now) c.in_ok-put_all.ensures.wrote.bytes
          (part_failed _ _ (header.decoded_syntax_name c.args.uid.now) _ (10 ∷ []) _ c.from_residual-in_err-put_decoded_syntax.result c.from_residual-in_err-put_decoded_syntax.ensures.0 refl refl c.in_err-put_decoded_syntax.ensures.bytes);
      failed = search rules;
    }

pub returns : goal.returns
returns g c =
    record {
      bytes = parts_put _ _ _ before _ (header.decoded_syntax_name c.args.uid.now ++ 10 ∷ []) _ _ c.put_all-2.result refl refl (in_parts c.args.uid.now) c.in_ok-put_all.ensures.wrote.bytes
          (parts_put _ _ _ (header.decoded_syntax_name c.args.uid.now) _ (10 ∷ []) _ _ c.put_all-2.result refl refl refl c.in_ok-put_decoded_syntax.ensures.bytes c.put_all-2.ensures.wrote.bytes);
      failed = search rules;
    }
