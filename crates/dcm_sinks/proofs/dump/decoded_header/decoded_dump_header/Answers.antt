use Rattle.std.proofs.Common.{rules, ◌≡◌, refl, sym, ◌∙◌, List, ℕ, [], ◌∷◌, ◌++◌, append_assoc, codes, subst}
use Rattle.dcm_base.specs.declared.mode.Mode.{Mode}
use Rattle.dcm_base.specs.Tables.Syntax.{Little}
use Rattle.dcm_base.specs.Tree.Tree.{Trees}
use Rattle.dcm_base.specs.Bytes.Spelling.{Spells}
use Rattle.dcm_sinks.specs.DecodedDump.{decoded_set}
use Rattle.dcm_sinks.specs.DecodedHeader.{decoded_meta_header, decoded_set_header}
use Rattle.dcm_sinks.specs.InForce.{EMPTY}
use Rattle.dcm_head.specs.MetaReading.{uid_of}
use Rattle.dcm_devices.proofs.Writes.PartsOut.{part_failed, parts_put}
use Rattle.dcm_base.specs.declared.dictionary.Dictionary.{Dictionary}
use Rattle.dcm_sinks.proofs.dump.decoded_header.decoded_dump_header.Goals as goal

-- what stands before the lines of the meta group
abbrev before : List ℕ
before = codes "# Dicom-File-Format (texts in UTF-8)" ++ 10 ∷ 10 ∷ [] ++ codes "# Dicom-Meta-Information-Header" ++ 10 ∷ [] ++ codes "# Used TransferSyntax: LittleEndianExplicit" ++ 10 ∷ []

three : (xs ys zs : List ℕ) → ((before ++ xs) ++ ys) ++ zs ≡ before ++ (xs ++ (ys ++ zs))
three xs ys zs = append_assoc (before ++ xs) ys zs ∙ append_assoc before xs (ys ++ zs)

in_parts : (d : Dictionary) (mode : Mode) (elements : Trees) (uid : List ℕ) → decoded_meta_header d mode elements ++ decoded_set_header uid ≡ before ++ (decoded_set d mode EMPTY 0 elements ++ (10 ∷ [] ++ decoded_set_header uid))
in_parts d mode elements uid = three (decoded_set d mode EMPTY 0 elements) (10 ∷ []) (decoded_set_header uid)

pub returns-in_err-put_all : goal.returns-in_err-put_all
returns-in_err-put_all g c =
    record { bytes = λ elements s m. part_failed _ _ before _ _ _ c.from_residual.result c.from_residual.ensures.0 refl (in_parts c.args.dictionary c.args.mode elements (uid_of c.args.meta.now)) c.in_err-put_all.ensures.wrote.bytes; failed = search rules }

pub returns-in_err-put_decoded_elements : goal.returns-in_err-put_decoded_elements
returns-in_err-put_decoded_elements g c =
    let rest : List ℕ = 10 ∷ [] ++ decoded_set_header (uid_of c.args.meta.now) in
    record {
      bytes = λ elements s m. parts_put _ _ _ before _ _ _ _ c.from_residual-in_err-put_decoded_elements.result refl refl (in_parts c.args.dictionary c.args.mode elements (uid_of c.args.meta.now)) c.in_ok-put_all.ensures.wrote.bytes
          (part_failed _ _ _ _ rest _ c.from_residual-in_err-put_decoded_elements.result c.from_residual-in_err-put_decoded_elements.ensures.0 refl refl (c.in_err-put_decoded_elements.ensures.bytes elements (subst (Spells Little elements) (sym c.bytes.ensures.group) s) m));
      failed = search rules;
    }

pub returns-in_err-put_all-2 : goal.returns-in_err-put_all-2
returns-in_err-put_all-2 g c =
    let rest : List ℕ = 10 ∷ [] ++ decoded_set_header (uid_of c.args.meta.now) in
    record {
      bytes = λ elements s m. parts_put _ _ _ before _ _ _ _ c.from_residual-in_err-put_all-2.result refl refl (in_parts c.args.dictionary c.args.mode elements (uid_of c.args.meta.now)) c.in_ok-put_all.ensures.wrote.bytes
          (parts_put _ _ _ _ _ rest _ _ c.from_residual-in_err-put_all-2.result refl refl refl (c.in_ok-put_decoded_elements.ensures.bytes elements (subst (Spells Little elements) (sym c.bytes.ensures.group) s) m)
          (part_failed _ _ (10 ∷ []) _ (decoded_set_header (uid_of c.args.meta.now)) _ c.from_residual-in_err-put_all-2.result c.from_residual-in_err-put_all-2.ensures.0 refl refl c.in_err-put_all-2.ensures.wrote.bytes));
      failed = search rules;
    }

pub returns : goal.returns
returns g c =
    let rest : List ℕ = 10 ∷ [] ++ decoded_set_header (uid_of c.args.meta.now) in
    record {
      bytes = λ elements s m. parts_put _ _ _ before _ _ _ _ c.put_set_header.result refl refl (in_parts c.args.dictionary c.args.mode elements (uid_of c.args.meta.now)) c.in_ok-put_all.ensures.wrote.bytes
          (parts_put _ _ _ _ _ rest _ _ c.put_set_header.result refl refl refl (c.in_ok-put_decoded_elements.ensures.bytes elements (subst (Spells Little elements) (sym c.bytes.ensures.group) s) m)
          (parts_put _ _ _ (10 ∷ []) _ (decoded_set_header (uid_of c.args.meta.now)) _ _ c.put_set_header.result refl refl refl c.in_ok-put_all-2.ensures.wrote.bytes (rw (c.as_bytes.ensures.value ∙ c.uid.ensures) at c.put_set_header.ensures.bytes)));
      failed = search rules;
    }
