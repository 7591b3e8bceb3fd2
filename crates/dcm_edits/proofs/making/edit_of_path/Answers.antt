use Rattle.std.proofs.Common.{◌∙◌, sym, ap, subst, map, Ok}
use Rattle.dcm_edits.specs.EditWords as words
use Rattle.dcm_edits.specs.Parts.{part_as}
use Rattle.dcm_edits.specs.Making.{known_as, kind_as, Makes, Fit}
use Rattle.dcm_edits.specs.Meaning.{edit_of}
use Rattle.dcm_edits.proofs.Words.Forms.{no_path, no_form, known_meant, fit}
use Rattle.dcm_edits.proofs.making.edit_of_path.Goals as goal
use Rattle.dcm_edits.proofs.making.edit_of_path.Goals.{in_default-via-in-Some+else-has_form, in_default-via-in_default}

pub returns-in_default : goal.returns-in_default
returns-in_default g c = elim c.in_default.branch [
  | in_default-via-in-Some+else-has_form w ↦ (let formless = ap (λ l. words.has_form (kind_as c.args.kind) (map part_as l)) (sym w.as_slice.ensures.value) ∙ sym w.if-has_form.ensures in
      no_form c.args.dictionary (kind_as c.args.kind) c.args.text.now c.args.path.now (map part_as w.in-Some.parts.items) (sym w.in-Some.ensures) formless)
  | in_default-via-in_default w ↦ no_path c.args.dictionary (kind_as c.args.kind) c.args.text.now c.args.path.now (sym w.in_default.ensures)
]

pub edit_of_known-requires : goal.edit_of_known-requires
edit_of_known-requires g c =
    let ms = map part_as c.in-Some.parts.items in
    let formed = ap (λ l. words.has_form (kind_as c.args.kind) (map part_as l)) (sym c.as_slice.ensures.value) ∙ sym c.if-has_form.ensures in
    let known = ap (λ l. words.known_parts c.args.dictionary (map part_as l)) (sym c.as_slice-2.ensures.value) ∙ c.in-Ok.ensures in
    subst (Fit c.args.kind) (sym c.as_slice-in-Ok.ensures.value) (fit c.args.dictionary c.args.kind ms c.in-Ok.known.items formed known)

pub returns-in-Ok : goal.returns-in-Ok
returns-in-Ok g c =
    let ms = map part_as c.in-Some.parts.items in
    let formed = ap (λ l. words.has_form (kind_as c.args.kind) (map part_as l)) (sym c.as_slice.ensures.value) ∙ sym c.if-has_form.ensures in
    let known = ap (λ l. words.known_parts c.args.dictionary (map part_as l)) (sym c.as_slice-2.ensures.value) ∙ c.in-Ok.ensures in
    let same = ap (λ l. words.edit_of_known (kind_as c.args.kind) c.args.text.now (map known_as l)) (sym c.as_slice-in-Ok.ensures.value) in
    let meant = known_meant c.args.dictionary (kind_as c.args.kind) c.args.text.now c.args.path.now ms (Ok (map known_as c.in-Ok.known.items)) (sym c.in-Some.ensures) formed known in
    subst (Makes edit_of c.edit_of_known.result) (sym (meant ∙ same)) c.edit_of_known.ensures
