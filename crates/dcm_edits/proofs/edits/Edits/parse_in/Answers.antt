use Rattle.std.proofs.Common.{◌∙◌, [], ap, map}
use Rattle.dcm_edits.specs.Making.{texts}
use Rattle.dcm_edits.specs.Meaning.{edit_of}
use Rattle.dcm_edits.specs.Overlap.{first_overlap}
use Rattle.dcm_edits.proofs.Words.ManyEdits.{are_meant}
use Rattle.dcm_edits.proofs.edits.Edits.parse_in.Goals as goal

pub invariant_of-result : goal.invariant_of-result
invariant_of-result g c =
    are_meant c.args.dictionary (texts c.args.words.now) (map edit_of c.in_ok-list.list.items) c.in_ok-list.ensures (c.in-None.ensures ∙ ap (λ l. first_overlap 1 [] (map edit_of l)) c.as_slice.ensures.value)
