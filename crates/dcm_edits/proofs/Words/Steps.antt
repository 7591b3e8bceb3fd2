-- The steps of a path, one after another.
use Rattle.std.proofs.Common.{◌≡◌, List, [], ◌∷◌, ◌++◌, map, Option, Some, refl, sym, ◌∙◌, ap}
use Rattle.std.specs.Prelude.{option_map}
use Rattle.dcm_edits.specs.declared.edit.Step.{Step}
use Rattle.dcm_edits.specs.declared.edit.Index as meant
use Rattle.dcm_edits.specs.declared.known.Known as declared
use Rattle.dcm_edits.specs.Edit.{PathEdit, step}
use Rattle.dcm_edits.specs.EditWords.{Known, step_to, on_steps, last_vr}
use Rattle.dcm_edits.specs.Making.{known_as, steps_to}
use Rattle.dcm_edits.specs.Meaning.{index_of, along}

along_more : (steps : List Step) (s : Step) (edit : PathEdit) → along (steps ++ s ∷ []) edit ≡ along steps (step s.tag (index_of s.index) edit)
along_more [] s edit = refl
along_more (x ∷ steps) s edit = ap (step x.tag (index_of x.index)) (along_more steps s edit)

pub one_step : (steps new : List Step) (k : declared.Known) (i : meant.Index) (all ks : List declared.Known) → all ≡ k ∷ ks → k.index ≡ Some i
    → new ≡ steps ++ (let s : Step = record { tag = k.tag; index = i } in s ∷ []) → (edit : PathEdit) → along new (steps_to (map known_as ks) edit) ≡ along steps (steps_to (map known_as all) edit)
one_step steps new k i all ks e p q edit =
    ap (λ (l : List Step). along l (steps_to (map known_as ks) edit)) q
    ∙ along_more steps (record { tag = k.tag; index = i }) (steps_to (map known_as ks) edit)
    ∙ ap (λ (o : Option meant.Index). along steps (step_to k.tag (option_map index_of o) (steps_to (map known_as ks) edit))) (sym p)
    ∙ ap (λ (l : List declared.Known). along steps (steps_to (map known_as l) edit)) (sym e)

-- after a part that leads to others
pub steps_end : (at_end : Known → PathEdit) (x : Known) (ks : List Known) (k : Known) → on_steps at_end x (ks ++ k ∷ []) ≡ steps_to (x ∷ ks) (at_end k)
steps_end at_end x [] k = refl
steps_end at_end x (y ∷ ks) k = ap (step_to x.tag x.index) (steps_end at_end y ks k)

pub vr_end : (x : Known) (ks : List Known) (k : Known) → last_vr x (ks ++ k ∷ []) ≡ k.vr
vr_end x [] k = refl
vr_end x (y ∷ ks) k = vr_end y ks k
