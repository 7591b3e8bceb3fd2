-- What holds of the edits that words mean, as the edit sink asks it.
use Rattle.std.proofs.Common.{◌≡◌, ◌≤◌, List, length, map, sym, subst, ap, arith}
use Rattle.std.proofs.lemmas.List.{length-map}
use Rattle.dcm_edits.specs.declared.edit.Edit.{Edit as AnEdit}
use Rattle.dcm_edits.specs.Edit.{Edit}
use Rattle.dcm_editor.specs.EditSink.{begun}
use Rattle.dcm_edits.specs.Bounds.{AreWithin}
use Rattle.dcm_edits.specs.Meaning.{edit_of, AreMeant}
use Rattle.dcm_editor.specs.Sound.{IsSound}
use Rattle.dcm_edits.proofs.Words.EditCount.{few}
use Rattle.dcm_edits.proofs.Words.EditWordLemmas.{edits_are_apart}
use Rattle.dcm_editor.proofs.Masks.SoundSteps.{sound_begun}
use Rattle.dcm_edits.proofs.Words.WordValues.{edits_fit}

pub few_meant : (edits : List Edit) → AreMeant edits → length edits ≤ 64
few_meant edits m = few m.dictionary m.words edits m.mean

pub few_listed : {A : Type 0} (list : List (AnEdit A)) (edits : List Edit) → map edit_of list ≡ edits → AreMeant edits → length list ≤ 64
few_listed list edits is m =
    let size : length (map edit_of list) ≡ length list = length-map list edit_of in
    let same : length (map edit_of list) ≡ length edits = ap (λ (es : List Edit). length es) is in
    let most : length edits ≤ 64 = few_meant edits m in
    omega (arith, size, same, most)

pub short_listed : {A : Type 0} (list : List (AnEdit A)) (edits : List Edit) → map edit_of list ≡ edits → AreMeant edits → AreWithin 64 (map edit_of list)
short_listed list edits is m = subst (AreWithin 64) (sym is) (edits_fit m.dictionary m.words edits m.mean).2

pub sound_meant : (edits : List Edit) → AreMeant edits → IsSound (begun edits)
sound_meant edits m = let h = edits_are_apart m.dictionary m.words edits m.mean in sound_begun edits h.0 h.1
