-- An element that no edit meets is passed on whole, with its value and its end.
use Rattle.std.proofs.Common.{◌≡◌, ℕ, List, [], ◌∷◌, ◌++◌, map, fold, true, false, refl, sym, ◌∙◌, ap, subst, Result, Ok, Err}
use Rattle.std.specs.Prelude.{OnOk, MatchResult}
use Rattle.std.proofs.lemmas.List.Sums.{fold-append}
use Rattle.dcm_base.specs.declared.syntax.Syntax.{Syntax}
use Rattle.dcm_base.specs.Steps.Atoms.{Atom, opens, value_byte, closes_leaf}
use Rattle.dcm_base.specs.Steps.Steps.{outputs}
use Rattle.dcm_base.proofs.Writes.Runs.{outputs-append}
use Rattle.dcm_head.specs.declared.head.Head.{Head}
use Rattle.dcm_stream.specs.Skip.{opened, closed}
use Rattle.dcm_stream.specs.Tokens.{whole_atoms}
use Rattle.dcm_stream.specs.declared.token.WholeFailed.{WholeFailed}
use Rattle.dcm_stream.specs.declared.token.WholeFailed.TheVariants.{AtHead, InValue}
use Rattle.dcm_edits.specs.Meaning.{edit_of}
use Rattle.dcm_edits.specs.declared.edit.Edit.{Edit as AnEdit}
use Rattle.dcm_editor.specs.declared.editor.Editor.{Editor}
use Rattle.dcm_editor.specs.EditSink.{State, next, passed}
use Rattle.dcm_editor.specs.Editing.{state, meant, leaves}
use Rattle.dcm_editor.specs.Masks as masks
use Rattle.dcm_stream.specs.declared.sink.Sink.{Ghosts}
use Rattle.dcm_editor.specs.Noting.{Notes, NotedAt, NotesFailed, NotesWhole}
use Rattle.dcm_editor.specs.Sound.{IsSound}
use Rattle.dcm_editor.proofs.Masks.SoundSteps.{sound_fold}
use Rattle.dcm_editor.proofs.Masks.Answering.{bytes_stay}
use Rattle.dcm_editor.proofs.EditSinks.Passing.{bytes_passed, one_kept, dropped_as}
use Rattle.dcm_editor.proofs.EditSinks.Unmet.{left_state, left_passed, none_dropped}

-- ---- behind a head, where nothing is dropped

abbrev behind : List ℕ → List Atom
behind value = map value_byte value ++ closes_leaf ∷ []

closing_stays : (s : State) → s.dropped ≡ 0 → next s closes_leaf ≡ s
closing_stays s none = ap (dropped_as s) (ap closed none ∙ sym none)

behind_stays : (s : State) (value : List ℕ) → s.dropped ≡ 0 → fold next s (behind value) ≡ s
behind_stays s value none =
    fold-append next s (map value_byte value) (closes_leaf ∷ [])
    ∙ ap (λ (t : State). next t closes_leaf) (sym (bytes_stay s value))
    ∙ closing_stays s none

behind_passed : (s : State) (value : List ℕ) → s.dropped ≡ 0 → outputs next passed s (behind value) ≡ behind value
behind_passed s value none =
    outputs-append next passed s (map value_byte value) (closes_leaf ∷ [])
    ∙ ap (λ (xs : List Atom). xs ++ outputs next passed (fold next s (map value_byte value)) (closes_leaf ∷ [])) (bytes_passed s value none)
    ∙ ap (λ (t : State). map value_byte value ++ outputs next passed t (closes_leaf ∷ [])) (sym (bytes_stay s value))
    ∙ ap (λ (xs : List Atom). map value_byte value ++ xs) (one_kept s closes_leaf none)

-- ---- with the head

module _ {A : Type 0} (edits : List (AnEdit A)) (e : Editor) (head : Head) (syntax : Syntax) (value : List ℕ) (left : true ≡ leaves edits e head.tag) where
  abbrev opening : Atom
  opening = opens head.tag head.vr head.length syntax

  opened_is : masks.meant (map edit_of edits) (masks.masks_passed_by (state e) head.tag) ≡ next (meant edits e) opening
  opened_is = left_state edits e head.tag left (masks.masks_passed_by (state e) head.tag) head.vr head.length syntax refl

  none_behind : (next (meant edits e) opening).dropped ≡ 0
  none_behind =
      ap (λ (s : State). s.dropped) (sym opened_is)
      ∙ ap (λ (d : ℕ). opened d false) (none_dropped edits e head.tag left)

  pub whole_passed : whole_atoms head syntax value ≡ outputs next passed (meant edits e) (whole_atoms head syntax value)
  whole_passed =
      sym (outputs-append next passed (meant edits e) (opening ∷ []) (behind value)
      ∙ ap (λ (xs : List Atom). xs ++ outputs next passed (next (meant edits e) opening) (behind value)) (sym (left_passed edits e head.tag left head.vr head.length syntax))
      ∙ ap (λ (xs : List Atom). opening ∷ xs) (behind_passed (next (meant edits e) opening) value none_behind))

  pub whole_state : (t : masks.MaskState) → t ≡ masks.masks_passed_by (state e) head.tag → masks.meant (map edit_of edits) t ≡ fold next (meant edits e) (whole_atoms head syntax value)
  whole_state t is =
      ap (masks.meant (map edit_of edits)) is
      ∙ opened_is
      ∙ sym (behind_stays (next (meant edits e) opening) value none_behind)

  pub noted_state : {T E : Type 0} (r : Result T E) (new : Editor) (Failed : Type 0) → MatchResult r (λ _. Notes e new head) (λ _. Failed)
      → OnOk r (masks.meant (map edit_of edits) (state new) ≡ fold next (meant edits e) (whole_atoms head syntax value))
  noted_state (Ok x) new Failed noted = whole_state (state new) noted
  noted_state (Err d) new Failed failed = tt

  behind_sound : (new : Editor) → Notes e new head → IsSound (meant edits e) → IsSound (meant edits new)
  behind_sound new is sound =
      subst (λ (s : State). IsSound s) (sym (left_state edits e head.tag left (state new) head.vr head.length syntax is)) (sound_fold (meant edits e) (opening ∷ []) sound)

  place_sound : (place : WholeFailed) (new : Editor) → NotedAt place e new head → IsSound (meant edits e) → IsSound (meant edits new)
  place_sound AtHead new noted sound = subst (λ (d : Editor). IsSound (meant edits d)) (sym noted) sound
  place_sound InValue new noted sound = behind_sound new noted sound

  -- the edits stay apart, however far it came
  pub noted_sound : {T E X : Type 0} (sink : Ghosts X) (old next : X) (r : Result T E) (new : Editor) → NotesWhole sink old next e new head syntax value r → IsSound (meant edits e) → IsSound (meant edits new)
  noted_sound sink old next (Ok x) new noted sound = behind_sound new noted sound
  noted_sound sink old next (Err d) new noted sound = place_sound noted.place new noted.noted sound
