-- The edit sink takes a token: it passes on, and goes on.
use Rattle.std.proofs.Common.{◌≡◌, ℕ, List, map, fold, Option, Result, Ok, Err, sym, subst, ◌∙◌, ap}
use Rattle.std.specs.Prelude.{MatchResult, OnOk}
use Rattle.std.specs.Io.KnownBytes.{append_known}
use Rattle.dcm_base.specs.Steps.Atoms.{Atom}
use Rattle.dcm_devices.specs.Device.{Puts, AppendsFront}
use Rattle.dcm_base.specs.Steps.Steps.{outputs, Goes}
use Rattle.dcm_edits.specs.declared.edit.Edit.{Edit as AnEdit}
use Rattle.dcm_edits.specs.Edit.{Edit}
use Rattle.dcm_editor.specs.EditSink.{State, next, passed}
use Rattle.dcm_edits.specs.Meaning.{edit_of}
use Rattle.dcm_editor.specs.Masks.{MaskState, meant}
use Rattle.dcm_editor.specs.Editing as editing
use Rattle.dcm_editor.specs.Sound.{IsSound}
use Rattle.dcm_editor.specs.declared.editor.Editor.{Editor}
use Rattle.dcm_editor.specs.Through.{through_step, through_writes}
use Rattle.dcm_editor.proofs.Masks.SoundSteps.{sound_fold}
use Rattle.dcm_editor.proofs.EditSinks.Through.{through_fold, through_outputs}

-- the state by the list of the program
gone_on : {A : Type 0} (list : List (AnEdit A)) (edits : List Edit) (s t : MaskState) (atoms : List Atom) → map edit_of list ≡ edits → meant (map edit_of list) t ≡ fold next (meant (map edit_of list) s) atoms → meant edits t ≡ fold next (meant edits s) atoms
gone_on list edits s t atoms is h = subst (λ (es : List Edit). meant es t ≡ fold next (meant es s) atoms) is h

module _ {T : Type 0} (step : T → Atom → T) (writes : T → Atom → List ℕ) (edits : List Edit) (s : MaskState) (atoms : List Atom) where
  pair_alike : (a b : State) (c d : T) → a ≡ b → c ≡ d → ◌≡◌ {A = State × T} (a, c) (b, d)
  pair_alike a b c d p q = cc

  state_through : {A : Type 0} (list : List (AnEdit A)) (t : MaskState) (old new : T) → map edit_of list ≡ edits → meant edits t ≡ fold next (meant edits s) atoms
      → new ≡ fold step old (outputs next passed (meant (map edit_of list) s) atoms) → ◌≡◌ {A = State × T} (meant edits t, new) (fold (through_step step) (meant edits s, old) atoms)
  state_through list t old new is on h =
      pair_alike _ _ _ _ on (h ∙ ap (λ (es : List Edit). fold step old (outputs next passed (meant es s) atoms)) is) ∙ sym (through_fold step writes (meant edits s) old atoms)

  bytes_through : {A : Type 0} (list : List (AnEdit A)) (old : T) → map edit_of list ≡ edits
      → outputs step writes old (outputs next passed (meant (map edit_of list) s) atoms) ≡ outputs (through_step step) (through_writes step writes) (meant edits s, old) atoms
  bytes_through list old is = ap (λ (es : List Edit). outputs step writes old (outputs next passed (meant es s) atoms)) is ∙ sym (through_outputs step writes (meant edits s) old atoms)

  put_through : {A : Type 0} (list : List (AnEdit A)) (old : T) (held holds : Option (List ℕ)) → map edit_of list ≡ edits → holds ≡ append_known held (outputs step writes old (outputs next passed (meant (map edit_of list) s) atoms))
      → holds ≡ append_known held (outputs (through_step step) (through_writes step writes) (meant edits s, old) atoms)
  put_through list old held holds is h = h ∙ ap (append_known held) (bytes_through list old is)

  -- both parts of the state, after a call that went on
  pub state_after : {A B E : Type 0} (list : List (AnEdit B)) (t : MaskState) (old new : T) (held holds : Option (List ℕ)) (r : Result A E) → map edit_of list ≡ edits
      → OnOk r (meant (map edit_of list) t ≡ fold next (meant (map edit_of list) s) atoms)
      → Goes step writes old held new holds (outputs next passed (meant (map edit_of list) s) atoms) r
      → OnOk r (◌≡◌ {A = State × T} (meant edits t, new) (fold (through_step step) (meant edits s, old) atoms))
  state_after list t old new held holds (Ok x) is on taken = state_through list t old new is (gone_on list edits s t atoms is on) taken.0
  state_after list t old new held holds (Err x) is on taken = tt

  pub put_after : {A B E : Type 0} (list : List (AnEdit B)) (old new : T) (held holds : Option (List ℕ)) (r : Result A E) → map edit_of list ≡ edits
      → Goes step writes old held new holds (outputs next passed (meant (map edit_of list) s) atoms) r
      → Puts held holds (outputs (through_step step) (through_writes step writes) (meant edits s, old) atoms) r
  put_after list old new held holds (Ok x) is taken = put_through list old held holds is taken.1
  put_after list old new held holds (Err x) is taken = subst (λ (bytes : List ℕ). AppendsFront held holds bytes) (bytes_through list old is) taken

-- the edits stay apart, whatever the answer is
pub sound_after : {A B E : Type 0} (list : List (AnEdit B)) (edits : List Edit) (s t : MaskState) (atoms : List Atom) (r : Result A E) → map edit_of list ≡ edits
    → MatchResult r (λ _. meant (map edit_of list) t ≡ fold next (meant (map edit_of list) s) atoms) (λ _. t ≡ s) → IsSound (meant edits s) → IsSound (meant edits t)
sound_after list edits s t atoms (Ok x) is on sound = subst (λ (u : State). IsSound u) (sym (gone_on list edits s t atoms is on)) (sound_fold (meant edits s) atoms sound)
sound_after list edits s t atoms (Err x) is same sound = subst (λ (m : MaskState). IsSound (meant edits m)) (sym same) sound

pub step_done : {A E : Type 0} (P : Type 0) (Q : Type 0) (r : Result A E) → MatchResult r (λ _. P) (λ _. Q) → OnOk r P
step_done P Q (Ok x) h = h
step_done P Q (Err x) h = tt

pub same_state : {A E : Type 0} (P : Type 0) (old new : Editor) (r : Result A E) → MatchResult r (λ _. P) (λ _. new ≡ old) → MatchResult r (λ _. P) (λ _. editing.state new ≡ editing.state old)
same_state P old new (Ok x) h = h
same_state P old new (Err x) h = ap editing.state h
