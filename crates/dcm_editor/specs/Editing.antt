-- The state of the edits, as the program holds it.
use Rattle.std.specs.Prelude.{◌≡◌, ◌⊎◌, List, [], ◌∷◌, map, fold, length, reverse, Option, Some, None, Result}
use Rattle.std.specs.Prelude.{MatchResult, ℕ, Bool, false, not, ◌&&◌}
use Rattle.dcm_base.specs.declared.length.Length.{Length}
use Rattle.dcm_base.specs.declared.syntax.Syntax.{Syntax}
use Rattle.dcm_base.specs.declared.tag.Tag.{Tag}
use Rattle.dcm_base.specs.declared.vr.Vr.{Vr}
use Rattle.dcm_base.specs.Steps.Steps.{outputs}
use Rattle.dcm_head.specs.declared.head.Head.{Head}
use Rattle.dcm_stream.specs.Skip.{depth, is_open}
use Rattle.dcm_edits.specs.declared.edit.Edit.{Edit as AnEdit}
use Rattle.dcm_editor.specs.declared.editor.Level.{Level}
use Rattle.dcm_editor.specs.declared.editor.Editor.{Editor}
use Rattle.dcm_editor.specs.declared.index.TagIndex.{TagIndex}
use Rattle.dcm_edits.specs.Edit.{Edit, Fate}
use Rattle.dcm_editor.specs.EditSink.{State, either, head_by, next, passed}
use Rattle.dcm_editor.specs.Indexes.{makes_nothing, enters_nothing}
use Rattle.dcm_editor.specs.Masks as masks
use Rattle.dcm_base.specs.Steps.Atoms.{Atom, opens, closes_item, ends}
use Rattle.dcm_base.specs.Tree.Tree.{Trees, no_tree}
use Rattle.dcm_editor.specs.Asking.{answer_of, lies_in, any_answer}
use Rattle.dcm_editor.specs.declared.asked.Question.{Question}
use Rattle.dcm_editor.specs.declared.asked.Question.TheVariants.{Meets}
use Rattle.dcm_edits.specs.NewOnes.{puts}
use Rattle.dcm_edits.specs.Meaning.{edit_of}
use Rattle.dcm_edits.specs.Together as together

abbrev pub level_of : Level → masks.MaskLevel
level_of l = record { mask = l.mask; last = l.last; count = l.items }

abbrev pub state : Editor → masks.MaskState
state e = record {
  level = level_of e.level;
  outer = map level_of (reverse e.outermost_first.items);
  dropped = depth e.skip;
  found = e.found;
}

-- the state of the definitions
abbrev pub meant : {A : Type 0} → List (AnEdit A) → Editor → State
meant edits e = masks.meant (map edit_of edits) (state e)

-- what the edits ask of the innermost open data set
abbrev pub asked_here : {A : Type 0} → List (AnEdit A) → Editor → List Edit
asked_here edits e = masks.asked (length (reverse e.outermost_first.items)) e.level.mask 0 (map edit_of edits)

-- the edits that have found their place so far or answer yes here
abbrev pub found_with : {A : Type 0} → List (AnEdit A) → Editor → Question → List Bool
found_with edits e question =
    either (masks.bits e.found 0 (map edit_of edits)) (map (answer_of question) (asked_here edits e))

-- an editor went on over an element's head with this tag
abbrev pub Opens : {A : Type 0} → List (AnEdit A) → (old new : Editor) → Tag → Type 0
Opens edits old new tag = (vr : Vr) (declared : Length) (s : Syntax)
    → meant edits new ≡ next (meant edits old) (opens tag vr declared s)

-- it went on over these atoms, or stayed where the call failed
abbrev pub GoesOn : {A T E : Type 0} → List (AnEdit A) → (old new : Editor) → List Atom → Result T E → Type 0
GoesOn edits old new atoms r = MatchResult r (λ _. meant edits new ≡ fold next (meant edits old) atoms) (λ _. new ≡ old)

-- what is passed on of these atoms
abbrev pub passed_of : {A : Type 0} → List (AnEdit A) → Editor → List Atom → List Atom
passed_of edits e atoms = outputs next passed (meant edits e) atoms

-- an element's head
abbrev pub head_of : Head → Syntax → Atom
head_of head s = opens head.tag head.vr head.length s

-- what becomes of it
abbrev pub head_put : Fate → Head → Syntax → List Atom
head_put fate head s = head_by fate head.tag (head_of head s)

abbrev pub first_fate : {A : Type 0} → List (AnEdit A) → Editor → Tag → Fate
first_fate edits e tag = together.first_fate (asked_here edits e) tag

-- whether no edit changes an element that is not dropped, or puts another one before it
abbrev pub leaves : {A : Type 0} → List (AnEdit A) → Editor → Tag → Bool
leaves edits e tag = not (is_open (depth e.skip)) && not (any_answer (Meets tag e.level.last) (asked_here edits e))

-- whether an edit of a mask changes an element, or puts another one before it
abbrev pub is_met : {A : Type 0} → List (AnEdit A) → Editor → ℕ → Tag → Bool
is_met edits e mask tag =
    any_answer (Meets tag e.level.last) (masks.asked (length (reverse e.outermost_first.items)) mask 0 (map edit_of edits))

-- nothing is dropped, and no edit puts something above the last element of the innermost open data set
abbrev pub puts_nothing : TagIndex → Editor → Bool
puts_nothing index e = not (is_open (depth e.skip)) && makes_nothing index e.level.mask

-- nothing is dropped, and no edit names the next item of the last element
abbrev pub passes_item : TagIndex → Editor → Option Tag → Bool
passes_item index e None = false
passes_item index e (Some tag) = not (is_open (depth e.skip)) && enters_nothing index e.level.mask tag e.level.items

abbrev pub any_erases : {A : Type 0} → List (AnEdit A) → Editor → Tag → Bool
any_erases edits e tag = together.any_erases (asked_here edits e) tag e.level.items

-- of the last element
abbrev pub erases_next : {A : Type 0} → List (AnEdit A) → Editor → Option Tag → Bool
erases_next edits e None = false
erases_next edits e (Some tag) = any_erases edits e tag

-- the elements that edits put above the last one of the innermost open data set, and below the next one
abbrev pub missing : {A : Type 0} → List (AnEdit A) → Editor → Option Tag → Trees
missing edits e to = puts (lies_in e.level.last to) (asked_here edits e) no_tree

-- the end of a data set
abbrev pub IsEnd : List Atom → Type 0
IsEnd atoms = (atoms ≡ closes_item ∷ []) ⊎ (atoms ≡ ends ∷ [])
