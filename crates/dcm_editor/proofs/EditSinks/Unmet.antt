-- An element that no edit meets is passed on as it is, and finds no place for an edit.
use Rattle.std.proofs.Common.{◌≡◌, ℕ, List, [], ◌∷◌, ◌++◌, map, Option, Bool, true, false, not, ◌&&◌, refl, sym, ◌∙◌, ap}
use Rattle.dcm_edits.proofs.Overlapping.Places.{or_else_quiet}
use Rattle.dcm_edits.proofs.Trees.Selection.{new_off}
use Rattle.dcm_lemmas.proofs.Lists.{bits_alike}
use Rattle.dcm_lemmas.proofs.Truth.{or_others_false, or_parts}
use Rattle.dcm_base.specs.declared.tag.Tag.{Tag}
use Rattle.dcm_base.specs.declared.vr.Vr.{Vr}
use Rattle.dcm_base.specs.declared.length.Length.{Length}
use Rattle.dcm_base.specs.declared.syntax.Syntax.{Syntax}
use Rattle.dcm_base.specs.Tables.Syntax.{Little}
use Rattle.dcm_base.specs.Steps.Atoms.{Atom, opens, trees_then}
use Rattle.dcm_base.specs.Steps.Steps.{outputs}
use Rattle.dcm_base.specs.Tree.Tree.{Trees, no_tree}
use Rattle.dcm_stream.specs.Skip.{depth, is_open, opened}
use Rattle.dcm_stream.specs.Tokens.{atoms_of}
use Rattle.dcm_stream.specs.declared.token.Token.{Token}
use Rattle.dcm_stream.specs.declared.token.Token.TheVariants as tokens
use Rattle.dcm_head.specs.declared.head.Head.{Head}
use Rattle.dcm_stream.proofs.Runs.Skipped.{none_open}
use Rattle.dcm_edits.specs.Edit.{Edit, Fate, stays, becomes, goes, fate, acts, NewElement, no_element, new_leaf, new_sequence, element_of}
use Rattle.dcm_edits.specs.Together.{first_fate}
use Rattle.dcm_edits.specs.NewOnes.{is_between, passes_new, puts}
use Rattle.dcm_editor.specs.EditSink.{Level, State, makes, either, next, passed, unless_dropped, new_ones, head_by}
use Rattle.dcm_editor.specs.Asking.{answer_of, any_answer}
use Rattle.dcm_editor.specs.Editing.{state, meant, asked_here, leaves}
use Rattle.dcm_editor.specs.Masks as masks
use Rattle.dcm_edits.specs.Meaning.{edit_of}
use Rattle.dcm_editor.specs.declared.asked.Question.TheVariants.{AtHead, Meets}
use Rattle.dcm_edits.specs.declared.edit.Edit.{Edit as AnEdit}
use Rattle.dcm_editor.specs.declared.editor.Editor.{Editor}
use Rattle.dcm_editor.proofs.EditSinks.Passing.{same_asked}

pub both : (a b : Bool) → true ≡ (a && b) → (true ≡ a) × (true ≡ b)
both true b e = (refl, e)
both false b e = absurd cc

pub is_not : (b : Bool) → true ≡ not b → false ≡ b
is_not false e = refl
is_not true e = absurd cc

stays_as : (f : Fate) → acts f ≡ false → f ≡ stays
stays_as stays e = refl
stays_as (becomes vr value) e = absurd cc
stays_as goes e = absurd cc

makes_none : (passes : Tag → Bool) (w : NewElement) → passes_new passes w ≡ false → makes passes w ≡ false
makes_none passes no_element e = refl
makes_none passes (new_leaf tag vr value) e = refl
makes_none passes (new_sequence tag held) e = e

module _ (tag : Tag) (last : Option Tag) where
  unmet : (e : Edit) (es : List Edit) → any_answer (Meets tag last) (e ∷ es) ≡ false
      → ((acts (fate e tag) ≡ false) × (passes_new (is_between last tag) (element_of e) ≡ false)) × (any_answer (Meets tag last) es ≡ false)
  unmet e es none =
      let x = or_parts (answer_of (Meets tag last) e) (any_answer (Meets tag last) es) none in
      (or_parts (acts (fate e tag)) (passes_new (is_between last tag) (element_of e)) x.0, x.1)

  unmet_fate : (es : List Edit) → any_answer (Meets tag last) es ≡ false → first_fate es tag ≡ stays
  unmet_fate [] none = refl
  unmet_fate (e ∷ es) none =
      let x = unmet e es none in
      or_else_quiet (fate e tag) (first_fate es tag) (stays_as (fate e tag) x.0.0) (unmet_fate es x.1)

  unmet_new : (es : List Edit) (set : Trees) → any_answer (Meets tag last) es ≡ false → puts (is_between last tag) es set ≡ set
  unmet_new [] set none = refl
  unmet_new (e ∷ es) set none =
      let x = unmet e es none in
      ap (puts (is_between last tag) es) (new_off (is_between last tag) es (element_of e) set x.0.1) ∙ unmet_new es set x.1

  unmet_found : (found : List Bool) (es : List Edit) → any_answer (Meets tag last) es ≡ false → found ≡ either found (map (answer_of (AtHead tag last)) es)
  unmet_found [] es none = refl
  unmet_found (a ∷ found) [] none = refl
  unmet_found (a ∷ found) (e ∷ es) none =
      let x = unmet e es none in
      bits_alike _ _ _ _ (or_others_false a (acts (fate e tag)) (makes (is_between last tag) (element_of e)) x.0.0 (makes_none (is_between last tag) (element_of e) x.0.1)) (unmet_found found es x.1)

abbrev state_with : Level → List Level → ℕ → List Bool → State
state_with level outer dropped found = record { level = level; outer = outer; dropped = dropped; found = found }

alike : (l : Level) (o : List Level) (d e : ℕ) (f g : List Bool) → d ≡ e → f ≡ g → state_with l o d f ≡ state_with l o e g
alike l o d e f g p q = cc

module _ {A : Type 0} (edits : List (AnEdit A)) (e : Editor) (tag : Tag) (left : true ≡ leaves edits e tag) where
  none_here : any_answer (Meets tag e.level.last) (meant edits e).level.edits ≡ false
  none_here =
      let x = both (not (is_open (depth e.skip))) (not (any_answer (Meets tag e.level.last) (asked_here edits e))) left in
      ap (any_answer (Meets tag e.level.last)) (same_asked edits e) ∙ sym (is_not _ x.1)

  pub none_dropped : depth e.skip ≡ 0
  none_dropped = none_open (depth e.skip) (is_not (is_open (depth e.skip)) (both (not (is_open (depth e.skip))) (not (any_answer (Meets tag e.level.last) (asked_here edits e))) left).0)

  pub left_state : (t : masks.MaskState) (vr : Vr) (declared : Length) (syntax : Syntax) → t ≡ masks.masks_passed_by (state e) tag → masks.meant (map edit_of edits) t ≡ next (meant edits e) (opens tag vr declared syntax)
  left_state t vr declared syntax is =
      let s : State = meant edits e in
      ap (masks.meant (map edit_of edits)) is
      ∙ alike _ _ _ _ _ _ (ap (λ (f : Fate). opened (depth e.skip) (acts f)) (sym (unmet_fate tag e.level.last s.level.edits none_here))) (unmet_found tag e.level.last s.found s.level.edits none_here)

  pub left_passed : (vr : Vr) (declared : Length) (syntax : Syntax) → opens tag vr declared syntax ∷ [] ≡ outputs next passed (meant edits e) (opens tag vr declared syntax ∷ [])
  unfolding trees_then
  left_passed vr declared syntax =
      let s : State = meant edits e in
      let head : Atom = opens tag vr declared syntax in
      sym (ap (λ (d : ℕ). unless_dropped d (new_ones (is_between e.level.last tag) s.level.edits (head_by (first_fate s.level.edits tag) tag head)) ++ []) none_dropped
      ∙ ap (λ (f : Fate). new_ones (is_between e.level.last tag) s.level.edits (head_by f tag head) ++ []) (unmet_fate tag e.level.last s.level.edits none_here)
      ∙ ap (λ (x : Trees). trees_then Little x (head ∷ []) ++ []) (unmet_new tag e.level.last s.level.edits no_tree none_here))

  pub left_token : (token : Token) (head : Head) (syntax : Syntax) → head.tag ≡ tag → token ≡ tokens.Open head syntax → atoms_of token ≡ outputs next passed (meant edits e) (atoms_of token)
  left_token token head syntax same is =
      ap atoms_of is
      ∙ ap (λ (t : Tag). opens t head.vr head.length syntax ∷ []) same
      ∙ left_passed head.vr head.length syntax
      ∙ ap (λ (t : Tag). outputs next passed (meant edits e) (opens t head.vr head.length syntax ∷ [])) (sym same)
      ∙ ap (λ (t : Token). outputs next passed (meant edits e) (atoms_of t)) (sym is)
