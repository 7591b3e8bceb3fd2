-- An element with its whole value, which nobody has to know, or within what is left out.
use Rattle.std.proofs.Common.{◌≡◌, ◌<◌, ℕ, zero, suc, Option, List, [], ◌∷◌, ◌++◌, map, fold, Some, None, Bool, true, false, not, refl, sym, ◌∙◌, ap, append_assoc, arith}
use Rattle.std.specs.Prelude.{if◌then◌else◌, is_some, option_map}
use Rattle.std.proofs.lemmas.List.{append-nil}
use Rattle.std.proofs.lemmas.List.Sums.{fold-append}
use Rattle.dcm_base.specs.declared.form.Form.{Form}
use Rattle.dcm_base.specs.declared.form.Form.TheVariants.{Value as a_value}
use Rattle.dcm_base.specs.declared.syntax.Syntax.{Syntax}
use Rattle.dcm_base.specs.declared.tag.Tag.{Tag}
use Rattle.dcm_base.specs.Steps.Atoms.{Atom, opens, value_byte, closes_leaf}
use Rattle.dcm_base.specs.Steps.Steps.{outputs}
use Rattle.dcm_base.proofs.Writes.Runs.{outputs-append}
use Rattle.dcm_head.specs.declared.head.Head.{Head}
use Rattle.dcm_stream.specs.Skip.{depth, opened, closed}
use Rattle.dcm_stream.specs.Tokens.{IsLeaf, whole_atoms}
use Rattle.dcm_deid.specs.declared.deidentifier.Deidentifier.{Deidentifier}
use Rattle.dcm_deid.specs.declared.fate.Fate.{Fate}
use Rattle.dcm_deid.specs.declared.fate.Fate.TheVariants.{Remove, Empty, Replace, Anew, Keep}
use Rattle.dcm_deid.specs.declared.fate.Options.{Options}
use Rattle.dcm_deid.specs.declared.held.HeldValue.{HeldValue}
use Rattle.dcm_deid.specs.Deidentifying.{held, place, state, passed_of, whole_by}
use Rattle.dcm_deid.specs.Fate.{is_kept}
use Rattle.dcm_deid.specs.DeidentifySink.{Held, Place, State, whole_within, next, passed, passed_by_depth, said_before, head_by, fate_at, is_held, held_if, holding, moved, judged, judged_by_depth, with_last}
use Rattle.dcm_deid.proofs.Passing.{bytes_passed, bytes_gone, bytes_next, bytes_unheld, at_place}

-- ---- behind a head that is left out, or not, where no value is held

abbrev behind : List ℕ → List Atom
behind value = map value_byte value ++ closes_leaf ∷ []

abbrev noted : Place → ℕ → Tag → Place
noted p dropped tag = record { last = Some tag; outer = p.outer; dropped = dropped; held = None; seen = p.seen }

module _ (options : Options) (key : List ℕ) (p : Place) (tag : Tag) (value : List ℕ) where
  abbrev noted_at : ℕ → State
  noted_at dropped = at_place options key (noted p dropped tag)

  bytes_stay : (dropped : ℕ) → fold next (noted_at dropped) (map value_byte value) ≡ noted_at dropped
  bytes_stay dropped = bytes_next (noted_at dropped) value ∙ ap (at_place options key) (bytes_unheld (noted p dropped tag) value)

  value_ends : (is_left_out : Bool) → next (noted_at (opened 0 is_left_out)) closes_leaf ≡ noted_at 0
  value_ends true = refl
  value_ends false = refl

  behind_stays : (is_left_out : Bool) → fold next (noted_at (opened 0 is_left_out)) (behind value) ≡ noted_at 0
  behind_stays is_left_out =
      fold-append next (noted_at (opened 0 is_left_out)) (map value_byte value) (closes_leaf ∷ [])
      ∙ ap (λ (t : State). next t closes_leaf) (bytes_stay (opened 0 is_left_out))
      ∙ value_ends is_left_out

  behind_is : (dropped : ℕ) (xs : List Atom) → outputs next passed (noted_at dropped) (map value_byte value) ≡ xs → outputs next passed (noted_at dropped) (behind value) ≡ xs ++ outputs next passed (noted_at dropped) (closes_leaf ∷ [])
  behind_is dropped xs is =
      outputs-append next passed (noted_at dropped) (map value_byte value) (closes_leaf ∷ [])
      ∙ ap (λ (ys : List Atom). ys ++ outputs next passed (fold next (noted_at dropped) (map value_byte value)) (closes_leaf ∷ [])) is
      ∙ ap (λ (t : State). xs ++ outputs next passed t (closes_leaf ∷ [])) (bytes_stay dropped)

  behind_passed : (is_left_out : Bool) → outputs next passed (noted_at (opened 0 is_left_out)) (behind value) ≡ (if is_left_out then [] else behind value)
  behind_passed true = behind_is 1 [] (bytes_gone (noted_at 1) value (omega arith))
  behind_passed false = behind_is 0 (map value_byte value) (bytes_passed (noted_at 0) value refl)

  -- within what is left out
  value_ends_within : (dropped : ℕ) → next (noted_at dropped) closes_leaf ≡ noted_at (closed dropped)
  value_ends_within zero = refl
  value_ends_within (suc n) = refl

  end_within : (dropped : ℕ) → 0 < dropped → outputs next passed (noted_at dropped) (closes_leaf ∷ []) ≡ []
  end_within zero l = absurd (omega (arith, l))
  end_within (suc n) l = refl

  behind_stays_within : (dropped : ℕ) → fold next (noted_at dropped) (behind value) ≡ noted_at (closed dropped)
  behind_stays_within dropped =
      fold-append next (noted_at dropped) (map value_byte value) (closes_leaf ∷ [])
      ∙ ap (λ (t : State). next t closes_leaf) (bytes_stay dropped)
      ∙ value_ends_within dropped

  behind_gone : (dropped : ℕ) → 0 < dropped → outputs next passed (noted_at dropped) (behind value) ≡ []
  behind_gone dropped l = behind_is dropped [] (bytes_gone (noted_at dropped) value l) ∙ end_within dropped l

-- ---- with the head

joined : (said : List Atom) (fate : Fate) (head : Head) (syntax : Syntax) (value : List ℕ)
    → (said ++ head_by fate a_value head.tag head.vr head.length syntax) ++ (if not (is_kept fate) then [] else behind value) ≡ said ++ whole_by fate head syntax value
joined said Keep head syntax value = append_assoc said (opens head.tag head.vr head.length syntax ∷ []) (behind value)
joined said Remove head syntax value = append-nil (said ++ whole_by Remove head syntax value)
joined said Empty head syntax value = append-nil (said ++ whole_by Empty head syntax value)
joined said Replace head syntax value = append-nil (said ++ whole_by Replace head syntax value)
joined said (Anew made) head syntax value = append-nil (said ++ whole_by (Anew made) head syntax value)

module _ (options : Options) (key : List ℕ) (d : Deidentifier) (fate : Fate) (head : Head) (syntax : Syntax) (value : List ℕ) (leaf : IsLeaf head syntax value) (none : depth d.skip ≡ 0) (fate_is : fate ≡ fate_at options (place d) a_value head.tag) (unheld : is_held fate a_value head.tag ≡ false) where
  abbrev p : Place
  p = place d

  abbrev opening : Atom
  opening = opens head.tag head.vr head.length syntax

  abbrev left_out : Bool
  left_out = not (is_kept fate)

  abbrev after_opening : State
  after_opening = noted_at options key p head.tag value (opened 0 left_out)

  head_place : with_last (judged_by_depth p.dropped options p head.tag head.vr head.length syntax) head.tag ≡ noted p (opened 0 left_out) head.tag
  head_place =
      ap (λ (n : ℕ). with_last (judged_by_depth n options p head.tag head.vr head.length syntax) head.tag) none
      ∙ ap (λ (f : Form). with_last (judged p (fate_at options p f head.tag) f head.tag head.vr syntax) head.tag) leaf.form_is
      ∙ ap (λ (f : Fate). with_last (judged p f a_value head.tag head.vr syntax) head.tag) (sym fate_is)
      ∙ ap (λ (b : Bool). with_last (holding (moved p p.last p.outer (opened p.dropped left_out)) (held_if b fate head.tag head.vr syntax)) head.tag) unheld
      ∙ ap (λ (n : ℕ). with_last (holding (moved p p.last p.outer (opened n left_out)) None) head.tag) none

  head_state : next (state options key d) opening ≡ after_opening
  head_state = ap (at_place options key) head_place

  head_passed : passed (state options key d) opening ≡ said_before options p (Some head.tag) ++ head_by fate a_value head.tag head.vr head.length syntax
  head_passed =
      ap (λ (n : ℕ). passed_by_depth n options key p opening) none
      ∙ ap (λ (f : Form). said_before options p (Some head.tag) ++ head_by (fate_at options p f head.tag) f head.tag head.vr head.length syntax) leaf.form_is
      ∙ ap (λ (f : Fate). said_before options p (Some head.tag) ++ head_by f a_value head.tag head.vr head.length syntax) (sym fate_is)

  pub whole_passed : said_before options p (Some head.tag) ++ whole_by fate head syntax value ≡ passed_of options key d (whole_atoms head syntax value)
  whole_passed =
      let first : List Atom = said_before options p (Some head.tag) ++ head_by fate a_value head.tag head.vr head.length syntax in
      sym (ap (λ (xs : List Atom). xs ++ outputs next passed (next (state options key d) opening) (behind value)) head_passed
      ∙ ap (λ (t : State). first ++ outputs next passed t (behind value)) head_state
      ∙ ap (λ (xs : List Atom). first ++ xs) (behind_passed options key p head.tag value left_out)
      ∙ joined (said_before options p (Some head.tag)) fate head syntax value)

  pub whole_state : (new : Deidentifier) → place new ≡ with_last (holding p None) head.tag → state options key new ≡ fold next (state options key d) (whole_atoms head syntax value)
  whole_state new is =
      ap (at_place options key) (is ∙ ap (λ (n : ℕ). noted p n head.tag) none)
      ∙ sym (ap (λ (t : State). fold next t (behind value)) head_state ∙ behind_stays options key p head.tag value left_out)

-- ---- within what is left out, where no value is held

opens_deeper : (n : ℕ) → 0 < n → 0 < opened n true
opens_deeper zero l = absurd (omega (arith, l))
opens_deeper (suc n) l = omega arith

module _ (options : Options) (key : List ℕ) (d : Deidentifier) (head : Head) (syntax : Syntax) (value : List ℕ) (shut : 0 < depth d.skip) (unheld : (place d).held ≡ None) where
  abbrev within : Place
  within = place d

  abbrev opening_within : Atom
  opening_within = opens head.tag head.vr head.length syntax

  abbrev deeper : ℕ
  deeper = opened within.dropped true

  abbrev placed : ℕ → Option Held → Place
  placed dropped held = record { last = Some head.tag; outer = within.outer; dropped = dropped; held = held; seen = within.seen }

  judged_within : (n : ℕ) → 0 < n → with_last (judged_by_depth n options within head.tag head.vr head.length syntax) head.tag ≡ placed deeper within.held
  judged_within zero l = absurd (omega (arith, l))
  judged_within (suc n) l = refl

  passed_within : (n : ℕ) → 0 < n → passed_by_depth n options key within opening_within ≡ []
  passed_within zero l = absurd (omega (arith, l))
  passed_within (suc n) l = refl

  head_state_within : next (state options key d) opening_within ≡ noted_at options key within head.tag value deeper
  head_state_within = ap (at_place options key) (judged_within within.dropped shut ∙ ap (placed deeper) unheld)

  pub within_passed : [] ≡ passed_of options key d (whole_atoms head syntax value)
  within_passed =
      sym (ap (λ (xs : List Atom). xs ++ outputs next passed (next (state options key d) opening_within) (behind value)) (passed_within within.dropped shut)
      ∙ ap (λ (t : State). outputs next passed t (behind value)) head_state_within
      ∙ behind_gone options key within head.tag value deeper (opens_deeper within.dropped shut))

  pub within_state : (new : Deidentifier) → place new ≡ whole_within within head.tag → state options key new ≡ fold next (state options key d) (whole_atoms head syntax value)
  within_state new is =
      ap (at_place options key) (is ∙ ap (placed (closed deeper)) unheld)
      ∙ sym (ap (λ (t : State). fold next t (behind value)) head_state_within ∙ behind_stays_within options key within head.tag value deeper)

pub none_held : (o : Option HeldValue) → false ≡ is_some o → option_map held o ≡ None
none_held None e = refl
none_held (Some h) e = absurd (cc)
