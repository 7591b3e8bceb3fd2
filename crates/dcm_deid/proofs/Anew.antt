-- An element with its whole value, which is made anew.
use Rattle.std.proofs.Common.{◌≡◌, ◌<◌, ◌∙◌, ℕ, List, [], ◌∷◌, ◌++◌, map, fold, take, drop, Some, None, Bool, false, sym, ap, arith}
use Rattle.std.proofs.lemmas.List.{append-nil}
use Rattle.std.proofs.lemmas.List.Sums.{fold-append}
use Rattle.dcm_base.specs.declared.form.Form.{Form}
use Rattle.dcm_base.specs.declared.form.Form.TheVariants.{Value as a_value}
use Rattle.dcm_base.specs.declared.syntax.Syntax.{Syntax}
use Rattle.dcm_base.specs.Steps.Atoms.{Atom, opens, value_byte, closes_leaf}
use Rattle.dcm_base.specs.Steps.Steps.{outputs}
use Rattle.dcm_base.specs.Tables.Syntax.{is_big}
use Rattle.dcm_base.specs.Tree.Value.{order}
use Rattle.dcm_base.proofs.Writes.Runs.{outputs-append}
use Rattle.dcm_head.specs.declared.head.Head.{Head}
use Rattle.dcm_stream.proofs.Containers.SignBytes.{order_unturned}
use Rattle.dcm_stream.specs.Skip.{depth}
use Rattle.dcm_stream.specs.Tokens.{IsLeaf, leaf_atoms, whole_atoms}
use Rattle.dcm_deid.specs.declared.deidentifier.Deidentifier.{Deidentifier}
use Rattle.dcm_deid.specs.declared.fate.Fate.{Fate}
use Rattle.dcm_deid.specs.declared.fate.Fate.TheVariants.{Anew}
use Rattle.dcm_deid.specs.declared.fate.NewValue.{NewValue}
use Rattle.dcm_deid.specs.declared.fate.Options.{Options}
use Rattle.dcm_deid.specs.Deidentifying.{place, state, passed_of}
use Rattle.dcm_deid.specs.DeidentifySink.{is_emptied as held_emptied, counting, seeing, Held, Place, State, next, passed, passed_by_depth, said_before, head_by, fate_at, holding, held_with, nothing_held, made_of, new_of, judged, judged_by_depth, with_last}
use Rattle.dcm_deid.specs.Emptied.{is_emptied}
use Rattle.dcm_deid.specs.MadeNew.{made_new}
use Rattle.dcm_deid.proofs.EmptiedValues.{emptied_is}
use Rattle.dcm_deid.proofs.HeldValues.{new_is, held_whole, holds, longer_after}
use Rattle.dcm_deid.proofs.MadeValues.{nothing_of_long}
use Rattle.std.specs.Prelude.{Ok, Err, OnOk}
use Rattle.dcm_deid.proofs.Taking.{Answer}
use Rattle.dcm_deid.proofs.Passing.{bytes_gone, bytes_held, bytes_next, at_place}

module _ (options : Options) (key : List ℕ) (d : Deidentifier) (made : NewValue) (head : Head) (syntax : Syntax) (value : List ℕ) (leaf : IsLeaf head syntax value) (none : depth d.skip ≡ 0) (fate_is : Anew made ≡ fate_at options (place d) a_value head.tag) (little : is_big syntax ≡ false) where
  abbrev p : Place
  p = place d

  abbrev opening : Atom
  opening = opens head.tag head.vr head.length syntax

  -- behind the head, where this is held
  abbrev behind : Held → Place
  behind h = record { last = Some head.tag; outer = p.outer; dropped = 1; held = Some h; seen = p.seen }

  abbrev begun : Held
  begun = nothing_held (Anew made) head.tag head.vr syntax

  abbrev whole : Held
  whole = fold held_with begun value

  head_place : with_last (judged_by_depth p.dropped options p head.tag head.vr head.length syntax) head.tag ≡ behind begun
  head_place =
      ap (λ (n : ℕ). with_last (judged_by_depth n options p head.tag head.vr head.length syntax) head.tag) none
      ∙ ap (λ (f : Form). with_last (judged p (fate_at options p f head.tag) f head.tag head.vr syntax) head.tag) leaf.form_is
      ∙ ap (λ (f : Fate). with_last (judged p f a_value head.tag head.vr syntax) head.tag) (sym fate_is)
      ∙ ap (λ (n : ℕ). with_last (judged (record { last = p.last; outer = p.outer; dropped = n; held = p.held; seen = p.seen }) (Anew made) a_value head.tag head.vr syntax) head.tag) none

  head_state : next (state options key d) opening ≡ at_place options key (behind begun)
  head_state = ap (at_place options key) head_place

  head_passed : passed (state options key d) opening ≡ said_before options p (Some head.tag) ++ []
  head_passed =
      ap (λ (n : ℕ). passed_by_depth n options key p opening) none
      ∙ ap (λ (f : Form). said_before options p (Some head.tag) ++ head_by (fate_at options p f head.tag) f head.tag head.vr head.length syntax) leaf.form_is
      ∙ ap (λ (f : Fate). said_before options p (Some head.tag) ++ head_by f a_value head.tag head.vr head.length syntax) (sym fate_is)

  bytes_state : fold next (at_place options key (behind begun)) (map value_byte value) ≡ at_place options key (behind whole)
  bytes_state = bytes_next (at_place options key (behind begun)) value ∙ ap (at_place options key) (bytes_held (behind begun) begun value)

  value_is : new_of (made_new options key) whole ≡ made_of (made_new options key) (Anew made) head.vr value
  value_is =
      ap (λ (v : List ℕ). new_of (made_new options key) (fold held_with begun v)) (sym (order_unturned syntax head.vr value little))
      ∙ new_is (made_new options key) made head.tag head.vr syntax value (nothing_of_long options key)

  whole_is : whole ≡ holds (Anew made) head.tag head.vr syntax (order syntax head.vr (take 256 value)) (longer_after false (drop 256 value))
  whole_is = ap (fold held_with begun) (sym (order_unturned syntax head.vr value little)) ∙ held_whole (Anew made) head.tag head.vr syntax value

  atoms_are : leaf_atoms whole.tag whole.vr (new_of (made_new options key) whole) ≡ leaf_atoms head.tag head.vr (made_of (made_new options key) (Anew made) head.vr value)
  atoms_are =
      ap (λ (h : Held). leaf_atoms h.tag h.vr (new_of (made_new options key) whole)) whole_is
      ∙ ap (leaf_atoms head.tag head.vr) value_is

  rest_is : outputs next passed (at_place options key (behind begun)) (map value_byte value ++ closes_leaf ∷ []) ≡ leaf_atoms head.tag head.vr (made_of (made_new options key) (Anew made) head.vr value)
  rest_is =
      outputs-append next passed (at_place options key (behind begun)) (map value_byte value) (closes_leaf ∷ [])
      ∙ ap (λ (xs : List Atom). xs ++ outputs next passed (fold next (at_place options key (behind begun)) (map value_byte value)) (closes_leaf ∷ [])) (bytes_gone (at_place options key (behind begun)) value (omega arith))
      ∙ ap (λ (s : State). outputs next passed s (closes_leaf ∷ [])) bytes_state
      ∙ append-nil (leaf_atoms whole.tag whole.vr (new_of (made_new options key) whole))
      ∙ atoms_are

  pub anew_passed : said_before options p (Some head.tag) ++ leaf_atoms head.tag head.vr (made_of (made_new options key) (Anew made) head.vr value) ≡ passed_of options key d (whole_atoms head syntax value)
  anew_passed =
      sym (ap (λ (xs : List Atom). xs ++ outputs next passed (next (state options key d) opening) (map value_byte value ++ closes_leaf ∷ [])) head_passed
      ∙ ap (λ (s : State). (said_before options p (Some head.tag) ++ []) ++ outputs next passed s (map value_byte value ++ closes_leaf ∷ [])) head_state
      ∙ ap (λ (xs : List Atom). xs ++ outputs next passed (at_place options key (behind begun)) (map value_byte value ++ closes_leaf ∷ [])) (append-nil (said_before options p (Some head.tag)))
      ∙ ap (λ (xs : List Atom). said_before options p (Some head.tag) ++ xs) rest_is)

  -- whether it is emptied
  pub emptied_here : held_emptied options whole ≡ is_emptied made value (made_of (made_new options key) (Anew made) head.vr value)
  emptied_here =
      ap (λ (v : List ℕ). held_emptied options (fold held_with begun v)) (sym (order_unturned syntax head.vr value little))
      ∙ emptied_is options key (Anew made) head.tag head.vr syntax value

  pub anew_state : (new : Deidentifier) (one : Bool) → one ≡ held_emptied options whole → place new ≡ with_last (holding (counting p one) None) head.tag
      → state options key new ≡ fold next (state options key d) (whole_atoms head syntax value)
  anew_state new one one_is is =
      ap (at_place options key) (is ∙ ap (λ (n : ℕ). record { last = Some head.tag; outer = p.outer; dropped = n; held = None; seen = seeing one p.seen }) none
      ∙ ap (λ (b : Bool). record { last = Some head.tag; outer = p.outer; dropped = 0; held = None; seen = seeing b p.seen }) one_is)
      ∙ sym (ap (λ (s : State). fold next s (map value_byte value ++ closes_leaf ∷ [])) head_state
      ∙ fold-append next (at_place options key (behind begun)) (map value_byte value) (closes_leaf ∷ [])
      ∙ ap (λ (s : State). next s closes_leaf) bytes_state)

-- of an answer that is no failure
pub went : {A B : Type 0} (r : Answer) → (A → B) → OnOk r A → OnOk r B
went (Ok x) f a = f a
went (Err e) f a = tt
