-- What is written of a text part by part is the text of the tokens of its values.
use Rattle.std.proofs.Common.{◌≡◌, ◌∙◌, ℕ, ◌&&◌, Bool, true, false, not, List, [], ◌∷◌, ◌++◌, map, refl, sym, ap, ap₂, append_assoc}
use Rattle.std.specs.Prelude.{if◌then◌else◌, codes, flat_map}
use Rattle.std.specs.List.{concat, list_all, slice_split}
use Rattle.dcm_lemmas.proofs.Truth.{and_true, false_true}
use Rattle.dcm_lemmas.proofs.Choice.{if_false, if_true}
use Rattle.json.specs.Print.{print_from}
use Rattle.dcm_json.specs.declared.shape.TextShape.{TextShape}
use Rattle.dcm_json.specs.declared.shape.TextShape.TheVariants.{Strings, OneString, Decimals, Integers, Names}
use Rattle.dcm_json.specs.declared.shape.Group.TheVariants.{Alphabetic}
use Rattle.dcm_json.specs.Shape.{is_cut, is_names, is_numeric}
use Rattle.dcm_json.specs.Values.{Values, all_writes, before, blank, is_empty, null_or_digits}
use Rattle.dcm_json.specs.Texts.{Parts, array_of, is_backslash, is_null, member_of, tokens_by, value_tokens, values_tokens, without_spaces}
use Rattle.dcm_json.proofs.NameSteps.{IsName, enclosed, is_no_name, left_of_name, name_end, name_nothing, name_step, texts_from}
use Rattle.dcm_json.proofs.TextSteps.{IsText, is_no_text, left_of_text, text_end, text_nothing, text_step}
use Rattle.dcm_json.proofs.ValuesLaw.{OneEnd, OneStep, all_left, all_of_it, is_lone, never_none, others, same_shape}
use Rattle.dcm_json.proofs.TokenTexts.{null_name, null_text, print_array, value_text}

-- ---- tokens, by what is left of values

module _ (shape : TextShape) (left : Values → Parts → List ℕ) (nothing : Values → Parts → Bool) (Fits : Values → Type 0)
    (steps : (v : Values) (x : List ℕ) (w : Parts) → Fits v → (is_backslash x && is_cut shape) ≡ false → is_empty x ≡ false → OneStep left nothing Fits v x w)
    (ends : (v : Values) → Fits v → OneEnd left nothing v)
    (begins : Fits (blank shape true))
    (same : (v : Values) → Fits v → v.shape ≡ shape)
    (says_null : (v : Values) (w : Parts) → Fits v → nothing v w ≡ true → left v w ≡ before v.begun ++ codes "null")
    (starts : Fits (blank shape false))
    (first : (b : Bool) (w : Parts) → left (blank shape b) w ≡ before b ++ value_text shape w)
    (lone : (w : Parts) → is_null (value_tokens shape w) ≡ nothing (blank shape false) w) where
  abbrev cuts : List ℕ → Bool
  cuts x = is_backslash x && is_cut shape

  abbrev rest : List Parts → List ℕ
  rest ws = others shape left nothing Fits steps ends begins same says_null ws

  abbrev all : Values → List Parts → List ℕ
  all v ws = all_left shape left nothing Fits steps ends begins same says_null v ws

  abbrev is_one_empty : List Parts → Bool
  is_one_empty ws = is_lone shape left nothing Fits steps ends begins same says_null (blank shape false) ws

  rest_is : (ws : List Parts) → flat_map (λ (w : Parts). codes "," ++ value_text shape w) ws ++ codes "]" ≡ rest ws
  rest_is [] = refl
  rest_is (w ∷ ws) =
      append_assoc (codes "," ++ value_text shape w) (flat_map (λ (w : Parts). codes "," ++ value_text shape w) ws) (codes "]")
      ∙ ap₂ (λ (a b : List ℕ). a ++ b) (sym (first true w)) (rest_is ws)

  array_is : (w : Parts) (ws : List Parts) → print_from true (array_of (map (value_tokens shape) (w ∷ ws))) ≡ all (blank shape false) (w ∷ ws)
  array_is w ws = print_array shape w ws ∙ ap₂ (λ (a b : List ℕ). a ++ b) (sym (first false w)) (rest_is ws)

  member_is : (ws : List Parts) → (ws ≡ [] → ⊥) → print_from true (member_of (map (value_tokens shape) ws)) ≡ (if is_one_empty ws then [] else all (blank shape false) ws)
  unfolding print_from
  member_is [] some = absurd (some refl)
  member_is (w ∷ u ∷ ws) some = array_is w (u ∷ ws)
  member_is (w ∷ []) some = by_null (is_null (value_tokens shape w)) refl
    where
      by_null : (t : Bool) → is_null (value_tokens shape w) ≡ t
          → print_from true (if is_null (value_tokens shape w) then [] else array_of (value_tokens shape w ∷ [])) ≡ (if nothing (blank shape false) w then [] else all (blank shape false) (w ∷ []))
      by_null true e =
          ap (print_from true) (if_true (is_null (value_tokens shape w)) [] (array_of (value_tokens shape w ∷ [])) e)
          ∙ sym (if_true (nothing (blank shape false) w) [] (all (blank shape false) (w ∷ [])) (sym (lone w) ∙ e))
      by_null false e =
          ap (print_from true) (if_false (is_null (value_tokens shape w)) [] (array_of (value_tokens shape w ∷ [])) e)
          ∙ array_is w []
          ∙ sym (if_false (nothing (blank shape false) w) [] (all (blank shape false) (w ∷ [])) (sym (lone w) ∙ e))

  pub are_tokens : (parts : Parts) → list_all (λ x. not (is_empty x)) parts ≡ true → all_writes shape parts ≡ print_from true (values_tokens shape parts)
  are_tokens parts h =
      all_of_it shape left nothing Fits steps ends begins same says_null parts starts h
      ∙ sym (member_is (slice_split cuts parts) (never_none cuts parts))

-- ---- names

name_steps : (v : Values) (x : List ℕ) (w : Parts) → IsName v → (is_backslash x && true) ≡ false → is_empty x ≡ false → OneStep left_of_name is_no_name IsName v x w
name_steps v x w i b h =
    let one = name_step v x w i (sym (and_true (is_backslash x)) ∙ b) h in
    record { left_is = one.left; fits = one.stays; nothing_is = one.nothing }

name_ends : (v : Values) → IsName v → OneEnd left_of_name is_no_name v
name_ends v i = let one = name_end v i in record { left_is = one.left; nothing_is = one.nothing }

begun_name : (b : Bool) → IsName (blank Names b)
begun_name b = record { shape = refl; digits = refl; inside = λ e. absurd (false_true e) }

names_are_tokens : (parts : Parts) → list_all (λ x. not (is_empty x)) parts ≡ true → all_writes Names parts ≡ print_from true (values_tokens Names parts)
names_are_tokens parts h =
    are_tokens Names left_of_name is_no_name IsName name_steps name_ends (begun_name true) (λ v i. i.shape) name_nothing (begun_name false) (λ b w. refl) null_name parts h

-- ---- others

abbrev Fit : TextShape → Values → Type 0
Fit shape v = IsText v × (v.shape ≡ shape)

text_steps : (shape : TextShape) (v : Values) (x : List ℕ) (w : Parts) → Fit shape v → (is_backslash x && is_cut shape) ≡ false → is_empty x ≡ false → OneStep left_of_text is_no_text (Fit shape) v x w
text_steps shape v x w i b h =
    let one = text_step v x w i.0 (ap (λ (s : TextShape). is_backslash x && is_cut s) i.1 ∙ b) h in
    record { left_is = one.left; fits = (one.stays, same_shape v x ∙ i.1); nothing_is = one.nothing }

text_ends : (shape : TextShape) (v : Values) → Fit shape v → OneEnd left_of_text is_no_text v
text_ends shape v i = let one = text_end v i.0 in record { left_is = one.left; nothing_is = one.nothing }

begun_text : (shape : TextShape) (b : Bool) → is_names shape ≡ false → Fit shape (blank shape b)
begun_text shape b e = (record { no_names = e; no_members = refl; clear = λ o l. refl }, refl)

text_first : (shape : TextShape) → is_names shape ≡ false → (b : Bool) (w : Parts) → left_of_text (blank shape b) w ≡ before b ++ value_text shape w
text_first shape e b w =
    ap (λ (t : Bool). before b ++ null_or_digits shape (concat (without_spaces t w))) (and_true (is_numeric shape))
    ∙ ap (λ (x : List ℕ). before b ++ x) (sym (if_false (is_names shape) (enclosed (texts_from Alphabetic w)) (null_or_digits shape (concat (without_spaces (is_numeric shape) w))) e))

text_lone : (shape : TextShape) → is_names shape ≡ false → (w : Parts) → is_null (value_tokens shape w) ≡ is_no_text (blank shape false) w
text_lone shape e w =
    ap (λ (t : Bool). is_null (tokens_by t shape w)) e
    ∙ null_text shape (concat (without_spaces (is_numeric shape) w))
    ∙ sym (ap (λ (t : Bool). is_empty (concat (without_spaces t w))) (and_true (is_numeric shape)))

others_are_tokens : (shape : TextShape) → is_names shape ≡ false → (parts : Parts) → list_all (λ x. not (is_empty x)) parts ≡ true
    → all_writes shape parts ≡ print_from true (values_tokens shape parts)
others_are_tokens shape e parts h =
    are_tokens shape left_of_text is_no_text (Fit shape) (text_steps shape) (text_ends shape) (begun_text shape true e) (λ v i. i.1) (λ v w i n. text_nothing v w i.0 n)
    (begun_text shape false e) (text_first shape e) (text_lone shape e) parts h

pub parts_are_values : (shape : TextShape) (parts : Parts) → list_all (λ x. not (is_empty x)) parts ≡ true → all_writes shape parts ≡ print_from true (values_tokens shape parts)
parts_are_values Strings parts h = others_are_tokens Strings refl parts h
parts_are_values OneString parts h = others_are_tokens OneString refl parts h
parts_are_values Decimals parts h = others_are_tokens Decimals refl parts h
parts_are_values Integers parts h = others_are_tokens Integers refl parts h
parts_are_values Names parts h = names_are_tokens parts h
