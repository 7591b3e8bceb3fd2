-- All values of a text: what is written of them part by part, by what is left of the value on its way.
use Rattle.std.proofs.Common.{◌≡◌, ◌∙◌, ℕ, ◌+◌, ◌&&◌, ◌||◌, Bool, true, false, not, cond, List, [], ◌∷◌, ◌++◌, length, refl, sym, ap, ap₂, arith, append_assoc, Option, Some, None}
use Rattle.std.specs.Prelude.{if◌then◌else◌, codes, fold}
use Rattle.std.specs.List.{list_all, slice_split, onto_first}
use Rattle.std.proofs.lemmas.List.{length-append}
use Rattle.dcm_lemmas.proofs.Truth.{and_first, and_second, false_true, not_true, or_second}
use Rattle.dcm_lemmas.proofs.Choice.{if_false, if_true}
use Rattle.dcm_base.specs.Steps.Steps.{outputs}
use Rattle.dcm_json.specs.declared.shape.TextShape.{TextShape}
use Rattle.dcm_json.specs.declared.shape.Group.{Group}
use Rattle.dcm_json.specs.Shape.{is_cut}
use Rattle.dcm_json.specs.Values.{Values, before, blank, counts_spaces, ended, finishes, group_behind, has_array, is_blank, is_empty, is_one, may_be_number, opened, plain_step, shown, spaced, step, step_by, value_end, writes, writes_by}
use Rattle.dcm_json.specs.Texts.{Parts, is_backslash}

-- ---- what a part does not change

chosen : {A B : Type 0} (f : A → B) (t : Bool) (x y : A) (b : B) → f x ≡ b → f y ≡ b → f (if t then x else y) ≡ b
chosen f true x y b p q = p
chosen f false x y b p q = q

by_group : {B : Type 0} (f : Values → B) (g : Option Group) (v : Values) (x : List ℕ) (b : B) → ((group : Group) → f (step_by (Some group) v x) ≡ b) → f (plain_step v x) ≡ b → f (step_by g v x) ≡ b
by_group f (Some group) v x b p q = p group
by_group f None v x b p q = q

-- of a field that only the end of a value changes
plainly : {B : Type 0} (f : Values → B) (v : Values) (x : List ℕ) → f (spaced v 1) ≡ f v → f (shown v x) ≡ f v → f (plain_step v x) ≡ f v
plainly f v x p q = chosen f (is_one 32 x) (spaced v 1) (if is_empty x then v else shown v x) (f v) p (chosen f (is_empty x) v (shown v x) (f v) refl q)

shape_spaced : (v : Values) → (spaced v 1).shape ≡ v.shape
shape_spaced v = chosen (λ (u : Values). u.shape) (counts_spaces v) (record v { spaces = v.spaces + 1 }) v v.shape refl refl

begun_spaced : (v : Values) → (spaced v 1).begun ≡ v.begun
begun_spaced v = chosen (λ (u : Values). u.begun) (counts_spaces v) (record v { spaces = v.spaces + 1 }) v v.begun refl refl

shape_shown : (v : Values) (x : List ℕ) → (shown v x).shape ≡ v.shape
shape_shown v x =
    chosen (λ (u : Values). u.shape) v.is_open (record v { spaces = 0 }) (if may_be_number v x then record v { digits = v.digits ++ x } else opened v) v.shape refl
    (chosen (λ (u : Values). u.shape) (may_be_number v x) (record v { digits = v.digits ++ x }) (opened v) v.shape refl refl)

begun_shown : (v : Values) (x : List ℕ) → (shown v x).begun ≡ v.begun
begun_shown v x =
    chosen (λ (u : Values). u.begun) v.is_open (record v { spaces = 0 }) (if may_be_number v x then record v { digits = v.digits ++ x } else opened v) v.begun refl
    (chosen (λ (u : Values). u.begun) (may_be_number v x) (record v { digits = v.digits ++ x }) (opened v) v.begun refl refl)

pub same_shape : (v : Values) (x : List ℕ) → (step v x).shape ≡ v.shape
same_shape v x = chosen (λ (u : Values). u.shape) (is_backslash x && is_cut v.shape) (ended v) (step_by (group_behind v x) v x) v.shape refl
    (by_group (λ (u : Values). u.shape) (group_behind v x) v x v.shape (λ group. refl) (plainly (λ (u : Values). u.shape) v x (shape_spaced v) (shape_shown v x)))

pub same_begun : (v : Values) (x : List ℕ) → (is_backslash x && is_cut v.shape) ≡ false → (step v x).begun ≡ v.begun
same_begun v x b =
    ap (λ (u : Values). u.begun) (if_false (is_backslash x && is_cut v.shape) (ended v) (step_by (group_behind v x) v x) b)
    ∙ by_group (λ (u : Values). u.begun) (group_behind v x) v x v.begun (λ group. refl) (plainly (λ (u : Values). u.begun) v x (begun_spaced v) (begun_shown v x))

-- ---- all values

pub never_none : (p : List ℕ → Bool) (parts : Parts) → slice_split p parts ≡ [] → ⊥
never_none p [] e = cc
never_none p (x ∷ parts) e = by_test (p x) (slice_split p parts) e
  where
    by_test : (t : Bool) (s : List Parts) → cond t ([] ∷ s) (onto_first x s) ≡ [] → ⊥
    by_test true s e = cc
    by_test false [] e = cc
    by_test false (w ∷ s) e = cc

pub record OneStep (left : Values → Parts → List ℕ) (nothing : Values → Parts → Bool) (Fits : Values → Type 0) (v : Values) (x : List ℕ) (w : Parts) : Type 0 where
  pub left_is : left v (x ∷ w) ≡ writes v x ++ left (step v x) w
  pub fits : Fits (step v x)
  pub nothing_is : nothing v (x ∷ w) ≡ nothing (step v x) w

pub record OneEnd (left : Values → Parts → List ℕ) (nothing : Values → Parts → Bool) (v : Values) : Type 0 where
  pub left_is : left v [] ≡ value_end v
  pub nothing_is : nothing v [] ≡ is_blank v

module _ (shape : TextShape) (left : Values → Parts → List ℕ) (nothing : Values → Parts → Bool) (Fits : Values → Type 0)
    (steps : (v : Values) (x : List ℕ) (w : Parts) → Fits v → (is_backslash x && is_cut shape) ≡ false → is_empty x ≡ false → OneStep left nothing Fits v x w)
    (ends : (v : Values) → Fits v → OneEnd left nothing v)
    (begins : Fits (blank shape true))
    (same : (v : Values) → Fits v → v.shape ≡ shape)
    (says_null : (v : Values) (w : Parts) → Fits v → nothing v w ≡ true → left v w ≡ before v.begun ++ codes "null") where
  -- where a value is cut off
  abbrev pub cuts : List ℕ → Bool
  cuts x = is_backslash x && is_cut shape

  -- what is left of values, each behind another
  abbrev pub others : List Parts → List ℕ
  others [] = codes "]"
  others (w ∷ ws) = left (blank shape true) w ++ others ws

  abbrev pub all_left : Values → List Parts → List ℕ
  all_left v [] = codes "]"
  all_left v (w ∷ ws) = left v w ++ others ws

  behind_one : (s : List Parts) → all_left (blank shape true) s ≡ others s
  behind_one [] = refl
  behind_one (w ∷ ws) = refl

  cut_here : (v : Values) (x : List ℕ) → Fits v → cuts x ≡ true → (is_backslash x && is_cut v.shape) ≡ true
  cut_here v x f e = ap (λ (s : TextShape). is_backslash x && is_cut s) (same v f) ∙ e

  not_here : (v : Values) (x : List ℕ) → Fits v → cuts x ≡ false → (is_backslash x && is_cut v.shape) ≡ false
  not_here v x f e = ap (λ (s : TextShape). is_backslash x && is_cut s) (same v f) ∙ e

  ended_is : (v : Values) (x : List ℕ) → Fits v → cuts x ≡ true → step v x ≡ blank shape true
  ended_is v x f e =
      if_true (is_backslash x && is_cut v.shape) (ended v) (step_by (group_behind v x) v x) (cut_here v x f e)
      ∙ ap (λ (s : TextShape). blank s true) (same v f)

  ended_writes : (v : Values) (x : List ℕ) → Fits v → cuts x ≡ true → writes v x ≡ value_end v
  ended_writes v x f e = if_true (is_backslash x && is_cut v.shape) (value_end v) (writes_by (group_behind v x) v x) (cut_here v x f e)

  -- ---- what is written, with the end of an array

  abbrev written : Values → Parts → List ℕ
  written v parts = outputs step writes v parts ++ (value_end (fold step v parts) ++ codes "]")

  pub all_written : (v : Values) (parts : Parts) → Fits v → list_all (λ x. not (is_empty x)) parts ≡ true → written v parts ≡ all_left v (slice_split cuts parts)
  all_written v [] f h = ap (λ (t : List ℕ). t ++ codes "]") (sym (ends v f).left_is)
  all_written v (x ∷ parts) f h = by_cut (cuts x) refl (λ u g. all_written u parts g (and_second (not (is_empty x)) (list_all (λ x. not (is_empty x)) parts) h))
    where
      shows : is_empty x ≡ false
      shows = not_true (is_empty x) (and_first (not (is_empty x)) (list_all (λ x. not (is_empty x)) parts) h)

      at_cut : (e : cuts x ≡ true) → ((u : Values) → Fits u → written u parts ≡ all_left u (slice_split cuts parts)) → written v (x ∷ parts) ≡ all_left v ([] ∷ slice_split cuts parts)
      at_cut e rec =
          append_assoc (writes v x) (outputs step writes (step v x) parts) (value_end (fold step (step v x) parts) ++ codes "]")
          ∙ ap₂ (λ (a : List ℕ) (u : Values). a ++ written u parts) (ended_writes v x f e) (ended_is v x f e)
          ∙ ap₂ (λ (a b : List ℕ). a ++ b) (sym (ends v f).left_is) (rec (blank shape true) begins ∙ behind_one (slice_split cuts parts))

      goes_on : (e : cuts x ≡ false) (s : List Parts) → slice_split cuts parts ≡ s → ((u : Values) → Fits u → written u parts ≡ all_left u (slice_split cuts parts)) → written v (x ∷ parts) ≡ all_left v (onto_first x s)
      goes_on e [] is rec = absurd (never_none cuts parts is)
      goes_on e (w ∷ ws) is rec =
          let one = steps v x w f e shows in
          append_assoc (writes v x) (outputs step writes (step v x) parts) (value_end (fold step (step v x) parts) ++ codes "]")
          ∙ ap (λ (a : List ℕ). writes v x ++ a) (rec (step v x) one.fits ∙ ap (all_left (step v x)) is)
          ∙ sym (append_assoc (writes v x) (left (step v x) w) (others ws))
          ∙ ap (λ (a : List ℕ). a ++ others ws) (sym one.left_is)

      by_cut : (t : Bool) → cuts x ≡ t → ((u : Values) → Fits u → written u parts ≡ all_left u (slice_split cuts parts)) → written v (x ∷ parts) ≡ all_left v (slice_split cuts (x ∷ parts))
      by_cut true e rec = at_cut e rec ∙ sym (ap (λ (t : Bool). all_left v (cond t ([] ∷ slice_split cuts parts) (onto_first x (slice_split cuts parts)))) e)
      by_cut false e rec = goes_on e (slice_split cuts parts) refl rec ∙ sym (ap (λ (t : Bool). all_left v (cond t ([] ∷ slice_split cuts parts) (onto_first x (slice_split cuts parts)))) e)

  -- ---- one value that is empty

  abbrev pub is_lone : Values → List Parts → Bool
  is_lone v [] = false
  is_lone v (w ∷ []) = nothing v w
  is_lone v (w ∷ u ∷ ws) = false

  lone_onto : (v : Values) (x : List ℕ) (s : List Parts) → Fits v → cuts x ≡ false → is_empty x ≡ false → (s ≡ [] → ⊥) → is_lone v (onto_first x s) ≡ is_lone (step v x) s
  lone_onto v x [] f e h some = absurd (some refl)
  lone_onto v x (w ∷ []) f e h some = (steps v x w f e h).nothing_is
  lone_onto v x (w ∷ u ∷ ws) f e h some = refl

  lone_cut : (v : Values) (s : List Parts) → (s ≡ [] → ⊥) → is_lone v ([] ∷ s) ≡ false
  lone_cut v [] some = absurd (some refl)
  lone_cut v (w ∷ ws) some = refl

  pub array_stands : (v : Values) (parts : Parts) → Fits v → list_all (λ x. not (is_empty x)) parts ≡ true
      → has_array (fold step v parts) ≡ (v.begun || not (is_lone v (slice_split cuts parts)))
  array_stands v [] f h = ap (λ (t : Bool). v.begun || not t) (sym (ends v f).nothing_is)
  array_stands v (x ∷ parts) f h = by_cut (cuts x) refl (λ u g. array_stands u parts g (and_second (not (is_empty x)) (list_all (λ x. not (is_empty x)) parts) h))
    where
      shows : is_empty x ≡ false
      shows = not_true (is_empty x) (and_first (not (is_empty x)) (list_all (λ x. not (is_empty x)) parts) h)

      by_cut : (t : Bool) → cuts x ≡ t → ((u : Values) → Fits u → has_array (fold step u parts) ≡ (u.begun || not (is_lone u (slice_split cuts parts)))) → has_array (fold step (step v x) parts) ≡ (v.begun || not (is_lone v (slice_split cuts (x ∷ parts))))
      by_cut true e rec =
          ap (λ (u : Values). has_array (fold step u parts)) (ended_is v x f e)
          ∙ rec (blank shape true) begins
          ∙ sym (ap (λ (t : Bool). v.begun || not (is_lone v (cond t ([] ∷ slice_split cuts parts) (onto_first x (slice_split cuts parts))))) e
          ∙ ap (λ (t : Bool). v.begun || not t) (lone_cut v (slice_split cuts parts) (never_none cuts parts)) ∙ or_second v.begun true refl)
      by_cut false e rec =
          rec (step v x) (steps v x [] f e shows).fits
          ∙ ap₂ (λ (a b : Bool). a || not b) (same_begun v x (not_here v x f e)) (sym (lone_onto v x (slice_split cuts parts) f e shows (never_none cuts parts)))
          ∙ sym (ap (λ (t : Bool). v.begun || not (is_lone v (cond t ([] ∷ slice_split cuts parts) (onto_first x (slice_split cuts parts))))) e)

  -- nothing is written of it
  nothing_more : (a b : List ℕ) → b ≡ a ++ b → a ≡ []
  nothing_more [] b e = refl
  nothing_more (x ∷ a) b e = absurd (omega (arith, length-append (x ∷ a) b, ap length e))

  pub lone_writes : (v : Values) (parts : Parts) → Fits v → list_all (λ x. not (is_empty x)) parts ≡ true → is_lone v (slice_split cuts parts) ≡ true
      → outputs step writes v parts ≡ []
  lone_writes v [] f h l = refl
  lone_writes v (x ∷ parts) f h l = by_cut (cuts x) refl (λ u g k. lone_writes u parts g (and_second (not (is_empty x)) (list_all (λ x. not (is_empty x)) parts) h) k)
    where
      shows : is_empty x ≡ false
      shows = not_true (is_empty x) (and_first (not (is_empty x)) (list_all (λ x. not (is_empty x)) parts) h)

      split_by : Bool → List Parts
      split_by t = cond t ([] ∷ slice_split cuts parts) (onto_first x (slice_split cuts parts))

      goes_on : (e : cuts x ≡ false) (s : List Parts) → slice_split cuts parts ≡ s → is_lone v (onto_first x s) ≡ true → writes v x ≡ []
      goes_on e [] is l = absurd (never_none cuts parts is)
      goes_on e (w ∷ u ∷ ws) is l = absurd (false_true l)
      goes_on e (w ∷ []) is l =
          let one = steps v x w f e shows in
          let here : left v (x ∷ w) ≡ before v.begun ++ codes "null" = says_null v (x ∷ w) f l in
          let next : left (step v x) w ≡ before v.begun ++ codes "null" =
          says_null (step v x) w one.fits (sym one.nothing_is ∙ l) ∙ ap (λ (b : Bool). before b ++ codes "null") (same_begun v x (not_here v x f e)) in
          nothing_more (writes v x) (left (step v x) w) (next ∙ sym here ∙ one.left_is)

      by_cut : (t : Bool) → cuts x ≡ t → ((u : Values) → Fits u → is_lone u (slice_split cuts parts) ≡ true → outputs step writes u parts ≡ []) → writes v x ++ outputs step writes (step v x) parts ≡ []
      by_cut true e rec = absurd (false_true (sym (lone_cut v (slice_split cuts parts) (never_none cuts parts)) ∙ sym (ap (λ (t : Bool). is_lone v (split_by t)) e) ∙ l))
      by_cut false e rec =
          let onto : is_lone v (onto_first x (slice_split cuts parts)) ≡ true = sym (ap (λ (t : Bool). is_lone v (split_by t)) e) ∙ l in
          ap₂ (λ (a b : List ℕ). a ++ b) (goes_on e (slice_split cuts parts) refl onto)
          (rec (step v x) (steps v x [] f e shows).fits (sym (lone_onto v x (slice_split cuts parts) f e shows (never_none cuts parts)) ∙ onto))

  -- ---- all of it

  pub all_of_it : (parts : Parts) → Fits (blank shape false) → list_all (λ x. not (is_empty x)) parts ≡ true
      → outputs step writes (blank shape false) parts ++ finishes (fold step (blank shape false) parts)
      ≡ (if is_lone (blank shape false) (slice_split cuts parts) then [] else all_left (blank shape false) (slice_split cuts parts))
  all_of_it parts f h = by_lone (is_lone (blank shape false) (slice_split cuts parts)) refl
    where
      s : List Parts
      s = slice_split cuts parts

      v : Values
      v = blank shape false

      by_lone : (t : Bool) → is_lone v s ≡ t → outputs step writes v parts ++ finishes (fold step v parts) ≡ (if is_lone v s then [] else all_left v s)
      by_lone true e =
          ap₂ (λ (a b : List ℕ). a ++ b) (lone_writes v parts f h e)
          (if_false (has_array (fold step v parts)) (value_end (fold step v parts) ++ codes "]") [] (array_stands v parts f h ∙ ap not e))
          ∙ sym (if_true (is_lone v s) [] (all_left v s) e)
      by_lone false e =
          ap (λ (a : List ℕ). outputs step writes v parts ++ a)
          (if_true (has_array (fold step v parts)) (value_end (fold step v parts) ++ codes "]") [] (array_stands v parts f h ∙ ap not e))
          ∙ all_written v parts f h ∙ sym (if_false (is_lone v s) [] (all_left v s) e)
