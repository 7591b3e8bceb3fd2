-- Values that are no names, written part by part: what is left to write of one, from any place within it.
use Rattle.std.proofs.Common.{◌≡◌, ◌∙◌, ℕ, zero, suc, ◌+◌, ◌≤◌, ◌==◌, ◌&&◌, Bool, true, false, not, List, [], ◌∷◌, ◌++◌, replicate, length, refl, sym, subst, ap, ap₂, arith, append_assoc, append-nil, None}
use Rattle.std.specs.Prelude.{codes, nat_le}
use Rattle.std.specs.List.{concat, list_all}
use Rattle.std.proofs.lemmas.Bool.Decides.{nat_tests}
use Rattle.std.proofs.lemmas.Grind.{flat_map-append}
use Rattle.std.proofs.lemmas.List.{length-append}
use Rattle.dcm_lemmas.proofs.Truth.{and_false, and_true, and_first, and_second, and_first_false, and_second_false}
use Rattle.dcm_lemmas.proofs.Choice.{if_false}
use Rattle.dcm_lemmas.proofs.Numbers.{equal_numbers}
use Rattle.dcm_value.proofs.Displays.TextLanes.{all_append}
use Rattle.json.specs.Word.{after_number}
use Rattle.json.specs.Print.{escape, escape_byte, quoted}
use Rattle.dcm_json.specs.declared.shape.TextShape.{TextShape}
use Rattle.dcm_json.specs.declared.shape.TextShape.TheVariants.{Strings, OneString, Decimals, Integers, Names}
use Rattle.dcm_json.specs.declared.shape.Group.{Group}
use Rattle.dcm_json.specs.NumberText.{exponent, is_at_end, is_number, is_of_integer, is_of_number}
use Rattle.dcm_json.specs.Shape.{is_cut, is_names, is_numeric}
use Rattle.dcm_json.specs.Values.{Values, before, digits_text, group_behind, is_blank, is_empty, may_be_number, null_or_digits, plain_step, plain_writes, shown, shown_writes, step, value_end, writes}
use Rattle.dcm_json.specs.Texts.{Parts, is_backslash, is_space, text_of, without_end_spaces, without_first_spaces, without_spaces}
use Rattle.dcm_json.proofs.PartLists.{waiting, one_is, one_more_waits, text_behind, no_text, not_empty, escaped_behind}

-- ---- a value on its way

abbrev pub on_way : TextShape → (begun : Bool) → Group → (digits : List ℕ) → (is_open : Bool) → (spaces : ℕ) → Values
on_way shape begun group digits is_open spaces = record {
  shape = shape;
  begun = begun;
  group = group;
  has_members = false;
  digits = digits;
  is_open = is_open;
  spaces = spaces;
}

-- spaces do not count before anything of what may be a number
abbrev pub leads : TextShape → List ℕ → Bool
leads shape digits = is_numeric shape && is_empty digits

abbrev pub left_in_string : Parts → List ℕ
left_in_string w = escape (text_of w) ++ codes "\""

abbrev pub left_unopened : TextShape → (begun : Bool) → List ℕ → Bool → Parts → List ℕ
left_unopened shape begun digits leading w = before begun ++ null_or_digits shape (digits ++ concat (without_spaces leading w))

abbrev pub text_left : TextShape → (begun : Bool) → (digits : List ℕ) → (is_open : Bool) → (spaces : ℕ) → Parts → List ℕ
text_left shape begun digits true n w = left_in_string (waiting n ++ w)
text_left shape begun digits false n w = left_unopened shape begun digits (leads shape digits) (waiting n ++ w)

abbrev pub left_of_text : Values → Parts → List ℕ
left_of_text v w = text_left v.shape v.begun v.digits v.is_open v.spaces w

pub record IsText (v : Values) : Type 0 where
  pub no_names : is_names v.shape ≡ false
  pub no_members : v.has_members ≡ false
  pub clear : v.is_open ≡ false → leads v.shape v.digits ≡ true → v.spaces ≡ 0

pub text_is : (v : Values) → IsText v → v ≡ on_way v.shape v.begun v.group v.digits v.is_open v.spaces
text_is v i = ap (λ (m : Bool). let u : Values = record v { has_members = m } in u) i.no_members

abbrev pub is_no_text : Values → Parts → Bool
is_no_text v w = is_blank v && is_empty (concat (without_spaces (leads v.shape v.digits) (waiting v.spaces ++ w)))

-- what a part does to a value
pub record TextStep (v : Values) (x : List ℕ) (w : Parts) : Type 0 where
  pub left : left_of_text v (x ∷ w) ≡ writes v x ++ left_of_text (step v x) w
  pub stays : IsText (step v x)
  pub nothing : is_no_text v (x ∷ w) ≡ is_no_text (step v x) w

-- what is left at its end, and where nothing of it shows
pub record TextEnd (v : Values) : Type 0 where
  pub left : left_of_text v [] ≡ value_end v
  pub nothing : is_no_text v [] ≡ is_blank v

-- ---- what may be a number

-- with spaces, other characters or too many bytes it is none
more_than : (a b : ℕ) → nat_le a 15 ≡ false → a ≤ b → nat_le b 15 ≡ false
more_than a b e h = grind (arith, nat_tests)

spaces_or_others : (n : ℕ) (digits x t : List ℕ) → (n == 0 && list_all is_of_number x) ≡ false → list_all is_of_number (digits ++ (replicate n 32 ++ (x ++ t))) ≡ false
spaces_or_others zero digits x t e =
    all_append is_of_number digits (x ++ t)
    ∙ ap (λ (b : Bool). list_all is_of_number digits && b) (all_append is_of_number x t ∙ ap (λ (b : Bool). b && list_all is_of_number t) e)
    ∙ and_false (list_all is_of_number digits)
spaces_or_others (suc n) digits x t e =
    all_append is_of_number digits (32 ∷ (replicate n 32 ++ (x ++ t))) ∙ and_false (list_all is_of_number digits)

-- too long, or not all of it characters of numbers
unfit : (n : ℕ) (digits x t : List ℕ) → (n == 0 && (nat_le (length digits + length x) 15 && list_all is_of_number x)) ≡ false
    → (nat_le (length (digits ++ (replicate n 32 ++ (x ++ t)))) 15 && list_all is_of_number (digits ++ (replicate n 32 ++ (x ++ t)))) ≡ false
unfit n digits x t e = by_length (nat_le (length digits + length x) 15) refl
  where
    full : List ℕ
    full = digits ++ (replicate n 32 ++ (x ++ t))

    long : length digits + length x ≤ length full
    long = omega (arith, length-append digits (replicate n 32 ++ (x ++ t)), length-append (replicate {A = ℕ} n 32) (x ++ t), length-append x t)

    by_length : (b : Bool) → nat_le (length digits + length x) 15 ≡ b → (nat_le (length full) 15 && list_all is_of_number full) ≡ false
    by_length false h = and_first_false (nat_le (length full) 15) (list_all is_of_number full) (more_than (length digits + length x) (length full) h long)
    by_length true h =
        and_second_false (nat_le (length full) 15) (list_all is_of_number full)
        (spaces_or_others n digits x t (ap (λ (b : Bool). n == 0 && (b && list_all is_of_number x)) (sym h) ∙ e))

no_number : (a l c d : Bool) → (a && l) ≡ false → (a && ((l && c) && d)) ≡ false
no_number true true c d e = absurd (cc)
no_number true false c d e = refl
no_number false l c d e = refl

no_decimal : (full : List ℕ) → (nat_le (length full) 15 && list_all is_of_number full) ≡ false → is_number Decimals full ≡ false
no_decimal full e = no_number (nat_le (length full) 15) (list_all is_of_number full) (is_at_end (after_number full)) (nat_le (length (exponent full)) 2) e

no_integer : (full : List ℕ) → (nat_le (length full) 15 && list_all is_of_number full) ≡ false → is_number Integers full ≡ false
no_integer full e = no_number (nat_le (length full) 15) (list_all is_of_number full) (is_at_end (after_number full)) (list_all is_of_integer full) e

pub not_number : (shape : TextShape) (n : ℕ) (digits x t : List ℕ) → (is_numeric shape && (n == 0 && (nat_le (length digits + length x) 15 && list_all is_of_number x))) ≡ false
    → is_number shape (digits ++ (replicate n 32 ++ (x ++ t))) ≡ false
not_number Strings n digits x t e = and_false (nat_le (length (digits ++ (replicate n 32 ++ (x ++ t)))) 15)
not_number OneString n digits x t e = and_false (nat_le (length (digits ++ (replicate n 32 ++ (x ++ t)))) 15)
not_number Decimals n digits x t e = no_decimal (digits ++ (replicate n 32 ++ (x ++ t))) (unfit n digits x t e)
not_number Integers n digits x t e = no_integer (digits ++ (replicate n 32 ++ (x ++ t))) (unfit n digits x t e)
not_number Names n digits x t e = and_false (nat_le (length (digits ++ (replicate n 32 ++ (x ++ t)))) 15)

-- ---- steps

no_group : (v : Values) (x : List ℕ) → is_names v.shape ≡ false → group_behind v x ≡ None
no_group v x e = rw e refl

no_separator : (v : Values) (x : List ℕ) → is_names v.shape ≡ false → (is_backslash x && is_cut v.shape) ≡ false → step v x ≡ plain_step v x
no_separator v x e b = rw (b, no_group v x e) refl

no_separator_writes : (v : Values) (x : List ℕ) → is_names v.shape ≡ false → (is_backslash x && is_cut v.shape) ≡ false → writes v x ≡ plain_writes v x
no_separator_writes v x e b = rw (b, no_group v x e) refl

-- a step by what it comes to
by_plain : (v : Values) (x : List ℕ) (w : Parts) (u : Values) (out : List ℕ) → step v x ≡ u → writes v x ≡ out
    → left_of_text v (x ∷ w) ≡ out ++ left_of_text u w → IsText u → is_no_text v (x ∷ w) ≡ is_no_text u w → TextStep v x w
by_plain v x w u out s o left stays nothing = record {
  left = left ∙ sym (ap₂ (λ (a : List ℕ) (y : Values). a ++ left_of_text y w) o s);
  stays = subst IsText (sym s) stays;
  nothing = nothing ∙ sym (ap (λ (y : Values). is_no_text y w) s);
}

module _ (shape : TextShape) (begun : Bool) (group : Group) (digits : List ℕ) (n : ℕ) (no_names : is_names shape ≡ false) where
  abbrev state : Bool → Values
  state o = on_way shape begun group digits o n

  -- ---- a space

  space_open : (w : Parts) → TextStep (state true) (32 ∷ []) w
  space_open w = by_plain (state true) (32 ∷ []) w (on_way shape begun group digits true (n + 1)) [] (no_separator (state true) (32 ∷ []) no_names refl) (no_separator_writes (state true) (32 ∷ []) no_names refl)
      (ap left_in_string (one_more_waits n w)) (record { no_names = no_names; no_members = refl; clear = λ e. absurd (true_false e) }) refl
    where
      true_false : true ≡ false → ⊥
      true_false e = cc

  space_closed : (w : Parts) (leading : Bool) → leads shape digits ≡ leading → (leading ≡ true → n ≡ 0) → TextStep (state false) (32 ∷ []) w
  space_closed w true e none =
      let stays : step (state false) (32 ∷ []) ≡ state false = no_separator (state false) (32 ∷ []) no_names refl ∙ rw e refl in
      let empty : n ≡ 0 = none refl in
      let same : without_spaces (leads shape digits) (waiting n ++ ((32 ∷ []) ∷ w)) ≡ without_spaces (leads shape digits) (waiting n ++ w) = rw (e, empty) refl in
      by_plain (state false) (32 ∷ []) w (state false) [] stays (no_separator_writes (state false) (32 ∷ []) no_names refl)
      (ap (λ (p : Parts). before begun ++ null_or_digits shape (digits ++ concat p)) same)
      (record { no_names = no_names; no_members = refl; clear = λ o l. empty })
      (ap (λ (p : Parts). is_blank (state false) && is_empty (concat p)) same)
  space_closed w false e none =
      let goes : step (state false) (32 ∷ []) ≡ on_way shape begun group digits false (n + 1) = no_separator (state false) (32 ∷ []) no_names refl ∙ rw e refl in
      let same : without_spaces (leads shape digits) (waiting n ++ ((32 ∷ []) ∷ w)) ≡ without_spaces (leads shape digits) (waiting (n + 1) ++ w) = ap (without_spaces (leads shape digits)) (one_more_waits n w) in
      by_plain (state false) (32 ∷ []) w (on_way shape begun group digits false (n + 1)) [] goes (no_separator_writes (state false) (32 ∷ []) no_names refl)
      (ap (λ (p : Parts). before begun ++ null_or_digits shape (digits ++ concat p)) same)
      (record { no_names = no_names; no_members = refl; clear = λ o l. absurd (not_both (leads shape digits) l e) })
      (ap (λ (p : Parts). is_blank (state false) && is_empty (concat p)) same)
    where
      not_both : (t : Bool) → t ≡ true → t ≡ false → ⊥
      not_both t a b = cc

  -- ---- a part that shows something

  waited : (x : List ℕ) (w : Parts) (leading : Bool) → is_space x ≡ false → (leading ≡ true → n ≡ 0)
      → concat (without_spaces leading (waiting n ++ (x ∷ w))) ≡ replicate n 32 ++ (x ++ text_of w)
  waited x w false s none = text_behind n x w s
  waited x w true s none = subst (λ (k : ℕ). concat (without_spaces true (waiting k ++ (x ∷ w))) ≡ replicate k 32 ++ (x ++ text_of w)) (sym (none refl))
      (ap (λ (p : Parts). concat (without_end_spaces p)) (if_false (is_space x) (without_first_spaces w) (x ∷ w) s) ∙ text_behind 0 x w s)

  is_plain : (o : Bool) (x : List ℕ) → (is_backslash x && is_cut shape) ≡ false → is_space x ≡ false → is_empty x ≡ false → step (state o) x ≡ shown (state o) x
  is_plain o x b s h = no_separator (state o) x no_names b ∙ rw (s, h) refl

  is_plain_writes : (o : Bool) (x : List ℕ) → (is_backslash x && is_cut shape) ≡ false → is_space x ≡ false → is_empty x ≡ false → writes (state o) x ≡ shown_writes (state o) x
  is_plain_writes o x b s h = no_separator_writes (state o) x no_names b ∙ rw (s, h) refl

  shown_open : (x : List ℕ) (w : Parts) → (is_backslash x && is_cut shape) ≡ false → is_space x ≡ false → is_empty x ≡ false → TextStep (state true) x w
  shown_open x w b s h = by_plain (state true) x w (on_way shape begun group digits true 0) (replicate n 32 ++ escape x) (is_plain true x b s h) (is_plain_writes true x b s h)
      (ap (λ (t : List ℕ). escape t ++ codes "\"") (text_behind n x w s) ∙ ap (λ (t : List ℕ). t ++ codes "\"") (escaped_behind n x (text_of w))
      ∙ goes_on (replicate n 32) (escape x) (escape (text_of w)) (codes "\""))
      (record { no_names = no_names; no_members = refl; clear = λ o l. refl }) refl
    where
      goes_on : (r x t c : List ℕ) → (r ++ (x ++ t)) ++ c ≡ (r ++ x) ++ (t ++ c)
      goes_on r x t c = simp append_assoc

  something : (x : List ℕ) (w : Parts) → is_space x ≡ false → is_empty x ≡ false → (leads shape digits ≡ true → n ≡ 0) → is_no_text (state false) (x ∷ w) ≡ false
  something x w s h none =
      ap (λ (t : List ℕ). is_blank (state false) && is_empty t) (waited x w (leads shape digits) s none)
      ∙ and_second_false (is_blank (state false)) (is_empty (replicate n 32 ++ (x ++ text_of w))) (not_empty n x (text_of w) h)

  more_digits : (x : List ℕ) → is_empty x ≡ false → is_empty (digits ++ x) ≡ false
  more_digits x h = behind_digits digits x h
    where
      behind_digits : (d x : List ℕ) → is_empty x ≡ false → is_empty (d ++ x) ≡ false
      behind_digits [] x h = h
      behind_digits (b ∷ d) x h = refl

  shown_digits : (x : List ℕ) (w : Parts) → (is_backslash x && is_cut shape) ≡ false → is_space x ≡ false → is_empty x ≡ false → (leads shape digits ≡ true → n ≡ 0)
      → may_be_number (state false) x ≡ true → TextStep (state false) x w
  shown_digits x w b s h none may =
      let empty : n ≡ 0 = equal_numbers n 0 (and_first (n == 0) _ (and_second (is_numeric shape) _ may)) in
      let next : Values = on_way shape begun group (digits ++ x) false n in
      let held : is_empty (digits ++ x) ≡ false = more_digits x h in
      let leads_no_more : leads shape (digits ++ x) ≡ false = and_second_false (is_numeric shape) (is_empty (digits ++ x)) held in
      let all : concat (without_spaces (leads shape digits) (waiting n ++ (x ∷ w))) ≡ x ++ text_of w = waited x w (leads shape digits) s none ∙ ap (λ (k : ℕ). replicate k 32 ++ (x ++ text_of w)) empty in
      let rest : concat (without_spaces (leads shape (digits ++ x)) (waiting n ++ w)) ≡ text_of w =
      ap (λ (t : Bool). concat (without_spaces t (waiting n ++ w))) leads_no_more ∙ ap (λ (k : ℕ). text_of (waiting k ++ w)) empty in
      by_plain (state false) x w next [] (is_plain false x b s h ∙ rw may refl) (is_plain_writes false x b s h ∙ rw may refl)
      (ap (λ (t : List ℕ). before begun ++ null_or_digits shape (digits ++ t)) all
      ∙ ap (λ (t : List ℕ). before begun ++ null_or_digits shape t) (sym (append_assoc digits x (text_of w)))
      ∙ sym (ap (λ (t : List ℕ). before begun ++ null_or_digits shape ((digits ++ x) ++ t)) rest))
      (record { no_names = no_names; no_members = refl; clear = λ o l. empty })
      (something x w s h none ∙ sym (and_first_false (is_empty (digits ++ x)) _ held))

  opened_text : (x : List ℕ) (w : Parts) → is_space x ≡ false → is_empty x ≡ false → (leads shape digits ≡ true → n ≡ 0) → may_be_number (state false) x ≡ false
      → left_of_text (state false) (x ∷ w) ≡ (((before begun ++ codes "\"") ++ escape digits) ++ (replicate n 32 ++ escape x)) ++ left_in_string w
  opened_text x w s h none may =
      let t : List ℕ = text_of w in
      let behind : List ℕ = replicate n 32 ++ (x ++ t) in
      let full : List ℕ = digits ++ behind in
      let filled : is_empty full ≡ false = behind_all digits behind (not_empty n x t h) in
      ap (λ (u : List ℕ). before begun ++ null_or_digits shape (digits ++ u)) (waited x w (leads shape digits) s none)
      ∙ ap (λ (u : List ℕ). before begun ++ u) (if_false (is_empty full) (codes "null") (digits_text shape full) filled
      ∙ if_false (is_number shape full) full (quoted full) (not_number shape n digits x t may))
      ∙ ap (λ (u : List ℕ). before begun ++ (34 ∷ (u ++ 34 ∷ []))) (flat_map-append escape_byte digits behind ∙ ap (λ (u : List ℕ). escape digits ++ u) (escaped_behind n x t))
      ∙ joined (before begun) (escape digits) (replicate n 32) (escape x) (escape t)
    where
      behind_all : (d x : List ℕ) → is_empty x ≡ false → is_empty (d ++ x) ≡ false
      behind_all [] x h = h
      behind_all (b ∷ d) x h = refl

      joined : (b d r x t : List ℕ) → b ++ (34 ∷ ((d ++ (r ++ (x ++ t))) ++ 34 ∷ [])) ≡ (((b ++ 34 ∷ []) ++ d) ++ (r ++ x)) ++ (t ++ 34 ∷ [])
      joined b d r x t = simp append_assoc

  shown_opened : (x : List ℕ) (w : Parts) → (is_backslash x && is_cut shape) ≡ false → is_space x ≡ false → is_empty x ≡ false → (leads shape digits ≡ true → n ≡ 0)
      → may_be_number (state false) x ≡ false → TextStep (state false) x w
  shown_opened x w b s h none may =
      by_plain (state false) x w (on_way shape begun group [] true 0) (((before begun ++ codes "\"") ++ escape digits) ++ (replicate n 32 ++ escape x))
      (is_plain false x b s h ∙ rw (may, no_names) refl) (is_plain_writes false x b s h ∙ rw (may, no_names) refl)
      (opened_text x w s h none may)
      (record { no_names = no_names; no_members = refl; clear = λ o l. refl })
      (something x w s h none)

  pub any_part : (o may space : Bool) (x : List ℕ) (w : Parts) → may_be_number (state false) x ≡ may → is_space x ≡ space → (is_backslash x && is_cut shape) ≡ false → is_empty x ≡ false
      → (o ≡ false → leads shape digits ≡ true → n ≡ 0) → TextStep (state o) x w
  any_part true may true x w m s b h none = subst (λ (y : List ℕ). TextStep (state true) y w) (sym (one_is 32 x s)) (space_open w)
  any_part true may false x w m s b h none = shown_open x w b s h
  any_part false may true x w m s b h none = subst (λ (y : List ℕ). TextStep (state false) y w) (sym (one_is 32 x s)) (space_closed w (leads shape digits) refl (none refl))
  any_part false true false x w m s b h none = shown_digits x w b s h (none refl) m
  any_part false false false x w m s b h none = shown_opened x w b s h (none refl) m

  -- ---- the end

  nothing_waits : (leading : Bool) → (leading ≡ true → n ≡ 0) → concat (without_spaces leading (waiting n ++ [])) ≡ []
  nothing_waits false none = ap text_of (append-nil (waiting n)) ∙ no_text n
  nothing_waits true none = ap (λ (k : ℕ). concat (without_spaces true (waiting k ++ []))) (none refl)

  pub end_at : (o : Bool) → (o ≡ false → leads shape digits ≡ true → n ≡ 0) → TextEnd (state o)
  end_at true none = record { left = ap (λ (t : List ℕ). escape t ++ codes "\"") (ap text_of (append-nil (waiting n)) ∙ no_text n); nothing = refl }
  end_at false none = record {
    left = ap (λ (t : List ℕ). before begun ++ null_or_digits shape (digits ++ t)) (nothing_waits (leads shape digits) (none refl))
        ∙ ap (λ (t : List ℕ). before begun ++ null_or_digits shape t) (append-nil digits);
    nothing = ap (λ (t : List ℕ). is_blank (state false) && is_empty t) (nothing_waits (leads shape digits) (none refl)) ∙ and_true (is_blank (state false));
  }

pub text_step : (v : Values) (x : List ℕ) (w : Parts) → IsText v → (is_backslash x && is_cut v.shape) ≡ false → is_empty x ≡ false → TextStep v x w
text_step v x w i b h =
    subst (λ (u : Values). TextStep u x w) (sym (text_is v i))
    (any_part v.shape v.begun v.group v.digits v.spaces i.no_names v.is_open (may_be_number (on_way v.shape v.begun v.group v.digits false v.spaces) x) (is_space x) x w refl refl b h i.clear)

pub text_end : (v : Values) → IsText v → TextEnd v
text_end v i = subst TextEnd (sym (text_is v i)) (end_at v.shape v.begun v.group v.digits v.spaces i.no_names v.is_open i.clear)

-- where nothing of it shows
pub text_nothing : (v : Values) (w : Parts) → IsText v → is_no_text v w ≡ true → left_of_text v w ≡ before v.begun ++ codes "null"
text_nothing v w i e = by_open v.shape v.begun v.digits v.is_open v.spaces w (and_first (is_blank v) _ e) (and_second (is_blank v) _ e)
  where
    by_digits : (shape : TextShape) (begun : Bool) (digits : List ℕ) (t : List ℕ) → is_empty digits ≡ true → is_empty t ≡ true
        → before begun ++ null_or_digits shape (digits ++ t) ≡ before begun ++ codes "null"
    by_digits shape begun [] [] d e = refl
    by_digits shape begun [] (b ∷ t) d e = absurd (cc)
    by_digits shape begun (b ∷ digits) t d e = absurd (cc)

    by_open : (shape : TextShape) (begun : Bool) (digits : List ℕ) (o : Bool) (n : ℕ) (w : Parts) → (not o && (not v.has_members && is_empty digits)) ≡ true
        → is_empty (concat (without_spaces (leads shape digits) (waiting n ++ w))) ≡ true → text_left shape begun digits o n w ≡ before begun ++ codes "null"
    by_open shape begun digits true n w d e = absurd (cc)
    by_open shape begun digits false n w d e = by_digits shape begun digits _ (and_second (not v.has_members) (is_empty digits) d) e
