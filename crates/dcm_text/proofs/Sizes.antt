-- How many bytes a text begins with: from 1 to 4, and all of it is a part of something only where it has at most 3.
use Rattle.std.proofs.Common.{◌≡◌, ℕ, suc, ◌+◌, ◌≤◌, ◌<◌, Bool, true, false, cond, List, [], ◌∷◌, length, Option, Some, None}
use Rattle.std.proofs.Common.{refl, arith}
use Rattle.std.specs.Prelude.{nat_le, nat_lt, ◌==◌, ◌&&◌}
use Rattle.dcm_text.specs.declared.set.Halves.{Halves}
use Rattle.dcm_text.specs.declared.set.TextKind.{TextKind}
use Rattle.dcm_text.specs.declared.sets.Sets.{Sets}
use Rattle.dcm_text.specs.declared.form.Fit.{Fit}
use Rattle.dcm_text.specs.declared.form.Fit.TheVariants.{Whole, Part, Not}
use Rattle.dcm_text.specs.declared.form.Form.{Form}
use Rattle.dcm_text.specs.declared.form.Form.TheVariants as form
use Rattle.dcm_text.specs.declared.form.Opening.{Opening}
use Rattle.dcm_text.specs.declared.form.Opening.TheVariants as opening
use Rattle.dcm_text.specs.declared.first.Found.{Found}
use Rattle.dcm_text.specs.Sets.{has}
use Rattle.dcm_text.specs.Characters.{is_between}
use Rattle.dcm_text.specs.Forms.{Range, fit_of, starts, forms, utf8_ranges}
use Rattle.dcm_text.specs.First.{Designation, by_fit, fits, designated, designations, formed, of_forms, of_form, opened, opening_of, is_escape, first_of}

-- so many bytes of a text of so many
abbrev pub IsSized : Option Found → ℕ → Type 0
IsSized None n = n ≤ 3
IsSized (Some f) n = (1 ≤ f.size) × (f.size ≤ n) × (f.size ≤ 4)

-- how many bytes fit, of those behind the first
abbrev pub Fills : Fit → (wanted bytes : ℕ) → Type 0
Fills Whole wanted bytes = wanted ≤ bytes
Fills Part wanted bytes = bytes < wanted
Fills Not wanted bytes = Unit {0}

one_more : (x : Fit) (m n : ℕ) → Fills x m n → Fills x (suc m) (suc n)
one_more Whole m n l = omega arith
one_more Part m n l = omega arith
one_more Not m n l = tt

fit_fills : (rs : List Range) (bs : List ℕ) → Fills (fit_of rs bs) (length rs) (length bs)
fit_fills [] bs = omega arith
fit_fills (r ∷ rs) [] = omega arith
fit_fills (r ∷ rs) (b ∷ bs) = of_test (is_between r.0 r.1 b) (fit_fills rs bs)
  where
    of_test : (t : Bool) → Fills (fit_of rs bs) (length rs) (length bs) → Fills (cond t (fit_of rs bs) Not) (length (r ∷ rs)) (length (b ∷ bs))
    of_test true h = one_more (fit_of rs bs) _ _ h
    of_test false h = tt

starts_fill : (ws : List ℕ) (bs : List ℕ) → Fills (starts ws bs) (length ws) (length bs)
starts_fill [] bs = omega arith
starts_fill (w ∷ ws) [] = omega arith
starts_fill (w ∷ ws) (b ∷ bs) = of_test (b == w) (starts_fill ws bs)
  where
    of_test : (t : Bool) → Fills (starts ws bs) (length ws) (length bs) → Fills (cond t (starts ws bs) Not) (length (w ∷ ws)) (length (b ∷ bs))
    of_test true h = one_more (starts ws bs) _ _ h
    of_test false h = tt

fits_fill : (sets : Sets) (d : Designation) (bs : List ℕ) → Fills (fits sets d bs) (length d.0) (length bs)
fits_fill sets d bs = of_test (has sets d.1) (starts_fill d.0 bs)
  where
    of_test : (t : Bool) → Fills (starts d.0 bs) (length d.0) (length bs) → Fills (cond t (starts d.0 bs) Not) (length d.0) (length bs)
    of_test true h = h
    of_test false h = tt

-- at most three bytes are wanted behind the first
by_fit_sized : (x : Fit) (f : Found) (other : Option Found) (wanted bytes : ℕ) → Fills x wanted bytes → f.size ≡ 1 + wanted → wanted ≤ 3
    → IsSized other (suc bytes) → IsSized (by_fit x (Some f) other) (suc bytes)
by_fit_sized Whole f other wanted bytes l e m h = (omega arith, omega arith, omega arith)
by_fit_sized Part f other wanted bytes l e m h = omega arith
by_fit_sized Not f other wanted bytes l e m h = h

abbrev pub are_short : List Designation → Bool
are_short [] = true
are_short (d ∷ ds) = nat_le (length d.0) 3 && are_short ds

designated_sized : (sets : Sets) (ds : List Designation) (halves : Halves) (bs : List ℕ) → are_short ds ≡ true
    → IsSized (designated sets ds halves bs) (suc (length bs))
designated_sized sets [] halves bs e = (omega arith, omega arith, omega arith)
designated_sized sets (d ∷ ds) halves bs e =
    by_fit_sized (fits sets d bs) _ (designated sets ds halves bs) (length d.0) (length bs) (fits_fill sets d bs) refl (grind arith)
    (designated_sized sets ds halves bs (grind arith))

-- the table
all_short : are_short designations ≡ true
unfolding designations
all_short = refl

few_utf8 : (b : ℕ) → length (utf8_ranges b) ≤ 3
few_utf8 b = of_tests (nat_lt b 0xE0) (b == 0xE0) (b == 0xED) (nat_lt b 0xF0) (b == 0xF0) (b == 0xF4)
  where
    of_tests : (s t u v w x : Bool) → length {A = Range} (cond s ((0x80, 0xBF) ∷ []) (cond t ((0xA0, 0xBF) ∷ (0x80, 0xBF) ∷ [])
        (cond u ((0x80, 0x9F) ∷ (0x80, 0xBF) ∷ []) (cond v ((0x80, 0xBF) ∷ (0x80, 0xBF) ∷ []) (cond w ((0x90, 0xBF) ∷ (0x80, 0xBF) ∷ (0x80, 0xBF) ∷ [])
        (cond x ((0x80, 0x8F) ∷ (0x80, 0xBF) ∷ (0x80, 0xBF) ∷ []) ((0x80, 0xBF) ∷ (0x80, 0xBF) ∷ (0x80, 0xBF) ∷ []))))))) ≤ 3
    of_tests true t u v w x = omega arith
    of_tests false true u v w x = omega arith
    of_tests false false true v w x = omega arith
    of_tests false false false true w x = omega arith
    of_tests false false false false true x = omega arith
    of_tests false false false false false true = omega arith
    of_tests false false false false false false = omega arith

-- each of the forms wants at most three bytes behind the first
abbrev pub AreFew : List (List Range) → Type 0
AreFew [] = Unit {0}
AreFew (rs ∷ others) = (length rs ≤ 3) × AreFew others

few_forms : (f : Form) (b : ℕ) → AreFew (forms f b)
few_forms form.Ir87 b = (omega arith, tt)
few_forms form.Ir159 b = (omega arith, tt)
few_forms form.Ir149 b = (omega arith, tt)
few_forms form.Ir58 b = (omega arith, tt)
few_forms form.Gb18030 b = (omega arith, (omega arith, (omega arith, tt)))
few_forms form.Utf8 b = (few_utf8 b, tt)

forms_sized : (f : Form) (halves : Halves) (b : ℕ) (bs : List ℕ) (others : List (List Range)) → AreFew others
    → IsSized (of_forms f halves (b ∷ bs) bs others) (suc (length bs))
forms_sized f halves b bs [] few = (omega arith, omega arith, omega arith)
forms_sized f halves b bs (rs ∷ others) few =
    by_fit_sized (fit_of rs bs) (formed f halves (b ∷ bs) (1 + length rs)) (of_forms f halves (b ∷ bs) bs others) (length rs) (length bs)
    (fit_fills rs bs) refl few.0 (forms_sized f halves b bs others few.1)

form_sized : (f : Form) (halves : Halves) (bs : List ℕ) → IsSized (of_form f halves bs) (length bs)
form_sized f halves [] = omega arith
form_sized f halves (b ∷ bs) = forms_sized f halves b bs (forms f b) (few_forms f b)

opened_sized : (o : Opening) (sets : Sets) (kind : TextKind) (halves : Halves) (bs : List ℕ) → IsSized (opened o sets kind halves bs) (length bs)
opened_sized (opening.Byte c) sets kind halves [] = omega arith
opened_sized (opening.Byte c) sets kind halves (b ∷ bs) = (omega arith, omega arith, omega arith)
opened_sized (opening.Form f) sets kind halves bs = form_sized f halves bs

pub first_sized : (sets : Sets) (kind : TextKind) (halves : Halves) (bs : List ℕ) → IsSized (first_of sets kind halves bs) (length bs)
unfolding first_of
first_sized sets kind halves [] = omega arith
first_sized sets kind halves (b ∷ bs) =
    of_test (is_escape sets b) (designated_sized sets designations halves bs all_short) (opened_sized (opening_of halves b) sets kind halves (b ∷ bs))
  where
    of_test : (t : Bool) → IsSized (designated sets designations halves bs) (suc (length bs)) → IsSized (opened (opening_of halves b) sets kind halves (b ∷ bs)) (suc (length bs))
        → IsSized (cond t (designated sets designations halves bs) (opened (opening_of halves b) sets kind halves (b ∷ bs))) (suc (length bs))
    of_test true h k = h
    of_test false h k = k
