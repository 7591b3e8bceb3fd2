-- What a text begins with: how many bytes that is, and that it stays so with more bytes.
use Rattle.std.proofs.Common.{◌≡◌, ℕ, ◌+◌, ◌≤◌, Bool, true, false, cond, List, [], ◌∷◌, ◌++◌, length, Option, Some, None}
use Rattle.std.proofs.Common.{refl, sym, ap, subst, ◌∙◌, arith}
use Rattle.std.specs.Prelude.{◌==◌}
use Rattle.std.proofs.lemmas.List.{take-append-le}
use Rattle.dcm_text.specs.declared.set.Halves.{Halves}
use Rattle.dcm_text.specs.declared.set.TextKind.{TextKind}
use Rattle.dcm_text.specs.declared.sets.Sets.{Sets}
use Rattle.dcm_text.specs.declared.form.Fit.{Fit}
use Rattle.dcm_text.specs.declared.form.Fit.TheVariants.{Whole, Part, Not}
use Rattle.dcm_text.specs.declared.form.Form.{Form}
use Rattle.dcm_text.specs.declared.form.Opening.{Opening}
use Rattle.dcm_text.specs.declared.form.Opening.TheVariants as opening
use Rattle.dcm_text.specs.declared.first.Found.{Found}
use Rattle.dcm_text.specs.Sets.{has}
use Rattle.dcm_text.specs.Characters.{is_between}
use Rattle.dcm_text.specs.Forms.{Range, fit_of, starts, forms, character_of}
use Rattle.dcm_text.specs.First.{Designation, by_fit, fits, designated, designations, formed, of_forms, of_form, meaning_of, opened, opening_of, is_escape, first_of}

-- ---- what is settled stays, with more bytes

abbrev pub Settles : Fit → Fit → Type 0
Settles Whole r = r ≡ Whole
Settles Part r = Unit {0}
Settles Not r = r ≡ Not

fit_settles : (rs : List Range) (bs more : List ℕ) → Settles (fit_of rs bs) (fit_of rs (bs ++ more))
fit_settles [] bs more = refl
fit_settles (r ∷ rs) [] more = tt
fit_settles (r ∷ rs) (b ∷ bs) more = of_test (is_between r.0 r.1 b) (fit_settles rs bs more)
  where
    of_test : (t : Bool) → Settles (fit_of rs bs) (fit_of rs (bs ++ more)) → Settles (cond t (fit_of rs bs) Not) (cond t (fit_of rs (bs ++ more)) Not)
    of_test true h = h
    of_test false h = refl

starts_settle : (ws : List ℕ) (bs more : List ℕ) → Settles (starts ws bs) (starts ws (bs ++ more))
starts_settle [] bs more = refl
starts_settle (w ∷ ws) [] more = tt
starts_settle (w ∷ ws) (b ∷ bs) more = of_test (b == w) (starts_settle ws bs more)
  where
    of_test : (t : Bool) → Settles (starts ws bs) (starts ws (bs ++ more)) → Settles (cond t (starts ws bs) Not) (cond t (starts ws (bs ++ more)) Not)
    of_test true h = h
    of_test false h = refl

fits_settle : (sets : Sets) (d : Designation) (bs more : List ℕ) → Settles (fits sets d bs) (fits sets d (bs ++ more))
fits_settle sets d bs more = of_test (has sets d.1) (starts_settle d.0 bs more)
  where
    of_test : (t : Bool) → Settles (starts d.0 bs) (starts d.0 (bs ++ more)) → Settles (cond t (starts d.0 bs) Not) (cond t (starts d.0 (bs ++ more)) Not)
    of_test true h = h
    of_test false h = refl

abbrev pub Stays : Option Found → Option Found → Type 0
Stays None r = Unit {0}
Stays (Some f) r = r ≡ Some f

by_fit_stays : (x y : Fit) (f g : Found) (other another : Option Found) → Settles x y → (x ≡ Whole → g ≡ f) → Stays other another
    → Stays (by_fit x (Some f) other) (by_fit y (Some g) another)
by_fit_stays Whole y f g other another s e h = ap (λ (z : Fit). by_fit z (Some g) another) s ∙ ap (λ (z : Found). Some z) (e refl)
by_fit_stays Part y f g other another s e h = tt
by_fit_stays Not y f g other another s e h = subst (λ (z : Fit). Stays other (by_fit z (Some g) another)) (sym s) h

designated_stays : (sets : Sets) (ds : List Designation) (halves : Halves) (bs more : List ℕ)
    → Stays (designated sets ds halves bs) (designated sets ds halves (bs ++ more))
designated_stays sets [] halves bs more = refl
designated_stays sets (d ∷ ds) halves bs more =
    by_fit_stays (fits sets d bs) (fits sets d (bs ++ more)) _ _ (designated sets ds halves bs) (designated sets ds halves (bs ++ more))
    (fits_settle sets d bs more) (λ e. refl) (designated_stays sets ds halves bs more)

pub fit_size : (rs : List Range) (bs : List ℕ) → fit_of rs bs ≡ Whole → length rs ≤ length bs
fit_size [] bs e = omega arith
fit_size (r ∷ rs) [] e = absurd (not_whole e)
  where
    not_whole : Part ≡ Whole → ⊥
    not_whole e = cc
fit_size (r ∷ rs) (b ∷ bs) e = of_test (is_between r.0 r.1 b) (fit_size rs bs) e
  where
    not_whole : Not ≡ Whole → ⊥
    not_whole e = cc

    of_test : (t : Bool) → (fit_of rs bs ≡ Whole → length rs ≤ length bs) → cond t (fit_of rs bs) Not ≡ Whole → length (r ∷ rs) ≤ length (b ∷ bs)
    of_test true h e = let l = h e in omega arith
    of_test false h e = absurd (not_whole e)

forms_stay : (f : Form) (halves : Halves) (b : ℕ) (bs more : List ℕ) (others : List (List Range))
    → Stays (of_forms f halves (b ∷ bs) bs others) (of_forms f halves (b ∷ (bs ++ more)) (bs ++ more) others)
forms_stay f halves b bs more [] = refl
forms_stay f halves b bs more (rs ∷ others) =
    by_fit_stays (fit_of rs bs) (fit_of rs (bs ++ more)) (formed f halves (b ∷ bs) (1 + length rs)) (formed f halves (b ∷ (bs ++ more)) (1 + length rs))
    (of_forms f halves (b ∷ bs) bs others) (of_forms f halves (b ∷ (bs ++ more)) (bs ++ more) others)
    (fit_settles rs bs more)
    (λ e. ap (λ (text : List ℕ). let x : Found = record { size = 1 + length rs; meaning = meaning_of (character_of f text); halves = halves } in x)
    (take-append-le (1 + length rs) (b ∷ bs) more (let l = fit_size rs bs e in omega arith)))
    (forms_stay f halves b bs more others)

form_stays : (f : Form) (halves : Halves) (bs more : List ℕ) → Stays (of_form f halves bs) (of_form f halves (bs ++ more))
form_stays f halves [] more = tt
form_stays f halves (b ∷ bs) more = forms_stay f halves b bs more (forms f b)

opened_stays : (o : Opening) (sets : Sets) (kind : TextKind) (halves : Halves) (bs more : List ℕ)
    → Stays (opened o sets kind halves bs) (opened o sets kind halves (bs ++ more))
opened_stays (opening.Byte c) sets kind halves [] more = tt
opened_stays (opening.Byte c) sets kind halves (b ∷ bs) more = refl
opened_stays (opening.Form f) sets kind halves bs more = form_stays f halves bs more

pub first_stays : (sets : Sets) (kind : TextKind) (halves : Halves) (bs more : List ℕ)
    → Stays (first_of sets kind halves bs) (first_of sets kind halves (bs ++ more))
unfolding first_of
first_stays sets kind halves [] more = tt
first_stays sets kind halves (b ∷ bs) more =
    of_test (is_escape sets b) (designated_stays sets designations halves bs more) (opened_stays (opening_of halves b) sets kind halves (b ∷ bs) more)
  where
    of_test : (t : Bool) → Stays (designated sets designations halves bs) (designated sets designations halves (bs ++ more))
        → Stays (opened (opening_of halves b) sets kind halves (b ∷ bs)) (opened (opening_of halves b) sets kind halves (b ∷ (bs ++ more)))
        → Stays (cond t (designated sets designations halves bs) (opened (opening_of halves b) sets kind halves (b ∷ bs)))
        (cond t (designated sets designations halves (bs ++ more)) (opened (opening_of halves b) sets kind halves (b ∷ (bs ++ more))))
    of_test true h k = h
    of_test false h k = k
