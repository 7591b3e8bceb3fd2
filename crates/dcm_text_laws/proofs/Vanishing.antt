-- A display keeps its text.
use Rattle.std.proofs.Common.{◌≡◌, ◌≤◌, ℕ, zero, suc, ◌+◌, Bool, true, false, cond, List, [], ◌∷◌, ◌++◌, append_assoc, length, take, drop, Option, Some, None}
use Rattle.std.proofs.Common.{refl, sym, ap, subst, ◌∙◌, arith, length-drop}
use Rattle.std.specs.Prelude.{◌==◌, flat_map}
use Rattle.std.specs.Char.{encode_utf8}
use Rattle.std.proofs.lemmas.Bool.Decides.{nat_tests}
use Rattle.std.proofs.lemmas.List.{take-append-drop}
use Rattle.dcm_text.specs.declared.set.Halves.{Halves}
use Rattle.dcm_text.specs.declared.set.TextKind.{TextKind}
use Rattle.dcm_text.specs.declared.sets.Sets.{Sets}
use Rattle.dcm_text.specs.declared.first.Found.{Found}
use Rattle.dcm_text.specs.declared.first.Meaning.{Meaning}
use Rattle.dcm_text.specs.declared.first.Meaning.TheVariants as meaning
use Rattle.dcm_text.specs.declared.form.Fit.{Fit}
use Rattle.dcm_text.specs.declared.form.Fit.TheVariants.{Whole, Part, Not}
use Rattle.dcm_text.specs.declared.form.Form.{Form}
use Rattle.dcm_text.specs.declared.form.Opening.{Opening}
use Rattle.dcm_text.specs.declared.form.Opening.TheVariants as opening
use Rattle.dcm_text.specs.Sets.{has}
use Rattle.dcm_text.specs.Forms.{Range, character_of, fit_of, forms, starts}
use Rattle.dcm_text.specs.First.{Designation, as_designation, by_fit, changed, designated, designations, first_of, fits, formed, is_escape, meaning_of, of_form, of_forms, one_unknown, opened, opening_of, start_of}
use Rattle.dcm_text.specs.Decoding.{Piece, decoded, decoded_by, decoded_from, or_unknown}
use Rattle.dcm_text.specs.Shown.{dumped, dumped_piece, is_dumped, percent}
use Rattle.dcm_text.proofs.Pieces.{all_sized}
use Rattle.dcm_text_laws.specs.Vanishing.{Undoes, nothing, a_byte, all_bytes, a_character, a_designation, behind_it, coded}

one_more : (n : ℕ) → 1 + n ≡ suc n
one_more n = omega arith

-- ---- what a text begins with

module _ (sets : Sets) (kind : TextKind) (halves : Halves) (b : ℕ) (rest : List ℕ) where
  -- a byte without a character; a character, or bytes of which none is; or a designation
  data Begins (f : Found) : Type 0 where
    unknown : f ≡ one_unknown halves → Begins f
    bytes : (n : ℕ) → is_escape sets b ≡ false → f.size ≡ suc n → f.meaning ≡ meaning_of (coded (opening_of halves b) (b ∷ take n rest)) → f.halves ≡ behind_it sets kind halves (opening_of halves b) b → Begins f
    designates : (d : Designation) (before after : List Designation) → is_escape sets b ≡ true → designations ≡ before ++ d ∷ after → has sets d.1 ≡ true → rest ≡ d.0 ++ drop (length d.0) rest
        → f ≡ record { size = 1 + length d.0; meaning = meaning.Designation; halves = changed halves d.2 } → Begins f

  starts_whole : (wanted given : List ℕ) → starts wanted given ≡ Whole → given ≡ wanted ++ drop (length wanted) given
  starts_whole [] given e = refl
  starts_whole (w ∷ wanted) [] e = absurd (cc)
  starts_whole (w ∷ wanted) (g ∷ given) e = by_test (g == w) refl (λ h. starts_whole wanted given h) e
    where
      by_test : (t : Bool) → (g == w) ≡ t → (starts wanted given ≡ Whole → given ≡ wanted ++ drop (length wanted) given) → cond t (starts wanted given) Not ≡ Whole → (g ∷ given) ≡ w ∷ (wanted ++ drop (length wanted) given)
      by_test true same more h =
          let is : g ≡ w = grind (arith, nat_tests) in
          ap (λ (x : ℕ). x ∷ given) is ∙ ap (λ (x : List ℕ). w ∷ x) (more h)
      by_test false same more h = absurd (cc)

  fits_whole : (d : Designation) → fits sets d rest ≡ Whole → (has sets d.1 ≡ true) × (rest ≡ d.0 ++ drop (length d.0) rest)
  fits_whole d e = by_test (has sets d.1) refl e
    where
      by_test : (t : Bool) → has sets d.1 ≡ t → cond t (starts d.0 rest) Not ≡ Whole → (has sets d.1 ≡ true) × (rest ≡ d.0 ++ drop (length d.0) rest)
      by_test true is h = (is, starts_whole d.0 rest h)
      by_test false is h = absurd (cc)

  by_designations : is_escape sets b ≡ true → (before ds : List Designation) → designations ≡ before ++ ds → Begins (or_unknown halves (designated sets ds halves rest))
  by_designations esc before [] all = unknown refl
  by_designations esc before (d ∷ ds) all = by_found (fits sets d rest) refl (by_designations esc (before ++ d ∷ []) ds (all ∙ sym (append_assoc before (d ∷ []) ds)))
    where
      by_found : (x : Fit) → fits sets d rest ≡ x → Begins (or_unknown halves (designated sets ds halves rest)) → Begins (or_unknown halves (by_fit x (as_designation halves d) (designated sets ds halves rest)))
      by_found Whole e others = let h = fits_whole d e in designates d before ds esc all h.0 h.1 refl
      by_found Part e others = unknown refl
      by_found Not e others = others

  by_forms : is_escape sets b ≡ false → (form : Form) → opening_of halves b ≡ opening.Form form → (rs : List (List Range)) → Begins (or_unknown halves (of_forms form halves (b ∷ rest) rest rs))
  by_forms none form is [] = unknown refl
  by_forms none form is (ranges ∷ others) = by_found (fit_of ranges rest) (by_forms none form is others)
    where
      by_found : (x : Fit) → Begins (or_unknown halves (of_forms form halves (b ∷ rest) rest others)) → Begins (or_unknown halves (by_fit x (Some (formed form halves (b ∷ rest) (1 + length ranges))) (of_forms form halves (b ∷ rest) rest others)))
      by_found Whole more =
          bytes (length ranges) none (one_more (length ranges))
          (ap (λ (k : ℕ). meaning_of (character_of form (take k (b ∷ rest)))) (one_more (length ranges))
          ∙ ap (λ (o : Opening). meaning_of (coded o (b ∷ take (length ranges) rest))) (sym is))
          (ap (λ (o : Opening). behind_it sets kind halves o b) (sym is))
      by_found Part more = unknown refl
      by_found Not more = more

  by_opening : is_escape sets b ≡ false → (o : Opening) → opening_of halves b ≡ o → Begins (or_unknown halves (opened o sets kind halves (b ∷ rest)))
  by_opening none (opening.Byte c) is =
      bytes 0 none refl
      (ap (λ (o : Opening). meaning_of (coded o (b ∷ []))) (sym is))
      (ap (λ (o : Opening). behind_it sets kind halves o b) (sym is))
  by_opening none (opening.Form form) is = by_forms none form is (forms form b)

  begins : Begins (or_unknown halves (first_of sets kind halves (b ∷ rest)))
  unfolding first_of
  begins = by_escape (is_escape sets b) refl
    where
      by_escape : (t : Bool) → is_escape sets b ≡ t → Begins (or_unknown halves (cond t (designated sets designations halves rest) (opened (opening_of halves b) sets kind halves (b ∷ rest))))
      by_escape true e = by_designations e [] designations refl
      by_escape false e = by_opening e (opening_of halves b) refl

-- ---- a whole text

-- what is shown of a character is it, or its bytes
shown_of : (sets : Sets) (kind : TextKind) (halves : Halves) (b : ℕ) (bs later rest : List ℕ) (c : Option ℕ) → is_escape sets b ≡ false → coded (opening_of halves b) (b ∷ bs) ≡ c
    → Undoes sets kind (behind_it sets kind halves (opening_of halves b) b) later rest → Undoes sets kind halves (dumped_piece (b ∷ bs, meaning_of c) ++ later) ((b ∷ bs) ++ rest)
shown_of sets kind halves b bs later rest None none is more = all_bytes halves b bs later rest none more
shown_of sets kind halves b bs later rest (Some c) none is more = by_test (is_dumped c)
  where
    by_test : (t : Bool) → Undoes sets kind halves (cond t (encode_utf8 c) (flat_map percent (b ∷ bs)) ++ later) ((b ∷ bs) ++ rest)
    by_test true = a_character halves c b bs later rest none is more
    by_test false = all_bytes halves b bs later rest none more

abbrev shown_by : (n : ℕ) → Sets → TextKind → Halves → List ℕ → List ℕ
shown_by n sets kind halves text = flat_map dumped_piece (decoded_by n sets kind halves text)

module _ (n : ℕ) (sets : Sets) (kind : TextKind) (kept : (halves : Halves) (text : List ℕ) → length text ≤ n → Undoes sets kind halves (shown_by n sets kind halves text) text) where
  kept_first : (halves : Halves) (b : ℕ) (rest : List ℕ) → length (b ∷ rest) ≤ suc n → (f : Found) → Begins sets kind halves b rest f
      → Undoes sets kind halves (dumped_piece (take f.size (b ∷ rest), f.meaning) ++ shown_by n sets kind f.halves (drop f.size (b ∷ rest))) (b ∷ rest)
  kept_first halves b rest l f (unknown is) =
      subst (λ (g : Found). Undoes sets kind halves (dumped_piece (take g.size (b ∷ rest), g.meaning) ++ shown_by n sets kind g.halves (drop g.size (b ∷ rest))) (b ∷ rest)) (sym is)
      (a_byte halves b (shown_by n sets kind halves rest) rest (kept halves rest (omega (arith, l))))
  kept_first halves b rest l f (bytes m none size is next) =
      let whole : (b ∷ take m rest) ++ drop m rest ≡ b ∷ rest = ap (λ (x : List ℕ). b ∷ x) (take-append-drop m rest) in
      let less = length-drop m rest in
      let more = kept (behind_it sets kind halves (opening_of halves b) b) (drop m rest) (omega (arith, l, less)) in
      let here = shown_of sets kind halves b (take m rest) (shown_by n sets kind (behind_it sets kind halves (opening_of halves b) b) (drop m rest)) (drop m rest) (coded (opening_of halves b) (b ∷ take m rest)) none refl more in
      subst (λ (x : List ℕ). Undoes sets kind halves (dumped_piece (take f.size (b ∷ rest), f.meaning) ++ shown_by n sets kind f.halves (drop f.size (b ∷ rest))) x) whole
      (subst (λ (k : ℕ). Undoes sets kind halves (dumped_piece (take k (b ∷ rest), f.meaning) ++ shown_by n sets kind f.halves (drop k (b ∷ rest))) ((b ∷ take m rest) ++ drop m rest)) (sym size)
      (subst (λ (x : Meaning). Undoes sets kind halves (dumped_piece (b ∷ take m rest, x) ++ shown_by n sets kind f.halves (drop m rest)) ((b ∷ take m rest) ++ drop m rest)) (sym is)
      (subst (λ (h : Halves). Undoes sets kind halves (dumped_piece (b ∷ take m rest, meaning_of (coded (opening_of halves b) (b ∷ take m rest))) ++ shown_by n sets kind h (drop m rest)) ((b ∷ take m rest) ++ drop m rest)) (sym next) here)))
  kept_first halves b rest l f (designates d before after esc all named is same) =
      let less = length-drop (length d.0) rest in
      subst (λ (g : Found). Undoes sets kind halves (dumped_piece (take g.size (b ∷ rest), g.meaning) ++ shown_by n sets kind g.halves (drop g.size (b ∷ rest))) (b ∷ rest)) (sym same)
      (subst (λ (k : ℕ). Undoes sets kind halves (shown_by n sets kind (changed halves d.2) (drop k (b ∷ rest))) (b ∷ rest)) (sym (one_more (length d.0)))
      (subst (λ (x : List ℕ). Undoes sets kind halves (shown_by n sets kind (changed halves d.2) (drop (length d.0) rest)) (b ∷ x)) (sym is)
      (a_designation halves d before after b (shown_by n sets kind (changed halves d.2) (drop (length d.0) rest)) (drop (length d.0) rest) esc all named
      (kept (changed halves d.2) (drop (length d.0) rest) (omega (arith, l, less))))))

kept_by : (n : ℕ) (sets : Sets) (kind : TextKind) (halves : Halves) (text : List ℕ) → length text ≤ n → Undoes sets kind halves (shown_by n sets kind halves text) text
kept_by zero sets kind halves [] l = nothing halves
kept_by zero sets kind halves (b ∷ rest) l = absurd (omega arith)
kept_by (suc n) sets kind halves [] l = nothing halves
kept_by (suc n) sets kind halves (b ∷ rest) l = kept_first n sets kind (λ h t e. kept_by n sets kind h t e) halves b rest l (or_unknown halves (first_of sets kind halves (b ∷ rest))) (begins sets kind halves b rest)

pub nothing_vanishes : (sets : Sets) (kind : TextKind) (text : List ℕ) → Undoes sets kind (start_of sets) (dumped sets kind text) text
unfolding dumped decoded decoded_from
nothing_vanishes sets kind text = kept_by (length text) sets kind (start_of sets) text (omega arith)
