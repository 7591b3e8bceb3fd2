-- What a text begins with, where UTF-8 is in force: a character by its bytes, or one byte without a character.
use Rattle.std.proofs.Common.{◌≡◌, ℕ, ◌+◌, ◌≤◌, ◌<◌, Bool, true, false, cond, List, [], ◌∷◌, ◌++◌, length, Option, Some, None}
use Rattle.std.proofs.Common.{refl, sym, ap, ◌∙◌, arith, append-nil, inl, inr, ◌⊎◌}
use Rattle.std.specs.Prelude.{nat_lt, ◌==◌, ◌&&◌}
use Rattle.std.specs.Char.{encode_utf8}
use Rattle.std.proofs.lemmas.Bool.{cases_lt, cond-false}
use Rattle.std.proofs.lemmas.Bool.Decides.{nat_tests}
use Rattle.std.proofs.lemmas.Str.{encode_ascii}
use lib.Dec.{ltb}
use lib.Utf8.{scalar, low_scalar}
use Rattle.dcm_lemmas.proofs.Truth.{and_second_false}
use Rattle.dcm_text.proofs.Directly.{at_least, at_most}
use Rattle.dcm_text.proofs.Whole.{same_behind}
use Rattle.dcm_text.specs.declared.set.Halves.{Halves}
use Rattle.dcm_text.specs.declared.set.Right.{Right}
use Rattle.dcm_text.specs.declared.set.Right.TheVariants as right
use Rattle.dcm_text.specs.declared.set.TextKind.{TextKind}
use Rattle.dcm_text.specs.declared.sets.Sets.{Sets}
use Rattle.dcm_text.specs.declared.form.Fit.{Fit}
use Rattle.dcm_text.specs.declared.form.Fit.TheVariants.{Whole, Part, Not}
use Rattle.dcm_text.specs.declared.form.Form.TheVariants as form
use Rattle.dcm_text.specs.declared.form.Opening.{Opening}
use Rattle.dcm_text.specs.declared.form.Opening.TheVariants as opening
use Rattle.dcm_text.specs.declared.first.Found.{Found}
use Rattle.dcm_text.specs.declared.first.Meaning.{Meaning}
use Rattle.dcm_text.specs.declared.first.Meaning.TheVariants as meaning
use Rattle.dcm_text.specs.Characters.{is_between}
use Rattle.dcm_text.specs.Forms.{fit_of, utf8_ranges, right_opening}
use Rattle.dcm_text.specs.First.{first_of, start_of, opening_of, opened, by_fit, formed, one_unknown, designated, designations}
use Rattle.dcm_text.specs.Decoding.{Piece, or_unknown, decoded_from, found}
use Rattle.dcm_text.specs.Laws.{IsUtf8InForce, encoded}
use Rattle.dcm_text.proofs.Pieces.{one_piece}
use Rattle.dcm_text.proofs.Utf8.{chars_ahead}
use Rattle.dcm_table.proofs.FormsOfUtf8.{Begins, fits_begin}

-- a term of the type given
abbrev by : (A : Type 0) → A → A
by A a = a

-- one byte without a character is in front
abbrev pub IsBad : Sets → TextKind → List ℕ → Type 0
IsBad sets kind text = found true sets kind (start_of sets) text ≡ Some (one_unknown (start_of sets))

high_first : (sets : Sets) (kind : TextKind) (b : ℕ) (rest : List ℕ) → IsUtf8InForce sets → 0x80 ≤ b
    → first_of sets kind (start_of sets) (b ∷ rest) ≡ opened (right_opening right.Utf8 b) sets kind (start_of sets) (b ∷ rest)
unfolding first_of
high_first sets kind b rest u l =
    ap (λ (t : Bool). cond t (designated sets designations (start_of sets) rest) (opened (opening_of (start_of sets) b) sets kind (start_of sets) (b ∷ rest)))
    (and_second_false (b == 0x1B) sets.extended u.alone)
    ∙ ap (λ (o : Opening). opened o sets kind (start_of sets) (b ∷ rest))
    (cond-false _ _ _ (by (nat_lt b 0x80 ≡ false) (grind (arith, nat_tests))) ∙ ap (λ (r : Right). right_opening r b) u.start)

-- a character, or such a byte
pub by_first : (sets : Sets) (kind : TextKind) (b : ℕ) (rest : List ℕ) → IsUtf8InForce sets → Begins (b ∷ rest) ⊎ IsBad sets kind (b ∷ rest)
by_first sets kind b rest u = by_high (cases_lt b 128)
  where
    is_bad : (o : Option Found) → first_of sets kind (start_of sets) (b ∷ rest) ≡ o → or_unknown (start_of sets) o ≡ one_unknown (start_of sets) → IsBad sets kind (b ∷ rest)
    is_bad o e h = ap (λ (x : Option Found). Some (or_unknown (start_of sets) x)) e ∙ ap (λ (f : Found). Some f) h

    by_fit_of : (f : Fit) → 0xC2 ≤ b → b ≤ 0xF4 → fit_of (utf8_ranges b) rest ≡ f
        → first_of sets kind (start_of sets) (b ∷ rest) ≡ by_fit f (Some (formed form.Utf8 (start_of sets) (b ∷ rest) (1 + length (utf8_ranges b)))) (Some (one_unknown (start_of sets)))
        → Begins (b ∷ rest) ⊎ IsBad sets kind (b ∷ rest)
    by_fit_of Whole l h e w = inl (fits_begin b rest l h e)
    by_fit_of Part l h e w = inr (is_bad None w refl)
    by_fit_of Not l h e w = inr (is_bad (Some (one_unknown (start_of sets))) w refl)

    by_lead : (t : Bool) → 128 ≤ b → is_between 0xC2 0xF4 b ≡ t → Begins (b ∷ rest) ⊎ IsBad sets kind (b ∷ rest)
    by_lead true l e =
        by_fit_of (fit_of (utf8_ranges b) rest) (at_least 0xC2 0xF4 b e) (at_most 0xC2 0xF4 b e) refl
        (high_first sets kind b rest u l
        ∙ ap (λ (t : Bool). opened (cond t (opening.Form form.Utf8) (opening.Byte None)) sets kind (start_of sets) (b ∷ rest)) e)
    by_lead false l e =
        inr (is_bad (Some (one_unknown (start_of sets)))
        (high_first sets kind b rest u l
        ∙ ap (λ (t : Bool). opened (cond t (opening.Form form.Utf8) (opening.Byte None)) sets kind (start_of sets) (b ∷ rest)) e
        ∙ ap (λ (h : Halves). let f : Found = one_unknown h in Some f) (same_behind sets kind b)) refl)

    by_high : (b < 128) ⊎ (128 ≤ b) → Begins (b ∷ rest) ⊎ IsBad sets kind (b ∷ rest)
    by_high (inl low) =
        inl (record { char = b; after = rest; is = low_scalar b (omega arith); whole = ap (λ (x : List ℕ). x ++ rest) (sym (encode_ascii b low)) })
    by_high (inr high) = by_lead (is_between 0xC2 0xF4 b) high refl

-- ---- the pieces of a text

pub char_ahead : (sets : Sets) (kind : TextKind) (c : ℕ) (rest : List ℕ) → IsUtf8InForce sets → scalar c ≡ true
    → decoded_from sets kind (start_of sets) (encode_utf8 c ++ rest) ≡ encoded c ∷ decoded_from sets kind (start_of sets) rest
char_ahead sets kind c rest u e =
    ap (λ (x : List ℕ). decoded_from sets kind (start_of sets) (x ++ rest)) (sym (append-nil (encode_utf8 c)))
    ∙ chars_ahead sets kind (c ∷ []) rest u (ap (λ (t : Bool). t && true) e)

pub bad_ahead : (sets : Sets) (kind : TextKind) (b : ℕ) (rest : List ℕ) → IsBad sets kind (b ∷ rest)
    → decoded_from sets kind (start_of sets) (b ∷ rest) ≡ (b ∷ [], meaning.Unknown) ∷ decoded_from sets kind (start_of sets) rest
bad_ahead sets kind b rest e = one_piece sets kind (start_of sets) (b ∷ rest) (one_unknown (start_of sets)) e

is_known : Meaning → Bool
is_known (meaning.Character c) = true
is_known meaning.Unknown = false
is_known meaning.Designation = false

first_known : List Piece → Bool
first_known [] = false
first_known (p ∷ ps) = is_known p.1

-- where one byte has no character, none begins
pub none_begins : (sets : Sets) (kind : TextKind) (b : ℕ) (rest : List ℕ) → IsUtf8InForce sets → IsBad sets kind (b ∷ rest) → Begins (b ∷ rest) → ⊥
unfolding is_known first_known
none_begins sets kind b rest u bad h =
    let wrong : false ≡ true =
    ap first_known (sym (bad_ahead sets kind b rest bad) ∙ ap (decoded_from sets kind (start_of sets)) h.whole ∙ char_ahead sets kind h.char h.after u h.is) in
    cc
