-- Where UTF-8 is in force, a text of any bytes is written as without character sets.
use Rattle.std.proofs.Common.{◌≡◌, ◌∙◌, sym, ap, refl, subst, ℕ, zero, suc, ◌+◌, ◌-◌, ◌<◌, ◌≤◌, List, [], ◌∷◌, ◌++◌, length, take, drop, Bool, true, false, cond, arith, append_assoc, Option, Some, None, inl, inr, ◌⊎◌, ⊎_elim}
use Rattle.std.proofs.Common.{length-append, take-append-drop}
use Rattle.std.specs.Prelude.{nat_lt, flat_map, slice_index, ◌/◌, ◌%◌, encode_utf8_all, IsUtf8}
use Rattle.std.specs.Char.{encode_utf8}
use Rattle.std.specs.Str.{is_utf8, all_scalars, IsValidUpTo}
use Rattle.std.specs.Str.Lossy.{utf8_valid_len, valid_len_up_to}
use Rattle.std.proofs.Math.Seq.{take-append-add, drop-append-add}
use Rattle.std.proofs.lemmas.Bool.{cases_lt, and_parts}
use Rattle.std.proofs.lemmas.Bool.Decides.{nat_tests}
use Rattle.std.proofs.lemmas.List.{get_or-append-add, take_all}
use Rattle.std.proofs.lemmas.Str.{IsUtf8-append, IsUtf8-nil, IsUtf8-encode, IsUtf8-past_char, is_utf8-from_IsUtf8, utf8_valid_len-IsValidUpTo, length-encode, len_utf8_bounds}
use lib.Utf8.{scalar}
use Rattle.dcm_base.specs.declared.vr.Vr.{Vr}
use Rattle.dcm_base.specs.Dump.ValueText.{lower}
use Rattle.dcm_base.specs.Tables.Transfer.{without_pads}
use Rattle.dcm_text.specs.declared.set.TextKind.{TextKind}
use Rattle.dcm_text.specs.declared.sets.Sets.{Sets}
use Rattle.dcm_text.specs.First.{start_of}
use Rattle.dcm_text.specs.Decoding.{decoded, decoded_from}
use Rattle.dcm_text.specs.Laws.{IsUtf8InForce}
use Rattle.dcm_text.specs.Shown.{digit, backslashed, cell, cell_piece}
use Rattle.dcm_table.specs.declared.quoted.TextForm.TheVariants.{ValidUtf8, Decoded}
use Rattle.dcm_table.specs.Cell.{whole}
use Rattle.dcm_table.specs.Parts.{some_bytes}
use Rattle.dcm_table.specs.Quoted.{escaped_byte, quoted, valid_utf8}
use Rattle.dcm_table.specs.Row.{cell_parts, is_quoted_text, kind_of, text_by, value_parts}
use Rattle.dcm_table.proofs.FirstsOfUtf8.{IsBad, by_first, char_ahead, bad_ahead, none_begins}
use Rattle.dcm_table.proofs.FormsOfUtf8.{Begins}
use Rattle.dcm_table.proofs.Texts.{valid_all, valid_step}
use Rattle.dcm_table.proofs.ValidTexts.{longest_valid}

-- ---- the longest front that is valid UTF-8

none_up_to : (bytes : List ℕ) (m k : ℕ) → valid_len_up_to bytes m < k → k ≤ m → IsUtf8 (take k bytes) → ⊥
none_up_to bytes zero k l h valid = absurd (omega (arith, l, h))
none_up_to bytes (suc m) k l h valid =
    by_test (is_utf8 (take (suc m) bytes)) refl l (λ less fewer. none_up_to bytes m k less fewer valid)
  where
    by_test : (t : Bool) → is_utf8 (take (suc m) bytes) ≡ t → cond t (suc m) (valid_len_up_to bytes m) < k
        → (valid_len_up_to bytes m < k → k ≤ m → ⊥) → ⊥
    by_test true e l below = absurd (omega (arith, l, h))
    by_test false e l below =
        ⊎_elim
        (λ (less : k < suc m). below l (omega (arith, less)))
        (λ (more : suc m ≤ k).
        let same : k ≡ suc m = omega (arith, more, h) in
        let is : is_utf8 (take (suc m) bytes) ≡ true = is_utf8-from_IsUtf8 (take (suc m) bytes) (subst (λ (n : ℕ). IsUtf8 (take n bytes)) same valid) in
        let wrong : false ≡ true = sym e ∙ is in cc)
        (cases_lt k (suc m))

none_longer : (bytes : List ℕ) (k : ℕ) → utf8_valid_len bytes < length bytes → utf8_valid_len bytes < k → IsUtf8 (take k bytes) → ⊥
unfolding utf8_valid_len
none_longer bytes k short l valid =
    ⊎_elim
    (λ (less : k < length bytes). none_up_to bytes (length bytes) k l (omega (arith, less)) valid)
    (λ (more : length bytes ≤ k).
    none_up_to bytes (length bytes) (length bytes) short (omega arith)
    (subst IsUtf8 (take_all k bytes more ∙ sym (take_all (length bytes) bytes (omega arith))) valid))
    (cases_lt k (length bytes))

-- ---- a character in front

-- what is valid of what follows it, is valid behind it
behind_char : (c : ℕ) (rest : List ℕ) → scalar c ≡ true → utf8_valid_len rest < length rest
    → IsValidUpTo (encode_utf8 c ++ rest) (length (encode_utf8 c) + utf8_valid_len rest)
behind_char c rest is short =
    let bytes : List ℕ = encode_utf8 c in
    let v : ℕ = utf8_valid_len rest in
    record {
      short = omega (arith, length-append bytes rest, short);
      front = subst IsUtf8 (sym (take-append-add bytes rest v)) (IsUtf8-append bytes (take v rest) (IsUtf8-encode c is) (longest_valid rest));
      longest = λ m more valid.
          let n : ℕ = m - length bytes in
          let same : m ≡ length bytes + n = omega (arith, more) in
          let front : take m (bytes ++ rest) ≡ bytes ++ take n rest = ap (λ (x : ℕ). take x (bytes ++ rest)) same ∙ take-append-add bytes rest n in
          none_longer rest n short (omega (arith, more)) (IsUtf8-past_char (take m (bytes ++ rest)) (take n rest) c valid front);
    }

char_stays : (c : ℕ) (rest : List ℕ) → scalar c ≡ true → valid_utf8 (encode_utf8 c ++ rest) ≡ encode_utf8 c ++ valid_utf8 rest
char_stays c rest is =
    let bytes : List ℕ = encode_utf8 c in
    let v : ℕ = utf8_valid_len rest in
    let n : ℕ = length bytes + v in
    ⊎_elim
    (λ (short : v < length rest).
    let one : n + 1 ≡ length bytes + (v + 1) = omega arith in
    let tail : List ℕ = valid_utf8 (drop (v + 1) rest) in
    let past : drop (n + 1) (bytes ++ rest) ≡ drop (v + 1) rest = ap (λ (x : ℕ). drop x (bytes ++ rest)) one ∙ drop-append-add bytes rest (v + 1) in
    valid_step (bytes ++ rest) n (sym (utf8_valid_len-IsValidUpTo (bytes ++ rest) n (behind_char c rest is short))) (omega (arith, length-append bytes rest, short))
    ∙ ap (λ (x : List ℕ). x ++ (escaped_byte (slice_index (bytes ++ rest) n) ++ valid_utf8 (drop (n + 1) (bytes ++ rest)))) (take-append-add bytes rest v)
    ∙ ap (λ (x : ℕ). (bytes ++ take v rest) ++ (escaped_byte x ++ valid_utf8 (drop (n + 1) (bytes ++ rest)))) (get_or-append-add bytes rest v 0)
    ∙ ap (λ (x : List ℕ). (bytes ++ take v rest) ++ (escaped_byte (slice_index rest v) ++ valid_utf8 x)) past
    ∙ append_assoc bytes (take v rest) (escaped_byte (slice_index rest v) ++ tail)
    ∙ ap (λ (x : List ℕ). bytes ++ x) (sym (valid_step rest v refl short)))
    (λ (all : length rest ≤ v).
    let valid : IsUtf8 rest = subst IsUtf8 (take_all v rest all) (longest_valid rest) in
    valid_all (bytes ++ rest) (IsUtf8-append bytes rest (IsUtf8-encode c is) valid)
    ∙ ap (λ (x : List ℕ). bytes ++ x) (sym (valid_all rest valid)))
    (cases_lt v (length rest))

-- ---- a byte at which none begins

none_front : (b : ℕ) (rest : List ℕ) (m : ℕ) (cs : List ℕ) → (Begins (b ∷ rest) → ⊥) → 0 < m → all_scalars cs ≡ true
    → encode_utf8_all cs ≡ take m (b ∷ rest) → ⊥
none_front b rest zero cs none more is e = absurd (omega (arith, more))
none_front b rest (suc m) [] none more is e = cc
none_front b rest (suc m) (c ∷ cs) none more is e =
    let all : List ℕ = b ∷ rest in
    none (record {
      char = c;
      after = encode_utf8_all cs ++ drop (suc m) all;
      is = (and_parts (scalar c) (all_scalars cs) is).0;
      whole =
          sym (take-append-drop (suc m) all) ∙ ap (λ (x : List ℕ). x ++ drop (suc m) all) (sym e)
          ∙ append_assoc (encode_utf8 c) (encode_utf8_all cs) (drop (suc m) all);
    })

none_valid : (b : ℕ) (rest : List ℕ) → (Begins (b ∷ rest) → ⊥) → IsValidUpTo (b ∷ rest) 0
none_valid b rest none = record {
  short = omega arith;
  front = IsUtf8-nil;
  longest = λ m more valid. none_front b rest m valid.0 none more valid.1.0 valid.1.1;
}

bad_escaped : (b : ℕ) (rest : List ℕ) → (Begins (b ∷ rest) → ⊥) → valid_utf8 (b ∷ rest) ≡ escaped_byte b ++ valid_utf8 rest
bad_escaped b rest none = valid_step (b ∷ rest) 0 (sym (utf8_valid_len-IsValidUpTo (b ∷ rest) 0 (none_valid b rest none))) (omega arith)

same_digit : (d : ℕ) → digit d 97 ≡ lower d
same_digit d = by_test (nat_lt d 10) refl
  where
    by_test : (t : Bool) → nat_lt d 10 ≡ t → cond t (48 + d) (97 + (d - 10)) ≡ cond t (48 + d) (87 + d)
    by_test true e = refl
    by_test false e = let high : 10 ≤ d = grind (arith, nat_tests) in omega (arith, high)

same_escape : (b : ℕ) → flat_map backslashed (b ∷ []) ≡ escaped_byte b
same_escape b =
    ap (λ (x : ℕ). 92 ∷ 120 ∷ x ∷ digit (b % 16) 97 ∷ []) (same_digit (b / 16))
    ∙ ap (λ (x : ℕ). 92 ∷ 120 ∷ lower (b / 16) ∷ x ∷ []) (same_digit (b % 16))

-- ---- whole texts

nothing_shown : (sets : Sets) (kind : TextKind) → flat_map cell_piece (decoded_from sets kind (start_of sets) []) ≡ valid_utf8 []
unfolding decoded_from valid_utf8
nothing_shown sets kind = refl

cells_by : (n : ℕ) (sets : Sets) (kind : TextKind) (text : List ℕ) → IsUtf8InForce sets → length text ≤ n
    → flat_map cell_piece (decoded_from sets kind (start_of sets) text) ≡ valid_utf8 text
cells_by n sets kind [] u l = nothing_shown sets kind
cells_by zero sets kind (b ∷ rest) u l = absurd (omega (arith, l))
cells_by (suc n) sets kind (b ∷ rest) u l = by_start (by_first sets kind b rest u) (λ after fewer. cells_by n sets kind after u fewer)
  where
    by_start : Begins (b ∷ rest) ⊎ IsBad sets kind (b ∷ rest)
        → ((after : List ℕ) → length after ≤ n → flat_map cell_piece (decoded_from sets kind (start_of sets) after) ≡ valid_utf8 after)
        → flat_map cell_piece (decoded_from sets kind (start_of sets) (b ∷ rest)) ≡ valid_utf8 (b ∷ rest)
    by_start (inl h) shown =
        let bytes : List ℕ = encode_utf8 h.char in
        let some : 1 ≤ length bytes = omega (arith, length-encode h.char, (len_utf8_bounds h.char).0) in
        let size : length (b ∷ rest) ≡ length bytes + length h.after = ap length h.whole ∙ length-append bytes h.after in
        ap (λ (x : List ℕ). flat_map cell_piece (decoded_from sets kind (start_of sets) x)) h.whole
        ∙ ap (flat_map cell_piece) (char_ahead sets kind h.char h.after u h.is)
        ∙ ap (λ (x : List ℕ). bytes ++ x) (shown h.after (omega (arith, some, size, l)))
        ∙ sym (char_stays h.char h.after h.is)
        ∙ ap valid_utf8 (sym h.whole)
    by_start (inr bad) shown =
        ap (flat_map cell_piece) (bad_ahead sets kind b rest bad)
        ∙ ap (λ (x : List ℕ). x ++ flat_map cell_piece (decoded_from sets kind (start_of sets) rest)) (same_escape b)
        ∙ ap (λ (x : List ℕ). escaped_byte b ++ x) (shown rest (omega (arith, l)))
        ∙ sym (bad_escaped b rest (none_begins sets kind b rest u bad))

pub cell_of_utf8 : (sets : Sets) (kind : TextKind) (text : List ℕ) → IsUtf8InForce sets → cell sets kind text ≡ valid_utf8 text
unfolding cell decoded
cell_of_utf8 sets kind text u = cells_by (length text) sets kind text u (omega arith)

-- ---- cells

by_kind : (kind : Option TextKind) (sets : Sets) (text : List ℕ) → IsUtf8InForce sets → text_by kind Decoded sets text ≡ valid_utf8 text
by_kind (Some kind) sets text u = cell_of_utf8 sets kind text u
by_kind None sets text u = refl

by_quotes : (t : Bool) (sets : Sets) (vr : Vr) (value : List ℕ) → IsUtf8InForce sets → value_parts t Decoded sets vr value ≡ value_parts t ValidUtf8 sets vr value
by_quotes true sets vr value u = ap (λ (x : List ℕ). some_bytes (quoted x) ∷ []) (by_kind (kind_of vr) sets (without_pads value) u)
by_quotes false sets vr value u = refl

pub utf8_as_before : (sets : Sets) (shown : Vr) (value : List ℕ) → IsUtf8InForce sets
    → cell_parts Decoded sets (whole shown value) ≡ cell_parts ValidUtf8 sets (whole shown value)
utf8_as_before sets shown value u = by_quotes (is_quoted_text shown) sets shown value u
