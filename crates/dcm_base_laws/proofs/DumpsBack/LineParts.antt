-- A line of a dump means what it shows: its parts.
use Rattle.std.proofs.Common.{◌≡◌, ℕ, zero, suc, ◌<◌, List, [], ◌∷◌, ◌++◌, take, drop, Option, Some, None, false, refl, ◌∙◌, ap, replicate}
use Rattle.std.specs.Prelude.{if◌then◌else◌, ◌==◌}
use Rattle.dcm_lemmas.proofs.Choice.{if_false}
use Rattle.dcm_base.specs.declared.tag.Tag.{Tag}
use Rattle.dcm_base.specs.Dump.ValueText.{tag_text, hex_word}
use Rattle.dcm_base.specs.Lines.ReadValue.{◌>>=◌, hex_number, tag_of_text}
use Rattle.dcm_base.specs.Lines.Line.{without_spaces, past_spaces, is_end, Parts, parts, comment_meaning, meaning_of, means}
use Rattle.dcm_base.proofs.DumpsBack.Numbers.{word_back}

abbrev pub tag_from : ℕ → ℕ → Tag
tag_from g e = record { group = g; element = e }

pub tag_text_back : (g e : ℕ) → g < 65536 → e < 65536 → tag_of_text (tag_text g e) ≡ Some (tag_from g e)
tag_text_back g e l m =
    ap (λ o. o >>= λ group. hex_number 4 (hex_word e) >>= λ element. Some (tag_from group element)) (word_back g l)
    ∙ ap (λ o. o >>= λ element. Some (tag_from g element)) (word_back e m)

-- ---- spaces

pub past_indent : (n : ℕ) (w : List ℕ) → without_spaces (replicate n 32 ++ w) ≡ without_spaces w
past_indent zero w = refl
past_indent (suc n) w = past_indent n w

stays : (c : ℕ) (r : List ℕ) → (c == 32) ≡ false → without_spaces (c ∷ r) ≡ c ∷ r
stays c r p = if_false (c == 32) _ _ p

-- ---- the parts of a line

-- two letters of which the first is no space
module _ (g e x y c : ℕ) (r : List ℕ) (g_small : g < 65536) (e_small : e < 65536) (x_letter : (x == 32) ≡ false) (c_field : (c == 32) ≡ false) (c_shows : (c == 35) ≡ false) where
  abbrev named : List ℕ
  named = x ∷ y ∷ 32 ∷ c ∷ r

  abbrev body : List ℕ
  body = tag_text g e ++ 32 ∷ named

  abbrev its_parts : Option Parts
  its_parts = Some (record { tag = tag_from g e; letters = x ∷ y ∷ []; rest = c ∷ r })

  rest_of : past_spaces (drop 2 named) ≡ Some (c ∷ r)
  rest_of = ap (λ z. Some z) (stays c r c_field)

  named_of : past_spaces (32 ∷ named) ≡ Some named
  named_of = ap (λ z. Some z) (stays x (y ∷ 32 ∷ c ∷ r) x_letter)

  parts_of_body : (o : Option Tag) → o ≡ Some (tag_from g e)
      → (o >>= λ tag. past_spaces (32 ∷ named) >>= λ n. past_spaces (drop 2 n) >>= λ rest. if is_end rest then None else Some (record { tag = tag; letters = take 2 n; rest = rest })) ≡ its_parts
  parts_of_body o p =
      ap (λ z. z >>= λ tag. past_spaces (32 ∷ named) >>= λ n. past_spaces (drop 2 n) >>= λ rest. if is_end rest then None else Some (record { tag = tag; letters = take 2 n; rest = rest })) p
      ∙ ap (λ z. z >>= λ n. past_spaces (drop 2 n) >>= λ rest. if is_end rest then None else Some (record { tag = tag_from g e; letters = take 2 n; rest = rest })) named_of
      ∙ ap (λ z. z >>= λ rest. if is_end rest then None else Some (record { tag = tag_from g e; letters = x ∷ y ∷ []; rest = rest })) rest_of
      ∙ if_false (c == 35) _ _ c_shows

  pub line_parts : (n : ℕ) → parts (replicate n 32 ++ body) ≡ its_parts
  line_parts n =
      ap (λ b. tag_of_text (take 11 b) >>= λ tag. past_spaces (drop 11 b) >>= λ m. past_spaces (drop 2 m) >>= λ rest. if is_end rest then None else Some (record { tag = tag; letters = take 2 m; rest = rest })) (past_indent n body)
      ∙ parts_of_body (tag_of_text (tag_text g e)) (tag_text_back g e g_small e_small)

  pub line_means : (n : ℕ) → means (replicate n 32 ++ body) ≡ meaning_of its_parts
  line_means n =
      ap (λ b. if is_end b then comment_meaning (replicate n 32 ++ body) else meaning_of (parts (replicate n 32 ++ body))) (past_indent n body)
      ∙ ap meaning_of (line_parts n)
