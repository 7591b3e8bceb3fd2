-- The spaces that a line begins with are passed once.
use Rattle.std.proofs.Common.{◌≡◌, ◌∙◌, ap, refl, sym, ℕ, List, [], ◌∷◌, take, drop, Bool, true, false, cond, Option, None, Some}
use Rattle.std.specs.Prelude.{◌==◌, if◌then◌else◌}
use Rattle.dcm_base.specs.Lines.ReadValue.{◌>>=◌, tag_of_text}
use Rattle.dcm_base.specs.Lines.Line.{Parts, space, is_end, without_spaces, past_spaces, parts, comment_meaning, meaning_of, means}

by_test : (c : ℕ) (cs : List ℕ) (b : Bool) → (c == space) ≡ b → without_spaces (without_spaces cs) ≡ without_spaces cs
    → without_spaces (cond b (without_spaces cs) (c ∷ cs)) ≡ cond b (without_spaces cs) (c ∷ cs)
by_test c cs true e more = more
by_test c cs false e more = ap (λ (b : Bool). cond b (without_spaces cs) (c ∷ cs)) e

spaces_once : (cs : List ℕ) → without_spaces (without_spaces cs) ≡ without_spaces cs
spaces_once [] = refl
spaces_once (c ∷ cs) = by_test c cs (c == space) refl (spaces_once cs)

-- the parts of what begins with no space
abbrev parts_after : List ℕ → Option Parts
parts_after body =
    tag_of_text (take 11 body) >>= λ tag. past_spaces (drop 11 body) >>= λ named.
    past_spaces (drop 2 named) >>= λ rest.
    if is_end rest then None else Some (record { tag = tag; letters = take 2 named; rest = rest })

pub line_means : (line text : List ℕ) → text ≡ without_spaces line → is_end text ≡ false → means line ≡ meaning_of (parts text)
line_means line text passed more =
    ap (λ (b : Bool). cond b (comment_meaning line) (meaning_of (parts line))) (ap is_end (sym passed) ∙ more)
    ∙ ap (λ (body : List ℕ). meaning_of (parts_after body)) (sym (ap without_spaces passed ∙ spaces_once line))
