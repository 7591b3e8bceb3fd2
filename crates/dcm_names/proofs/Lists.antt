-- The lines of a list, piece by piece.
use Rattle.std.proofs.Common.{◌≡◌, ◌∙◌, ap, sym, refl, ℕ, suc, zero, List, [], ◌∷◌, ◌++◌, append_assoc, take, drop, Bool, true, false, arith}
use Rattle.std.specs.Prelude.{Some, None}
use Rattle.std.proofs.lemmas.List.{append-nil}
use Rattle.dcm_names.specs.Names.{open_line, ended_lines, is_newline, IsNewline}

-- ---- two pieces

lines_newline : (line bs : List ℕ) (b : ℕ) → is_newline b ≡ true → ended_lines line (b ∷ bs) ≡ line ∷ ended_lines [] bs
lines_newline line bs b e = rw (e, ended_lines) refl

lines_byte : (line bs : List ℕ) (b : ℕ) → is_newline b ≡ false → ended_lines line (b ∷ bs) ≡ ended_lines (line ++ b ∷ []) bs
lines_byte line bs b e = rw (e, ended_lines) refl

open_newline : (line bs : List ℕ) (b : ℕ) → is_newline b ≡ true → open_line line (b ∷ bs) ≡ open_line [] bs
open_newline line bs b e = rw (e, open_line) refl

open_byte : (line bs : List ℕ) (b : ℕ) → is_newline b ≡ false → open_line line (b ∷ bs) ≡ open_line (line ++ b ∷ []) bs
open_byte line bs b e = rw (e, open_line) refl

lines_by : (t : Bool) (line front back : List ℕ) (b : ℕ) → is_newline b ≡ t
    → ended_lines [] (front ++ back) ≡ ended_lines [] front ++ ended_lines (open_line [] front) back
    → ended_lines (line ++ b ∷ []) (front ++ back) ≡ ended_lines (line ++ b ∷ []) front ++ ended_lines (open_line (line ++ b ∷ []) front) back
    → ended_lines line (b ∷ front ++ back) ≡ ended_lines line (b ∷ front) ++ ended_lines (open_line line (b ∷ front)) back
lines_by true line front back b e ended goes =
    lines_newline line (front ++ back) b e
    ∙ ap (λ ls. line ∷ ls) ended
    ∙ ap (λ ls. ls ++ ended_lines (open_line [] front) back) (sym (lines_newline line front b e))
    ∙ ap (λ l. ended_lines line (b ∷ front) ++ ended_lines l back) (sym (open_newline line front b e))
lines_by false line front back b e ended goes =
    lines_byte line (front ++ back) b e
    ∙ goes
    ∙ ap (λ ls. ls ++ ended_lines (open_line (line ++ b ∷ []) front) back) (sym (lines_byte line front b e))
    ∙ ap (λ l. ended_lines line (b ∷ front) ++ ended_lines l back) (sym (open_byte line front b e))

open_by : (t : Bool) (line front back : List ℕ) (b : ℕ) → is_newline b ≡ t
    → open_line [] (front ++ back) ≡ open_line (open_line [] front) back
    → open_line (line ++ b ∷ []) (front ++ back) ≡ open_line (open_line (line ++ b ∷ []) front) back
    → open_line line (b ∷ front ++ back) ≡ open_line (open_line line (b ∷ front)) back
open_by true line front back b e ended goes = open_newline line (front ++ back) b e ∙ ended ∙ ap (λ l. open_line l back) (sym (open_newline line front b e))
open_by false line front back b e ended goes = open_byte line (front ++ back) b e ∙ goes ∙ ap (λ l. open_line l back) (sym (open_byte line front b e))

pub lines_of_two : (line front back : List ℕ) → ended_lines line (front ++ back) ≡ ended_lines line front ++ ended_lines (open_line line front) back
lines_of_two line [] back = refl
lines_of_two line (b ∷ front) back = lines_by (is_newline b) line front back b refl (lines_of_two [] front back) (lines_of_two (line ++ b ∷ []) front back)

pub open_of_two : (line front back : List ℕ) → open_line line (front ++ back) ≡ open_line (open_line line front) back
open_of_two line [] back = refl
open_of_two line (b ∷ front) back = open_by (is_newline b) line front back b refl (open_of_two [] front back) (open_of_two (line ++ b ∷ []) front back)

-- ---- up to a newline, or without one

pub no_newline : (line bs : List ℕ) → IsNewline bs None → (ended_lines line bs ≡ []) × (open_line line bs ≡ line ++ bs)
no_newline line [] none = (refl, sym (append-nil line))
no_newline line (b ∷ bs) none =
    let first : is_newline b ≡ false = none 0 (omega arith) in
    let more = no_newline (line ++ b ∷ []) bs (λ k h. none (suc k) (omega (arith, h))) in
    (lines_byte line bs b first ∙ more.0, open_byte line bs b first ∙ more.1 ∙ append_assoc line (b ∷ []) bs)

pub at_newline : (line bs : List ℕ) (at : ℕ) → IsNewline bs (Some at)
    → (ended_lines line bs ≡ (line ++ take at bs) ∷ ended_lines [] (drop (suc at) bs)) × (open_line line bs ≡ open_line [] (drop (suc at) bs))
at_newline line [] at is = absurd (omega (arith, is.0))
at_newline line (b ∷ bs) zero is =
    (lines_newline line bs b is.1 ∙ ap (λ l. l ∷ ended_lines [] bs) (sym (append-nil line)), open_newline line bs b is.1)
at_newline line (b ∷ bs) (suc at) is =
    let first : is_newline b ≡ false = is.2 0 (omega arith) in
    let more = at_newline (line ++ b ∷ []) bs at (omega (arith, is.0), is.1, λ k h. is.2 (suc k) (omega (arith, h))) in (
      lines_byte line bs b first ∙ more.0 ∙ ap (λ l. l ∷ ended_lines [] (drop (suc at) bs)) (append_assoc line (b ∷ []) (take at bs)),
      open_byte line bs b first ∙ more.1,
    )
