-- Bytes of a line that has not ended, and the newline behind it.
use Rattle.std.proofs.Common.{◌≡◌, ◌∙◌, ap, sym, refl, ℕ, ◌+◌, ◌<◌, ◌≤◌, List, [], ◌∷◌, ◌++◌, length, Bool, true, false, cond, None, append_assoc, length-append, nat_lt, arith}
use Rattle.std.specs.Prelude.{fold, nat_le, ◌==◌}
use Rattle.std.specs.Str.{byte}
use Rattle.std.proofs.lemmas.Bool.Decides.{nat_tests}
use Rattle.std.proofs.lemmas.List.{append-nil}
use Rattle.dcm_lemmas.proofs.Numbers.{above_not_within}
use Rattle.dcm_base.specs.Reading.Reads.{INPUT_LIMIT}
use Rattle.dcm_base.specs.Steps.Steps.{outputs}
use Rattle.dcm_build.specs.declared.file.NewFile.{NewFile}
use Rattle.dcm_build.specs.Builder.{Plain, read, more}
use Rattle.dcm_build.specs.Building.{build_step, build_writes, line_taken, line_writes}
use Rattle.dcm_build.specs.NewFile.{LineAt, state}

in_line : {A : Type 0} (cut newline room : Bool) (a b c d : A) → cut ≡ false → newline ≡ false → room ≡ true → cond cut a (cond newline b (cond room c d)) ≡ c
in_line true newline room a b c d x y z = absurd (cc)
in_line false true room a b c d x y z = absurd (cc)
in_line false false true a b c d x y z = refl
in_line false false false a b c d x y z = absurd (cc)

has_room : (limit n : ℕ) → n < limit → nat_lt n limit ≡ true
has_room limit n h = grind (arith, nat_tests, h)

byte_taken : (f : NewFile) (at : LineAt) (b : ℕ) → (b == byte "\n") ≡ false → at.offset + length at.line < INPUT_LIMIT → length at.line < at.limit → build_step (state f at None) b ≡ state f (more at (b ∷ [])) None
byte_taken f at b plain within room =
    in_line (nat_le INPUT_LIMIT (at.offset + length at.line)) (b == byte "\n") (nat_lt (length at.line) at.limit) _ _ _ _ (above_not_within INPUT_LIMIT (at.offset + length at.line) within) plain (has_room at.limit (length at.line) room)

byte_silent : (f : NewFile) (at : LineAt) (b : ℕ) → (b == byte "\n") ≡ false → at.offset + length at.line < INPUT_LIMIT → build_writes (state f at None) b ≡ []
byte_silent f at b plain within = quiet (nat_le INPUT_LIMIT (at.offset + length at.line)) (b == byte "\n") _ (above_not_within INPUT_LIMIT (at.offset + length at.line) within) plain
  where
    quiet : (cut newline : Bool) (bs : List ℕ) → cut ≡ false → newline ≡ false → cond cut [] (cond newline bs []) ≡ []
    quiet true newline bs x y = refl
    quiet false true bs x y = absurd (cc)
    quiet false false bs x y = refl

-- bytes that end no line stand behind those that were there
pub line_grows : (f : NewFile) (at : LineAt) (bs : List ℕ) → Plain bs → at.offset + length at.line + length bs ≤ INPUT_LIMIT → length at.line + length bs ≤ at.limit → fold build_step (state f at None) bs ≡ state f (more at bs) None
line_grows f at [] plain within room = ap (λ l. state f (record at { line = l }) None) (sym (append-nil at.line))
line_grows f at (b ∷ bs) plain within room =
    let size : length (at.line ++ b ∷ []) ≡ length at.line + 1 = length-append at.line (b ∷ []) in
    ap (λ s. fold build_step s bs) (byte_taken f at b plain.0 (omega arith) (omega arith))
    ∙ line_grows f (more at (b ∷ [])) bs plain.1 (omega (arith, size, within)) (omega (arith, size, room))
    ∙ ap (λ l. state f (record at { line = l }) None) (append_assoc at.line (b ∷ []) bs)

pub line_silent : (f : NewFile) (at : LineAt) (bs : List ℕ) → Plain bs → at.offset + length at.line + length bs ≤ INPUT_LIMIT → length at.line + length bs ≤ at.limit → outputs build_step build_writes (state f at None) bs ≡ []
line_silent f at [] plain within room = refl
line_silent f at (b ∷ bs) plain within room =
    let size : length (at.line ++ b ∷ []) ≡ length at.line + 1 = length-append at.line (b ∷ []) in
    ap (λ w. w ++ outputs build_step build_writes (build_step (state f at None) b) bs) (byte_silent f at b plain.0 (omega arith))
    ∙ ap (λ s. outputs build_step build_writes s bs) (byte_taken f at b plain.0 (omega arith) (omega arith))
    ∙ line_silent f (more at (b ∷ [])) bs plain.1 (omega (arith, size, within)) (omega (arith, size, room))

-- ---- the newline behind a line

going_on : {A : Type 0} (cut : Bool) (a b : A) → cut ≡ false → cond cut a b ≡ b
going_on true a b e = absurd (cc)
going_on false a b e = refl

-- a newline ends the line
pub newline_taken : (f : NewFile) (at : LineAt) → read at < INPUT_LIMIT → build_step (state f at None) (byte "\n") ≡ line_taken (state f at None)
newline_taken f at within = going_on (nat_le INPUT_LIMIT (read at)) _ _ (above_not_within INPUT_LIMIT (read at) within)

pub newline_writes : (f : NewFile) (at : LineAt) → read at < INPUT_LIMIT → build_writes (state f at None) (byte "\n") ≡ line_writes (state f at None)
newline_writes f at within = going_on (nat_le INPUT_LIMIT (read at)) _ _ (above_not_within INPUT_LIMIT (read at) within)
