-- Eight spaces are passed at a time.
use Rattle.std.proofs.Common.{◌≡◌, ◌∙◌, ap, sym, ℕ, ◌<◌, List, ◌++◌, length, take, drop, get_or, take-append-drop}
use Rattle.std.specs.Int.{from_le_bytes, w64}
use Rattle.std.proofs.lemmas.Nat.{le_bytes_8}
use Rattle.dcm_base.specs.Lines.Line.{without_spaces}
use Rattle.dcm_build.specs.LineShown.{eight_spaces}

pub are_eight : (bytes : List ℕ) → length bytes ≡ 8 → ((i : ℕ) → get_or bytes i 0 < 256) → 2314885530818453536 ≡ from_le_bytes w64 bytes → bytes ≡ eight_spaces
are_eight bytes size small is = sym (le_bytes_8 bytes 2314885530818453536 size small is)

pub eight_passed : (n : ℕ) (rest front after : List ℕ) → front ≡ take n rest → after ≡ drop n rest → front ≡ eight_spaces → without_spaces rest ≡ without_spaces after
eight_passed n rest front after first then spaces =
    ap without_spaces (sym (take-append-drop n rest))
    ∙ ap (λ (xs : List ℕ). without_spaces (xs ++ drop n rest)) (sym first ∙ spaces)
    ∙ ap without_spaces (sym then)
