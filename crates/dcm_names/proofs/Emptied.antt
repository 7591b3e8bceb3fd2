-- The line of dates that were emptied.
use Rattle.std.proofs.Common.{◌≡◌, ◌≢◌, ℕ, zero, suc, List, refl}
use Rattle.dcm_names.specs.NamedLines.{emptied_line, emptied_lines}

-- where there are some there is a line
pub some_emptied : (name : List ℕ) (count : ℕ) → count ≢ 0 → emptied_line name count ≡ emptied_lines name count
some_emptied name zero none = absurd (none refl)
some_emptied name (suc n) none = refl
