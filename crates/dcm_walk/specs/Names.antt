-- Names and paths.
use Rattle.std.specs.Prelude.{ℕ, ◌==◌, ◌+◌, nat_le, Bool, true, false, not, ◌&&◌, ◌||◌, List, [], ◌∷◌, ◌++◌, codes, bytes_eq}
use Rattle.std.specs.Prelude.{if◌then◌else◌}

-- the most bytes of a path that the system takes
abbrev pub PATH_LIMIT : ℕ
PATH_LIMIT = 4095

-- the path of a name in a folder
abbrev pub below : (folder entry : List ℕ) → List ℕ
below folder entry = folder ++ codes "/" ++ entry

abbrev pub is_slash : ℕ → Bool
is_slash b = b == 47

abbrev pub is_dot : ℕ → Bool
is_dot b = b == 46

-- a part ends here: the name does, or a slash comes
abbrev pub ends_part : List ℕ → Bool
ends_part [] = true
ends_part (b ∷ bs) = is_slash b

-- a `.` that is left out, once
abbrev pub after_dot : List ℕ → List ℕ
after_dot [] = []
after_dot (b ∷ bs) = if is_dot b then bs else b ∷ bs

-- a part begins here that is neither empty nor `.` nor `..`
abbrev pub begins_part : List ℕ → Bool
begins_part bytes = not (ends_part bytes) && not (ends_part (after_dot bytes)) && not (ends_part (after_dot (after_dot bytes)))

-- there is no byte 00, and behind each slash such a part begins
abbrev pub goes_below : List ℕ → Bool
goes_below [] = true
goes_below (b ∷ bs) = not (b == 0) && (not (is_slash b) || begins_part bs) && goes_below bs

-- a relative name leads to something below the folder: no part of it is empty, `.` or `..`
abbrev pub leads_below : List ℕ → Bool
leads_below relative = begins_part relative && goes_below relative

-- a letter as a small one
abbrev pub small : ℕ → ℕ
small b = if nat_le 65 b && nat_le b 90 then b + 32 else b

-- the part file of a run begins so, in capitals or not
abbrev pub is_part_file : List ℕ → Bool
is_part_file (a ∷ b ∷ c ∷ d ∷ e ∷ f ∷ rest) =
    bytes_eq (small a ∷ small b ∷ small c ∷ small d ∷ small e ∷ small f ∷ []) (codes ".part.")
is_part_file _ = false
