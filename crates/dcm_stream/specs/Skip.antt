-- What is open of an element or item that is left out.
use Rattle.std.specs.Prelude.{ℕ, zero, suc, min, Bool, true, false, if◌then◌else◌}
use Rattle.dcm_base.specs.Steps.Atoms.{Atom, opens, value_byte, closes_leaf, opens_item, closes_item, closes_sequence}
use Rattle.dcm_base.specs.Steps.Atoms.{opens_fragment, ends}
use Rattle.dcm_stream.specs.declared.skip.Skip.{Skip}

-- how many elements, items and fragments of it are open, with itself: none, where nothing is left out
abbrev pub depth : Skip → ℕ
depth s = s.depth

-- no depth goes on above this number, the greatest of 32 bits
abbrev pub MOST_DEEP : ℕ
MOST_DEEP = 4294967295

abbrev pub is_open : ℕ → Bool
is_open zero = false
is_open (suc n) = true

-- what opens is left out where that is asked, and within what is left out
abbrev pub opened : ℕ → (is_left_out : Bool) → ℕ
opened zero is_left_out = if is_left_out then 1 else 0
opened (suc n) is_left_out = min MOST_DEEP (suc (suc n))

abbrev pub closed : ℕ → ℕ
closed zero = 0
closed (suc n) = n

-- after an atom, which begins nothing that is left out
abbrev pub after : ℕ → Atom → ℕ
after n (opens tag vr declared s) = opened n false
after n (value_byte b) = n
after n closes_leaf = closed n
after n (opens_item declared) = opened n false
after n closes_item = closed n
after n closes_sequence = closed n
after n (opens_fragment size) = opened n false
after n ends = n
