-- What a value of Specific Character Set (0008,0005) names (PS3.3 C.12.1.1.2).
use Rattle.std.specs.Prelude.{ℕ, ◌^◌, Bool, true, false, ◌||◌, ◌==◌, nat_lt, List, [], ◌∷◌, map, find, fold, length, bytes_eq}
use Rattle.std.specs.Prelude.{Option, is_some, option_map, unwrap_or, if◌then◌else◌}
use Rattle.std.specs.List.{list_all, slice_split}
use Rattle.std.specs.Int.{bit_at}
use Rattle.std.specs.Int.Bits.{bit_or}
use Rattle.dcm_text.specs.declared.characters.Single.TheVariants.{Ir13, Ir100, Ir101, Ir109, Ir110, Ir126, Ir127, Ir138, Ir144, Ir148, Ir166, Ir203}
use Rattle.dcm_text.specs.declared.set.Set.{Set}
use Rattle.dcm_text.specs.declared.set.Set.TheVariants as set
use Rattle.dcm_text.specs.declared.set.Right.{Right}
use Rattle.dcm_text.specs.declared.set.Right.TheVariants as right
use Rattle.dcm_text.specs.declared.sets.Sets.{Sets}
use Rattle.dcm_text.specs.declared.sets.TheConstants.{TERMS, ASCII_ALONE}

-- a term, what it names, and whether it brings code extensions where it stands alone
abbrev pub Term : Type 0
Term = List ℕ × Set × Bool

unfoldable pub terms : List Term
terms = map (λ t. (t.0.now, t.1, t.2)) TERMS

abbrev pub named_in : List Term → List ℕ → Option (Set × Bool)
named_in rows term = option_map (λ t. (t.1, t.2)) (find (λ t. bytes_eq t.0 term) rows)

-- the place of the flag of a set
abbrev pub place : Set → ℕ
place (set.Single Ir13) = 0
place (set.Single Ir100) = 1
place (set.Single Ir101) = 2
place (set.Single Ir109) = 3
place (set.Single Ir110) = 4
place (set.Single Ir126) = 5
place (set.Single Ir127) = 6
place (set.Single Ir138) = 7
place (set.Single Ir144) = 8
place (set.Single Ir148) = 9
place (set.Single Ir166) = 10
place (set.Single Ir203) = 11
place set.Ir87 = 12
place set.Ir149 = 13
place set.Ir58 = 14
place set.Ir159 = 15
place set.Ascii = 16
place set.Gb18030 = 16
place set.Utf8 = 16

-- whether the flag of a set is among flags, which are the bits of a number
abbrev pub has_flag : (flags : ℕ) → Set → Bool
has_flag flags s = bit_at flags (place s) == 1

-- whether a set was named, so that it may be designated; ASCII always may
abbrev pub has : Sets → Set → Bool
has sets s = has_flag sets.named s

-- ---- one term

-- spaces before a term do not count
abbrev pub without_spaces : List ℕ → List ℕ
without_spaces [] = []
without_spaces (b ∷ bs) = if b == 0x20 then without_spaces bs else b ∷ bs

-- nor do bytes 00 and spaces after it
abbrev pub is_pad : ℕ → Bool
is_pad b = (b == 0) || (b == 0x20)

abbrev pub onto : ℕ → List ℕ → List ℕ
onto b [] = if is_pad b then [] else b ∷ []
onto b (c ∷ cs) = b ∷ c ∷ cs

abbrev pub without_pads : List ℕ → List ℕ
without_pads [] = []
without_pads (b ∷ bs) = onto b (without_pads bs)

abbrev pub trimmed : List ℕ → List ℕ
trimmed term = without_pads (without_spaces term)

-- what it names, and whether it brings code extensions where it stands alone: what is no term names what the empty one
-- does
abbrev pub named : List ℕ → Set × Bool
named term = unwrap_or (named_in terms (trimmed term)) (set.Ascii, false)

-- what bytes from 80 on mean at first
abbrev pub start_of : Set → Right
start_of set.Ascii = right.Nothing
start_of (set.Single s) = right.Single s
start_of set.Ir87 = right.Nothing
start_of set.Ir149 = right.Ir149
start_of set.Ir58 = right.Ir58
start_of set.Ir159 = right.Nothing
start_of set.Gb18030 = right.Gb18030
start_of set.Utf8 = right.Utf8

abbrev pub with_flag : (flags : ℕ) → Set → ℕ
with_flag flags s = bit_or flags (2 ^ place s)

-- ---- the terms of a value

abbrev pub of_first : List ℕ → Sets
of_first term =
    let n = named term in record { start = start_of n.0; extended = n.1; named = with_flag ASCII_ALONE n.0 }

-- a set that stands alone
abbrev pub is_alone : Right → Bool
is_alone right.Nothing = false
is_alone (right.Single s) = false
is_alone right.Ir149 = false
is_alone right.Ir58 = false
is_alone right.Gb18030 = true
is_alone right.Utf8 = true

-- with one more term code extensions are in use, and what it names may be designated; beside a set that stands alone
-- it is ignored
abbrev pub with_term : Sets → List ℕ → Sets
with_term sets term =
    if is_alone sets.start then sets
    else record { start = sets.start; extended = true; named = with_flag sets.named (named term).0 }

abbrev pub of_terms : List (List ℕ) → Sets
of_terms [] = of_first []
of_terms (term ∷ terms) = fold with_term (of_first term) terms

-- terms stand between backslashes
abbrev pub terms_of : List ℕ → List (List ℕ)
terms_of value = slice_split (λ b. b == 0x5C) value

-- what a value names: one of more than 512 bytes names what the empty one does
unfoldable pub sets_of : List ℕ → Sets
sets_of value = if nat_lt 512 (length value) then of_first [] else of_terms (terms_of value)

-- ---- what is not known

-- a term of the table; so is an empty one
abbrev pub is_term : List ℕ → Bool
is_term term = is_some (named_in terms (trimmed term))

-- what a value names is known: it has at most 512 bytes, and each of its terms is one
unfoldable pub is_known : List ℕ → Bool
is_known value = if nat_lt 512 (length value) then false else list_all is_term (terms_of value)
