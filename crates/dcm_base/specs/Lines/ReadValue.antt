-- The value that a text stands for, in a dump or in an edit.
use Rattle.std.specs.Prelude.{ℕ, List, [], ◌∷◌, ◌++◌, length, take, drop, Option, Some, None, Bool, true, false, ◌&&◌}
use Rattle.std.specs.Prelude.{◌||◌, ◌==◌, nat_le, nat_lt, ◌+◌, ◌-◌, ◌*◌, ◌^◌, ◌%◌, if◌then◌else◌, codes, bytes_eq}
use Rattle.std.specs.Char.{digit_value}
use Rattle.std.specs.List.{slice_split}
use Rattle.std.specs.Str.{byte}
use Rattle.byteorder.specs.Endian.{little_bytes}
use Rattle.dcm_base.specs.declared.tag.Tag.{Tag}
use Rattle.dcm_base.specs.declared.vr.Vr.{Vr}
use Rattle.dcm_base.specs.declared.vr.Vr.TheVariants.{SQ}
use Rattle.dcm_base.specs.Tables.Representation.{unit}
use Rattle.dcm_base.specs.Tables.Uid.{uid_of}
use Rattle.dcm_base.specs.Dump.ValueText.{Shape, text, identifier, unsigned, signed, tags, hexadecimal, shape, unpadded}

-- each step fails or goes on
infixl 10 ◌>>=◌
abbrev pub ◌>>=◌ : {A B : Type 0} → Option A → (A → Option B) → Option B
None >>= f = None
(Some x) >>= f = f x

abbrev pub only_if : Bool → Option (List ℕ) → Option (List ℕ)
only_if b o = if b then o else None

-- a digit below the base, a letter in either case
abbrev pub digit : ℕ → ℕ → Option ℕ
digit base c = if nat_lt (digit_value c) base then Some (digit_value c) else None

-- the number that digits spell behind those so far, the highest first
abbrev pub number_in : ℕ → ℕ → List ℕ → Option ℕ
number_in base so_far [] = Some so_far
number_in base so_far (c ∷ cs) = digit base c >>= λ d. number_in base (so_far * base + d) cs

-- 1 to 20 decimal digits
abbrev pub decimal_number : List ℕ → Option ℕ
decimal_number cs = if nat_le 1 (length cs) && nat_le (length cs) 20 then number_in 10 0 cs else None

-- just so many hexadecimal digits
abbrev pub hex_number : ℕ → List ℕ → Option ℕ
hex_number digits cs = if length cs == digits then number_in 16 0 cs else None

-- a number of a size in bytes, within the range of that size
abbrev pub unsigned_value : ℕ → List ℕ → Option (List ℕ)
unsigned_value size cs = decimal_number cs >>= λ n. only_if (nat_lt n (256 ^ size)) (Some (little_bytes size n))

abbrev pub positive_value : ℕ → List ℕ → Option (List ℕ)
positive_value size cs = decimal_number cs >>= λ n. only_if (nat_lt (2 * n) (256 ^ size)) (Some (little_bytes size n))

-- behind its sign
abbrev pub negative_value : ℕ → List ℕ → Option (List ℕ)
negative_value size cs = decimal_number cs >>= λ n. only_if (nat_le (2 * n) (256 ^ size))
    (Some (little_bytes size ((256 ^ size - n) % 256 ^ size)))

abbrev pub signed_value : ℕ → List ℕ → Option (List ℕ)
signed_value size [] = None
signed_value size (c ∷ cs) = if c == byte "-" then negative_value size cs else positive_value size (c ∷ cs)

-- a tag, as (gggg,eeee)
abbrev pub tag_of_text : List ℕ → Option Tag
tag_of_text cs =
    if length cs == 11 && bytes_eq (take 1 cs) (codes "(") && bytes_eq (take 1 (drop 5 cs)) (codes ",")
    && bytes_eq (drop 10 cs) (codes ")")
    then (hex_number 4 (take 4 (drop 1 cs)) >>= λ group. hex_number 4 (take 4 (drop 6 cs)) >>= λ element. Some
    (record { group = group; element = element }))
    else None

abbrev pub tag_value : List ℕ → Option (List ℕ)
tag_value cs = tag_of_text cs >>= λ tag. Some (little_bytes 2 tag.group ++ little_bytes 2 tag.element)

-- two digits a byte, the highest first
abbrev pub hex_value : ℕ → List ℕ → Option (List ℕ)
hex_value size cs = hex_number (2 * size) cs >>= λ n. Some (little_bytes size n)

-- the parts between backslashes, each read by itself
abbrev pub each_part : (List ℕ → Option (List ℕ)) → List (List ℕ) → Option (List ℕ)
each_part read [] = Some []
each_part read (part ∷ parts) = read part >>= λ bytes. each_part read parts >>= λ more. Some (bytes ++ more)

abbrev pub joined : (List ℕ → Option (List ℕ)) → List ℕ → Option (List ℕ)
joined read cs = each_part read (slice_split (λ c. c == byte "\\") cs)

-- the bytes of a text up to its closing bracket, with which it ends; % and two digits stand for a byte
abbrev pub bracketed_value : List ℕ → Option (List ℕ)
bracketed_value [] = None
bracketed_value (c ∷ []) = if c == byte "]" then Some [] else None
bracketed_value (c ∷ d ∷ []) =
    let plain = bracketed_value (d ∷ []) >>= λ more. Some (c ∷ more) in
    if c == byte "]" || c == byte "%" then None else plain
bracketed_value (c ∷ d ∷ e ∷ cs) =
    let plain = bracketed_value (d ∷ e ∷ cs) >>= λ more. Some (c ∷ more) in
    let escaped = hex_number 2 (d ∷ e ∷ []) >>= λ b. bracketed_value cs >>= λ more. Some (b ∷ more) in
    if c == byte "]" then None else (if c == byte "%" then escaped else plain)

abbrev pub text_value : List ℕ → Option (List ℕ)
text_value [] = None
text_value (c ∷ cs) = if c == byte "[" then bracketed_value cs else None

-- = and the name of an identifier, or its text
abbrev pub uid_value : List ℕ → Option (List ℕ)
uid_value [] = None
uid_value (c ∷ cs) = if c == byte "=" then uid_of cs else text_value (c ∷ cs)

-- a value in this shape, of units of this size
abbrev pub value_in : Shape → ℕ → List ℕ → Option (List ℕ)
value_in text size cs = text_value cs
value_in identifier size cs = uid_value cs
value_in unsigned size cs = joined (unsigned_value size) cs
value_in signed size cs = joined (signed_value size) cs
value_in tags size cs = joined tag_value cs
value_in hexadecimal size cs = joined (hex_value size) cs

abbrev pub is_no_value : List ℕ → Bool
is_no_value cs = bytes_eq cs (codes "(no value available)")

-- the bytes of a value from a text or a word at most
abbrev pub VALUE_LIMIT : ℕ
VALUE_LIMIT = 65536

abbrev pub within_limit : List ℕ → Option (List ℕ)
within_limit v = only_if (nat_le (length v) VALUE_LIMIT) (Some v)

-- the value that the text of a dump stands for, in little endian order and without a pad byte; a sequence has none
abbrev pub value_of_text : Vr → List ℕ → Option (List ℕ)
value_of_text SQ cs = None
value_of_text vr cs = if is_no_value cs then Some [] else (value_in (shape vr) (unit vr) cs >>= within_limit)

-- whether a value is shown as its bytes, and given so in an edit
abbrev pub takes_bytes : Shape → Bool
takes_bytes text = true
takes_bytes identifier = true
takes_bytes _ = false

-- a value without the pad byte that its text drops
abbrev pub value_shown : Vr → List ℕ → List ℕ
value_shown vr v = if takes_bytes (shape vr) then unpadded vr v else v

-- the value that a word of an edit stands for
abbrev pub value_of_word : Vr → List ℕ → Option (List ℕ)
value_of_word vr [] = Some []
value_of_word vr (c ∷ cs) = if takes_bytes (shape vr) then within_limit (c ∷ cs) else value_of_text vr (c ∷ cs)
