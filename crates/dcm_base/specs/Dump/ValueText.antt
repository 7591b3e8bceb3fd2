-- What a dump shows of a value.
use Rattle.std.specs.Prelude.{ℕ, ◌+◌, ◌-◌, ◌*◌, ◌/◌, ◌%◌, ◌^◌, ◌==◌, ◌&&◌, ◌||◌, nat_lt, nat_le, Bool, true, false}
use Rattle.std.specs.Prelude.{if◌then◌else◌, List, [], ◌∷◌, ◌++◌, length, take, drop, map, reverse, flat_map, count_by}
use Rattle.std.specs.Prelude.{replicate, slice_index, codes, decimal}
use Rattle.std.specs.List.{join_with_byte}
use Rattle.std.specs.Option.{option_map_or}
use Rattle.dcm_base.specs.declared.vr.Vr.{Vr}
use Rattle.dcm_base.specs.declared.vr.Vr.TheVariants.{AT, LT, OB, OD, OF, OL, OV, OW, SL, SS, ST, SV, UI, UL, UN, UR}
use Rattle.dcm_base.specs.declared.vr.Vr.TheVariants.{US, UT, UV}
use Rattle.dcm_base.specs.declared.mode.Mode.{Mode}
use Rattle.dcm_base.specs.declared.mode.Mode.TheVariants.{Short, Full}
use Rattle.dcm_base.specs.Tables.Representation.{is_text, unit, pad}
use Rattle.dcm_base.specs.Tables.Uid.{uid_name}
use Rattle.dcm_base.specs.Tree.Value.{units, number_of}

-- the forms in which values are shown
pub data Shape : Type 0 where
  text : Shape
  identifier : Shape
  unsigned : Shape
  signed : Shape
  tags : Shape
  hexadecimal : Shape

abbrev pub shape : Vr → Shape
shape UI = identifier
shape US = unsigned
shape UL = unsigned
shape UV = unsigned
shape SS = signed
shape SL = signed
shape SV = signed
shape AT = tags
shape vr = if is_text vr then text else hexadecimal

-- the bytes of what is shown and counted as one
abbrev pub shown_unit : Vr → ℕ
shown_unit AT = 4
shown_unit vr = unit vr

-- whether a value is one however long it is
abbrev pub is_single : Vr → Bool
is_single ST = true
is_single LT = true
is_single UT = true
is_single UR = true
is_single OB = true
is_single OW = true
is_single OD = true
is_single OF = true
is_single OL = true
is_single OV = true
is_single UN = true
is_single _ = false

-- how many values it holds
abbrev pub counted : Shape → Vr → List ℕ → ℕ
counted text vr v = 1 + count_by (λ b. b == 92) v
counted identifier vr v = 1 + count_by (λ b. b == 92) v
counted _ vr v = length v / shown_unit vr

abbrev pub count : Vr → List ℕ → ℕ
count vr [] = 0
count vr (b ∷ bs) = if is_single vr then 1 else counted (shape vr) vr (b ∷ bs)

-- the digits of a half byte
abbrev pub lower : ℕ → ℕ
lower d = if nat_lt d 10 then 48 + d else 87 + d

abbrev pub upper : ℕ → ℕ
upper d = if nat_lt d 10 then 48 + d else 55 + d

abbrev pub hex_byte : ℕ → List ℕ
hex_byte b = lower (b / 16) ∷ lower (b % 16) ∷ []

abbrev pub hex_word : ℕ → List ℕ
hex_word n = hex_byte (n / 256) ++ hex_byte (n % 256)

-- controls, the percent sign and the closing bracket are shown by their numbers
abbrev pub escape : ℕ → List ℕ
escape b = if nat_lt b 32 || b == 127 || b == 37 || b == 93 then 37 ∷ upper (b / 16) ∷ upper (b % 16) ∷ [] else b ∷ []

abbrev pub escaped : List ℕ → List ℕ
escaped v = flat_map escape v

-- without the pad byte that made it even
abbrev pub unpadded : Vr → List ℕ → List ℕ
unpadded vr v = if length v % 2 == 0 && slice_index v (length v - 1) == pad vr then take (length v - 1) v else v

abbrev pub bracketed : List ℕ → List ℕ
bracketed v = codes "[" ++ escaped v ++ codes "]"

-- the name of a unique identifier, or the identifier
abbrev pub identified : List ℕ → List ℕ
identified uid = option_map_or (λ name. codes "=" ++ name) (uid_name uid) (bracketed uid)

-- a number whose highest bit tells the sign
abbrev pub signed_text : ℕ → ℕ → List ℕ
signed_text bytes n = if nat_lt n (2 ^ (8 * bytes - 1)) then decimal n else codes "-" ++ decimal (2 ^ (8 * bytes) - n)

abbrev pub tag_text : ℕ → ℕ → List ℕ
tag_text group element = codes "(" ++ hex_word group ++ codes "," ++ hex_word element ++ codes ")"

-- one unit, in little endian order
abbrev pub unit_text : Shape → List ℕ → List ℕ
unit_text unsigned u = decimal (number_of u)
unit_text signed u = signed_text (length u) (number_of u)
unit_text tags u = tag_text (number_of (take 2 u)) (number_of (drop 2 u))
unit_text _ u = flat_map hex_byte (reverse u)

-- the whole units, with backslashes between
abbrev pub units_text : Shape → ℕ → List ℕ → List ℕ
units_text s k v = join_with_byte 92 (map (unit_text s) (units k v))

abbrev pub shown : Shape → Vr → List ℕ → List ℕ
shown text vr v = bracketed (unpadded vr v)
shown identifier vr v = identified (unpadded vr v)
shown s vr v = units_text s (shown_unit vr) v

-- a value in little endian order
abbrev pub display : Vr → List ℕ → List ℕ
display vr [] = codes "(no value available)"
display vr (b ∷ bs) = shown (shape vr) vr (b ∷ bs)

abbrev pub shortened : Mode → List ℕ → List ℕ
shortened Short d = if nat_lt 66 (length d) then take 63 d ++ codes "..." else d
shortened Full d = d

-- at least 40 bytes
abbrev pub padded : List ℕ → List ℕ
padded d = d ++ replicate (40 - length d) 32

abbrev pub text_of : Mode → Vr → List ℕ → List ℕ
text_of mode vr v = padded (shortened mode (display vr v))

-- what is shown of a value of the declared size while bytes are missing
abbrev pub shown_so_far : Shape → Vr → ℕ → List ℕ → List ℕ
shown_so_far text vr size v = codes "[" ++ escaped v
shown_so_far identifier vr size v = if nat_le size 64 then [] else codes "[" ++ escaped v
shown_so_far s vr size v = units_text s (shown_unit vr) v
