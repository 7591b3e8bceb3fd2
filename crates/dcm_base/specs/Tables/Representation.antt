-- The value representations (PS3.5 6.2, 7.1.2, 7.3).
use Rattle.std.specs.Prelude.{ℕ, Bool, true, false, ◌&&◌, nat_le, if◌then◌else◌, List, [], ◌∷◌, codes, find, Option}
use Rattle.std.specs.Prelude.{Some, None, option_map, unwrap_or, bytes_eq}
use Rattle.dcm_base.specs.declared.vr.Vr.{Vr}
use Rattle.dcm_base.specs.declared.vr.Vr.TheVariants.{AE, AS, AT, CS, DA, DS, DT, FD, FL, IS, LO, LT, OB, OD, OF, OL}
use Rattle.dcm_base.specs.declared.vr.Vr.TheVariants.{OV, OW, PN, SH, SL, SQ, SS, ST, SV, TM, UC, UI, UL, UN, UR, US}
use Rattle.dcm_base.specs.declared.vr.Vr.TheVariants.{UT, UV}
use Rattle.dcm_base.specs.declared.vr.TheConstants.{LETTERS}

-- whether an explicit head has two reserved bytes and a length of four
abbrev pub is_long : Vr → Bool
is_long OB = true
is_long OD = true
is_long OF = true
is_long OL = true
is_long OV = true
is_long OW = true
is_long SQ = true
is_long SV = true
is_long UC = true
is_long UN = true
is_long UR = true
is_long UT = true
is_long UV = true
is_long _ = false

-- the bytes of one unit, in which a big endian value is turned round
abbrev pub unit : Vr → ℕ
unit AT = 2
unit US = 2
unit SS = 2
unit OW = 2
unit UL = 4
unit SL = 4
unit FL = 4
unit OF = 4
unit OL = 4
unit FD = 8
unit OD = 8
unit OV = 8
unit SV = 8
unit UV = 8
unit _ = 1

-- whether a value is a text of characters; a unique identifier is none
abbrev pub is_text : Vr → Bool
is_text AE = true
is_text AS = true
is_text CS = true
is_text DA = true
is_text DS = true
is_text DT = true
is_text IS = true
is_text LO = true
is_text LT = true
is_text PN = true
is_text SH = true
is_text ST = true
is_text TM = true
is_text UC = true
is_text UR = true
is_text UT = true
is_text _ = false

-- the byte that makes an odd value even: a space after a text, and 00 after all others
abbrev pub pad : Vr → ℕ
pad vr = if is_text vr then 32 else 0

abbrev pub is_sequence : Vr → Bool
is_sequence SQ = true
is_sequence _ = false

-- the two letters
unfoldable pub letters : Vr → List ℕ
letters AE = codes "AE"
letters AS = codes "AS"
letters AT = codes "AT"
letters CS = codes "CS"
letters DA = codes "DA"
letters DS = codes "DS"
letters DT = codes "DT"
letters FD = codes "FD"
letters FL = codes "FL"
letters IS = codes "IS"
letters LO = codes "LO"
letters LT = codes "LT"
letters OB = codes "OB"
letters OD = codes "OD"
letters OF = codes "OF"
letters OL = codes "OL"
letters OV = codes "OV"
letters OW = codes "OW"
letters PN = codes "PN"
letters SH = codes "SH"
letters SL = codes "SL"
letters SQ = codes "SQ"
letters SS = codes "SS"
letters ST = codes "ST"
letters SV = codes "SV"
letters TM = codes "TM"
letters UC = codes "UC"
letters UI = codes "UI"
letters UL = codes "UL"
letters UN = codes "UN"
letters UR = codes "UR"
letters US = codes "US"
letters UT = codes "UT"
letters UV = codes "UV"

-- the value representation of two letters
unfoldable pub vr_of : List ℕ → Option Vr
vr_of l = option_map (λ r. r.0) (find (λ r. bytes_eq r.1 l) LETTERS)

abbrev pub is_capital : ℕ → Bool
is_capital a = nat_le 65 a && nat_le a 90

-- how two bytes are read in a head: other capitals are UN, and what is no capital is nothing
abbrev pub vr_read : ℕ → ℕ → Option Vr
vr_read a b = if is_capital a && is_capital b then Some (unwrap_or (vr_of (a ∷ b ∷ [])) UN) else None
