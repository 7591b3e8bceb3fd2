-- What a transfer syntax says of a data set (PS3.5 annex A, PS3.6 annex A).
use Rattle.std.specs.Prelude.{◌==◌, ◌||◌, ℕ, Bool, true, false, List, [], ◌∷◌, codes, bytes_eq, Result, Ok, Err}
use Rattle.std.specs.Prelude.{if◌then◌else◌}
use Rattle.dcm_base.specs.declared.syntax.Coding.{Coding}
use Rattle.dcm_base.specs.declared.syntax.Syntax.{Syntax}
use Rattle.dcm_base.specs.Tables.Syntax.{Implicit, Little, Big}
use Rattle.dcm_base.specs.declared.transfer.Deflated.{Deflated}

abbrev pub is_pad : ℕ → Bool
is_pad byte = (byte == 0) || (byte == 32)

abbrev pub before_pads : ℕ → List ℕ → List ℕ
before_pads byte [] = if is_pad byte then [] else byte ∷ []
before_pads byte (next ∷ bytes) = byte ∷ next ∷ bytes

-- a value without the bytes 00 and 20 at its end
unfoldable pub without_pads : List ℕ → List ℕ
without_pads [] = []
without_pads (byte ∷ bytes) = before_pads byte (without_pads bytes)

abbrev pub is_deflated : List ℕ → Bool
is_deflated uid = bytes_eq uid (codes "1.2.840.10008.1.2.1.99") || bytes_eq uid (codes "1.2.840.10008.1.2.4.95")
    || bytes_eq uid (codes "1.2.840.10008.1.2.4.205")

abbrev pub native : Syntax → Coding
native s = record { syntax = s; encapsulated = false }

-- the coding of a data set, by its transfer syntax, read by the extract; a deflated one is refused
unfoldable pub coding_of : List ℕ → Result Coding Deflated
coding_of uid =
    if bytes_eq uid (codes "1.2.840.10008.1.2") then Ok (native Implicit)
    else if bytes_eq uid (codes "1.2.840.10008.1.2.1") then Ok (native Little)
    else if bytes_eq uid (codes "1.2.840.10008.1.2.2") then Ok (native Big)
    else if is_deflated uid then Err (record {})
    else Ok (record { syntax = Little; encapsulated = true })
