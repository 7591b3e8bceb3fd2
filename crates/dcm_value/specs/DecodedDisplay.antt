-- What a dump shows of a whole value by Specific Character Set.
use Rattle.std.specs.Prelude.{ℕ, ◌+◌, Bool, true, false, flat_map, nat_lt, if◌then◌else◌, List, [], ◌∷◌, ◌++◌, length, take, codes}
use Rattle.dcm_base.specs.declared.vr.Vr.{Vr}
use Rattle.dcm_base.specs.declared.mode.Mode.{Mode}
use Rattle.dcm_base.specs.declared.mode.Mode.TheVariants.{Short, Full}
use Rattle.dcm_base.specs.Dump.ValueText.{is_single, unpadded, padded}
use Rattle.dcm_text.specs.declared.sets.Sets.{Sets}
use Rattle.dcm_text.specs.Decoding.{Piece, decoded}
use Rattle.dcm_text.specs.Runs.{begun, run}
use Rattle.dcm_text.specs.Shown.{dumped, dumped_piece}
use Rattle.dcm_value.specs.Decoded.{backslashes, cut_size}
use Rattle.dcm_value.specs.DecodedProgress.{sets_for, kind_of, is_named, decoded_identified, shown_pieces}

-- without the pad byte, by its name or in brackets
abbrev pub decoded_shown : Vr → Sets → List ℕ → List ℕ
decoded_shown vr sets v =
    if is_named vr (length v) then decoded_identified (unpadded vr v)
    else codes "[" ++ dumped (sets_for vr sets) (kind_of vr) (unpadded vr v) ++ codes "]"

abbrev pub decoded_display : Vr → Sets → List ℕ → List ℕ
decoded_display vr sets [] = codes "(no value available)"
decoded_display vr sets (b ∷ bs) = decoded_shown vr sets (b ∷ bs)

-- one value, and one more behind each backslash that is a character
abbrev pub decoded_count : Vr → Sets → List ℕ → ℕ
decoded_count vr sets [] = 0
decoded_count vr sets (b ∷ bs) =
    if is_single vr then 1 else 1 + backslashes (decoded (sets_for vr sets) (kind_of vr) (unpadded vr (b ∷ bs)))

-- a long display is cut, and no character of it
abbrev pub decoded_shortened : Mode → List ℕ → List ℕ
decoded_shortened Short d = if nat_lt 66 (length d) then take (cut_size d) d ++ codes "..." else d
decoded_shortened Full d = d

abbrev pub decoded_text_of : Mode → Vr → Sets → List ℕ → List ℕ
decoded_text_of mode vr sets v = padded (decoded_shortened mode (decoded_display vr sets v))

-- what is shown of a value of the declared size while bytes are missing
abbrev pub decoded_so_far : Vr → Sets → ℕ → List ℕ → List ℕ
decoded_so_far vr sets size v =
    if is_named vr size then [] else codes "[" ++ shown_pieces (run false (begun (sets_for vr sets) (kind_of vr)) v)

-- pieces of a text, in brackets
abbrev pub bracketed_pieces : List Piece → List ℕ
bracketed_pieces pieces = codes "[" ++ flat_map dumped_piece pieces ++ codes "]"

abbrev pub is_short : Mode → Bool
is_short Short = true
is_short Full = false
