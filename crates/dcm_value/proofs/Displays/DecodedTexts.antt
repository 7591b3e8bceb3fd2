-- A text by Specific Character Set, part by part.
use Rattle.std.proofs.Common.{◌≡◌, ◌∙◌, sym, ap, ℕ, ◌+◌, true, List, [], ◌++◌, length, length-append, append_assoc, Some}
use Rattle.std.specs.Prelude.{flat_map, codes}
use Rattle.std.specs.Option.{option_map_or}
use Rattle.dcm_text.specs.declared.decoder.Decoder.{Decoder}
use Rattle.dcm_text.specs.declared.set.TextKind.TheVariants.{OneValue}
use Rattle.dcm_text.specs.Runs.{State, begun, run, state_of, bytes_left}
use Rattle.dcm_text.specs.Sets.{sets_of}
use Rattle.dcm_text.specs.Shown.{dumped, dumped_piece}
use Rattle.dcm_text.proofs.Runs.{whole_run}
use Rattle.dcm_base.specs.Tables.Uid.{uid_name}
use Rattle.dcm_value.specs.DecodedProgress.{decoded_identified, shown_pieces}

-- bytes that wait are among those that are left
pub bytes_are : (d : Decoder) (rest : List ℕ) → bytes_left d rest ≡ length (state_of d).held + length rest
unfolding bytes_left
bytes_are d rest = length-append (state_of d).held rest

-- the name of an identifier, or the identifier
pub decoded_named : (uid name : List ℕ) → Some name ≡ uid_name uid → decoded_identified uid ≡ codes "=" ++ name
decoded_named uid name e = ap (λ n. option_map_or (λ name. codes "=" ++ name) n (codes "[" ++ dumped (sets_of []) OneValue uid ++ codes "]")) (sym e)

-- a text as ASCII, part by part
pub ascii_run : (s : State) (uid shown : List ℕ) → s ≡ begun (sets_of []) OneValue → shown ≡ shown_pieces (run true s uid)
    → codes "[" ++ dumped (sets_of []) OneValue uid ++ codes "]" ≡ codes "[" ++ (shown ++ codes "]")
unfolding dumped
ascii_run s uid shown e h =
    let all : dumped (sets_of []) OneValue uid ≡ shown =
    ap (flat_map dumped_piece) (sym (whole_run (sets_of []) OneValue uid))
    ∙ ap (λ (x : State). shown_pieces (run true x uid)) (sym e)
    ∙ sym h
    in
    append_assoc (codes "[") (dumped (sets_of []) OneValue uid) (codes "]") ∙ ap (λ (x : List ℕ). codes "[" ++ (x ++ codes "]")) all
