-- Bytes in base64 (RFC 4648, section 4), written as they come.
use Rattle.std.specs.Prelude.{ℕ, List, ◌++◌}
use Rattle.base64.specs.Engines.{standard}
use Rattle.base64.specs.GeneralPurpose.{encode_of}
use Rattle.dcm_base.specs.Tree.Value.{rest_part, whole_part}

-- bytes that make no whole group of three wait
abbrev pub fed : (held : List ℕ) → List ℕ → List ℕ
fed held bytes = rest_part 3 (held ++ bytes)

abbrev pub feeds : (held : List ℕ) → List ℕ → List ℕ
feeds held bytes = encode_of standard (whole_part 3 (held ++ bytes))

abbrev pub finishes : (held : List ℕ) → List ℕ
finishes held = encode_of standard held
