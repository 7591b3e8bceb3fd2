-- The statements of the laws.
use Rattle.std.specs.Prelude.{◌≡◌, ℕ, ◌<◌, List, [], ◌∷◌, ◌++◌, codes, flat_map, fold, length, true, if◌then◌else◌}
use Rattle.std.specs.List.{AllByRecursion, concat}
use Rattle.dcm_base.specs.declared.vr.Vr.{Vr}
use Rattle.dcm_base.specs.Steps.Steps.{outputs}
use Rattle.dcm_text.specs.declared.sets.Sets.{Sets}
use Rattle.json.specs.Token.{string}
use Rattle.json.specs.Print.{escape, print_from, token_text}
use Rattle.dcm_base.specs.declared.syntax.Syntax.{Syntax}
use Rattle.dcm_table.specs.Parts.{Part, some_bytes}
use Rattle.base64.specs.Engines.{standard}
use Rattle.base64.specs.GeneralPurpose.{encode_of}
use Rattle.dcm_json.specs.Base64State as base64
use Rattle.dcm_json.specs.Numbers.{number_parts}
use Rattle.dcm_json.specs.NumberState as numbers
use Rattle.dcm_json.specs.NumberState.{NumberState}
use Rattle.dcm_json.specs.Texts.{text_tokens}
use Rattle.dcm_json.specs.TextState.{fed, feeds, finishes, started}

-- between the quotes of a string stand its pieces, one after another
abbrev pub StringsInPieces : Type 0
StringsInPieces =
    (pieces : List (List ℕ)) → codes "\"" ++ (flat_map escape pieces ++ codes "\"")
    ≡ token_text (string (flat_map (λ (piece : List ℕ). piece) pieces))

-- a text that comes in any pieces is written as the text of the tokens of its values, which stand behind another member
abbrev pub TextsInPieces : Type 0
TextsInPieces =
    (sets : Sets) (vr : Vr) (size : ℕ) (pieces : List (List ℕ)) → AllByRecursion (λ (p : List ℕ). 0 < length p) pieces
    → outputs fed feeds (started vr sets size) pieces ++ finishes (fold fed (started vr sets size) pieces)
    ≡ print_from true (text_tokens sets vr (concat pieces))

-- the end of an array of numbers, where there is one
abbrev pub end_parts : NumberState → List Part
end_parts n = if n.begun then some_bytes (codes "]") ∷ [] else []

-- numbers that come in any pieces are written as the whole units of all of them
abbrev pub NumbersInPieces : Type 0
NumbersInPieces =
    (s : Syntax) (vr : Vr) (pieces : List (List ℕ))
    → outputs numbers.fed numbers.feeds (numbers.started vr s) pieces
    ++ end_parts (fold numbers.fed (numbers.started vr s) pieces) ≡ number_parts s vr (concat pieces)

-- bytes that come in any pieces are written in base64 as all of them together
abbrev pub Base64InPieces : Type 0
Base64InPieces =
    (pieces : List (List ℕ)) → outputs base64.fed base64.feeds [] pieces ++ base64.finishes (fold base64.fed [] pieces)
    ≡ encode_of standard (concat pieces)
