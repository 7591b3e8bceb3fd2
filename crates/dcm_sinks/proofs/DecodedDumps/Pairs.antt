-- What is shown and what is in force go side by side over a token.
use Rattle.std.proofs.Common.{◌≡◌, ◌∙◌, ap, refl, ℕ, List, [], ◌∷◌, ◌++◌, map}
use Rattle.std.specs.Prelude.{fold}
use Rattle.dcm_base.specs.declared.syntax.Syntax.{Syntax}
use Rattle.dcm_base.specs.Steps.Atoms.{Atom, opens, value_byte, closes_leaf}
use Rattle.dcm_base.specs.Steps.Steps.{outputs}
use Rattle.dcm_head.specs.declared.head.Head.{Head}
use Rattle.dcm_stream.specs.Tokens.{atoms_of, whole_atoms}
use Rattle.dcm_stream.specs.declared.token.Token.{Token}
use Rattle.dcm_stream.specs.declared.token.Token.TheVariants.{Open, Bytes, CloseLeaf, OpenItem, CloseItem, CloseSeq, OpenFragment, End}
use Rattle.dcm_text.specs.declared.sets.Sets.{Sets}
use Rattle.dcm_sinks.specs.SettingValue.{ForceState, force_step}
use Rattle.dcm_sinks.specs.TextDump.{TextState, text_step, text_writes}
use Rattle.dcm_sinks.specs.DecodedSink.{DecodedState, decoded_step, decoded_writes}

-- what both come to over atoms within which nothing else is in force
abbrev pub side_by_side : DecodedState → List Atom → DecodedState
side_by_side s atoms = record { shown = fold (text_step s.force.sets) s.shown atoms; force = fold force_step s.force atoms }

abbrev pub shown_by : DecodedState → List Atom → List ℕ
shown_by s atoms = outputs (text_step s.force.sets) (text_writes s.force.sets) s.shown atoms

abbrev pub decoded_dumps : DecodedState → List Atom → List ℕ
decoded_dumps s atoms = outputs decoded_step decoded_writes s atoms

pub paired : (s : DecodedState) (atoms : List Atom) (sets : Sets) (shown : TextState) (force : ForceState) → sets ≡ s.force.sets
    → shown ≡ fold (text_step sets) s.shown atoms → force ≡ fold force_step s.force atoms
    → (let t : DecodedState = record { shown = shown; force = force } in t) ≡ side_by_side s atoms
paired s atoms sets shown force e f g =
    ap (λ (x : TextState). let t : DecodedState = record { shown = x; force = force } in t) (f ∙ ap (λ (x : Sets). fold (text_step x) s.shown atoms) e)
    ∙ ap (λ (x : ForceState). let t : DecodedState = record { shown = fold (text_step s.force.sets) s.shown atoms; force = x } in t) g

-- ---- bytes

pub bytes_step : (s : DecodedState) (v : List ℕ) → side_by_side s (map value_byte v) ≡ fold decoded_step s (map value_byte v)
bytes_step s [] = refl
bytes_step s (b ∷ v) = bytes_step (decoded_step s (value_byte b)) v

pub bytes_shown : (s : DecodedState) (v : List ℕ) → shown_by s (map value_byte v) ≡ decoded_dumps s (map value_byte v)
bytes_shown s [] = refl
bytes_shown s (b ∷ v) = ap (λ (xs : List ℕ). text_writes s.force.sets s.shown (value_byte b) ++ xs) (bytes_shown (decoded_step s (value_byte b)) v)

-- ---- the rest of a value

pub value_step : (s : DecodedState) (v : List ℕ) → side_by_side s (map value_byte v ++ closes_leaf ∷ []) ≡ fold decoded_step s (map value_byte v ++ closes_leaf ∷ [])
value_step s [] = refl
value_step s (b ∷ v) = value_step (decoded_step s (value_byte b)) v

pub value_shown : (s : DecodedState) (v : List ℕ) → shown_by s (map value_byte v ++ closes_leaf ∷ []) ≡ decoded_dumps s (map value_byte v ++ closes_leaf ∷ [])
value_shown s [] = refl
value_shown s (b ∷ v) = ap (λ (xs : List ℕ). text_writes s.force.sets s.shown (value_byte b) ++ xs) (value_shown (decoded_step s (value_byte b)) v)

-- ---- an element whose value is whole

pub whole_step : (s : DecodedState) (head : Head) (syntax : Syntax) (v : List ℕ) → side_by_side s (whole_atoms head syntax v) ≡ fold decoded_step s (whole_atoms head syntax v)
whole_step s head syntax v = value_step (decoded_step s (opens head.tag head.vr head.length syntax)) v

pub whole_shown : (s : DecodedState) (head : Head) (syntax : Syntax) (v : List ℕ) → shown_by s (whole_atoms head syntax v) ≡ decoded_dumps s (whole_atoms head syntax v)
whole_shown s head syntax v =
    let a : Atom = opens head.tag head.vr head.length syntax in
    ap (λ (xs : List ℕ). text_writes s.force.sets s.shown a ++ xs) (value_shown (decoded_step s a) v)

-- ---- a token

pub token_step : (s : DecodedState) (token : Token) → side_by_side s (atoms_of token) ≡ fold decoded_step s (atoms_of token)
token_step s (Open head syntax) = refl
token_step s (Bytes bytes) = bytes_step s bytes.now
token_step s CloseLeaf = refl
token_step s (OpenItem declared) = refl
token_step s CloseItem = refl
token_step s CloseSeq = refl
token_step s (OpenFragment size) = refl
token_step s End = refl

pub token_shown : (s : DecodedState) (token : Token) → shown_by s (atoms_of token) ≡ decoded_dumps s (atoms_of token)
token_shown s (Open head syntax) = refl
token_shown s (Bytes bytes) = bytes_shown s bytes.now
token_shown s CloseLeaf = refl
token_shown s (OpenItem declared) = refl
token_shown s CloseItem = refl
token_shown s CloseSeq = refl
token_shown s (OpenFragment size) = refl
token_shown s End = refl
