-- What is dropped, and the bytes of a value, over the atoms of a token.
use Rattle.std.proofs.Common.{◌≡◌, ◌∙◌, ap, sym, refl, ℕ, zero, suc, List, [], ◌∷◌, ◌++◌, map, Option, Some, None, true}
use Rattle.std.specs.Prelude.{fold}
use Rattle.std.specs.Io.KnownBytes.{append_known}
use Rattle.dcm_lemmas.proofs.Options.{known_nothing}
use Rattle.dcm_base.specs.Steps.Atoms.{value_byte}
use Rattle.dcm_base.specs.Steps.Steps.{outputs}
use Rattle.dcm_stream.specs.declared.token.Token.{Token}
use Rattle.dcm_stream.specs.declared.token.Token.TheVariants.{Open, Bytes, CloseLeaf, OpenItem, CloseItem, CloseSeq, OpenFragment, End}
use Rattle.dcm_stream.specs.Tokens.{atoms_of}
use Rattle.dcm_stream.specs.Skip.{after, is_open}
use Rattle.dcm_stream.proofs.Runs.Skipped.{bytes_change_nothing}
use Rattle.dcm_sinks.specs.EncodeSink.{Copying, EncodeState, copies, copy_writes, encode_step, encode_writes}

-- outside of dropped elements
abbrev pub live : EncodeState → Option Copying → EncodeState
live s copying = record s { dropped = 0; copying = copying }

still : (s : EncodeState) (copying : Option Copying) → s.dropped ≡ 0 → s.copying ≡ copying → s ≡ live s copying
still s copying d c = ap (λ (x : ℕ). let t : EncodeState = record s { dropped = x } in t) d ∙ ap (λ (x : Option Copying). let t : EncodeState = record s { dropped = 0; copying = x } in t) c

none_over : (s : EncodeState) (bytes : List ℕ) → (fold encode_step (live s None) (map value_byte bytes) ≡ live s None) × (outputs encode_step encode_writes (live s None) (map value_byte bytes) ≡ [])
none_over s [] = (refl, refl)
none_over s (b ∷ bytes) = none_over s bytes

pub some_over : (s : EncodeState) (c : Copying) (bytes : List ℕ) → (fold encode_step (live s (Some c)) (map value_byte bytes) ≡ live s (Some (fold copies c bytes)))
    × (outputs encode_step encode_writes (live s (Some c)) (map value_byte bytes) ≡ outputs copies copy_writes c bytes)
some_over s c [] = (refl, refl)
some_over s c (b ∷ bytes) = let more = some_over s (copies c b) bytes in (more.0, ap (λ z. copy_writes c b ++ z) more.1)

-- with no value on its way
pub no_copy_state : (s : EncodeState) (bytes : List ℕ) → s.dropped ≡ 0 → s.copying ≡ None → s ≡ fold encode_step s (map value_byte bytes)
no_copy_state s bytes d c =
    let is = still s None d c in
    is ∙ sym (none_over s bytes).0 ∙ ap (λ (t : EncodeState). fold encode_step t (map value_byte bytes)) (sym is)

pub no_copy_bytes : (s : EncodeState) (bytes : List ℕ) (held : Option (List ℕ)) → s.dropped ≡ 0 → s.copying ≡ None → held ≡ append_known held (outputs encode_step encode_writes s (map value_byte bytes))
no_copy_bytes s bytes held d c =
    sym (known_nothing held) ∙ ap (append_known held) (sym ((none_over s bytes).1) ∙ ap (λ (t : EncodeState). outputs encode_step encode_writes t (map value_byte bytes)) (sym (still s None d c)))

-- with one
pub copy_state : (s t : EncodeState) (c d : Copying) (bytes : List ℕ) → s.dropped ≡ 0 → s.copying ≡ Some c → d ≡ fold copies c bytes → t ≡ live s (Some d) → t ≡ fold encode_step s (map value_byte bytes)
copy_state s t c d bytes none some over is =
    is ∙ ap (λ (x : Copying). live s (Some x)) over ∙ sym ((some_over s c bytes).0) ∙ ap (λ (x : EncodeState). fold encode_step x (map value_byte bytes)) (sym (still s (Some c) none some))

pub copy_bytes : (s : EncodeState) (c : Copying) (bytes : List ℕ) → s.dropped ≡ 0 → s.copying ≡ Some c → outputs encode_step encode_writes s (map value_byte bytes) ≡ outputs copies copy_writes c bytes
copy_bytes s c bytes none some = ap (λ (x : EncodeState). outputs encode_step encode_writes x (map value_byte bytes)) (still s (Some c) none some) ∙ (some_over s c bytes).1

-- in a dropped element nothing is written
bytes_drop : (s : EncodeState) (n : ℕ) (bytes : List ℕ) → (fold encode_step (record s { dropped = suc n }) (map value_byte bytes) ≡ record s { dropped = suc n }) × (outputs encode_step encode_writes (record s { dropped = suc n }) (map value_byte bytes) ≡ [])
bytes_drop s n [] = (refl, refl)
bytes_drop s n (b ∷ bytes) = bytes_drop s n bytes

token_drops : (s : EncodeState) (n : ℕ) (token : Token)
    → (fold encode_step (record s { dropped = suc n }) (atoms_of token) ≡ record s { dropped = fold after (suc n) (atoms_of token) }) × (outputs encode_step encode_writes (record s { dropped = suc n }) (atoms_of token) ≡ [])
token_drops s n (Open head syntax) = (refl, refl)
token_drops s n (Bytes bytes) = let all = bytes_drop s n bytes.now in (all.0 ∙ ap (λ (d : ℕ). let t : EncodeState = record s { dropped = d } in t) (sym (bytes_change_nothing (suc n) bytes.now)), all.1)
token_drops s n CloseLeaf = (refl, refl)
token_drops s n (OpenItem length) = (refl, refl)
token_drops s n CloseItem = (refl, refl)
token_drops s n CloseSeq = (refl, refl)
token_drops s n (OpenFragment size) = (refl, refl)
token_drops s n End = (refl, refl)

drops_within : (s : EncodeState) (d : ℕ) (token : Token) → is_open d ≡ true
    → (fold encode_step (record s { dropped = d }) (atoms_of token) ≡ record s { dropped = fold after d (atoms_of token) }) × (outputs encode_step encode_writes (record s { dropped = d }) (atoms_of token) ≡ [])
drops_within s zero token e = absurd (cc)
drops_within s (suc n) token e = token_drops s n token

pub dropped_state : (s : EncodeState) (token : Token) → is_open s.dropped ≡ true → record s { dropped = fold after s.dropped (atoms_of token) } ≡ fold encode_step s (atoms_of token)
dropped_state s token e = sym ((drops_within s s.dropped token e).0)

pub dropped_bytes : (s : EncodeState) (token : Token) (held : Option (List ℕ)) → is_open s.dropped ≡ true → held ≡ append_known held (outputs encode_step encode_writes s (atoms_of token))
dropped_bytes s token held e = sym (known_nothing held) ∙ ap (append_known held) (sym ((drops_within s s.dropped token e).1))
