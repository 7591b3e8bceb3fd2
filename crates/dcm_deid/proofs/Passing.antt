-- What the sink passes on of the bytes of a value.
use Rattle.std.proofs.Common.{◌≡◌, ◌<◌, ◌∙◌, sym, ℕ, zero, suc, List, [], ◌∷◌, ◌++◌, map, fold, Some, None, true, refl, ap, arith}
use Rattle.std.proofs.lemmas.List.{append-nil}
use Rattle.dcm_stream.specs.declared.token.Token.{Token}
use Rattle.dcm_stream.specs.declared.token.Token.TheVariants as tokens
use Rattle.dcm_stream.specs.Skip.{is_open}
use Rattle.dcm_stream.specs.Tokens.{atoms_of}
use Rattle.dcm_base.specs.Steps.Atoms.{Atom, opens, value_byte, closes_leaf, opens_item, closes_item, closes_sequence, opens_fragment, ends}
use Rattle.dcm_base.specs.declared.length.Length.{Length}
use Rattle.dcm_base.specs.declared.length.Length.TheVariants.{Undefined}
use Rattle.dcm_base.specs.declared.syntax.Syntax.{Syntax}
use Rattle.dcm_base.specs.declared.tag.Tag.{Tag}
use Rattle.dcm_base.specs.declared.vr.Vr.{Vr}
use Rattle.dcm_base.specs.Steps.Steps.{outputs}
use Rattle.dcm_deid.specs.declared.fate.Options.{Options}
use Rattle.dcm_deid.specs.Deidentifying.{IsPlain}
use Rattle.dcm_deid.specs.DeidentifySink.{Place, Held, State, next, passed, passed_open, passed_left_out, passed_by_depth, new_value_atoms, holding, held_with, with_bytes}
use Rattle.dcm_deid.specs.MadeNew.{made_new}

byte_kept : (d : ℕ) (options : Options) (key : List ℕ) (p : Place) (byte : ℕ) (more rest : List Atom) → d ≡ 0 → more ≡ rest → passed_by_depth d options key p (value_byte byte) ++ more ≡ value_byte byte ∷ rest
byte_kept zero options key p byte more rest e is = ap (λ (xs : List Atom). value_byte byte ∷ xs) is
byte_kept (suc n) options key p byte more rest e is = cc

-- of an element that is not left out they are passed on as they are
pub bytes_passed : (s : State) (bytes : List ℕ) → s.place.dropped ≡ 0 → outputs next passed s (map value_byte bytes) ≡ map value_byte bytes
bytes_passed s [] none = refl
bytes_passed s (b ∷ bytes) none = byte_kept s.place.dropped s.options s.key s.place b _ _ none (bytes_passed (next s (value_byte b)) bytes none)

byte_gone : (d : ℕ) (options : Options) (key : List ℕ) (p : Place) (byte : ℕ) (more : List Atom) → 0 < d → more ≡ [] → passed_by_depth d options key p (value_byte byte) ++ more ≡ []
byte_gone zero options key p byte more l is = absurd (omega (arith, l))
byte_gone (suc n) options key p byte more l is = is

-- of one that is left out nothing is
pub bytes_gone : (s : State) (bytes : List ℕ) → 0 < s.place.dropped → outputs next passed s (map value_byte bytes) ≡ []
bytes_gone s [] l = refl
bytes_gone s (b ∷ bytes) l = byte_gone s.place.dropped s.options s.key s.place b _ l (bytes_gone (next s (value_byte b)) bytes l)

-- ---- tokens that are passed on as they are

one_kept : (s : State) (a : Atom) → s.place.dropped ≡ 0 → passed s a ++ [] ≡ passed_open s.options s.place a ++ []
one_kept s a none = ap (λ (d : ℕ). passed_by_depth d s.options s.key s.place a ++ []) none

abbrev of_token : State → Token → List Atom
of_token s t = outputs next passed s (atoms_of t)

pub as_they_are : (s : State) (t : Token) → s.place.dropped ≡ 0 → IsPlain t → of_token s t ≡ atoms_of t
as_they_are s (tokens.Open head syntax) none plain = absurd plain
as_they_are s (tokens.Bytes bytes) none plain = bytes_passed s bytes.now none
as_they_are s tokens.CloseLeaf none plain = absurd plain
as_they_are s (tokens.OpenItem declared) none plain = absurd plain
as_they_are s tokens.CloseItem none plain = one_kept s closes_item none
as_they_are s tokens.CloseSeq none plain = one_kept s closes_sequence none
as_they_are s (tokens.OpenFragment size) none plain = one_kept s (opens_fragment size) none
as_they_are s tokens.End none plain = absurd plain

pub leaf_end_kept : (s : State) → s.place.dropped ≡ 0 → passed s closes_leaf ++ [] ≡ closes_leaf ∷ []
leaf_end_kept s none = one_kept s closes_leaf none

pub item_kept : (s : State) (declared : Length) → s.place.dropped ≡ 0 → passed s (opens_item declared) ++ [] ≡ opens_item Undefined ∷ []
item_kept s declared none = one_kept s (opens_item declared) none

pub end_kept : (s : State) → s.place.dropped ≡ 0 → passed s ends ++ [] ≡ passed_open s.options s.place ends
end_kept s none = one_kept s ends none ∙ append-nil (passed_open s.options s.place ends)

-- ---- where something is left out

pub left_open : (n : ℕ) → is_open n ≡ true → 0 < n
left_open zero e = absurd (cc)
left_open (suc n) e = omega arith

abbrev NotWhole : Atom → Type 0
NotWhole a = (options : Options) (key : List ℕ) (p : Place) → passed_left_out (made_new options key) p a ≡ []

gone : (d : ℕ) (options : Options) (key : List ℕ) (p : Place) (a : Atom) → 0 < d → NotWhole a → passed_by_depth d options key p a ++ [] ≡ []
gone zero options key p a l e = absurd (omega (arith, l))
gone (suc n) options key p a l e = ap (λ (xs : List Atom). xs ++ []) (e options key p)

pub one_gone : (s : State) (a : Atom) → is_open s.place.dropped ≡ true → NotWhole a → [] ≡ passed s a ++ []
one_gone s a l e = sym (gone s.place.dropped s.options s.key s.place a (left_open s.place.dropped l) e)

pub nothing_passed : (s : State) (t : Token) → is_open s.place.dropped ≡ true → IsPlain t → [] ≡ of_token s t
nothing_passed s (tokens.Open head syntax) l plain = absurd plain
nothing_passed s (tokens.Bytes bytes) l plain = sym (bytes_gone s bytes.now (left_open s.place.dropped l))
nothing_passed s tokens.CloseLeaf l plain = absurd plain
nothing_passed s (tokens.OpenItem declared) l plain = absurd plain
nothing_passed s tokens.CloseItem l plain = one_gone s closes_item l (λ o k p. refl)
nothing_passed s tokens.CloseSeq l plain = one_gone s closes_sequence l (λ o k p. refl)
nothing_passed s (tokens.OpenFragment size) l plain = one_gone s (opens_fragment size) l (λ o k p. refl)
nothing_passed s tokens.End l plain = absurd plain

pub head_gone : (s : State) (tag : Tag) (vr : Vr) (declared : Length) (y : Syntax) → is_open s.place.dropped ≡ true → [] ≡ passed s (opens tag vr declared y) ++ []
head_gone s tag vr declared y l = one_gone s (opens tag vr declared y) l (λ o k p. refl)

leaf_end_by : (d : ℕ) (options : Options) (key : List ℕ) (p : Place) → is_open d ≡ true → new_value_atoms (made_new options key) p.held ≡ passed_by_depth d options key p closes_leaf ++ []
leaf_end_by zero options key p e = absurd (cc)
leaf_end_by (suc n) options key p e = sym (append-nil (new_value_atoms (made_new options key) p.held))

pub leaf_end_made : (s : State) → is_open s.place.dropped ≡ true → new_value_atoms (made_new s.options s.key) s.place.held ≡ passed s closes_leaf ++ []
leaf_end_made s l = leaf_end_by s.place.dropped s.options s.key s.place l

pub item_gone : (s : State) (declared : Length) → is_open s.place.dropped ≡ true → [] ≡ passed s (opens_item declared) ++ []
item_gone s declared l = one_gone s (opens_item declared) l (λ o k p. refl)

pub end_gone : (s : State) → is_open s.place.dropped ≡ true → [] ≡ passed s ends ++ []
end_gone s l = one_gone s ends l (λ o k p. refl)

-- ---- the state after the bytes of a value

pub bytes_held : (p : Place) (h : Held) (bytes : List ℕ) → with_bytes (holding p (Some h)) bytes ≡ holding p (Some (fold held_with h bytes))
bytes_held p h [] = refl
bytes_held p h (b ∷ bytes) = bytes_held p (held_with h b) bytes

pub bytes_unheld : (p : Place) (bytes : List ℕ) → with_bytes (holding p None) bytes ≡ holding p None
bytes_unheld p [] = refl
bytes_unheld p (b ∷ bytes) = bytes_unheld p bytes

abbrev pub at_place : Options → List ℕ → Place → State
at_place options key p = record { options = options; key = key; place = p }

pub bytes_next : (s : State) (bytes : List ℕ) → fold next s (map value_byte bytes) ≡ at_place s.options s.key (with_bytes s.place bytes)
bytes_next s [] = refl
bytes_next s (b ∷ bytes) = bytes_next (next s (value_byte b)) bytes
