-- A text by what is in force (PS3.5 6.1.2.5), as a whole.
use Rattle.std.specs.Prelude.{◌≡◌, ℕ, zero, suc, Bool, true, false, List, [], ◌∷◌, length, take, drop, Option, Some, None}
use Rattle.dcm_text.specs.declared.set.Halves.{Halves}
use Rattle.dcm_text.specs.declared.set.TextKind.{TextKind}
use Rattle.dcm_text.specs.declared.sets.Sets.{Sets}
use Rattle.dcm_text.specs.declared.first.Meaning.{Meaning}
use Rattle.dcm_text.specs.declared.first.Found.{Found}
use Rattle.dcm_text.specs.declared.decoder.Part.{Part}
use Rattle.dcm_text.specs.declared.decoder.Decoder.{Decoder}
use Rattle.dcm_text.specs.First.{first_of, one_unknown, start_of}

-- some bytes of a text, and what they are
abbrev pub Piece : Type 0
Piece = List ℕ × Meaning

-- where a text ends, what is only a part of something is not: its first byte has no character, and what follows is looked
-- at anew
abbrev pub or_unknown : Halves → Option Found → Found
or_unknown halves None = one_unknown halves
or_unknown halves (Some f) = f

-- so many pieces at most
abbrev pub decoded_by : (most : ℕ) → Sets → TextKind → Halves → List ℕ → List Piece
decoded_by zero sets kind halves text = []
decoded_by (suc n) sets kind halves [] = []
decoded_by (suc n) sets kind halves (b ∷ rest) =
    let f = or_unknown halves (first_of sets kind halves (b ∷ rest)) in
    (take f.size (b ∷ rest), f.meaning) ∷ decoded_by n sets kind f.halves (drop f.size (b ∷ rest))

-- the rest of a text, where all bytes mean this
unfoldable pub decoded_from : Sets → TextKind → Halves → List ℕ → List Piece
decoded_from sets kind halves text = decoded_by (length text) sets kind halves text

-- a text: its pieces, in order
unfoldable pub decoded : Sets → TextKind → List ℕ → List Piece
decoded sets kind text = decoded_from sets kind (start_of sets) text

-- ---- in parts

-- what a text begins with, where it ends or goes on
abbrev pub found : (at_end : Bool) → Sets → TextKind → Halves → List ℕ → Option Found
found false sets kind halves text = first_of sets kind halves text
found true sets kind halves [] = None
found true sets kind halves (b ∷ rest) = Some (or_unknown halves (first_of sets kind halves (b ∷ rest)))

abbrev pub piece_of : Part → Piece
piece_of part = (part.bytes.items, part.meaning)

-- ---- one call of a decoder, of which `text` is what it holds and then the input

-- a part was found in front, and the rest is left, held or in the input
pub record Gives (at_end : Bool) (old new : Decoder) (text rest : List ℕ) (part : Part) : Type 0 where
  pub first : Found
  pub is_first : found at_end old.sets old.kind old.halves text ≡ Some first
  pub piece : piece_of part ≡ (take first.size text, first.meaning)
  pub halves : new.halves ≡ first.halves
  pub left : rest ≡ drop first.size text
  pub same : (new.sets ≡ old.sets) × (new.kind ≡ old.kind)

-- nothing was found, and all of it is held
pub record Waits (at_end : Bool) (old new : Decoder) (text : List ℕ) : Type 0 where
  pub is_none : found at_end old.sets old.kind old.halves text ≡ None
  pub halves : new.halves ≡ old.halves
  pub held : new.held.items ≡ text
  pub same : (new.sets ≡ old.sets) × (new.kind ≡ old.kind)
