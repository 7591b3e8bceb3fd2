-- What is next in a whole text by Specific Character Set.
use Rattle.std.specs.Prelude.{◌≡◌, ℕ, ◌≤◌, ◌==◌, List, ◌++◌, length, flat_map, count_by, if◌then◌else◌}
use Rattle.dcm_text.specs.declared.text_pieces.TextPieces.{TextPieces}
use Rattle.dcm_text.specs.Decoding.{Piece as TextPiece}
use Rattle.dcm_text.specs.Shown.{dumped_piece}
use Rattle.dcm_text.specs.TextPieces.{pieces_left}
use Rattle.dcm_value.specs.declared.next_piece.Next.{Next}
use Rattle.dcm_value.specs.declared.next_piece.Next.TheVariants.{Plain, Piece}
use Rattle.dcm_value.specs.Decoded.{is_backslash, backslashes}

-- its bytes
abbrev pub bytes_of : Next → List ℕ
bytes_of (Plain bytes) = bytes.now
bytes_of (Piece bytes meaning) = bytes.now

-- what is shown of it
abbrev pub shown_of : Next → List ℕ
shown_of (Plain bytes) = bytes.now
shown_of (Piece bytes meaning) = dumped_piece (bytes.now, meaning)

-- how many backslashes it has
abbrev pub count_of : Next → ℕ
count_of (Plain bytes) = count_by (λ b. b == 92) bytes.now
count_of (Piece bytes meaning) = if is_backslash meaning then 1 else 0

-- bytes that are shown as they are, at most so many; or one piece
abbrev pub IsNext : (most : ℕ) → Next → Type 0
IsNext most (Plain bytes) = length bytes.now ≤ most
IsNext most (Piece bytes meaning) = length bytes.now ≤ 4

-- it stands in front of what is left then: the pieces that it is, what is shown of them, and the backslashes among them
pub record Follows (old new : TextPieces) (next : Next) : Type 0 where
  pub pieces : List TextPiece
  pub left : pieces_left old ≡ pieces ++ pieces_left new
  pub shown : flat_map dumped_piece pieces ≡ shown_of next
  pub count : backslashes pieces ≡ count_of next
  pub bytes : old.rest.now ≡ bytes_of next ++ new.rest.now
  pub some : 1 ≤ length (bytes_of next)
