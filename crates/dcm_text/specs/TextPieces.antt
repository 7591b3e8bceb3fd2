-- A text that is there as a whole: the pieces that are left.
use Rattle.std.specs.Prelude.{List}
use Rattle.dcm_text.specs.declared.text_pieces.TextPieces.{TextPieces}
use Rattle.dcm_text.specs.Decoding.{Piece, decoded_from}

abbrev pub pieces_left : TextPieces → List Piece
pieces_left p = decoded_from p.sets p.kind p.halves p.rest.now
