-- What a function made of the first words.
use Rattle.std.specs.Prelude.{◌≡◌, ◌≤◌, ℕ, ◌+◌, List, [], ◌∷◌, map, length, drop, Option, Some, None, option_map}
use Rattle.std.specs.Borrow.{Bor}
use Rattle.dcm_tree_words.specs.declared.piece.Piece.{Piece}
use Rattle.dcm_tree_words.specs.declared.piece.Piece.TheVariants as is
use Rattle.dcm_tree_words.specs.declared.word.TreeTool.{TreeTool}
use Rattle.dcm_tree_words.specs.Plans.{part_as}
use Rattle.dcm_tree_words.specs.TreeWords as spec

abbrev pub texts : List (Bor (List ℕ)) → List (List ℕ)
texts words = map (λ w. w.now) words

abbrev pub pieces_of : TreeTool → List (Bor (List ℕ)) → List spec.Piece
pieces_of t words = spec.pieces t (texts words)

abbrev pub piece_as : Piece → spec.Piece
piece_as (is.Tree word) = spec.tree word
piece_as (is.Part named) = spec.part (option_map part_as named)
piece_as is.NoPart = spec.no_part
piece_as (is.Own w) = spec.own w.now
piece_as (is.OwnTwo w v) = spec.own_two w.now v.now

-- the words from a place on are this piece, and then those from another place on
pub record Comes (p : spec.Piece) (next : ℕ) (t : TreeTool) (at : ℕ) (words : List (Bor (List ℕ))) : Type 0 where
  pub apart : pieces_of t (drop at words) ≡ p ∷ pieces_of t (drop next words)
  pub place : next ≡ at + spec.width p
  pub within : next ≤ length words

abbrev pub PieceAt : Option (Piece × ℕ) → TreeTool → (at : ℕ) → List (Bor (List ℕ)) → Type 0
PieceAt None t at words = pieces_of t (drop at words) ≡ []
PieceAt (Some s) t at words = Comes (piece_as s.0) s.1 t at words
