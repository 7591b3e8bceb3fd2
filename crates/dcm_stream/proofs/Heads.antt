-- What a whole head leads to.
pub mod Stops
pub mod Opening
pub mod Elements
pub mod Marks
pub mod Waits
pub mod Entered
pub mod HeadBytes
pub mod WholeHeads
pub mod PieceHeads
pub mod WholeLeaves
pub mod PieceLeaves
pub mod PlainLeaves
