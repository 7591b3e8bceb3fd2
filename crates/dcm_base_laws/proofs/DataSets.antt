-- What atoms show, what an implicit syntax makes of lengths, and the order of elements.
pub mod OneShown
pub mod ImplicitLengths
pub mod InOrder
pub mod EmptyElements
