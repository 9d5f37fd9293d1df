-- What the program's session promises of a piece of its input.
pub mod Pieces
