-- What follows from the definitions of text and of putting it into a buffer.
pub mod Digits
pub mod WholeLaws
pub mod HexLaws
pub mod FigureLaws
pub mod PutLaws
pub mod Series
mod Worked
