-- The three demands of the request, the question of A2, and the ten cases of 01, as theorems.
mod NumberLaws
mod LibraryLaws
mod WritingLaws
mod AskingLaws
mod StoppingLaws
mod TestLaws
mod CountingLaws
mod TextLaws
mod MetresLaws
mod QuestionLaws
mod RoundingLaws
pub mod Demand1
pub mod Demand2
pub mod Demand3
pub mod OnePlace
pub mod Cases
mod OnlyLaws
pub mod OnlyAnswers
