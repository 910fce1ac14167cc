pub mod Answers
pub mod Levels
pub mod Recipes
