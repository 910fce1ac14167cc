pub mod Formulas
pub mod Sequences
pub mod Automata
pub mod Theorem
pub mod Lines
pub mod Laws
pub mod Examples
