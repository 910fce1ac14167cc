pub mod Below
pub mod Records
pub mod Tables
pub mod EitherDriven
pub mod BothDriven
pub mod OnlyDriven
