pub mod Starting
pub mod Exactness
pub mod JuniorRows
pub mod ExactTables
pub mod ExactSteps
pub mod Lawfully
pub mod RowFacts
pub mod Places
