pub mod KeepAnswers
