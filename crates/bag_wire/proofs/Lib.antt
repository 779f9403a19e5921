pub mod JournalLaws
pub mod Places
pub mod Edits
