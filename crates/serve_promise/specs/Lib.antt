pub mod Links
pub mod LetIn
pub mod Accounts
pub mod Callers
