pub mod Findings
pub mod Spelling
pub mod Wording
pub mod Meaning
