pub mod VerdictLine
pub mod Places
