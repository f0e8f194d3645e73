-- Limits: a word says one limit, a verdict holds, and what is said of a chain file and a limit is one.
pub mod Word
pub mod Figure
