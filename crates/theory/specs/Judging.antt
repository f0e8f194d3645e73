-- Checking a colleague's solver: a table is the chance at every state exactly where no state is broken, and the verdict is one.
pub mod Table
pub mod Verdicts
pub mod Texts
