pub mod Any
pub mod Law
pub mod Past
pub mod Content
pub mod OneKind
