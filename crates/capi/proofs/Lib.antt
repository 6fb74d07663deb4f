pub mod Told
pub mod ByteSteps
pub mod HeldBehind
