pub mod UnitRows
pub mod ElementRows
pub mod Copies
pub mod KeptCopies
