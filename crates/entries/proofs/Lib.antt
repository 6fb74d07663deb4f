pub mod Laying
pub mod Taking
pub mod UnitNumbers
pub mod Entered
