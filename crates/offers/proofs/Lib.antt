pub mod Laid
pub mod Compared
pub mod ByteOffers
pub mod Rooms
pub mod Offered
