pub mod Bridge
pub mod LongPackets
pub mod Commands
