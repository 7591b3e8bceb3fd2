pub mod Device
pub mod Memory
pub mod Decimal
pub mod Writing
pub mod StdDevice
