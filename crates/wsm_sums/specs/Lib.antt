pub mod Crc
pub mod CrcRows
