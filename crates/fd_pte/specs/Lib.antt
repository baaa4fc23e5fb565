-- The definitions that contracts cite, with the laws of the architectures.
pub mod Amd64
pub mod Amd64Laws
pub mod Architecture
pub mod Arm64
pub mod Arm64Laws
pub mod BitLaws
pub mod Bits
pub mod Entry
pub mod Riscv
pub mod RiscvLaws
