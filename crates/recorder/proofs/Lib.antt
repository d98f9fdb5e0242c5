-- The store and the chip for C.
pub mod Faces
pub mod Models
