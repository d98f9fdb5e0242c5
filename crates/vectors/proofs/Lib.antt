-- The cipher of FIPS 197, appendix C.1, computed from the definitions.
mod Examples
