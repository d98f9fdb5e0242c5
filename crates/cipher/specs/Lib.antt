-- AES-128 and its counter mode, after FIPS 197 and SP 800-38A. To be read in this order, beside the standards:
--   Field          FIPS 197, section 4: bytes as elements of a field
--   SBox           5.1.1: the S-box by its rule
--   Words          3.5: words of four bytes, and sums of bytes
--   Cipher         5.1: SubBytes, ShiftRows, MixColumns, AddRoundKey, the cipher
--   KeyExpansion   5.2: the key schedule
--   CounterMode    SP 800-38A, 6.5: the counter mode, from counter 0
--   Table          the S-box and the round table as the code has them
--   State          the 16 bytes of a state that the code keeps in four numbers
--   Caching        what the first two rounds have in common for 256 counters
-- The section numbers are those of FIPS 197 as published in 2001.
pub mod Field
pub mod SBox
pub mod Words
pub mod Cipher
pub mod KeyExpansion
pub mod CounterMode
pub mod Table
pub mod State
pub mod Caching
