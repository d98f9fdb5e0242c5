-- Laws of the definitions of specs/.
--   Slices        parts of lists that are joined, and parts that are lent
--   Column        decimal columns: what is written is what is read, and a number has one spelling
--   Counted       columns that hold a number: spaces, a digit that is not 0, digits, or a last 0
--   Plans         the file plan: a node has one place, and a place one node
--   Ranges        the ranges of a header's fields for each kind, and that there are four kinds
--   HeaderLaws    headers: what is written is what is read, and a header has one spelling
--   Positions     key positions: a position has one key block, page and slot
--   Commits       a commit's payloads: an entry has one spelling, letters and entries read back
--   Pages         the bytes of a page: length, what reads back, what a cut program leaves
--   FormLaws      page forms: the form of a page that was programmed whole or in part
--   WordLaws      several bytes as one number: compared, taken from a list, written into one
--   Countdown     how often one number goes into another, counted down and kept in the same word
--   Spellings     three, four and eight columns as the words that code makes of them
--   Lanes         numbers made of lanes: operations that work on each lane apart
--   CountedWords  eight columns as one word: whether they hold a number from 1 on
--   ColumnValues  eight columns as one word: the number that they hold
--   Pairs         four columns and four more as one word: the numbers that they hold
--   HeaderTests   headers and pages held against fields that they must have, byte for byte
--   HeaderParts   headers compared in parts of eight, four and two bytes
--   Repeats       lists that are their first elements again and again
pub mod Slices
pub mod Column
pub mod Counted
pub mod Plans
pub mod Ranges
pub mod HeaderLaws
pub mod Positions
pub mod Commits
pub mod Pages
pub mod FormLaws
pub mod WordLaws
pub mod Countdown
pub mod Spellings
pub mod Lanes
pub mod CountedWords
pub mod ColumnValues
pub mod Pairs
pub mod HeaderTests
pub mod HeaderParts
pub mod Repeats
