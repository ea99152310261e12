-- Laws of one timer.
--   Width    comparator facts, once over the width
--   Closed   the closed form is the ticks, at both widths
--   Ran      what the proofs of the functions cite of it
--   Alone    the ticks of one timer by itself, one by one
--   Wire     what a firing does to the wire of its pin: `risen`
--   Masks    a route mask and its lowest pin
--   Formed   well-formedness: from the test to the facts and back
--   Kept     what keeps it
--   Bits, Written   register words as the code makes them
--   ReadBack   a read after a write, bit by bit
--   Halves   numbers in halves
--   Compared, Rewritten   a comparator, a configuration that is written in halves
pub mod Width
pub mod Closed
pub mod Ran
pub mod Alone
pub mod Wire
pub mod Masks
pub mod Formed
pub mod Kept
pub mod Bits
pub mod Written
pub mod ReadBack
pub mod Halves
pub mod Compared
pub mod Rewritten
