-- Laws of the code's cases.
--   Cases   the last arm of a match on an offset, a timer put into its place
pub mod Cases
