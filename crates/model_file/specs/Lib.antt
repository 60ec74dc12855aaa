-- The model file: its format as a definition, the encoder and the round trip, and what the reader does to the lent slices.
pub mod Format
pub mod Places
pub mod Reading
pub mod Skips
pub mod Fills
pub mod Leaves
pub mod Answers
pub mod Encode
pub mod RoundTrip
pub mod Cases
pub mod Longest
