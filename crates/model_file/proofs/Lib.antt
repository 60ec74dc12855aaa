-- The theorems, each file named as the definitions that it is about, and the lemmas of the code's proofs.
pub mod RoundTrip
pub mod Numbers
pub mod Exits
