-- The printed result: the text as a definition, its laws, what a text makes of where it goes, and what the printer leaves in the buffer.
pub mod Text
pub mod TextLaws
pub mod Sink
pub mod Printing
pub mod Cases
pub mod Lengths
