-- What the proofs of several functions use.
mod Reading
mod Spelling
