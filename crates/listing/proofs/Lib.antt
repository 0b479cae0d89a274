-- What the proofs of several functions use.
mod Splitting
mod Filling
mod Sizes
mod Adding
mod Widths
mod Shown
mod Listed
