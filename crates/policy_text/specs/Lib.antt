pub mod Lexicon
pub mod XForms
pub mod Misreads
pub mod Grammar
pub mod Machine
pub mod Posts
pub mod Reading
pub mod Answers
