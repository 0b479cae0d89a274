pub mod Nodes
pub mod Opened
pub mod ShortcutLaws
pub mod Children
pub mod Naming
pub mod Identities
