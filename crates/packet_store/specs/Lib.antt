pub mod PackedPolicy
