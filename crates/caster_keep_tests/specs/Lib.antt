pub mod LonePorters
