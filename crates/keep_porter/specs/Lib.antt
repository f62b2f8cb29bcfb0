pub mod Porters
