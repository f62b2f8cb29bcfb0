pub mod Works
pub mod Callers
pub mod Prepared
pub mod Caster
pub mod Visits
pub mod Serving
pub mod Endpoints
