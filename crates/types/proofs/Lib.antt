pub mod Typed
pub mod Sound
pub mod Held
pub mod Same
