pub mod Determined
pub mod Closure
pub mod Under
pub mod Blocks
pub mod Keys
pub mod Laws
