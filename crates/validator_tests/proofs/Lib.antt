pub mod PlainTests
