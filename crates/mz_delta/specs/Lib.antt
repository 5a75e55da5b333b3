pub mod Before
pub mod Judged
pub mod Move
pub mod Reading
pub mod Rooms
