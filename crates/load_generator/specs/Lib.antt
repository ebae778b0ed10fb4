-- What is drawn, what it makes of a session, and how it is written.
pub mod Draws
pub mod Courses
pub mod Table
pub mod Lines
pub mod Texts
