pub mod Flights
pub mod Joints
pub mod Hearing
pub mod Courses
