mod Examples
mod FrontLaws
mod Questions
mod RunLaws
mod Smallest
