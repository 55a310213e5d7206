pub mod Suspensions
