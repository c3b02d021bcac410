pub mod Change
pub mod Dump
pub mod Fields
pub mod Reading
pub mod Words
