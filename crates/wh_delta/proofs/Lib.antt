mod Attributes
mod Joins
mod Orders
mod Replaced
mod Turns
