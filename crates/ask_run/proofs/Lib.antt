mod Answered
mod Orders
mod Columns
mod Found
mod Overs
