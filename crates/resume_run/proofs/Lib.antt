mod Starts
mod Runs
