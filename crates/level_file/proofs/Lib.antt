mod Meeting
mod FormLines
mod GrownLevels
mod TextLevels
mod Faulty
mod KnownLevels
