mod KeptColumns
mod KeptLevel
mod KeptParents
mod Refused
mod Rising
