mod TableMasks
mod Places
mod FilledMatrices
mod Completing
mod ToldSets
mod KeptSets
mod Targets
mod NamedBases
