mod LaneWise
mod LaneWords
mod Messages
mod Rotations
