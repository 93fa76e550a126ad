pub mod Numbers
pub mod Chord
pub mod Tangent
pub mod Nodes
pub mod Chain
pub mod Cluster
