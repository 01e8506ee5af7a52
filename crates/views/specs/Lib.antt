pub mod ViewOutputs
