pub mod StandsFor
pub mod StandsForRows
pub mod Behind
pub mod BehindRows
