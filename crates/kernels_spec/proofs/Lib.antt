pub mod Formulas
pub mod Rows
pub mod Numbers
pub mod NearestWhole
pub mod Hold
pub mod Counting
pub mod SideLaws
pub mod TurnedValue
pub mod Card
pub mod Near
pub mod Close
mod Slope
