pub mod HoldingPlaces
pub mod HoldingNumbers
pub mod AccountLaws
pub mod Asked
