pub mod SameKeys
pub mod Pushed
pub mod KeyPlaces
pub mod KeyedKeys
pub mod SlotSteps
pub mod ListTables
pub mod PlacedNumbers
