pub mod ChosenLists
pub mod Reversing
pub mod Two
pub mod FewShells
pub mod Suiting
pub mod OtherFlags
