pub mod SomeAnswer
