pub mod RecordText
pub mod ValueLines
