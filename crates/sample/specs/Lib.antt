-- What the contracts of `sample` cite.
pub mod Text
pub mod Word
pub mod Count
pub mod Op
pub mod Reading
pub mod Answers
