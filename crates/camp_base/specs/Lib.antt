pub mod Answers
pub mod Bytes
pub mod Inside
pub mod Limits
pub mod Made
pub mod Results
pub mod Signs
pub mod Trees
