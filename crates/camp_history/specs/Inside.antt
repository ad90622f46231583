pub mod HeadFields
pub mod StoredCallFields
pub mod SeatFields
pub mod Steps
