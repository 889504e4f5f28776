pub mod Numbers
pub mod Lists
pub mod Back
pub mod Events
pub mod EventsBack
pub mod SavedRows
