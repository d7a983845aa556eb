pub mod DataLemmas
pub mod ReadLemmas
