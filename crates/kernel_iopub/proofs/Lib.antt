mod RoundLemmas
mod FedLemmas
mod ServedLemmas
mod SignLemmas
pub mod Crosses
