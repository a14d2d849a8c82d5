pub mod FatesLemmas
pub mod HistoryLemmas
