pub mod FactsText
