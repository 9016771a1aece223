pub mod LayoutLemmas
pub mod ContentLemmas
pub mod ScanLemmas
pub mod DigitLemmas
