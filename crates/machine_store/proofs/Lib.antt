pub mod ListLemmas
pub mod FrontLemmas
pub mod StandsLemmas
pub mod CatcherLemmas
pub mod DerefsLemmas
pub mod UndoLemmas
