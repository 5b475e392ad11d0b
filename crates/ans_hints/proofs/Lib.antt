pub mod TextTests
mod TimesFound
mod LooseFound
pub mod HintsFound
mod PlainConditions
pub mod ModernNumbers
pub mod RunHints
mod LineEndBytes
mod FullRowsFound
mod FullRowsEnded
mod SurveyFound
mod SeenPieces
