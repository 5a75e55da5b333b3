pub mod RoundLaws
pub mod DigitLemmas
pub mod PlaceLaws
pub mod ScaleLemmas
pub mod PieceLaws
