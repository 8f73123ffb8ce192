-- Laws, as lemmas on definitions.
pub mod Shared
pub mod Narrowed
pub mod PairTops
pub mod PairWidening
pub mod PairOperators
pub mod PairStrides
pub mod PairLawful
