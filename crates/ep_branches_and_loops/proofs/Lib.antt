pub mod HeadedLemmas
