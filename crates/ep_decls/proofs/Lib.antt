pub mod AnswerLemmas
pub mod BeginLemmas
pub mod FunctionLemmas
pub mod ItemLemmas
pub mod ProgramLemmas
