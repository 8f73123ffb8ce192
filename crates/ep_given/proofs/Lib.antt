pub mod Gathering
pub mod ListLemmas
pub mod MemberLemmas
pub mod FieldLemmas
pub mod FirstLemmas
