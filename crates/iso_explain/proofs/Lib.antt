pub mod FewLemmas
pub mod MeantLemmas
pub mod RuleLemmas
pub mod SafeLemmas
pub mod ShortLemmas
pub mod SpotLemmas
